-- Frames that are answered nothing.
use Rattle.std.proofs.Common.{◌≡◌, ℕ, List, [], ◌∷◌, ◌++◌, sym, subst, ◌∙◌}
use Rattle.std.specs.Prelude.{IfOk, Result, Ok, Err}
use Rattle.std.proofs.lemmas.List.{append-nil}
use Rattle.px_base.specs.declared.wire.Answer.{Answer}
use Rattle.px_base.specs.declared.frame.Frame.{Frame}
use Rattle.worker_serve.specs.declared.stage.Stage.{Stage}
use Rattle.worker_serve.specs.declared.stage.TakeFault.{TakeFault}
use Rattle.worker_serve.specs.Stages.{IsStageAfter, IsStageNext}

pub quiet_next : (frames : List Frame) (answers : List Answer) (this : Frame) (bytes : List ℕ) (r : Result Stage TakeFault) → answers ≡ [] → IfOk r (λ next. IsStageAfter (frames ++ this ∷ []) [] next) →
    IfOk r (λ next. IsStageNext frames answers this bytes bytes next)
quiet_next frames answers this bytes (Ok next) none is = record {
  more = [];
  added = sym (append-nil bytes);
  stage = subst (λ all. IsStageAfter (frames ++ this ∷ []) all next) (sym (append-nil answers ∙ none)) is;
}
quiet_next frames answers this bytes (Err why) none is = tt
