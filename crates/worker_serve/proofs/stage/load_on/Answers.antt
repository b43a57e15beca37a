use Rattle.std.proofs.Common.{◌≡◌, ◌++◌, ◌∷◌, [], sym, subst, ◌∙◌}
use Rattle.std.specs.Prelude.{IfOk}
use Rattle.px_base.specs.declared.frame.Frame.TheVariants as frame
use Rattle.worker_serve.specs.Sessions.{Refuses}
use Rattle.worker_serve.specs.Stages.{IsStageAfter}
use Rattle.worker_serve.proofs.Staging.{ready_is}
use Rattle.worker_serve.proofs.stage.load_on.Goals as goal

pub returns-then-is_ready-clause-ok : goal.returns-then-is_ready-clause-ok
returns-then-is_ready-clause-ok c = λ frames loading.
    (let same : c.args.frame ≡ frame.Ready = ready_is c.args.frame (sym c.is_ready.ensures ∙ c.if-is_ready.true) in
    subst (λ f. IfOk c.make_world.result (λ next. IsStageAfter (frames ++ f ∷ []) [] next)) (sym same) (c.make_world.ensures.ok frames loading))

pub returns-then-is_ready-clause-refused : goal.returns-then-is_ready-clause-refused
returns-then-is_ready-clause-refused c = λ frames loading why.
    (let same : c.args.frame ≡ frame.Ready = ready_is c.args.frame (sym c.is_ready.ensures ∙ c.if-is_ready.true) in
    subst (λ f. Refuses (frames ++ f ∷ [])) (sym same) (c.make_world.ensures.refused frames loading why))
