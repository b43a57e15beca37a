use Rattle.std.proofs.Common.{◌≡◌, ◌∷◌, ◌++◌, ◌∙◌, [], Err, ap, sym, subst}
use Rattle.std.specs.Prelude.{IfOk}
use Rattle.worker_serve.specs.Sessions.{AreLoading, Refuses}
use Rattle.worker_serve.specs.Stages.{IsStageAfter}
use Rattle.worker_serve.proofs.Quiet.{quiet_next}
use Rattle.worker_serve.proofs.stage.next_stage.Goals as goal

pub returns-in-Waiting-clause-ok : goal.returns-in-Waiting-clause-ok
returns-in-Waiting-clause-ok o c = λ frames answers it.
    (let was : (frames ≡ []) × (answers ≡ []) = subst (λ s. IsStageAfter frames answers s) c.in-Waiting.is it in
    quiet_next frames answers c.args.frame c.args.out.now.items c.begin.result was.1
    (subst (λ fs. IfOk c.begin.result (λ next. IsStageAfter (fs ++ c.args.frame ∷ []) [] next)) (sym was.0) c.begin.ensures.ok))

pub returns-in-Waiting-clause-refused : goal.returns-in-Waiting-clause-refused
returns-in-Waiting-clause-refused o c = λ frames answers it why.
    (let was : (frames ≡ []) × (answers ≡ []) = subst (λ s. IsStageAfter frames answers s) c.in-Waiting.is it in
    subst (λ fs. Refuses (fs ++ c.args.frame ∷ [])) (sym was.0) (search (c.begin.ensures.refused, why)))

pub returns-in-Loading-clause-ok : goal.returns-in-Loading-clause-ok
returns-in-Loading-clause-ok o c = λ frames answers it.
    (let was : AreLoading c.in-Loading.load frames × (answers ≡ []) = subst (λ s. IsStageAfter frames answers s) c.in-Loading.is it in
    quiet_next frames answers c.args.frame c.args.out.now.items c.load_on.result was.1 (c.load_on.ensures.ok frames was.0))

pub returns-in-Loading-clause-refused : goal.returns-in-Loading-clause-refused
returns-in-Loading-clause-refused o c = λ frames answers it why.
    (let was : AreLoading c.in-Loading.load frames × (answers ≡ []) = subst (λ s. IsStageAfter frames answers s) c.in-Loading.is it in
    c.load_on.ensures.refused frames was.0 why)

pub returns-in_err-obey-in-Serving-clause-refused : goal.returns-in_err-obey-in-Serving-clause-refused
returns-in_err-obey-in-Serving-clause-refused o c = λ frames answers it why.
    (let same = rw why at c.from_residual.ensures.1 in
    c.obey.ensures.refused frames answers (subst (λ s. IsStageAfter frames answers s) c.in-Serving.is it) (c.in_err-obey-in-Serving.was ∙ ap Err (sym same)))
