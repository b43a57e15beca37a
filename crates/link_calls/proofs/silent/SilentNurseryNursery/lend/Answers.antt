use Rattle.std.proofs.lemmas.List.Elements.{All-nil}
use Rattle.hub_terms.specs.Systems.{AnswersValues}
use Rattle.link_calls.proofs.Lending.{lent_more}
use Rattle.link_calls.proofs.silent.SilentNurseryNursery.lend.Goals as goal

pub loop-worker-preserved : goal.loop-worker-preserved
loop-worker-preserved c = (
  lent_more c.loop-worker.worker c.loop-worker.all.items c.push.new.self.items _ c.in_ok-push.ensures.items c.loop-worker.invariant.0 c.new-in-loop-worker-2.ensures,
  rw (c.replace-own.ensures.after, c.new-in-loop-worker.ensures.items) (All-nil AnswersValues),
)
