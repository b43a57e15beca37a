use Rattle.std.proofs.Common.{◌≡◌, ◌+◌, ◌-◌, length, take}
use Rattle.std.specs.Prelude.{slice_index}
use Rattle.std.proofs.lemmas.List.{take_all}
use Rattle.std.proofs.lemmas.List.FromFn.{fill_by_all}
use Rattle.px_base.specs.CountSteps.{delta_of}
use Rattle.count_world.proofs.census.Census.take_deltas.Goals as goal

pub returns-clause-counts : goal.returns-clause-counts
returns-clause-counts c =
    let all : take c.loop-update.update-index c.args.updates.now ≡ c.args.updates.now = take_all c.loop-update.update-index c.args.updates.now c.loop-update-test.false in
    fill_by_all (λ k. slice_index c.args.self.now.counts.items k - delta_of c.args.updates.now (c.args.part.now.low + k)) c.loop-update.self.counts.items (length c.args.self.now.counts.items) 0 c.loop-update.invariant.size
    (λ k below. rw all at (c.loop-update.invariant.counts k below))
