use Rattle.std.proofs.Common.{◌≡◌, ◌-◌, length, take}
use Rattle.std.specs.Prelude.{slice_index, sum_by}
use Rattle.std.proofs.lemmas.List.{take_all}
use Rattle.std.proofs.lemmas.List.FromFn.{fill_by_all}
use Rattle.count_world.specs.Readers.{times_listed}
use Rattle.count_world.proofs.readers.take_off.Goals as goal

pub returns-clause-counts : goal.returns-clause-counts
returns-clause-counts c =
    let all : take c.loop-k.k-index c.args.members.now ≡ c.args.members.now = take_all c.loop-k.k-index c.args.members.now c.loop-k-test.false in
    fill_by_all (λ j. slice_index c.args.census.now.counts.items j - sum_by (λ k. times_listed c.args.readers.now k j) c.args.members.now) c.loop-k.census.counts.items (length c.args.census.now.counts.items) 0 c.loop-k.invariant.size
    (λ j below. rw all at (c.loop-k.invariant.counts j below))
