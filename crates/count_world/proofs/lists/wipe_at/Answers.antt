use Rattle.std.proofs.Common.{◌≡◌, length, take}
use Rattle.std.specs.Prelude.{slice_index, if◌then◌else◌}
use Rattle.std.proofs.lemmas.List.{take_all}
use Rattle.std.proofs.lemmas.List.FromFn.{fill_by_all}
use Rattle.px_base.specs.Values.{is_listed}
use Rattle.count_world.proofs.lists.wipe_at.Goals as goal

pub returns : goal.returns
returns c =
    let all : take c.loop-k.k-index c.args.members.now ≡ c.args.members.now = take_all c.loop-k.k-index c.args.members.now c.loop-k-test.false in
    fill_by_all (λ j. if is_listed c.args.members.now j then 0 else slice_index c.args.items.now.items j) c.loop-k.items.items (length c.args.items.now.items) 0 c.loop-k.invariant.size
    (λ j below. rw all at (c.loop-k.invariant.wiped j below))
