use Rattle.std.proofs.Common.{◌∙◌, length, ap}
use Rattle.count_world.specs.Sets.{without}
use Rattle.count_world.specs.Tally.{is_told}
use Rattle.list_laws.proofs.Sums.{listed_inside}
use Rattle.count_world.proofs.Lowered.{without_size}
use Rattle.count_world.proofs.Tallied.{wiped_clear}
use Rattle.count_world.proofs.tally.Tally.wipe.Goals as goal

pub wipe_at-requires : goal.wipe_at-requires
wipe_at-requires c = rw c.as_slice.ensures.value (listed_inside (length c.args.self.now.times.items) (is_told c.args.self.now.times.items) c.args.self.now.touched.items c.requires.lists)

pub returns-clause-clear : goal.returns-clause-clear
returns-clause-clear c =
    wiped_clear c.args.self.now (record { times = c.wipe_at.new.items; touched = c.clear.new.self }) c.requires
    (c.wipe_at.ensures ∙ ap (λ members. without members c.args.self.now.times.items) c.as_slice.ensures.value) c.clear.ensures.items c.clear.ensures.capacity

pub returns-clause-size : goal.returns-clause-size
returns-clause-size c = ap length c.wipe_at.ensures ∙ without_size c.as_slice.result.now c.args.self.now.times.items
