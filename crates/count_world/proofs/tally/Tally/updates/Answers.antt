use Rattle.std.proofs.Common.{◌≡◌, ◌∙◌, length, map, ap, subst, arith}
use Rattle.std.specs.Prelude.{IfOk}
use Rattle.list_laws.specs.Sets.{IsListOf}
use Rattle.count_world.specs.Tally.{is_told}
use Rattle.count_world.specs.Told.{told_updates}
use Rattle.list_laws.proofs.Sums.{listed_inside}
use Rattle.list_laws.proofs.Ordered.{reordered, in_order}
use Rattle.count_world.proofs.Tallied.{told_by_place, update_at}
use Rattle.count_world.proofs.tally.Tally.updates.Goals as goal

pub told_updates-requires-clause-mirrors : goal.told_updates-requires-clause-mirrors
told_updates-requires-clause-mirrors c =
    let times = c.args.self.now.times.items in
    let inside = listed_inside (length times) (is_told times) c.sort_unstable.new.self.items (reordered (length times) (is_told times) c.args.self.now.touched.items c.sort_unstable.new.self.items c.sort_unstable.ensures.permutation c.requires.tally.lists) in
    rw c.as_slice-2.ensures.value (λ k d below. omega (arith, inside k d below, c.requires.size))

pub told_updates-requires-clause-times : goal.told_updates-requires-clause-times
told_updates-requires-clause-times c =
    let times = c.args.self.now.times.items in
    let inside = listed_inside (length times) (is_told times) c.sort_unstable.new.self.items (reordered (length times) (is_told times) c.args.self.now.touched.items c.sort_unstable.new.self.items c.sort_unstable.ensures.permutation c.requires.tally.lists) in
    rw (c.as_slice-2.ensures.value, c.as_slice.ensures.value) inside

pub returns-clause-updates : goal.returns-clause-updates
returns-clause-updates c =
    let times = c.args.self.now.times.items in
    let sorted = c.sort_unstable.new.self.items in
    let lists : IsListOf (length times) (is_told times) sorted = reordered (length times) (is_told times) c.args.self.now.touched.items sorted c.sort_unstable.ensures.permutation c.requires.tally.lists in
    let is : map (update_at c.args.mirrors.now times) sorted ≡ told_updates c.args.mirrors.now times =
    ap (λ ks. map (update_at c.args.mirrors.now times) ks) (in_order (length times) (is_told times) sorted lists c.sort_unstable.ensures.sorted) ∙ told_by_place c.args.mirrors.now times c.requires.size in
    subst (λ us. IfOk c.told_updates.result (λ updates. updates.items ≡ us)) is (rw (c.as_slice-2.ensures.value, c.as_slice.ensures.value) at c.told_updates.ensures)

pub returns-clause-tally : goal.returns-clause-tally
returns-clause-tally c =
    let times = c.args.self.now.times.items in
    record {
      few = c.requires.tally.few;
      room = omega (arith, c.requires.tally.room, c.sort_unstable.ensures.capacity);
      lists = reordered (length times) (is_told times) c.args.self.now.touched.items c.sort_unstable.new.self.items c.sort_unstable.ensures.permutation c.requires.tally.lists;
    }
