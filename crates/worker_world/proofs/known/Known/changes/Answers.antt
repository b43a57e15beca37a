use Rattle.std.proofs.Common.{◌≡◌, ◌∙◌, length, length-take, get_or, take, sym, ap, arith, eq-eqb}
use Rattle.std.specs.Prelude.{not}
use Rattle.std.specs.List.{list_any}
use Rattle.std.proofs.lemmas.List.{get_or-take}
use Rattle.px_base.specs.Values.{positions_below}
use Rattle.px_base.specs.ValueSteps.{has_changed}
use Rattle.placed_parts.specs.Places.{master_count}
use Rattle.worker_world.proofs.Changing.{changed_listed}
use Rattle.worker_world.proofs.known.Known.changes.Goals as goal

pub returns-else-self : goal.returns-else-self
returns-else-self c =
    let m = master_count c.args.part.now in
    let before = take m c.args.self.now.values.items in
    let after = take m c.args.self.now.next.items in
    let masters = c.args.self.now.due.waiting.items in
    let is : c.some_listed_changed.result ≡ list_any (has_changed before after) masters = rw (c.deref.ensures.value, c.deref-2.ensures.value, c.master_count-count.ensures, c.as_slice.ensures.value) at c.some_listed_changed.ensures in
    let size : length after ≡ m = omega (arith, length-take m c.args.self.now.next.items, c.requires.next) in
    is
    ∙ changed_listed (has_changed before after) masters m (λ i d inside. omega (arith, c.args.self.now.due.listed.inside i d inside, c.requires.marks))
    (λ k below none. ap not (eq-eqb (get_or before k 0) (get_or after k 0) (get_or-take m c.args.self.now.values.items k 0 below ∙ sym (c.requires.listed c.if-self.false k below none) ∙ sym (get_or-take m c.args.self.now.next.items k 0 below))))
    ∙ ap (λ n. list_any (has_changed before after) (positions_below n)) (sym size)
