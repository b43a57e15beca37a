use Rattle.std.proofs.Common.{◌≡◌, ◌∙◌, true, false, ap, sym, drop}
use Rattle.std.specs.Prelude.{◌||◌, slice_index_or}
use Rattle.px_base.specs.Parts.{PartFits}
use Rattle.px_base.specs.Worlds.{of_values, new_world}
use Rattle.placed_parts.specs.Places.{master_count}
use Rattle.worker_world.specs.Due.{is_due}
use Rattle.worker_world.proofs.Placing.{fresh_is_new, fresh_keeps, value_kind}
use Rattle.worker_world.proofs.value_world.ValueWorld.new.Goals as goal

pub invariant_of-result : goal.invariant_of-result
invariant_of-result c =
    let part = c.new-part.result in
    record {
      world = fresh_keeps part c.args.core c.in_ok-known.known.values.items (rw c.new-part.ensures c.requires.fits) (rw c.new-part.ensures c.requires.weights) (rw c.new-part.ensures c.requires.reads) c.in_ok-known.ensures.values;
      placed = c.in_ok-known.ensures.placed;
      level = ap (drop (master_count part)) c.in_ok-known.ensures.next;
      settled = record {
        level = λ off. (let on : c.in_ok-known.known.due.all ≡ true = c.in_ok-known.ensures.due in cc);
        each = λ k inside not. (let on : is_due c.in_ok-known.known.due k ≡ true = ap (λ b. b || slice_index_or c.in_ok-known.known.due.marked.items k false) c.in_ok-known.ensures.due in cc);
      };
      chunks = c.requires.chunks;
    }

pub returns : goal.returns
returns c =
    let part = c.new-part.result in
    let fits : PartFits part = rw c.new-part.ensures c.requires.fits in
    ap of_values (fresh_is_new part c.args.core c.in_ok-known.known.values.items fits c.in_ok-known.ensures.values) ∙ sym (value_kind part c.args.core c.requires.fold) ∙ ap (λ p. new_world p c.args.core) c.new-part.ensures
