use Rattle.std.proofs.Common.{◌≡◌, ap, sym, subst, arith, refl}
use Rattle.std.specs.Prelude.{flat_map}
use Rattle.memory_nursery.specs.Keeping.{KeepsNursery}
use Rattle.memory_nursery.specs.States.{bare_nursery, plan_now}
use Rattle.memory_nursery.proofs.Opening.{new_is, new_keeps}
use Rattle.memory_nursery.proofs.mem_nursery.MemNursery.new.Goals as goal

pub invariant_of-result : goal.invariant_of-result
invariant_of-result c =
    let plan : c.note_scripts.new.plan ≡ plan_now bare_nursery c.args.losses.items c.args.refusals.items = rw (c.note_scripts.ensures, c.of-plan.ensures, c.as_slice.ensures.value, c.as_slice-2.ensures.value) refl in
    record {
      keeps = subst KeepsNursery (sym (new_is _ c.args.losses.items c.args.refusals.items _ _ _ _ c.no_counts.ensures (ap (flat_map (λ list. list.items)) c.new.ensures.items) (omega (arith, c.new.ensures.len, c.new.ensures.capacity)) c.of.ensures plan))
          (new_keeps c.args.losses.items c.args.refusals.items);
      losses = rw plan refl;
      refusals = rw plan refl;
    }

pub returns : goal.returns
returns c =
    let plan : c.note_scripts.new.plan ≡ plan_now bare_nursery c.args.losses.items c.args.refusals.items = rw (c.note_scripts.ensures, c.of-plan.ensures, c.as_slice.ensures.value, c.as_slice-2.ensures.value) refl in
    new_is _ c.args.losses.items c.args.refusals.items _ _ _ _ c.no_counts.ensures (ap (flat_map (λ list. list.items)) c.new.ensures.items) (omega (arith, c.new.ensures.len, c.new.ensures.capacity)) c.of.ensures plan
