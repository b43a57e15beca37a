use Rattle.std.proofs.Common.{◌<◌, ◌≢◌, ◌∙◌, length, length-set, get_or, arith, sym, ap, inl, inr, get_or-set_same, get_or-set_other}
use Rattle.std.proofs.lemmas.Bool.Decides.{eqb_tells}
use Rattle.std.proofs.lemmas.List.{drop_all}
use Rattle.px_base.specs.Values.{is_listed}
use Rattle.placed_parts.specs.Places.{master_count}
use Rattle.worker_world.proofs.Halved.{both_same}
use Rattle.worker_world.proofs.Told.{told_more, listed_after, stays_on}
use Rattle.worker_world.proofs.telling.settle_listed.Goals as goal

pub loop-place-preserved : goal.loop-place-preserved
loop-place-preserved c =
    let masters = c.args.masters.now in
    let i = c.loop-place.place-index in
    let p = get_or masters i 0 in
    let value = get_or c.args.next.now p 0 in
    let values = c.loop-place.values.items in
    let master : p < master_count c.args.part.now = c.requires.masters i 0 c.loop-place-test.true in
    let inside : p < length values = omega (arith, master, c.loop-place.invariant.size, c.requires.values) in
    record {
      size = ap length c.settle.ensures.values ∙ length-set values p value ∙ c.loop-place.invariant.size;
      done = λ k below none. elim (eqb_tells k p) [
        | inl (t, same) ↦ ap (λ list. get_or list k 0) c.settle.ensures.values ∙ rw same (get_or-set_same values p value 0 inside)
        | inr (t, apart) ↦ ap (λ list. get_or list k 0) c.settle.ensures.values ∙ get_or-set_other values p k value 0 apart ∙ c.loop-place.invariant.done k below (listed_after masters i k c.loop-place-test.true none (λ e. apart (sym e)))
      ];
      rest = λ k above. let apart : k ≢ p = (λ e. absurd (omega (arith, above, master, e))) in
          ap (λ list. get_or list k 0) c.settle.ensures.values ∙ get_or-set_other values p k value 0 apart ∙ c.loop-place.invariant.rest k above;
      told = rw c.settle.ensures.values (told_more (master_count c.args.part.now) c.args.readers.now c.loop-place.due c.settle.new.due c.args.values.now.items values p value inside c.loop-place.invariant.told c.settle.ensures.stays c.settle.ensures.told);
      stays = stays_on c.args.due.now c.loop-place.due c.settle.new.due c.loop-place.invariant.stays c.settle.ensures.stays;
    }

pub returns-clause-settled : goal.returns-clause-settled
returns-clause-settled c =
    both_same (master_count c.args.part.now) c.loop-place.values.items c.args.next.now c.args.values.now.items (c.loop-place.invariant.size ∙ c.requires.values ∙ sym c.requires.next) c.loop-place.invariant.size
    (λ k below. c.loop-place.invariant.done k below (ap (λ list. is_listed list k) (drop_all c.loop-place.place-index c.args.masters.now c.loop-place-test.false)))
    c.loop-place.invariant.rest
