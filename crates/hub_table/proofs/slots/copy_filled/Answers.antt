use Rattle.std.proofs.Common.{◌≡◌, ◌+◌, ◌++◌, ◌∙◌, [], suc, take, length, vec_len, rules, ap, sym, arith, length-append, append_assoc, add-one}
use Rattle.px_base.specs.declared.wire.Update.{Update}
use Rattle.std.proofs.Common.{List, ℕ}
use Rattle.std.specs.Prelude.{Option, slice_index_or}
use Rattle.hub_table.specs.Slots.{mail_of, mail_before, no_value}
use Rattle.hub_table.proofs.Mails.{mail_next, mail_room}
use Rattle.hub_table.proofs.slots.copy_filled.Goals as goal

pub push_filled-requires : goal.push_filled-requires
push_filled-requires c filled =
    let so_far : vec_len c.loop-at.out ≡ length c.loop-at.out.items = search rules in
    let begun : vec_len c.args.out.now ≡ length c.args.out.now.items = search rules in
    omega (
      arith,
      so_far,
      begun,
      ap length c.loop-at.invariant.0,
      length-append c.args.out.now.items (mail_of (take c.loop-at.at c.args.places.now) (take c.loop-at.at c.args.slots.now)),
      mail_room c.args.places.now c.args.slots.now c.loop-at.at c.requires.size c.loop-at-test.true filled,
      c.loop-at.invariant.1,
      c.requires.room,
    )

pub loop-at-preserved : goal.loop-at-preserved
loop-at-preserved c =
    let k : ℕ = c.loop-at.at in
    let slot : Option ℕ = slice_index_or c.args.slots.now k no_value in
    let next : mail_of (take (k + 1) c.args.places.now) (take (k + 1) c.args.slots.now) ≡ mail_of (take (suc k) c.args.places.now) (take (suc k) c.args.slots.now) =
    ap (λ (n : ℕ). mail_of (take n c.args.places.now) (take n c.args.slots.now)) (add-one k) in (
      c.push_filled.ensures.items ∙ ap (λ (us : List Update). us ++ mail_before c.vertex.result slot []) c.loop-at.invariant.0
          ∙ append_assoc c.args.out.now.items (mail_of (take k c.args.places.now) (take k c.args.slots.now)) (mail_before c.vertex.result slot [])
          ∙ ap (λ (us : List Update). c.args.out.now.items ++ us)
          (ap (λ (v : ℕ). mail_of (take k c.args.places.now) (take k c.args.slots.now) ++ mail_before v slot []) c.vertex.ensures
          ∙ sym (next ∙ mail_next c.args.places.now c.args.slots.now k c.requires.size c.loop-at-test.true)),
      c.push_filled.ensures.room ∙ c.loop-at.invariant.1,
    )
