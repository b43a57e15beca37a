use Rattle.std.proofs.Common.{refl, ◌≡◌, ◌+◌, ◌∙◌, ap, sym, subst, List, ℕ, length, get_or}
use Rattle.std.specs.Prelude.{◌&&◌, nat_lt}
use Rattle.std.specs.Vec.{with_items}
use Rattle.std.proofs.lemmas.List.{with_items_is}
use Rattle.px_base.specs.Values.{by_position}
use Rattle.px_base.specs.Parts.{is_mirror, mirrors_of}
use Rattle.partitioner.specs.Bits.{has_bit}
use Rattle.partitioner.proofs.Mirrors.{mirrors_in_words, one_list_more, bits_more}
use Rattle.partitioner.proofs.words.all_mirrors.Goals as goal

pub set_bit-requires-clause-inside : goal.set_bit-requires-clause-inside
set_bit-requires-clause-inside c =
    mirrors_in_words (length c.args.rows.now) c.args.rows.now c.args.cuts.now.ends c.deref.result.now c.deref_mut.result.now c.loop-j.j refl (ap length c.deref_mut.ensures.value ∙ c.loop-j.invariant.size)
    (c.deref.ensures.value ∙ c.in_ok-found.ensures)

pub loop-j-preserved : goal.loop-j-preserved
loop-j-preserved c =
    let words : (with_items c.loop-j.words c.set_bit.new.words).items ≡ c.set_bit.new.words = with_items_is c.loop-j.words c.set_bit.new.words (c.set_bit.auto.words ∙ c.deref_mut.ensures.len) in
    let before : c.deref_mut.result.now ≡ c.loop-j.words.items = c.deref_mut.ensures.value in
    let P : List ℕ → Type 0 = λ ws. record {
      lists : c.push.new.self.items ≡ by_position (c.loop-j.j + 1) (mirrors_of c.args.rows.now c.args.cuts.now.ends);
      size : length ws ≡ length c.args.rows.now;
      bits : (u k : ℕ) → has_bit (get_or ws u 0) k ≡ (nat_lt k (c.loop-j.j + 1) && is_mirror c.args.rows.now c.args.cuts.now.ends k u);
    } in
    let now : P c.set_bit.new.words = record {
      lists = one_list_more c.args.rows.now c.args.cuts.now.ends c.loop-j.j c.loop-j.lists.items c.push.new.self.items c.from_vec.result c.in_ok-found.found.items c.loop-j.invariant.lists c.from_vec.ensures c.in_ok-found.ensures c.in_ok-push.ensures.items;
      size = c.set_bit.auto.words ∙ ap length before ∙ c.loop-j.invariant.size;
      bits = λ u k. bits_more (length c.args.rows.now) c.args.rows.now c.args.cuts.now.ends c.loop-j.j u k c.deref.result.now (has_bit (get_or c.deref_mut.result.now u 0) k) (has_bit (get_or c.set_bit.new.words u 0) k)
          refl c.requires.sources (c.deref.ensures.value ∙ c.in_ok-found.ensures) (ap (λ ws. has_bit (get_or ws u 0) k) before ∙ c.loop-j.invariant.bits u k) (c.set_bit.ensures u k);
    } in
    subst P (sym words) now
