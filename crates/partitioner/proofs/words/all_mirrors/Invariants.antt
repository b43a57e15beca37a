use Rattle.std.proofs.Common.{◌≡◌, ℕ, length, get_or}
use Rattle.std.specs.Prelude.{◌&&◌, nat_lt}
use Rattle.px_base.specs.Values.{by_position}
use Rattle.px_base.specs.Parts.{is_mirror, mirrors_of}
use Rattle.partitioner.specs.Bits.{has_bit}
use Rattle.partitioner.proofs.words.all_mirrors.Given as goal

-- the mirrors of the parts so far, and their bits
abbrev pub invariant-loop-j : goal.invariant-loop-j
invariant-loop-j l = record {
  lists : l.lists.items ≡ by_position l.j (mirrors_of l.rows l.cuts.ends);
  size : length l.words.items ≡ length l.rows;
  bits : (u k : ℕ) → has_bit (get_or l.words.items u 0) k ≡ (nat_lt k l.j && is_mirror l.rows l.cuts.ends k u);
}
