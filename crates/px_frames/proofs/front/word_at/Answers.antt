use Rattle.std.proofs.Common.{◌≡◌, ℕ, ◌+◌, ◌-◌, add-zero, ap, List, length, drop, length-drop, ◌∙◌, arith}
use Rattle.std.specs.Prelude.{slice_index}
use Rattle.std.proofs.lemmas.List.{get_or-drop, take_all}
use Rattle.byteorder.specs.Endian.{big_number}
use Rattle.px_base.specs.FrameFits.{word_at}
use Rattle.px_frames.proofs.front.word_at.Goals as goal

-- the number in the first four bytes of what is left at a place
word_left : (bytes : List ℕ) (at : ℕ) → big_number 4 (drop at bytes) ≡ word_at bytes at
word_left bytes at =
    let first : slice_index (drop at bytes) 0 ≡ slice_index bytes at = get_or-drop at bytes 0 0 ∙ ap (slice_index bytes) (add-zero at) in
    let second : slice_index (drop at bytes) 1 ≡ slice_index bytes (at + 1) = get_or-drop at bytes 1 0 in
    let third : slice_index (drop at bytes) 2 ≡ slice_index bytes (at + 2) = get_or-drop at bytes 2 0 in
    let fourth : slice_index (drop at bytes) 3 ≡ slice_index bytes (at + 3) = get_or-drop at bytes 3 0 in
    rw (first, second, third, fourth) (omega arith)

pub returns : goal.returns
returns c =
    c.read_u32.ensures ∙ rw (take_all (length c.args.bytes.now - c.args.at) (drop c.args.at c.args.bytes.now) (omega (arith, length-drop c.args.at c.args.bytes.now)))
    (word_left c.args.bytes.now c.args.at)
