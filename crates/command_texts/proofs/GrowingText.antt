-- Text that grows line by line.
use Rattle.std.proofs.Common.{◌≡◌, ℕ, zero, suc, add-zero, append-nil, ◌+◌, ◌-◌, ◌<◌, ◌≤◌, List, [], ◌∷◌, ◌++◌, length, take, drop, refl, sym, ap, ◌∙◌, append_assoc, zero-add, arith}
use Rattle.std.specs.Prelude.{flat_map}
use Rattle.std.specs.List.{range_with_len}
use Rattle.std.proofs.lemmas.Grind.{flat_map-append}
use Rattle.std.proofs.lemmas.List.{take_all, take-append-le, take-append-drop}
use Rattle.px_base.specs.Values.{positions_below}
use Rattle.px_base.specs.Text.{GrowsByPrefix}

-- The text grew by a, with which the piece begins.
pub begins : (old new a b piece : List ℕ) → new ≡ old ++ a → piece ≡ a ++ b → GrowsByPrefix old new piece
begins old new a b piece grown is = record {
  count = length a;
  grown = rw (is, take-append-le (length a) a b (omega arith), take_all (length a) a (omega arith)) grown;
}

-- The text grew by a, and then by the first bytes of b.
pub begins_more : (old mid new a b c piece : List ℕ) → mid ≡ old ++ a → GrowsByPrefix mid new b → piece ≡ a ++ (b ++ c) → GrowsByPrefix old new piece
begins_more old mid new a b c piece grown more is =
    begins old new (a ++ take more.count b) (drop more.count b ++ c) piece
    (more.grown ∙ ap (λ l. l ++ take more.count b) grown ∙ append_assoc old a (take more.count b))
    (is ∙ ap (λ l. a ++ (l ++ c)) (sym (take-append-drop more.count b)) ∙ (simp append_assoc))

range_split : (a k m : ℕ) → range_with_len a (k + m) ≡ range_with_len a k ++ range_with_len (a + k) m
range_split a zero m = rw (zero-add m, add-zero a) refl
range_split a (suc k) m =
    let one : suc k + m ≡ suc (k + m) = omega arith in
    let place : (a + 1) + k ≡ a + suc k = omega arith in
    rw (one, range_split (a + 1) k m, place) refl

-- the lines of all positions are those of the first, and the rest
lines_from : (line : ℕ → List ℕ) (at n : ℕ) → at ≤ n → flat_map line (positions_below n) ≡ flat_map line (positions_below at) ++ flat_map line (range_with_len at (n - at))
lines_from line at n below =
    let sum : n ≡ at + (n - at) = omega arith in
    let none : 0 + at ≡ at = zero-add at in
    let cut : range_with_len 0 n ≡ range_with_len 0 at ++ range_with_len at (n - at) = ap (range_with_len 0) sum ∙ range_split 0 at (n - at) ∙ ap (λ p. range_with_len 0 at ++ range_with_len p (n - at)) none in
    ap (flat_map line) cut ∙ flat_map-append line (range_with_len 0 at) (range_with_len at (n - at))

pub lines_split : (line : ℕ → List ℕ) (at n : ℕ) → at < n →
    flat_map line (positions_below n) ≡ flat_map line (positions_below at) ++ (line at ++ flat_map line (range_with_len (at + 1) (n - (at + 1))))
lines_split line at n below =
    let count : n - at ≡ suc (n - (at + 1)) = omega arith in
    lines_from line at n (omega arith) ∙ ap (λ k. flat_map line (positions_below at) ++ flat_map line (range_with_len at k)) count

pub lines_more : (line : ℕ → List ℕ) (at : ℕ) → flat_map line (positions_below (at + 1)) ≡ flat_map line (positions_below at) ++ line at
lines_more line at =
    let more : range_with_len 0 (at + 1) ≡ range_with_len 0 at ++ at ∷ [] = range_split 0 at 1 ∙ (rw (zero-add at) refl) in
    ap (flat_map line) more ∙ flat_map-append line (range_with_len 0 at) (at ∷ []) ∙ (simp append-nil)
