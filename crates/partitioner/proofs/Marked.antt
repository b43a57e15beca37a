-- Marks at the positions that rows read.
use Rattle.std.proofs.Common.{◌≡◌, ℕ, zero, suc, ap, replicate, ◌<◌, Bool, true, false, List, length, get_or, set, take, drop, arith, ◌-◌, length-drop, refl, sym, ◌∙◌, inl, inr, get_or-set_same, get_or-set_other}
use Rattle.std.specs.Prelude.{◌==◌, ◌||◌, ◌&&◌, not, filter, slice_range}
use Rattle.std.proofs.lemmas.List.{take_all}
use Rattle.std.specs.List.{list_any, range_with_len}
use Rattle.std.proofs.Math.Bool.{or-true, or-false}
use Rattle.std.proofs.lemmas.List.Elements.{filter_agree}
use Rattle.px_base.specs.Values.{positions_below}
use Rattle.std.proofs.lemmas.Bool.Decides.{eqb_tells}
use Rattle.px_base.specs.declared.graph.Read.{Read}
use Rattle.px_base.specs.Parts.{reads_from, is_within}

pub or_assoc : (a b c : Bool) → ((a || b) || c) ≡ (a || (b || c))
or_assoc true b c = refl
or_assoc false b c = refl

-- one mark more
pub marked_more : (marks : List Bool) (s u : ℕ) → s < length marks → get_or (set marks s true) u false ≡ (get_or marks u false || (s == u))
marked_more marks s u below = elim (eqb_tells s u) [
  | inl (t, same) ↦ rw (t, ← same) (get_or-set_same marks s true false below ∙ sym (or-true (get_or marks s false)))
  | inr (t, apart) ↦ rw t (get_or-set_other marks s u true false (λ e. apart (sym e)) ∙ sym (or-false (get_or marks u false)))
]

pub no_mark : (n u : ℕ) → get_or (replicate n false) u false ≡ false
no_mark zero u = refl
no_mark (suc n) zero = refl
no_mark (suc n) (suc u) = no_mark n u

-- what is marked outside the range, where each mark says that a row reads it
pub marked_mirrors : (marks : List Bool) (rows : List (List Read)) (low high n : ℕ) → ((u : ℕ) → get_or marks u false ≡ list_any (reads_from u) rows) →
    filter (λ u. not (is_within low high u) && get_or marks u false) (positions_below n) ≡ filter (λ u. not (is_within low high u) && list_any (reads_from u) rows) (positions_below n)
marked_mirrors marks rows low high n is =
    filter_agree (λ u. not (is_within low high u) && get_or marks u false) (λ u. not (is_within low high u) && list_any (reads_from u) rows) (λ u. ap (λ b. not (is_within low high u) && b) (is u)) (positions_below n)

-- the rows in front of a place, and those from a place on
front_range : {X : Type 0} (xs : List X) (low : ℕ) → slice_range xs 0 low ≡ take low xs
front_range xs low = let all : low - 0 ≡ low = omega arith in ap (λ k. take k xs) all

back_range : {X : Type 0} (xs : List X) (high : ℕ) → slice_range xs high (length xs) ≡ drop high xs
back_range xs high = take_all (length xs - high) (drop high xs) (omega (arith, length-drop high xs))

-- what is marked in the range, where each mark says that a row before or after it reads it
pub marked_boundary : (marks : List Bool) (rows : List (List Read)) (low high n : ℕ) →
    ((u : ℕ) → get_or marks u false ≡ (list_any (reads_from u) (slice_range rows 0 low) || list_any (reads_from u) (slice_range rows high (length rows)))) →
    filter (λ u. get_or marks u false) (range_with_len low n) ≡ filter (λ u. list_any (reads_from u) (take low rows) || list_any (reads_from u) (drop high rows)) (range_with_len low n)
marked_boundary marks rows low high n is =
    filter_agree (λ u. get_or marks u false) (λ u. list_any (reads_from u) (take low rows) || list_any (reads_from u) (drop high rows))
    (λ u. is u ∙ ap (λ xs. list_any (reads_from u) xs || list_any (reads_from u) (slice_range rows high (length rows))) (front_range rows low) ∙ ap (λ xs. list_any (reads_from u) (take low rows) || list_any (reads_from u) xs) (back_range rows high)) (range_with_len low n)
