-- The greatest consistent list in core values: that it is there, that it is one, that it is a fixed point, and that renewals
-- reach it.
use Rattle.std.proofs.Common.{◌≡◌, ℕ, zero, suc, ◌<◌, ◌≤◌, Bool, true, false, List, [], ◌∷◌, length, refl, sym, ap, ◌∙◌, arith, inl, inr}
use Rattle.std.specs.Prelude.{if◌then◌else◌, slice_index, sum, ◌⊎◌}
use Rattle.std.proofs.lemmas.Grind.{same_number_lists}
use Rattle.std.proofs.lemmas.Bool.{cases_lt}
use Rattle.std.proofs.lemmas.List.Sums.{sum_by-cons}
use Rattle.px_base.specs.declared.graph.Read.{Read}
use Rattle.px_base.specs.declared.program.CoreProgram.{CoreProgram}
use Rattle.px_base.specs.Values.{IsValue, IsValueList, by_position}
use Rattle.px_base.specs.Classes.{is_mex}
use Rattle.px_base.proofs.Positions.{length_by_position, at_position}
use Rattle.consistent_solver.specs.CoreLists.{IsBelow, IsCoreConsistent, IsGreatestCoreConsistent, gathered_at, renewed, renewed_at, renewed_times, renewed_where}
use Rattle.consistent_solver.proofs.Below.{value_anywhere, below_anywhere, gathered_grows, gathered_below_start, below_starts, below_renewed}

-- ---- one list

pub only_greatest : (core : CoreProgram) (rows : List (List Read)) (starts x y : List ℕ) → IsGreatestCoreConsistent core rows starts x → IsGreatestCoreConsistent core rows starts y → x ≡ y
only_greatest core rows starts x y h k = same_number_lists x y (h.consistent.values.one_each ∙ sym k.consistent.values.one_each)
    (λ v below. let inside : v < length rows = rw h.consistent.values.one_each at below in
    omega (arith, k.greatest x h.consistent v inside, h.greatest y k.consistent v inside))

-- ---- a renewed list

-- a list by position of values
values_by_position : (n : ℕ) (f : ℕ → ℕ) → ((v : ℕ) → v < n → IsValue (f v)) → IsValueList n (by_position n f)
values_by_position n f each = record {
  one_each = length_by_position n f;
  in_range = λ v d below.
      let inside : v < n = rw (length_by_position n f) at below in
      rw (at_position n f v d inside) (each v inside);
}

-- a renewal of some vertices keeps values
pub renewed_where_values : (chosen : ℕ → Bool) (core : CoreProgram) (rows : List (List Read)) (starts x : List ℕ) → IsValueList (length rows) x →
    IsValueList (length rows) (renewed_where chosen core rows starts x)
renewed_where_values chosen core rows starts x values =
    values_by_position (length rows) (λ v. if chosen v then renewed_at core rows starts x v else slice_index x v) (λ v inside. by_choice v (chosen v))
  where
    by_choice : (v : ℕ) (b : Bool) → IsValue (if b then renewed_at core rows starts x v else slice_index x v)
    by_choice v true = omega (arith, value_anywhere (length rows) x v values)
    by_choice v false = value_anywhere (length rows) x v values

-- and raises none
pub renewed_where_lower : (chosen : ℕ → Bool) (core : CoreProgram) (rows : List (List Read)) (starts x : List ℕ) → IsBelow (length rows) (renewed_where chosen core rows starts x) x
renewed_where_lower chosen core rows starts x v inside =
    rw (at_position (length rows) (λ u. if chosen u then renewed_at core rows starts x u else slice_index x u) v 0 inside) (by_choice (chosen v))
  where
    by_choice : (b : Bool) → (if b then renewed_at core rows starts x v else slice_index x v) ≤ slice_index x v
    by_choice true = omega arith
    by_choice false = omega arith

pub renewed_values : (core : CoreProgram) (rows : List (List Read)) (starts x : List ℕ) → IsValueList (length rows) x → IsValueList (length rows) (renewed core rows starts x)
renewed_values = renewed_where_values (λ v. true)

pub renewed_lower : (core : CoreProgram) (rows : List (List Read)) (starts x : List ℕ) → IsBelow (length rows) (renewed core rows starts x) x
renewed_lower = renewed_where_lower (λ v. true)

-- a list that a renewal leaves as it is is consistent
pub still_consistent : (core : CoreProgram) (rows : List (List Read)) (starts x : List ℕ) → IsValueList (length rows) x → renewed core rows starts x ≡ x → IsCoreConsistent core rows starts x
still_consistent core rows starts x values still = record {
  values = values;
  each = λ v inside.
      let at : renewed_at core rows starts x v ≡ slice_index x v = sym (at_position (length rows) (renewed_at core rows starts x) v 0 inside) ∙ ap (λ l. slice_index l v) still in
      omega (arith, at);
}

-- so the list that stays as it is, and that no consistent list rises above, is the greatest one
pub still_greatest : (core : CoreProgram) (rows : List (List Read)) (starts x : List ℕ) → IsValueList (length rows) x →
    ((y : List ℕ) → IsCoreConsistent core rows starts y → IsBelow (length rows) y x) → renewed core rows starts x ≡ x → IsGreatestCoreConsistent core rows starts x
still_greatest core rows starts x values above still = record { consistent = still_consistent core rows starts x values still; greatest = above }

-- ---- a fixed point

-- What the greatest consistent list gathers is consistent itself, so it is at most the list.
pub greatest_fixed : (core : CoreProgram) (rows : List (List Read)) (starts x : List ℕ) → is_mex core.program.fold ≡ false → IsValueList (length rows) starts →
    IsGreatestCoreConsistent core rows starts x → (v : ℕ) → v < length rows → slice_index x v ≡ gathered_at core rows starts x v
greatest_fixed core rows starts x plain valued g v inside = omega (arith, g.consistent.each v inside, low)
  where
    values : IsValueList (length rows) (by_position (length rows) (gathered_at core rows starts x))
    values = values_by_position (length rows) (gathered_at core rows starts x)
        (λ u within. omega (arith, gathered_below_start core rows starts x u plain, value_anywhere (length rows) starts u valued))

    above : IsBelow (length rows) x (by_position (length rows) (gathered_at core rows starts x))
    above u within = rw (at_position (length rows) (gathered_at core rows starts x) u 0 within) (g.consistent.each u within)

    consistent : IsCoreConsistent core rows starts (by_position (length rows) (gathered_at core rows starts x))
    consistent = record {
      values = values;
      each = λ u within. rw (at_position (length rows) (gathered_at core rows starts x) u 0 within)
          (gathered_grows core rows starts x (by_position (length rows) (gathered_at core rows starts x)) u plain g.consistent.values.one_each values above);
    }

    low : gathered_at core rows starts x v ≤ slice_index x v
    low = rw (at_position (length rows) (gathered_at core rows starts x) v 0 inside) at (g.greatest (by_position (length rows) (gathered_at core rows starts x)) consistent v inside)

-- ---- by steps

-- of two lists the one that is nowhere greater has the lower sum, or is the same
pub sums : (before after : List ℕ) → length before ≡ length after → ((k : ℕ) → slice_index after k ≤ slice_index before k) → (sum after < sum before) ⊎ (before ≡ after)
sums [] [] sized below = inr refl
sums [] (y ∷ ys) sized below = absurd (omega arith)
sums (x ∷ xs) [] sized below = absurd (omega arith)
sums (x ∷ xs) (y ∷ ys) sized below = first_sums x y xs ys (below 0) (sums xs ys (omega arith) (λ k. below (suc k)))
  where
    first_sums : (x y : ℕ) (xs ys : List ℕ) → y ≤ x → (sum ys < sum xs) ⊎ (xs ≡ ys) → (sum (y ∷ ys) < sum (x ∷ xs)) ⊎ (x ∷ xs ≡ y ∷ ys)
    first_sums x y xs ys low (inl less) = inl (omega (arith, sum_by-cons (λ v. v) x xs, sum_by-cons (λ v. v) y ys))
    first_sums x y xs ys low (inr same) = elim (cases_lt y x) [
      | inl less ↦ inl (omega (arith, sum_by-cons (λ v. v) x xs, sum_by-cons (λ v. v) y ys, ap sum same))
      | inr high ↦ (let equal : x ≡ y = omega arith in inr (rw (equal, same) refl))
    ]

-- a renewal of some vertices that changes a list lowers its sum
pub renewed_where_falls : (chosen : ℕ → Bool) (core : CoreProgram) (rows : List (List Read)) (starts x : List ℕ) → IsValueList (length rows) x →
    (sum (renewed_where chosen core rows starts x) < sum x) ⊎ (x ≡ renewed_where chosen core rows starts x)
renewed_where_falls chosen core rows starts x values =
    let sized : length (renewed_where chosen core rows starts x) ≡ length rows = (renewed_where_values chosen core rows starts x values).one_each in
    sums x (renewed_where chosen core rows starts x) (values.one_each ∙ sym sized)
    (λ v. below_anywhere (length rows) (renewed_where chosen core rows starts x) x v sized (renewed_where_lower chosen core rows starts x))

pub renewed_falls : (core : CoreProgram) (rows : List (List Read)) (starts x : List ℕ) → IsValueList (length rows) x → (sum (renewed core rows starts x) < sum x) ⊎ (x ≡ renewed core rows starts x)
renewed_falls = renewed_where_falls (λ v. true)

-- after one more renewal a list is the renewed one of what it was before that
pub renewed_last : (times : ℕ) (core : CoreProgram) (rows : List (List Read)) (starts x : List ℕ) → renewed_times (suc times) core rows starts x ≡ renewed core rows starts (renewed_times times core rows starts x)
renewed_last zero core rows starts x = refl
renewed_last (suc times) core rows starts x = renewed_last times core rows starts (renewed core rows starts x)

-- No consistent list rises above any list on the way, and the sum falls with every renewal that changes something.
stepped_within : (bound : ℕ) (core : CoreProgram) (rows : List (List Read)) (starts x : List ℕ) → sum x < bound → is_mex core.program.fold ≡ false → IsValueList (length rows) x →
    ((y : List ℕ) → IsCoreConsistent core rows starts y → IsBelow (length rows) y x) → (times : ℕ) × IsGreatestCoreConsistent core rows starts (renewed_times times core rows starts x)
stepped_within zero core rows starts x small plain values above = absurd (omega arith)
stepped_within (suc bound) core rows starts x small plain values above =
    by_sums (renewed_falls core rows starts x values)
    (λ less. stepped_within bound core rows starts (renewed core rows starts x) (omega (arith, less, small)) plain (renewed_values core rows starts x values)
    (λ y c. below_renewed core rows starts y x plain c values (above y c)))
  where
    by_sums : (sum (renewed core rows starts x) < sum x) ⊎ (x ≡ renewed core rows starts x) →
        (sum (renewed core rows starts x) < sum x → (times : ℕ) × IsGreatestCoreConsistent core rows starts (renewed_times times core rows starts (renewed core rows starts x))) →
        (times : ℕ) × IsGreatestCoreConsistent core rows starts (renewed_times times core rows starts x)
    by_sums (inl less) more = (let rest = more less in (suc rest.0, rest.1))
    by_sums (inr same) more = (0, still_greatest core rows starts x values above (sym same))

-- A list that no consistent list rises above steps down to the greatest one.
pub stepped : (core : CoreProgram) (rows : List (List Read)) (starts x : List ℕ) → is_mex core.program.fold ≡ false → IsValueList (length rows) x →
    ((y : List ℕ) → IsCoreConsistent core rows starts y → IsBelow (length rows) y x) → (times : ℕ) × IsGreatestCoreConsistent core rows starts (renewed_times times core rows starts x)
stepped core rows starts x plain values above = stepped_within (suc (sum x)) core rows starts x (omega arith) plain values above

-- so the starts do
pub reached : (core : CoreProgram) (rows : List (List Read)) (starts : List ℕ) → is_mex core.program.fold ≡ false → IsValueList (length rows) starts →
    (times : ℕ) × IsGreatestCoreConsistent core rows starts (renewed_times times core rows starts starts)
reached core rows starts plain values = stepped core rows starts starts plain values (λ y c. below_starts core rows starts y plain c)

-- and there is a greatest one
pub greatest_exists : (core : CoreProgram) (rows : List (List Read)) (starts : List ℕ) → is_mex core.program.fold ≡ false → IsValueList (length rows) starts →
    (x : List ℕ) × IsGreatestCoreConsistent core rows starts x
greatest_exists core rows starts plain values = (let end = reached core rows starts plain values in (renewed_times end.0 core rows starts starts, end.1))
