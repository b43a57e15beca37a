-- Whoever reads a mirror that changes is told.
use Rattle.std.proofs.Common.{◌≡◌, ℕ, suc, ◌+◌, ◌-◌, ◌<◌, ◌∙◌, Bool, true, false, List, [], ◌∷◌, ◌++◌, length, length-drop, get_or, take, drop, refl, sym, ap, arith, inl, inr}
use Rattle.std.specs.Prelude.{◌==◌, All, if◌then◌else◌}
use Rattle.std.specs.List.Sorted.{IsStrictlyIncreasing}
use Rattle.std.proofs.lemmas.Bool.{cases_lt, eqb-true}
use Rattle.std.proofs.lemmas.List.{get_or-take, get_or-drop}
use Rattle.px_base.specs.declared.graph.Part.{Part}
use Rattle.px_base.specs.declared.wire.Update.{Update}
use Rattle.px_base.specs.Values.{place_of}
use Rattle.px_base.specs.ValueSteps.{newest_value}
use Rattle.px_base.proofs.Listed.{place_is, not_equal, rising_apart}
use Rattle.px_base.proofs.Positions.{at_position}
use Rattle.worker_world.specs.declared.due.Due.{Due}
use Rattle.reader_chains.specs.declared.readers.Readers.{Readers}
use Rattle.placed_parts.specs.Places.{master_count}
use Rattle.worker_world.specs.Placed.{mirrors_after}
use Rattle.worker_world.specs.Due.{AreTold, IsUpdateTold}
use Rattle.worker_world.proofs.Placing.{HasHalves, put_halves}

-- a vertex all of whose updates have its old value keeps it
newest_kept : (updates : List Update) (m old : ℕ) → All (λ u. (u.vertex == m) ≡ true → u.value ≡ old) updates → newest_value updates m old ≡ old
newest_kept [] m old same = refl
newest_kept (u ∷ us) m old same = by_first (u.vertex == m) refl (newest_kept us m old (λ k d below. same (suc k) d (omega arith)))
  where
    by_first : (b : Bool) → (u.vertex == m) ≡ b → newest_value us m old ≡ old → newest_value us m (if b then u.value else old) ≡ old
    by_first true e rest = rw (same 0 u (omega arith) e) rest
    by_first false e rest = rest

-- a mirror stands at its place
mirror_place : (mirrors : List ℕ) → IsStrictlyIncreasing mirrors → (j : ℕ) → j < length mirrors → place_of mirrors (get_or mirrors j 0) ≡ j
mirror_place mirrors rising j inside = sym (place_is mirrors (get_or mirrors j 0) j inside (λ k below. not_equal (get_or mirrors k 0) (get_or mirrors j 0) (λ e. absurd (omega (arith, rising_apart mirrors rising k j below inside, e)))) refl)

pub updates_told : (part : Part) (readers : Readers) (due : Due) (updates : List Update) (before after : List ℕ) → IsStrictlyIncreasing part.mirrors → length before ≡ master_count part + length part.mirrors →
    after ≡ take (master_count part) before ++ mirrors_after part updates before → All (IsUpdateTold part readers due before) updates → AreTold (master_count part + length part.mirrors) readers due before after
updates_told part readers due updates before after rising count is told s below k reads not = elim (cases_lt s (master_count part)) [
  | inl low ↦ sym (get_or-take (master_count part) after s 0 low) ∙ ap (λ list. get_or list s 0) halves.masters ∙ get_or-take (master_count part) before s 0 low
  | inr high ↦
      let j = s - master_count part in
      let at : master_count part + j ≡ s = omega (arith, high) in
      let inside : j < length part.mirrors = omega (arith, high, below) in
      let size : j < length (drop (master_count part) before) = omega (arith, inside, count, length-drop (master_count part) before) in
      let old : get_or (drop (master_count part) before) j 0 ≡ get_or before s 0 = get_or-drop (master_count part) before j 0 ∙ ap (λ i. get_or before i 0) at in
      let new : get_or after s 0 ≡ newest_value updates (get_or part.mirrors j 0) (get_or (drop (master_count part) before) j 0) =
      ap (λ i. get_or after i 0) (sym at) ∙ sym (get_or-drop (master_count part) after j 0) ∙ ap (λ list. get_or list j 0) halves.mirrors
      ∙ at_position (length (drop (master_count part) before)) (λ i. newest_value updates (get_or part.mirrors i 0) (get_or (drop (master_count part) before) i 0)) j 0 size in
      let each : All (λ u. (u.vertex == get_or part.mirrors j 0) ≡ true → u.value ≡ get_or before s 0) updates = (λ i d more same.
      let vertex : (get_or updates i d).vertex ≡ get_or part.mirrors j 0 = eqb-true _ _ same in
      let place : master_count part + place_of part.mirrors (get_or updates i d).vertex ≡ s = ap (λ v. master_count part + place_of part.mirrors v) vertex ∙ ap (λ i. master_count part + i) (mirror_place part.mirrors rising j inside) ∙ at in
      told i d more k (rw place reads) not ∙ ap (λ i. get_or before i 0) place) in
      new ∙ ap (newest_value updates (get_or part.mirrors j 0)) old ∙ newest_kept updates (get_or part.mirrors j 0) (get_or before s 0) each
]
  where
    halves : HasHalves part (take (master_count part) before) (mirrors_after part updates before) after
    halves = put_halves part updates before after count is
