-- A master is on the boundary exactly where a row outside its part reads it.
use Rattle.std.proofs.Common.{◌≡◌, ℕ, ◌+◌, ◌-◌, ◌<◌, ◌≤◌, Bool, true, false, List, [], length, take, drop, refl, sym, subst, ◌∙◌, arith, inl, inr}
use Rattle.std.specs.Prelude.{not, ◌&&◌, ◌||◌, ◌⊎◌, filter, slice_range, Result, Ok, Err, IfOk}
use Rattle.std.specs.List.{list_any, range_with_len}
use Rattle.std.proofs.lemmas.Bool.{cases_lt}
use Rattle.std.proofs.lemmas.Bool.Decides.{nat_tests}
use Rattle.px_base.specs.declared.graph.Read.{Read}
use Rattle.px_base.specs.Parts.{IsCuts, IsOwner, low_of, high_of, part_count, is_within, is_master, is_mirror, is_routed, part_rows, reads_from, boundary_of}
use Rattle.px_base.proofs.Owners.{one_owner}
use Rattle.px_base.proofs.Ranges.{within_bounds}
use Rattle.partitioner.proofs.Owned.{an_owner, low_below_high, high_before_low}
use Rattle.partitioner.proofs.Found.{PassesAt, from_back, to_back, in_front, front_has, in_back, back_has, some_position, position_has}
use Rattle.partitioner.proofs.Ranges.{filters_agree}

same_bool : (a b : Bool) → (a ≡ true → b ≡ true) → (b ≡ true → a ≡ true) → a ≡ b
same_bool true b f g = sym (f refl)
same_bool false true f g = g refl
same_bool false false f g = refl

both : (a b : Bool) → (a && b) ≡ true → (a ≡ true) × (b ≡ true)
both true b h = (refl, h)
both false b h = absurd (cc)

either : (a b : Bool) → (a || b) ≡ true → (a ≡ true) ⊎ (b ≡ true)
either true b h = inl refl
either false b h = inr h

left : (a b : Bool) → a ≡ true → (a || b) ≡ true
left true b h = refl
left false b h = absurd (cc)

right : (a b : Bool) → b ≡ true → (a || b) ≡ true
right true b h = refl
right false b h = h

pub within : (low high v : ℕ) → low ≤ v → v < high → is_within low high v ≡ true
within low high v from to = grind (arith, nat_tests)

no_true : (b : Bool) → not b ≡ true → b ≡ true → ⊥
no_true true n h = cc
no_true false n h = cc

not_true : (b : Bool) → (b ≡ true → ⊥) → not b ≡ true
not_true true h = absurd (h refl)
not_true false h = refl

master_of : (cuts : List ℕ) (v i : ℕ) → i < part_count cuts → is_master cuts i v ≡ true → IsOwner cuts v i
master_of cuts v i below h = let b : (low_of cuts i ≤ v) × (v < high_of cuts i) = within_bounds (low_of cuts i) (high_of cuts i) v h in record { below = below; from = b.0; to = b.1 }

-- a row of another part, at its place among all rows
record ReadAt (rows : List (List Read)) (v k : ℕ) (low high : ℕ) : Type 0 where
  from : low ≤ k
  to : k < high
  at : PassesAt (reads_from v) rows [] k

read_in_part : (rows : List (List Read)) (v low high : ℕ) → list_any (reads_from v) (slice_range rows low high) ≡ true → (k : ℕ) × ReadAt rows v k low high
read_in_part rows v low high h =
    let found : (k : ℕ) × (k < high - low) × PassesAt (reads_from v) (drop low rows) [] k = in_front (reads_from v) (drop low rows) (high - low) [] h in
    (low + found.0, record { from = omega arith; to = omega (arith, found.1); at = from_back (reads_from v) rows low found.0 [] found.2 })

part_reads : (rows : List (List Read)) (v k low high : ℕ) → ReadAt rows v k low high → list_any (reads_from v) (slice_range rows low high) ≡ true
part_reads rows v k low high r = front_has (reads_from v) (drop low rows) (high - low) (k - low) [] (omega (arith, r.from, r.to)) (to_back (reads_from v) rows low k [] r.from r.at)

-- ---- from the boundary to the rows outside, and back

apart : (n : ℕ) (rows : List (List Read)) (cuts : List ℕ) (v i j : ℕ) → IsCuts n cuts → IsOwner cuts v i → j < part_count cuts → is_mirror rows cuts j v ≡ true →
    (list_any (reads_from v) (take (low_of cuts i) rows) || list_any (reads_from v) (drop (high_of cuts i) rows)) ≡ true
apart n rows cuts v i j c own below h =
    let parts : (not (is_master cuts j v) ≡ true) × (list_any (reads_from v) (part_rows rows cuts j) ≡ true) = both (not (is_master cuts j v)) (list_any (reads_from v) (part_rows rows cuts j)) h in
    let found : (k : ℕ) × ReadAt rows v k (low_of cuts j) (high_of cuts j) = read_in_part rows v (low_of cuts j) (high_of cuts j) parts.1 in
    elim (cases_lt j i) [
      | inl before ↦ left _ _ (front_has (reads_from v) rows (low_of cuts i) found.0 [] (omega (arith, found.1.to, high_before_low n cuts j i c before own.below)) found.1.at)
      | inr from ↦ elim (cases_lt i j) [
        | inl after ↦ right (list_any (reads_from v) (take (low_of cuts i) rows)) _ (back_has (reads_from v) rows (high_of cuts i) found.0 [] (omega (arith, found.1.from, high_before_low n cuts i j c after below)) found.1.at)
        | inr to ↦ (let same : j ≡ i = omega arith in absurd (no_true (is_master cuts j v) parts.0 (rw same (within (low_of cuts i) (high_of cuts i) v own.from own.to))))
      ]
    ]

mirrored : (n : ℕ) (rows : List (List Read)) (cuts : List ℕ) (v i k : ℕ) → IsCuts n cuts → length rows ≡ n → IsOwner cuts v i → PassesAt (reads_from v) rows [] k →
    (IsOwner cuts k i → ⊥) → is_routed rows cuts v ≡ true
mirrored n rows cuts v i k c size own at apart =
    let other : (j : ℕ) × IsOwner cuts k j = an_owner n cuts k c (omega (arith, at.inside)) in
    let foreign : not (is_master cuts other.0 v) ≡ true = not_true (is_master cuts other.0 v)
    (λ h. let same : other.0 ≡ i = one_owner n cuts v other.0 i c (master_of cuts v other.0 other.1.below h) own in apart (rw (← same) other.1)) in
    let reads : list_any (reads_from v) (part_rows rows cuts other.0) ≡ true = part_reads rows v k (low_of cuts other.0) (high_of cuts other.0) (record { from = other.1.from; to = other.1.to; at = at }) in
    position_has (λ j. is_mirror rows cuts j v) (part_count cuts) other.0 other.1.below (rw (foreign, reads) refl)

pub routed_is : (n : ℕ) (rows : List (List Read)) (cuts : List ℕ) (v i : ℕ) → IsCuts n cuts → length rows ≡ n → IsOwner cuts v i →
    is_routed rows cuts v ≡ (list_any (reads_from v) (take (low_of cuts i) rows) || list_any (reads_from v) (drop (high_of cuts i) rows))
routed_is n rows cuts v i c size own = same_bool _ _
    (λ h. let found : (j : ℕ) × (j < part_count cuts) × (is_mirror rows cuts j v ≡ true) = some_position (λ j. is_mirror rows cuts j v) (part_count cuts) h in
    apart n rows cuts v i found.0 c own found.1 found.2)
    (λ h. elim (either (list_any (reads_from v) (take (low_of cuts i) rows)) (list_any (reads_from v) (drop (high_of cuts i) rows)) h) [
      | inl front ↦ (let found : (k : ℕ) × (k < low_of cuts i) × PassesAt (reads_from v) rows [] k = in_front (reads_from v) rows (low_of cuts i) [] front in
          mirrored n rows cuts v i found.0 c size own found.2 (λ o. absurd (omega (arith, o.from, found.1))))
      | inr back ↦ (let found : (k : ℕ) × (high_of cuts i ≤ k) × PassesAt (reads_from v) rows [] k = in_back (reads_from v) rows (high_of cuts i) [] back in
          mirrored n rows cuts v i found.0 c size own found.2 (λ o. absurd (omega (arith, o.to, found.1))))
    ])

-- the boundary by the rows outside
pub boundary_is : (n : ℕ) (rows : List (List Read)) (cuts : List ℕ) (i : ℕ) → IsCuts n cuts → length rows ≡ n → i < part_count cuts →
    filter (λ u. list_any (reads_from u) (take (low_of cuts i) rows) || list_any (reads_from u) (drop (high_of cuts i) rows)) (range_with_len (low_of cuts i) (high_of cuts i - low_of cuts i)) ≡ boundary_of rows cuts i
boundary_is n rows cuts i c size below =
    filters_agree (λ u. list_any (reads_from u) (take (low_of cuts i) rows) || list_any (reads_from u) (drop (high_of cuts i) rows)) (is_routed rows cuts) (low_of cuts i) (high_of cuts i - low_of cuts i)
    (λ v from to. sym (routed_is n rows cuts v i c size (record { below = below; from = from; to = omega (arith, low_below_high n cuts i c below) })))

-- the same of a call's result, where the cuts and the rows are named as the call names them
pub boundary_named : {T E : Type 0} (r : Result T E) (items : T → List ℕ) (n : ℕ) (rows : List (List Read)) (cuts ends : List ℕ) (i : ℕ) → IsCuts n cuts → length rows ≡ n → i < part_count cuts →
    ends ≡ cuts →
    IfOk r (λ found. items found ≡ filter (λ u. list_any (reads_from u) (take (low_of ends i) rows) || list_any (reads_from u) (drop (high_of ends i) rows)) (range_with_len (low_of ends i) (high_of ends i - low_of ends i))) →
    IfOk r (λ found. items found ≡ boundary_of rows cuts i)
boundary_named (Ok found) items n rows cuts ends i c size below same is =
    let P : List ℕ → Type 0 = λ cs. items found ≡ filter (λ u. list_any (reads_from u) (take (low_of cs i) rows) || list_any (reads_from u) (drop (high_of cs i) rows)) (range_with_len (low_of cs i) (high_of cs i - low_of cs i)) in
    subst P same is ∙ boundary_is n rows cuts i c size below
boundary_named (Err e) items n rows cuts ends i c size below same is = tt
