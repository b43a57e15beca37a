-- Where positions stand in ranges, routes, mirrors and boundaries.
use Rattle.std.proofs.Common.{◌≡◌, ◌≢◌, ℕ, suc, ◌+◌, ◌-◌, ◌<◌, ◌≤◌, Bool, true, false, not, cond, List, [], ◌∷◌, length, arith, refl, ap, subst, ◌∙◌, eqb-true}
use Rattle.std.specs.Prelude.{◌&&◌, ◌||◌, ◌==◌, All, slice_index, filter, if◌then◌else◌}
use Rattle.std.specs.List.{list_any, range_with_len, AllByRecursion}
use Rattle.std.proofs.lemmas.List.Elements.{recursion_from_All}
use Rattle.px_base.specs.declared.graph.Read.{Read}
use Rattle.px_base.specs.declared.wire.Update.{Update}
use Rattle.px_base.specs.Values.{is_listed, place_of, positions_below}
use Rattle.px_base.specs.Parts.{IsCuts, IsOwner, part_count, is_master, is_mirror, is_routed, part_rows, reads_from, mirrors_of, boundary_of, route_of, low_of, high_of}
use Rattle.px_base.proofs.Ranges.{within_bounds}
use Rattle.px_base.proofs.Owners.{one_owner}
use Rattle.partitioner.proofs.Found.{position_has}
use Rattle.partitioner.proofs.Owned.{high_inside}
use Rattle.list_laws.proofs.Told.{names, listed_filter}
use Rattle.list_laws.proofs.Ranges.{listed_range}

-- ---- lists of positions

-- where a position that is listed stands
pub place_found : (us : List ℕ) (v : ℕ) → is_listed us v ≡ true → (place_of us v < length us) × (slice_index us (place_of us v) ≡ v)
place_found [] v listed = cc
place_found (x ∷ us) v listed = by_first (x == v) refl listed (place_found us v)
  where
    by_first : (b : Bool) → (x == v) ≡ b → (b || is_listed us v) ≡ true → (is_listed us v ≡ true → (place_of us v < length us) × (slice_index us (place_of us v) ≡ v)) →
        ((if not b then 1 + place_of us v else 0) < suc (length us)) × (slice_index (x ∷ us) (if not b then 1 + place_of us v else 0) ≡ v)
    by_first true same h later = (omega arith, eqb-true x v same)
    by_first false apart h later = let found = later h in let one : 1 + place_of us v ≡ suc (place_of us v) = omega arith in (omega (arith, found.0), rw one found.1)

-- ---- updates of vertices with and without a property

pub unnamed : (p : ℕ → Bool) (us : List Update) (v : ℕ) → All (λ u. p u.vertex ≡ true) us → p v ≡ false → names v us ≡ false
unnamed p us v each fails = by_list us (recursion_from_All (λ (u : Update). p u.vertex ≡ true) us each)
  where
    by_list : (us : List Update) → AllByRecursion (λ u. p u.vertex ≡ true) us → names v us ≡ false
    by_list [] each = refl
    by_list (u ∷ us) each = by_first (u.vertex == v) refl (by_list us each.1)
      where
        by_first : (b : Bool) → (u.vertex == v) ≡ b → names v us ≡ false → (b || names v us) ≡ false
        by_first true same rest = absurd (cc (each.0, fails, ap p (eqb-true u.vertex v same)))
        by_first false apart rest = rest

pub unnamed_kept : (q : Update → Bool) (us : List Update) (v : ℕ) → names v us ≡ false → names v (filter q us) ≡ false
unnamed_kept q [] v none = refl
unnamed_kept q (u ∷ us) v none = by_first (u.vertex == v) (q u) refl none (unnamed_kept q us v)
  where
    by_first : (c b : Bool) → (u.vertex == v) ≡ c → (c || names v us) ≡ false → (names v us ≡ false → names v (filter q us) ≡ false) → names v (cond b (u ∷ filter q us) (filter q us)) ≡ false
    by_first true b is h rest = cc
    by_first false true is h rest = rw is (rest h)
    by_first false false is h rest = rest h

-- ---- masters, mirrors and routes

pub master_below : (n : ℕ) (cuts : List ℕ) (k v : ℕ) → IsCuts n cuts → k < part_count cuts → is_master cuts k v ≡ true → (low_of cuts k ≤ v) × (v < high_of cuts k) × (v < n)
master_below n cuts k v c below master = let bounds = within_bounds (low_of cuts k) (high_of cuts k) v master in (bounds.0, bounds.1, omega (arith, bounds.1, high_inside n cuts k c below))

-- a vertex is a master of one worker alone
pub not_master : (n : ℕ) (cuts : List ℕ) (i k v : ℕ) → IsCuts n cuts → i < part_count cuts → k < part_count cuts → i ≢ k → is_master cuts i v ≡ true → is_master cuts k v ≡ false
not_master n cuts i k v c few also apart master = by_test (is_master cuts k v) refl
  where
    owned : (j : ℕ) → j < part_count cuts → is_master cuts j v ≡ true → IsOwner cuts v j
    owned j below is = let bounds = within_bounds (low_of cuts j) (high_of cuts j) v is in record { below = below; from = bounds.0; to = bounds.1 }

    by_test : (b : Bool) → is_master cuts k v ≡ b → is_master cuts k v ≡ false
    by_test true is = absurd (apart (one_owner n cuts v i k c (owned i few master) (owned k also is)))
    by_test false is = is

not_own : (a b : Bool) → (not a && b) ≡ true → a ≡ false
not_own true b h = cc
not_own false b h = refl

-- a mirror isn't a master
pub mirror_apart : (rows : List (List Read)) (cuts : List ℕ) (j k v : ℕ) → is_master cuts k v ≡ true → is_mirror rows cuts j v ≡ true → j ≢ k
mirror_apart rows cuts j k v master mirror e =
    let none : is_master cuts j v ≡ false = not_own (is_master cuts j v) (list_any (reads_from v) (part_rows rows cuts j)) mirror in
    cc (subst (λ (l : ℕ). is_master cuts l v ≡ false) e none, master)

-- it stands among the mirrors
pub mirror_listed : (rows : List (List Read)) (cuts : List ℕ) (j v : ℕ) → v < length rows → is_mirror rows cuts j v ≡ true → is_listed (mirrors_of rows cuts j) v ≡ true
mirror_listed rows cuts j v inside mirror = listed_filter (is_mirror rows cuts j) (positions_below (length rows)) v ∙ (ap (λ b. b && is_mirror rows cuts j v) (listed_range 0 (length rows) v (omega arith) (omega arith)) ∙ mirror)

-- and its worker stands on the route
pub mirror_routed : (rows : List (List Read)) (cuts : List ℕ) (j v : ℕ) → j < part_count cuts → is_mirror rows cuts j v ≡ true → is_listed (route_of rows cuts v) j ≡ true
mirror_routed rows cuts j v below mirror = listed_filter (λ i. is_mirror rows cuts i v) (positions_below (part_count cuts)) j ∙ (ap (λ b. b && is_mirror rows cuts j v) (listed_range 0 (part_count cuts) j (omega arith) (omega arith)) ∙ mirror)

-- a master that another worker mirrors stands on the boundary
pub boundary_listed : (rows : List (List Read)) (cuts : List ℕ) (k j v : ℕ) → is_master cuts k v ≡ true → j < part_count cuts → is_mirror rows cuts j v ≡ true → is_listed (boundary_of rows cuts k) v ≡ true
boundary_listed rows cuts k j v master below mirror =
    let bounds = within_bounds (low_of cuts k) (high_of cuts k) v master in
    let routed : is_routed rows cuts v ≡ true = position_has (λ i. is_mirror rows cuts i v) (part_count cuts) j below mirror in
    listed_filter (is_routed rows cuts) (range_with_len (low_of cuts k) (high_of cuts k - low_of cuts k)) v
    ∙ (ap (λ b. b && is_routed rows cuts v) (listed_range (low_of cuts k) (high_of cuts k - low_of cuts k) v bounds.0 (omega (arith, bounds.0, bounds.1))) ∙ routed)
