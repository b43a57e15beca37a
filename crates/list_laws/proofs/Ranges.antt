-- Stretches of lists, and what a part knows of a list of values by position.
use Rattle.std.proofs.Common.{◌≡◌, ℕ, suc, ◌+◌, ◌-◌, ◌<◌, ◌≤◌, Bool, true, false, not, List, [], ◌∷◌, length, map, drop, get_or, refl, sym, ap, ◌∙◌, arith, eqb-true, eq-eqb, zero, ◌++◌, take, add-one, append-nil}
use Rattle.std.specs.Prelude.{◌==◌, ◌||◌, slice_index, slice_range, if◌then◌else◌}
use Rattle.std.specs.List.{range_with_len, flat_map}
use Rattle.std.proofs.lemmas.List.Folds.{list_any_at}
use Rattle.std.proofs.lemmas.List.FromFn.{length-range_with_len, get_or-range_with_len}
use Rattle.std.proofs.lemmas.Grind.{same_number_lists, flat_map-append}
use Rattle.std.proofs.lemmas.List.{get_or-take, get_or-drop, length-take-le, length-drop, take_more}
use Rattle.std.proofs.Math.Seq.{take-add, take-length}
use Rattle.px_base.specs.declared.graph.Part.{Part}
use Rattle.px_base.specs.Values.{is_listed, place_of}
use Rattle.px_base.specs.Parts.{is_within, is_known}
use Rattle.px_base.specs.Pulls.{known_value}
use Rattle.px_base.proofs.Ranges.{within_bounds}

-- ---- stretches

pub at_range : {X : Type 0} (xs : List X) (low high k : ℕ) (d : X) → k < high - low → get_or (slice_range xs low high) k d ≡ get_or xs (low + k) d
at_range xs low high k d below = get_or-take (high - low) (drop low xs) k d below ∙ get_or-drop low xs k d

pub length_range : {X : Type 0} (xs : List X) (low high : ℕ) → low ≤ high → high ≤ length xs → length (slice_range xs low high) ≡ high - low
length_range xs low high rise inside = length-take-le (high - low) (drop low xs) (omega (arith, length-drop low xs))

-- a list is the stretch of another where it agrees with it from there on
pub is_range : (xs ys : List ℕ) (low high : ℕ) → low ≤ high → high ≤ length ys → length xs ≡ high - low → ((k : ℕ) → k < high - low → slice_index xs k ≡ slice_index ys (low + k)) → xs ≡ slice_range ys low high
is_range xs ys low high rise inside size same = same_number_lists xs (slice_range ys low high) (size ∙ sym (length_range ys low high rise inside))
    (λ k below. let room : k < high - low = rw size at below in same k room ∙ sym (at_range ys low high k 0 room))

-- each position of a range stands in the list of them
pub listed_range : (a n v : ℕ) → a ≤ v → v < a + n → is_listed (range_with_len a n) v ≡ true
listed_range a n v low high =
    let few : v - a < n = omega arith in
    let inside : v - a < length (range_with_len a n) = omega (arith, few, length-range_with_len a n) in
    let here : get_or (range_with_len a n) (v - a) 0 ≡ v = get_or-range_with_len a n (v - a) 0 few ∙ omega arith in
    list_any_at (λ item. item == v) (range_with_len a n) (v - a) 0 inside (eq-eqb (get_or (range_with_len a n) (v - a) 0) v here)

-- ---- stretches one after another

-- a list up to a later position is that up to an earlier one, and the stretch between them
take_further : (xs : List ℕ) (low high : ℕ) → low ≤ high → take high xs ≡ take low xs ++ slice_range xs low high
take_further xs low high rise = let back : low + (high - low) ≡ high = omega arith in ap (λ k. take k xs) (sym back) ∙ take-add low (high - low) xs

-- lists that are the stretches of another one between positions that rise give it, one after another
pub joined_stretches : {Y : Type 0} (f : Y → List ℕ) (ys : List Y) (d : Y) (xs : List ℕ) (at : ℕ → ℕ) → at 0 ≡ 0 → at (length ys) ≡ length xs →
    ((i : ℕ) → i < length ys → at i ≤ at (i + 1)) → ((i : ℕ) → i < length ys → f (get_or ys i d) ≡ slice_range xs (at i) (at (i + 1))) → flat_map f ys ≡ xs
joined_stretches {Y} f ys d xs at first last rise each =
    ap (flat_map f) (sym (take-length ys)) ∙ (so_far (length ys) (omega arith) ∙ (ap (λ k. take k xs) last ∙ take-length xs))
  where
    so_far : (k : ℕ) → k ≤ length ys → flat_map f (take k ys) ≡ take (at k) xs
    so_far zero few = rw first refl
    so_far (suc k) few =
        let inside : k < length ys = omega arith in
        let more : flat_map f (take (k + 1) ys) ≡ flat_map f (take k ys) ++ (f (get_or ys k d) ++ []) = ap (flat_map f) (take_more ys k d inside) ∙ flat_map-append f (take k ys) (get_or ys k d ∷ []) in
        let piece : f (get_or ys k d) ++ [] ≡ slice_range xs (at k) (at (k + 1)) = append-nil (f (get_or ys k d)) ∙ each k inside in
        let next : flat_map f (take (k + 1) ys) ≡ take (at (k + 1)) xs = more ∙ (ap (λ zs. flat_map f (take k ys) ++ zs) piece ∙ (ap (λ zs. zs ++ slice_range xs (at k) (at (k + 1))) (so_far k (omega arith)) ∙ sym (take_further xs (at k) (at (k + 1)) (rise k inside)))) in
        rw add-one at next

-- ---- what a part knows

at_first_place : (f : ℕ → ℕ) (x : ℕ) (xs : List ℕ) (u : ℕ) (b : Bool) → (x == u) ≡ b → (b || is_listed xs u) ≡ true →
    (is_listed xs u ≡ true → slice_index (map f xs) (place_of xs u) ≡ f u) → slice_index (f x ∷ map f xs) (if not b then 1 + place_of xs u else 0) ≡ f u
at_first_place f x xs u true same h later = ap f (eqb-true x u same)
at_first_place f x xs u false apart h later = let one : 1 + place_of xs u ≡ suc (place_of xs u) = omega arith in rw one (later h)

-- the value at the first place at which u stands
value_at_place : (f : ℕ → ℕ) (us : List ℕ) (u : ℕ) → is_listed us u ≡ true → slice_index (map f us) (place_of us u) ≡ f u
value_at_place f [] u listed = cc
value_at_place f (x ∷ xs) u listed = at_first_place f x xs u (x == u) refl listed (value_at_place f xs u)

-- Where the masters have their values of x and the mirrors theirs, the part knows x at each vertex that it knows.
pub known_is : (part : Part) (x : List ℕ) (u : ℕ) → is_known part u ≡ true → known_value part (slice_range x part.low part.high) (map (slice_index x) part.mirrors) u ≡ slice_index x u
known_is part x u known = here (is_within part.low part.high u) refl known
  where
    here : (b : Bool) → is_within part.low part.high u ≡ b → (b || is_listed part.mirrors u) ≡ true
        → (if b then slice_index (slice_range x part.low part.high) (u - part.low) else slice_index (map (slice_index x) part.mirrors) (place_of part.mirrors u)) ≡ slice_index x u
    here true inside h =
        let low : part.low ≤ u = (within_bounds part.low part.high u inside).0 in
        let high : u < part.high = (within_bounds part.low part.high u inside).1 in
        let back : part.low + (u - part.low) ≡ u = omega arith in
        at_range x part.low part.high (u - part.low) 0 (omega arith) ∙ ap (slice_index x) back
    here false outside h = value_at_place (slice_index x) part.mirrors u h
