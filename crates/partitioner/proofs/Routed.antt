-- The routes, the mirrors and the boundaries by the words of all positions.
use Rattle.std.proofs.Common.{◌≡◌, ℕ, ◌+◌, ◌-◌, ◌^◌, ◌<◌, ◌≤◌, Bool, true, false, List, [], ◌∷◌, ◌++◌, length, map, get_or, refl, sym, ap, subst, ◌∙◌, arith, inl, inr}
use Rattle.std.specs.Prelude.{All, ◌==◌, ◌&&◌, not, nat_lt, filter, Result, Ok, Err, IfOk}
use Rattle.std.specs.Int.{bit_at, trailing_zeros, w64}
use Rattle.std.specs.List.{range_with_len}
use Rattle.std.proofs.lemmas.Bool.Decides.{eqb_tells, nat_tests}
use Rattle.std.proofs.lemmas.Nat.Bits.{bit_at-zero, bit_at-trailing_zeros}
use Rattle.px_base.specs.declared.graph.Read.{Read}
use Rattle.px_base.specs.Values.{by_position, positions_below}
use Rattle.px_base.specs.Parts.{is_mirror, is_routed, boundary_of, part_count, route_of, routes_of, low_of, high_of}
use Rattle.partitioner.specs.Bits.{has_bit, HasBitsBelow}
use Rattle.px_base.proofs.Positions.{by_position_more, length_by_position, at_position}
use Rattle.partitioner.proofs.Found.{some_position, position_has}
use Rattle.partitioner.proofs.Ranges.{filters_agree}

maps_agree : {X : Type 0} (f g : ℕ → X) → ((u : ℕ) → f u ≡ g u) → (us : List ℕ) → map f us ≡ map g us
maps_agree f g same [] = refl
maps_agree f g same (u ∷ us) = ap (λ x. x ∷ map f us) (same u) ∙ ap (λ xs. g u ∷ xs) (maps_agree f g same us)

below_true : (k n : ℕ) → k < n → nat_lt k n ≡ true
below_true k n low = grind (arith, nat_tests)

both : (a b : Bool) → (a && b) ≡ true → (a ≡ true) × (b ≡ true)
both true b h = (refl, h)
both false b h = absurd (cc)

below_from : (k n : ℕ) → nat_lt k n ≡ true → k < n
below_from k n h = grind (arith, nat_tests)

-- what the words say
abbrev pub AreMirrorWords : List ℕ → List (List Read) → List ℕ → Type 0
AreMirrorWords words rows cuts = (u k : ℕ) → has_bit (get_or words u 0) k ≡ (nat_lt k (part_count cuts) && is_mirror rows cuts k u)

bit_is : (words : List ℕ) (rows : List (List Read)) (cuts : List ℕ) → AreMirrorWords words rows cuts → (u k : ℕ) → k < part_count cuts → has_bit (get_or words u 0) k ≡ is_mirror rows cuts k u
bit_is words rows cuts bits u k low = bits u k ∙ ap (λ b. b && is_mirror rows cuts k u) (below_true k (part_count cuts) low)

route_is : (words : List ℕ) (rows : List (List Read)) (cuts : List ℕ) → AreMirrorWords words rows cuts → (u : ℕ) → filter (has_bit (get_or words u 0)) (positions_below (part_count cuts)) ≡ route_of rows cuts u
route_is words rows cuts bits u = filters_agree (has_bit (get_or words u 0)) (λ j. is_mirror rows cuts j u) 0 (part_count cuts) (λ k from to. bit_is words rows cuts bits u k (omega arith))

-- the words have bits of the parts alone
pub bits_below : (words : List ℕ) (rows : List (List Read)) (cuts : List ℕ) → AreMirrorWords words rows cuts → (u : ℕ) → HasBitsBelow (get_or words u 0) (part_count cuts)
bits_below words rows cuts bits u k h = below_from k (part_count cuts) (both (nat_lt k (part_count cuts)) (is_mirror rows cuts k u) (sym (bits u k) ∙ h)).0

-- the row of one word more
pub one_row_more : (words : List ℕ) (i most : ℕ) (before now : List (List ℕ)) (row : List ℕ) → before ≡ by_position i (λ u. filter (has_bit (get_or words u 0)) (positions_below most)) →
    row ≡ filter (has_bit (get_or words i 0)) (positions_below most) → now ≡ before ++ row ∷ [] → now ≡ by_position (i + 1) (λ u. filter (has_bit (get_or words u 0)) (positions_below most))
one_row_more words i most before now row was is more =
    let f : ℕ → List ℕ = λ u. filter (has_bit (get_or words u 0)) (positions_below most) in
    more ∙ ap (λ rows. rows ++ row ∷ []) was ∙ ap (λ r. by_position i f ++ r ∷ []) is ∙ sym (by_position_more i f)

pub all_rows : (words : List ℕ) (i most : ℕ) (rows : List (List ℕ)) → i ≤ length words → length words ≤ i → rows ≡ by_position i (λ u. filter (has_bit (get_or words u 0)) (positions_below most)) →
    rows ≡ by_position (length words) (λ u. filter (has_bit (get_or words u 0)) (positions_below most))
all_rows words i most rows few end is = let same : i ≡ length words = omega arith in is ∙ ap (λ n. by_position n (λ u. filter (has_bit (get_or words u 0)) (positions_below most))) same

-- the table with the bits of each word has the routes
pub routes_are : (table : List (List ℕ)) (n : ℕ) (rows : List (List Read)) (words named cuts : List ℕ) → named ≡ words → length rows ≡ n → length words ≡ n → AreMirrorWords words rows cuts →
    ((most : ℕ) → ((u : ℕ) → HasBitsBelow (get_or named u 0) most) → table ≡ by_position (length named) (λ u. filter (has_bit (get_or named u 0)) (positions_below most))) → table ≡ routes_of rows cuts
routes_are table n rows words named cuts same size wide bits is =
    let P : List ℕ → Type 0 = λ ws. (most : ℕ) → ((u : ℕ) → HasBitsBelow (get_or ws u 0) most) → table ≡ by_position (length ws) (λ u. filter (has_bit (get_or ws u 0)) (positions_below most)) in
    let by_words : P words = subst P same is in
    by_words (part_count cuts) (bits_below words rows cuts bits)
    ∙ maps_agree (λ u. filter (has_bit (get_or words u 0)) (positions_below (part_count cuts))) (route_of rows cuts) (route_is words rows cuts bits) (positions_below (length words))
    ∙ ap (λ m. by_position m (route_of rows cuts)) (wide ∙ sym size)

-- the same of a call's result
pub routes_named : {T E : Type 0} (r : Result T E) (to : T → List (List ℕ)) (n : ℕ) (rows : List (List Read)) (words named cuts : List ℕ) → named ≡ words → length rows ≡ n → length words ≡ n → AreMirrorWords words rows cuts →
    IfOk r (λ t. (most : ℕ) → ((u : ℕ) → HasBitsBelow (get_or named u 0) most) → to t ≡ by_position (length named) (λ u. filter (has_bit (get_or named u 0)) (positions_below most))) → IfOk r (λ t. to t ≡ routes_of rows cuts)
routes_named (Err e) to n rows words named cuts same size wide bits is = tt
routes_named (Ok t) to n rows words named cuts same size wide bits is = routes_are (to t) n rows words named cuts same size wide bits is

-- ---- the boundary

no_true : (b : Bool) → (b ≡ true → ⊥) → b ≡ false
no_true true h = absurd (h refl)
no_true false h = refl

same_bool : (a b : Bool) → (a ≡ true → b ≡ true) → (b ≡ true → a ≡ true) → a ≡ b
same_bool true b f g = sym (f refl)
same_bool false true f g = g refl
same_bool false false f g = refl

not_zero : (word : ℕ) → not (word == 0) ≡ true → 0 < word
not_zero word h = grind (arith, nat_tests)

some_true : (word k : ℕ) → has_bit word k ≡ true → not (word == 0) ≡ true
some_true word k h = elim (eqb_tells word 0) [
  | inl (t, none) ↦ (let no_bit : has_bit word k ≡ false = ap (λ w. has_bit w k) none ∙ ap (λ b. b == 1) (bit_at-zero k) in absurd (cc))
  | inr (t, some) ↦ ap not t
]

-- a position is on some route exactly where its word isn't 0
pub routed_by_word : (words : List ℕ) (rows : List (List Read)) (cuts : List ℕ) → AreMirrorWords words rows cuts → (u : ℕ) → get_or words u 0 < 2 ^ 64 → not (get_or words u 0 == 0) ≡ is_routed rows cuts u
routed_by_word words rows cuts bits u fits = same_bool (not (get_or words u 0 == 0)) (is_routed rows cuts u)
    (λ some. let first : (trailing_zeros w64 (get_or words u 0) < 64) × (bit_at (get_or words u 0) (trailing_zeros w64 (get_or words u 0)) ≡ 1) × ((i : ℕ) → i < trailing_zeros w64 (get_or words u 0) → bit_at (get_or words u 0) i ≡ 0) =
    bit_at-trailing_zeros w64 (get_or words u 0) (not_zero (get_or words u 0) some) fits in
    let k : ℕ = trailing_zeros w64 (get_or words u 0) in
    let has : has_bit (get_or words u 0) k ≡ true = ap (λ b. b == 1) first.1 in
    let parts : (nat_lt k (part_count cuts) ≡ true) × (is_mirror rows cuts k u ≡ true) = both (nat_lt k (part_count cuts)) (is_mirror rows cuts k u) (sym (bits u k) ∙ has) in
    position_has (λ j. is_mirror rows cuts j u) (part_count cuts) k (below_from k (part_count cuts) parts.0) parts.1)
    (λ routed. let found : (k : ℕ) × (k < part_count cuts) × (is_mirror rows cuts k u ≡ true) = some_position (λ j. is_mirror rows cuts j u) (part_count cuts) routed in
    some_true (get_or words u 0) found.0 (bit_is words rows cuts bits u found.0 found.1 ∙ found.2))

pub boundary_by_bits : (rows : List (List Read)) (words cuts : List ℕ) (i : ℕ) → AreMirrorWords words rows cuts → ((u : ℕ) → get_or words u 0 < 2 ^ 64) →
    filter (λ u. not (get_or words u 0 == 0)) (range_with_len (low_of cuts i) (high_of cuts i - low_of cuts i)) ≡ boundary_of rows cuts i
boundary_by_bits rows words cuts i bits fits =
    filters_agree (λ u. not (get_or words u 0 == 0)) (is_routed rows cuts) (low_of cuts i) (high_of cuts i - low_of cuts i) (λ v from to. routed_by_word words rows cuts bits v (fits v))

-- ---- all parts

-- what holds of each entry
pub each_position : {X : Type 0} (P : X → Type 0) (n : ℕ) (f : ℕ → X) (xs : List X) → xs ≡ by_position n f → ((i : ℕ) → i < n → P (f i)) → All P xs
each_position P n f xs is each k d inside =
    let few : k < n = omega (arith, ap length is, length_by_position n f) in
    subst P (sym (ap (λ ys. get_or ys k d) is ∙ at_position n f k d few)) (each k few)
