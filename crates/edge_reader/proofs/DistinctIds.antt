-- How many different ids there are.
use Rattle.std.proofs.Common.{◌≡◌, ℕ, suc, ◌+◌, ◌<◌, Bool, true, false, not, ◌||◌, cond, List, [], ◌∷◌, length, refl, sym, ap, ◌∙◌, arith, get_or}
use Rattle.std.specs.Prelude.{◌==◌, ⊤, ◌↔◌, Contains, filter}
use Rattle.std.specs.List.{AllPairs}
use Rattle.std.specs.List.Sorted.{IsStrictlyIncreasing}
use Rattle.std.proofs.lemmas.Bool.{eqb-true, eq-eqb}
use Rattle.std.proofs.lemmas.Bool.Decides.{nat_tests}
use Rattle.std.proofs.lemmas.List.Kept.{AllPairs-from_increasing}
use Rattle.px_base.specs.Values.{is_listed}
use Rattle.px_base.specs.Inputs.{distinct_count}
use Rattle.px_base.proofs.Members.{contains_listed, listed_contains}

-- ---- standing in a list

same_by : (xs ys : List ℕ) (k : ℕ) → (Contains xs k ↔ Contains ys k) → (s t : Bool) → is_listed xs k ≡ s → is_listed ys k ≡ t → s ≡ t
same_by xs ys k h true true e f = refl
same_by xs ys k h false false e f = refl
same_by xs ys k h true false e f = let out : is_listed ys k ≡ true = contains_listed ys k (h.0 (listed_contains xs k e)) in cc
same_by xs ys k h false true e f = let out : is_listed xs k ≡ true = contains_listed xs k (h.1 (listed_contains ys k f)) in cc

same_listed : (xs ys : List ℕ) (k : ℕ) → (Contains xs k ↔ Contains ys k) → is_listed xs k ≡ is_listed ys k
same_listed xs ys k h = same_by xs ys k h (is_listed xs k) (is_listed ys k) refl refl

-- ---- a list without one number

abbrev others : ℕ → List ℕ → List ℕ
others x items = filter (λ y. not (y == x)) items

-- no number stands in it twice
abbrev IsOnceEach : List ℕ → Type 0
IsOnceEach [] = ⊤
IsOnceEach (x ∷ xs) = (is_listed xs x ≡ false) × IsOnceEach xs

-- where x is taken out, y other than x stays
stays_at : (x y z : ℕ) (zs : List ℕ) (t : Bool) → (z == x) ≡ t → (y == x) ≡ false → is_listed (others x zs) y ≡ is_listed zs y → is_listed (others x (z ∷ zs)) y ≡ is_listed (z ∷ zs) y
stays_at x y z zs true e other rest = let same : z ≡ x = eqb-true z x e in let out : (z == y) ≡ false = grind (arith, nat_tests) in rw (e, out) rest
stays_at x y z zs false e other rest = rw e (ap (λ r. z == y || r) rest)

others_stay : (x y : ℕ) (zs : List ℕ) → (y == x) ≡ false → is_listed (others x zs) y ≡ is_listed zs y
others_stay x y [] other = refl
others_stay x y (z ∷ zs) other = stays_at x y z zs (z == x) refl other (others_stay x y zs other)

gone_at : (x z : ℕ) (zs : List ℕ) (t : Bool) → (z == x) ≡ t → is_listed (others x zs) x ≡ false → is_listed (others x (z ∷ zs)) x ≡ false
gone_at x z zs true e rest = rw e rest
gone_at x z zs false e rest = rw (e, e) rest

gone : (x : ℕ) (zs : List ℕ) → is_listed (others x zs) x ≡ false
gone x [] = refl
gone x (z ∷ zs) = gone_at x z zs (z == x) refl (gone x zs)

once_at : (x z : ℕ) (zs : List ℕ) (t : Bool) → (z == x) ≡ t → is_listed zs z ≡ false → IsOnceEach (others x zs) → IsOnceEach (others x (z ∷ zs))
once_at x z zs true e out rest = rw e rest
once_at x z zs false e out rest = rw e (others_stay x z zs e ∙ out, rest)

others_once : (x : ℕ) (zs : List ℕ) → IsOnceEach zs → IsOnceEach (others x zs)
others_once x [] h = tt
others_once x (z ∷ zs) h = once_at x z zs (z == x) refl h.0 (others_once x zs h.1)

all_at : (x z : ℕ) (zs : List ℕ) (t : Bool) → (z == x) ≡ t → (t || is_listed zs x) ≡ false → (is_listed zs x ≡ false → others x zs ≡ zs) → others x (z ∷ zs) ≡ z ∷ zs
all_at x z zs true e out rest = absurd (let wrong : true ≡ false = out in cc)
all_at x z zs false e out rest = rw e (ap (λ l. z ∷ l) (rest out))

all_stay : (x : ℕ) (zs : List ℕ) → is_listed zs x ≡ false → others x zs ≡ zs
all_stay x [] out = refl
all_stay x (z ∷ zs) out = all_at x z zs (z == x) refl out (all_stay x zs)

one_less_at : (x z : ℕ) (zs : List ℕ) (t : Bool) → (z == x) ≡ t → is_listed zs z ≡ false → (t || is_listed zs x) ≡ true → (is_listed zs x ≡ true → 1 + length (others x zs) ≡ length zs) → 1 + length (others x (z ∷ zs)) ≡ length (z ∷ zs)
one_less_at x z zs true e out found rest =
    let same : z ≡ x = eqb-true z x e in
    let stay : others x zs ≡ zs = all_stay x zs (rw same at out) in
    rw (e, stay) (omega arith)
one_less_at x z zs false e out found rest = rw e (omega (arith, rest found))

one_less : (x : ℕ) (zs : List ℕ) → IsOnceEach zs → is_listed zs x ≡ true → 1 + length (others x zs) ≡ length zs
one_less x [] h found = absurd (let wrong : false ≡ true = found in cc)
one_less x (z ∷ zs) h found = one_less_at x z zs (z == x) refl h.0 found (one_less x zs h.1)

-- ---- the count

none_listed : (ids : List ℕ) → ((y : ℕ) → is_listed ids y ≡ false) → 0 ≡ length ids
none_listed [] h = refl
none_listed (z ∷ zs) h = absurd (let here : (z == z) ≡ true = eq-eqb z z refl in let out : is_listed (z ∷ zs) z ≡ false = h z in let yes : is_listed (z ∷ zs) z ≡ true = rw here refl in cc)

-- the same members where the first of them stands further on too
again : (x y : ℕ) (xs : List ℕ) (t : Bool) → (x == y) ≡ t → is_listed xs x ≡ true → (t || is_listed xs y) ≡ is_listed xs y
again x y xs true e h = let same : x ≡ y = eqb-true x y e in sym (rw same at h)
again x y xs false e h = refl

-- the same members where the first is taken out
taken_out : (x y : ℕ) (ids xs : List ℕ) (t : Bool) → (y == x) ≡ t → is_listed xs x ≡ false → is_listed ids y ≡ is_listed (x ∷ xs) y → is_listed (others x ids) y ≡ is_listed xs y
taken_out x y ids xs true e out h = let same : y ≡ x = eqb-true y x e in rw same (gone x ids ∙ sym out)
taken_out x y ids xs false e out h = let other : (x == y) ≡ false = grind (arith, nat_tests) in others_stay x y ids e ∙ h ∙ ap (λ t. t || is_listed xs y) other

count_at : (x : ℕ) (xs ids : List ℕ) (t : Bool) → is_listed xs x ≡ t → IsOnceEach ids → ((y : ℕ) → is_listed ids y ≡ is_listed (x ∷ xs) y) →
    ((more : List ℕ) → IsOnceEach more → ((y : ℕ) → is_listed more y ≡ is_listed xs y) → distinct_count xs ≡ length more) → distinct_count (x ∷ xs) ≡ length ids
count_at x xs ids true e once same rest = ap (λ t. cond t 0 1 + distinct_count xs) e ∙ omega (arith, rest ids once (λ y. same y ∙ again x y xs (x == y) refl e))
count_at x xs ids false e once same rest =
    let here : (x == x) ≡ true = eq-eqb x x refl in
    let found : is_listed ids x ≡ true = same x ∙ ap (λ t. t || is_listed xs x) here in
    ap (λ t. cond t 0 1 + distinct_count xs) e ∙ omega (arith, rest (others x ids) (others_once x ids once) (λ y. taken_out x y ids xs (y == x) refl e (same y)), one_less x ids once found)

count_is : (xs ids : List ℕ) → IsOnceEach ids → ((y : ℕ) → is_listed ids y ≡ is_listed xs y) → distinct_count xs ≡ length ids
count_is [] ids once same = none_listed ids same
count_is (x ∷ xs) ids once same = count_at x xs ids (is_listed xs x) refl once same (λ more. count_is xs more)

-- ---- rising lists

rising_by : (x : ℕ) (xs : List ℕ) (t : Bool) → is_listed xs x ≡ t → AllPairs (λ a b. a < b) (x ∷ xs) → t ≡ false
rising_by x xs true e pairs =
    let found : Contains xs x = listed_contains xs x e in
    let less : x < get_or xs found.0 x = pairs 0 (suc found.0) x (omega arith) (omega (arith, found.1)) in
    absurd (omega (arith, found.2))
rising_by x xs false e pairs = refl

rising_once : (xs : List ℕ) → AllPairs (λ a b. a < b) xs → IsOnceEach xs
rising_once [] pairs = tt
rising_once (x ∷ xs) pairs = (rising_by x xs (is_listed xs x) refl pairs, rising_once xs (λ i j d below inside. pairs (suc i) (suc j) d (omega arith) (omega arith)))

-- the rising list of the members of a list is as long as the list has different members
pub distinct_is : (xs ids : List ℕ) → IsStrictlyIncreasing ids → ((x : ℕ) → Contains ids x ↔ Contains xs x) → distinct_count xs ≡ length ids
distinct_is xs ids rising members = count_is xs ids (rising_once ids (AllPairs-from_increasing ids rising)) (λ y. same_listed ids xs y (members y))
