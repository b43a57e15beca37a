-- What stands in a list, and that two rising lists with the same members are one.
use Rattle.std.proofs.Common.{◌≡◌, ℕ, zero, suc, ◌+◌, ◌<◌, Bool, true, false, cond, List, [], ◌∷◌, ◌++◌, map, get_or, arith, inl, inr, refl, ap, sym, ◌∙◌, subst, zero-add, add-zero, eqb-true, eq-eqb}
use Rattle.std.specs.Prelude.{◌==◌, ◌⊎◌, All, Any, Contains, filter}
use Rattle.std.specs.List.{AllPairs, range_with_len}
use Rattle.std.specs.List.Sorted.{IsStrictlyIncreasing}
use Rattle.std.proofs.lemmas.List.{get_or_default}
use Rattle.std.proofs.lemmas.List.FromFn.{get_or-range_with_len, length-range_with_len}
use Rattle.std.proofs.lemmas.List.Folds.{Any-from_list_any, list_any_at}
use Rattle.px_base.specs.Values.{is_listed, positions_below}

-- ---- members of a list and of its rest

pub first : {X : Type 0} (x : X) (xs : List X) → Contains (x ∷ xs) x
first x xs = (0, omega arith, refl)

pub later : {X : Type 0} (x : X) (xs : List X) (a : X) → Contains xs a → Contains (x ∷ xs) a
later x xs a h = (suc h.0, omega arith, h.2)

pub which : {X : Type 0} (x : X) (xs : List X) (a : X) → Contains (x ∷ xs) a → (x ≡ a) ⊎ Contains xs a
which x xs a (zero, below, is) = inl is
which x xs a (suc k, below, is) = inr (k, omega arith, is)

-- what holds of each of a list holds of each that the list has, and the other way round
pub of_member : {X : Type 0} (P : X → Type 0) (xs : List X) (a : X) → All P xs → Contains xs a → P a
of_member P xs a each (k, below, is) = subst P is (each k a below)

pub of_members : {X : Type 0} (P : X → Type 0) (xs : List X) → ((a : X) → Contains xs a → P a) → All P xs
of_members P xs each k d below = each (get_or xs k d) (k, below, get_or_default xs k (get_or xs k d) d below)

-- ---- maps

pub mapped : {X Y : Type 0} (f : X → Y) (xs : List X) (a : X) → Contains xs a → Contains (map f xs) (f a)
mapped f [] a (k, below, is) = absurd (omega arith)
mapped f (x ∷ xs) a h = elim (which x xs a h) [
  | inl same ↦ subst (λ b. Contains (map f (x ∷ xs)) (f b)) same (first (f x) (map f xs))
  | inr rest ↦ later (f x) (map f xs) (f a) (mapped f xs a rest)
]

pub mapped_from : {X Y : Type 0} (f : X → Y) (xs : List X) (b : Y) → Contains (map f xs) b → (a : X) × Contains xs a × (f a ≡ b)
mapped_from f [] b (k, below, is) = absurd (omega arith)
mapped_from f (x ∷ xs) b h = elim (which (f x) (map f xs) b h) [
  | inl same ↦ (x, first x xs, same)
  | inr rest ↦ (let found = mapped_from f xs b rest in (found.0, later x xs found.0 found.1, found.2))
]

-- ---- filters

kept_by : {X : Type 0} (test : X → Bool) (x : X) (xs : List X) (a : X) (b : Bool) → test x ≡ b → (x ≡ a) ⊎ Contains xs a →
    (Contains xs a → Contains (filter test xs) a) → test a ≡ true → Contains (cond b (x ∷ filter test xs) (filter test xs)) a
kept_by test x xs a true is (inl same) rest passes = subst (λ c. Contains (x ∷ filter test xs) c) same (first x (filter test xs))
kept_by test x xs a true is (inr there) rest passes = later x (filter test xs) a (rest there)
kept_by test x xs a false is (inl same) rest passes = absurd (cc)
kept_by test x xs a false is (inr there) rest passes = rest there

pub kept : {X : Type 0} (test : X → Bool) (xs : List X) (a : X) → Contains xs a → test a ≡ true → Contains (filter test xs) a
kept test [] a h passes = h
kept test (x ∷ xs) a h passes = kept_by test x xs a (test x) refl (which x xs a h) (λ there. kept test xs a there passes) passes

kept_from_by : {X : Type 0} (test : X → Bool) (x : X) (xs : List X) (a : X) (b : Bool) → test x ≡ b → (Contains (filter test xs) a → Contains xs a × (test a ≡ true)) →
    Contains (cond b (x ∷ filter test xs) (filter test xs)) a → Contains (x ∷ xs) a × (test a ≡ true)
kept_from_by test x xs a true is rest h = elim (which x (filter test xs) a h) [
  | inl same ↦ (subst (λ c. Contains (x ∷ xs) c) same (first x xs), ap test (sym same) ∙ is)
  | inr there ↦ (later x xs a (rest there).0, (rest there).1)
]
kept_from_by test x xs a false is rest h = (later x xs a (rest h).0, (rest h).1)

pub kept_from : {X : Type 0} (test : X → Bool) (xs : List X) (a : X) → Contains (filter test xs) a → Contains xs a × (test a ≡ true)
kept_from test [] a (k, below, is) = absurd (omega arith)
kept_from test (x ∷ xs) a h = kept_from_by test x xs a (test x) refl (kept_from test xs a) h

-- ---- numbers

pub contains_listed : (items : List ℕ) (k : ℕ) → Contains items k → is_listed items k ≡ true
contains_listed items k (i, below, is) = list_any_at (λ x. x == k) items i k below (rw is (eq-eqb k k refl))

pub listed_contains : (items : List ℕ) (k : ℕ) → is_listed items k ≡ true → Contains items k
listed_contains items k h =
    let found : Any (λ x. (x == k) ≡ true) items = Any-from_list_any (λ x. x == k) items h in
    let same : found.1 ≡ k = eqb-true found.1 k found.4 in
    (found.0, found.2, rw same at found.3)

-- ---- two rising lists with the same members are one

abbrev pub Rises : List ℕ → Type 0
Rises xs = AllPairs (λ x y. x < y) xs

rest_rises : (x : ℕ) (xs : List ℕ) → Rises (x ∷ xs) → Rises xs
rest_rises x xs h i j d before below = h (suc i) (suc j) d (omega arith) (omega arith)

head_is_least : (x : ℕ) (xs : List ℕ) (u : ℕ) → Rises (x ∷ xs) → Contains xs u → x < u
head_is_least x xs u h (k, below, is) = subst (λ (w : ℕ). x < w) is (h zero (suc k) u (omega arith) (omega arith))

same_head : (x : ℕ) (xs : List ℕ) (y : ℕ) (ys : List ℕ) → Rises (x ∷ xs) → Rises (y ∷ ys) → Contains (y ∷ ys) x → Contains (x ∷ xs) y → x ≡ y
same_head x xs y ys h k to from = elim (which y ys x to) [
  | inl same ↦ sym same
  | inr in_rest ↦ elim (which x xs y from) [
    | inl same ↦ same
    | inr other ↦ (let a : y < x = head_is_least y ys x k in_rest in let b : x < y = head_is_least x xs y h other in absurd (omega arith))
  ]
]

-- a later member of a list stands later in a list with the same head too
in_rest : (x : ℕ) (xs : List ℕ) (y : ℕ) (ys : List ℕ) (u : ℕ) → Rises (x ∷ xs) → x ≡ y → Contains xs u → Contains (y ∷ ys) u → Contains ys u
in_rest x xs y ys u h same here there = elim (which y ys u there) [
  | inl is ↦ (let more : x < u = head_is_least x xs u h here in absurd (omega arith))
  | inr found ↦ found
]

pub same_members : (xs ys : List ℕ) → Rises xs → Rises ys → ((u : ℕ) → Contains xs u → Contains ys u) → ((u : ℕ) → Contains ys u → Contains xs u) → xs ≡ ys
same_members [] [] h k to from = refl
same_members [] (y ∷ ys) h k to from = absurd (let none : (from y (first y ys)).0 < 0 = (from y (first y ys)).1 in omega arith)
same_members (x ∷ xs) [] h k to from = absurd (let none : (to x (first x xs)).0 < 0 = (to x (first x xs)).1 in omega arith)
same_members (x ∷ xs) (y ∷ ys) h k to from =
    let same : x ≡ y = same_head x xs y ys h k (to x (first x xs)) (from y (first y ys)) in
    let rest : xs ≡ ys = same_members xs ys (rest_rises x xs h) (rest_rises y ys k)
    (λ u here. in_rest x xs y ys u h same here (to u (later x xs u here)))
    (λ u here. in_rest y ys x xs u k (sym same) here (from u (later y ys u here))) in
    cc

-- ---- ranges

pub range_rises : (a n : ℕ) → IsStrictlyIncreasing (range_with_len a n)
range_rises a n k inside =
    let few : k + 1 < n = omega (arith, length-range_with_len a n) in
    omega (arith, get_or-range_with_len a n k 0 (omega arith), get_or-range_with_len a n (k + 1) 0 few)

-- one number more at the end
pub range_suc : (a n : ℕ) → range_with_len a (suc n) ≡ range_with_len a n ++ (a + n) ∷ []
range_suc a zero = rw add-zero refl
range_suc a (suc n) = let last : a + 1 + n ≡ a + suc n = omega arith in ap (λ rest. a ∷ rest) (range_suc (a + 1) n ∙ ap (λ j. range_with_len (a + 1) n ++ j ∷ []) last)

pub position : (n v : ℕ) → v < n → Contains (positions_below n) v
position n v inside = (v, rw (length-range_with_len 0 n) inside, get_or-range_with_len 0 n v v inside ∙ zero-add v)

pub position_from : (n v : ℕ) → Contains (positions_below n) v → v < n
position_from n v (k, below, is) =
    let inside : k < n = rw (length-range_with_len 0 n) at below in
    omega (arith, inside, is, get_or-range_with_len 0 n k v inside)
