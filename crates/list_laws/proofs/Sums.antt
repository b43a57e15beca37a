-- Sums over lists of places, and lists of a set in any order.
use Rattle.std.proofs.Common.{◌≡◌, ℕ, zero, suc, ◌+◌, ◌-◌, ◌<◌, ◌≤◌, ◌≢◌, ◌∙◌, Bool, true, false, cond, List, [], ◌∷◌, ◌++◌, length, get_or, refl, sym, ap, arith, inl, inr, add-zero, zero-add, eq-eqb, length-append}
use Rattle.std.specs.Prelude.{◌==◌, ◌&&◌, ◌||◌, not, nat_lt, All, filter, sum_by, if◌then◌else◌}
use Rattle.std.specs.List.{range_with_len, list_any}
use Rattle.std.proofs.lemmas.Bool.Decides.{eqb_tells, nat_tests}
use Rattle.std.proofs.lemmas.List.Elements.{filter-append}
use Rattle.std.proofs.lemmas.List.Sums.{sum_by-append, sum_by-cons, get_or-le-sum_by, count_by-le-length}
use Rattle.px_base.specs.declared.graph.Read.{Read}
use Rattle.px_base.specs.Values.{positions_below, is_listed, one_if}
use Rattle.px_base.specs.Graphs.{reads_passing}
use Rattle.px_base.specs.Parts.{is_within}
use Rattle.px_base.proofs.Listed.{not_equal}
use Rattle.px_base.proofs.Members.{range_suc}
use Rattle.px_base.proofs.Ranges.{within_bounds}
use Rattle.list_laws.specs.Sets.{IsListOf}
use Rattle.list_laws.proofs.Sets.{filter_same}

-- ---- sums

pub sum_same : {X : Type 0} (f g : X → ℕ) → ((x : X) → f x ≡ g x) → (xs : List X) → sum_by f xs ≡ sum_by g xs
sum_same f g same [] = refl
sum_same f g same (x ∷ xs) = omega (arith, sum_by-cons f x xs, sum_by-cons g x xs, same x, sum_same f g same xs)

sum_plus : {X : Type 0} (f g : X → ℕ) (xs : List X) → sum_by (λ x. f x + g x) xs ≡ sum_by f xs + sum_by g xs
sum_plus f g [] = refl
sum_plus f g (x ∷ xs) = omega (arith, sum_by-cons (λ y. f y + g y) x xs, sum_by-cons f x xs, sum_by-cons g x xs, sum_plus f g xs)

pub sum_zero : {X : Type 0} (xs : List X) → sum_by (λ x. 0) xs ≡ 0
sum_zero [] = refl
sum_zero (x ∷ xs) = omega (arith, sum_by-cons (λ y. 0) x xs, sum_zero xs)

-- ---- one master more

pub filter_suc : (test : ℕ → Bool) (n : ℕ) → filter test (positions_below (suc n)) ≡ filter test (positions_below n) ++ (if test n then n ∷ [] else [])
filter_suc test n =
    let last : 0 + n ≡ n = omega arith in
    ap (λ ks. filter test ks) (range_suc 0 n ∙ ap (λ j. range_with_len 0 n ++ j ∷ []) last)
    ∙ filter-append test (positions_below n) (n ∷ [])

pub filter_more : (test : ℕ → Bool) (n : ℕ) → filter test (positions_below (n + 1)) ≡ filter test (positions_below n) ++ (if test n then n ∷ [] else [])
filter_more test n = let next : n + 1 ≡ suc n = omega arith in ap (λ m. filter test (positions_below m)) next ∙ filter_suc test n

sum_last : (b : Bool) (f : ℕ → ℕ) (k : ℕ) → sum_by f (if b then k ∷ [] else []) ≡ (if b then f k else 0)
sum_last true f k = omega arith
sum_last false f k = refl

pub sum_suc : (f : ℕ → ℕ) (test : ℕ → Bool) (n : ℕ) → sum_by f (filter test (positions_below (suc n))) ≡ sum_by f (filter test (positions_below n)) + (if test n then f n else 0)
sum_suc f test n =
    ap (λ ks. sum_by f ks) (filter_suc test n)
    ∙ sum_by-append f (filter test (positions_below n)) (if test n then n ∷ [] else [])
    ∙ ap (λ m. sum_by f (filter test (positions_below n)) + m) (sum_last (test n) f n)

-- ---- a sum that asks for one place

pub one_at : (test : ℕ → Bool) (a n u : ℕ) → sum_by (λ k. one_if (u == a + k)) (filter test (positions_below n)) ≡ one_if (is_within a (a + n) u && test (u - a))
one_at test a zero u = sym (by_range (is_within a (a + 0) u) refl)
  where
    by_range : (b : Bool) → is_within a (a + 0) u ≡ b → one_if (b && test (u - a)) ≡ 0
    by_range true is = (let bounds = within_bounds a (a + 0) u is in absurd (omega (arith, bounds.0, bounds.1)))
    by_range false is = refl
one_at test a (suc n) u = sum_suc (λ k. one_if (u == a + k)) test n ∙ ap (λ m. m + (if test n then one_if (u == a + n) else 0)) (one_at test a n u) ∙ last
  where
    none : (b : Bool) (z : ℕ) → (if b then z else z) ≡ z
    none true z = refl
    none false z = refl

    within_more : (u ≢ a + n) → is_within a (a + suc n) u ≡ is_within a (a + n) u
    within_more apart = grind (arith, nat_tests)

    last : one_if (is_within a (a + n) u && test (u - a)) + (if test n then one_if (u == a + n) else 0) ≡ one_if (is_within a (a + suc n) u && test (u - a))
    last = elim (eqb_tells u (a + n)) [
      | inl (t, same) ↦
          let out : is_within a (a + n) u ≡ false = grind (arith, nat_tests) in
          let inn : is_within a (a + suc n) u ≡ true = grind (arith, nat_tests) in
          let place : u - a ≡ n = omega arith in
          rw (out, inn, t, place) (zero-add (one_if (test n)))
      | inr (t, apart) ↦ rw (t, within_more apart, none (test n) 0) (omega arith)
    ]

-- no more reads pass than there are
pub passing_within : (test : ℕ → Bool) (row : List Read) → reads_passing test row ≤ length row
passing_within test row = count_by-le-length (λ (r : Read). test r.source) row

-- what a row reads of the masters that pass the test, summed up by master
pub row_by_master : (test : ℕ → Bool) (a n : ℕ) (row : List Read) →
    sum_by (λ k. reads_passing (λ u. u == a + k) row) (filter test (positions_below n)) ≡ reads_passing (λ u. is_within a (a + n) u && test (u - a)) row
row_by_master test a n [] = sum_zero (filter test (positions_below n))
row_by_master test a n (r ∷ row) =
    sum_same (λ k. reads_passing (λ u. u == a + k) (r ∷ row)) (λ k. one_if (r.source == a + k) + reads_passing (λ u. u == a + k) row)
    (λ k. sum_by-cons (λ x. cond (x.source == a + k) 1 0) r row) (filter test (positions_below n))
    ∙ sum_plus (λ k. one_if (r.source == a + k)) (λ k. reads_passing (λ u. u == a + k) row) (filter test (positions_below n))
    ∙ ap (λ m. m + sum_by (λ k. reads_passing (λ u. u == a + k) row) (filter test (positions_below n))) (one_at test a n r.source)
    ∙ ap (λ m. one_if (is_within a (a + n) r.source && test (r.source - a)) + m) (row_by_master test a n row)
    ∙ sym (sum_by-cons (λ x. cond (is_within a (a + n) x.source && test (x.source - a)) 1 0) r row)

-- ---- lists of masters

-- how often a master stands in a list of some that pass
times_listed : (n : ℕ) (test : ℕ → Bool) (members : List ℕ) (k : ℕ) → IsListOf n test members → sum_by (λ x. one_if (x == k)) members ≡ one_if (nat_lt k n && test k)
times_listed n test members k lists =
    sum_same (λ x. one_if (x == k)) (λ x. one_if (k == 0 + x)) (λ x. ap one_if (turned x)) members
    ∙ lists (λ x. one_if (k == 0 + x))
    ∙ one_at test 0 n k
    ∙ ap (λ b. one_if (b && test (k - 0))) within
    ∙ ap (λ m. one_if (nat_lt k n && test m)) from_zero
  where
    from_zero : k - 0 ≡ k
    from_zero = omega arith

    turned : (x : ℕ) → (x == k) ≡ (k == 0 + x)
    turned x = grind (arith, nat_tests)

    within : is_within 0 (0 + n) k ≡ nat_lt k n
    within = grind (arith, nat_tests)

listed_by_times : (members : List ℕ) (k : ℕ) → is_listed members k ≡ nat_lt 0 (sum_by (λ x. one_if (x == k)) members)
listed_by_times [] k = refl
listed_by_times (x ∷ members) k = by_first (x == k) (listed_by_times members k) ∙ ap (λ m. nat_lt 0 m) (sym (sum_by-cons (λ y. one_if (y == k)) x members))
  where
    by_first : (b : Bool) → is_listed members k ≡ nat_lt 0 (sum_by (λ y. one_if (y == k)) members) → (b || is_listed members k) ≡ nat_lt 0 (one_if b + sum_by (λ y. one_if (y == k)) members)
    by_first true rest = let one : 0 < 1 + sum_by (λ y. one_if (y == k)) members = omega arith in grind (arith, nat_tests)
    by_first false rest = rest ∙ ap (λ m. nat_lt 0 m) (sym (zero-add (sum_by (λ y. one_if (y == k)) members)))

pub listed_is : (n : ℕ) (test : ℕ → Bool) (members : List ℕ) (k : ℕ) → IsListOf n test members → k < n → is_listed members k ≡ test k
listed_is n test members k lists below =
    listed_by_times members k ∙ ap (λ m. nat_lt 0 m) (times_listed n test members k lists)
    ∙ (let inside : nat_lt k n ≡ true = grind (arith, nat_tests) in rw inside (positive (test k)))
  where
    positive : (b : Bool) → nat_lt 0 (one_if b) ≡ b
    positive true = refl
    positive false = refl

outside_none : (test : ℕ → Bool) (m n : ℕ) → m ≤ n → sum_by (λ x. one_if (not (nat_lt x n))) (filter test (positions_below m)) ≡ 0
outside_none test zero n low = refl
outside_none test (suc m) n low =
    let inside : nat_lt m n ≡ true = grind (arith, nat_tests) in
    let here : one_if (not (nat_lt m n)) ≡ 0 = ap (λ b. one_if (not b)) inside in
    omega (arith, sum_suc (λ x. one_if (not (nat_lt x n))) test m, outside_none test m n (omega arith), none (test m) (one_if (not (nat_lt m n))) here)
  where
    none : (b : Bool) (x : ℕ) → x ≡ 0 → (if b then x else 0) ≡ 0
    none true x is = is
    none false x is = refl

pub listed_inside : (n : ℕ) (test : ℕ → Bool) (members : List ℕ) → IsListOf n test members → All (λ k. k < n) members
listed_inside n test members lists = λ i d below. by_test (get_or members i d) (nat_lt (get_or members i d) n) refl (omega (arith, get_or-le-sum_by (λ x. one_if (not (nat_lt x n))) members i d below, lists (λ x. one_if (not (nat_lt x n))), outside_none test n n (omega arith)))
  where
    by_test : (k : ℕ) (b : Bool) → nat_lt k n ≡ b → one_if (not (nat_lt k n)) ≤ 0 → k < n
    by_test k true is none = grind (arith, nat_tests)
    by_test k false is none = let one : one_if (not (nat_lt k n)) ≡ 1 = rw is refl in absurd (omega arith)

-- what two lists have together, of masters that are on one of them at most
pub joined : (f : ℕ → ℕ) (one other both : ℕ → Bool) (n : ℕ) → ((k : ℕ) → k < n → both k ≡ (one k || other k)) → ((k : ℕ) → k < n → (one k && other k) ≡ false) →
    sum_by f (filter one (positions_below n)) + sum_by f (filter other (positions_below n)) ≡ sum_by f (filter both (positions_below n))
joined f one other both zero is apart = refl
joined f one other both (suc n) is apart =
    omega (
      arith,
      sum_suc f one n,
      sum_suc f other n,
      sum_suc f both n,
      joined f one other both n (λ k low. is k (omega arith)) (λ k low. apart k (omega arith)),
      here (one n) (other n) (both n) (is n (omega arith)) (apart n (omega arith)),
    )
  where
    here : (a b c : Bool) → c ≡ (a || b) → (a && b) ≡ false → (if a then f n else 0) + (if b then f n else 0) ≡ (if c then f n else 0)
    here true true c same none = cc
    here true false c same none = rw same (omega arith)
    here false true c same none = rw same (omega arith)
    here false false c same none = rw same refl

pub none_listed : (n : ℕ) → filter (λ k. false) (positions_below n) ≡ []
none_listed zero = refl
none_listed (suc n) = filter_suc (λ k. false) n ∙ ap (λ ks. ks ++ []) (none_listed n)

-- sums of what agrees at the first n
pub below_same : (n : ℕ) (f g : ℕ → ℕ) (test : ℕ → Bool) → ((k : ℕ) → k < n → f k ≡ g k) → sum_by f (filter test (positions_below n)) ≡ sum_by g (filter test (positions_below n))
below_same zero f g test same = refl
below_same (suc n) f g test same =
    sum_suc f test n
    ∙ ap (λ m. m + (if test n then f n else 0)) (below_same n f g test (λ k low. same k (omega arith)))
    ∙ ap (λ m. sum_by g (filter test (positions_below n)) + (if test n then m else 0)) (same n (omega arith))
    ∙ sym (sum_suc g test n)

-- a list of none adds up to nothing
pub sum_none : (f : ℕ → ℕ) (n : ℕ) (members : List ℕ) → IsListOf n (λ k. false) members → sum_by f members ≡ 0
sum_none f n members lists = lists f ∙ ap (λ ks. sum_by f ks) (none_listed n)

-- ---- whether some pass

pub length_summed : {X : Type 0} (xs : List X) → sum_by (λ x. 1) xs ≡ length xs
length_summed [] = refl
length_summed (x ∷ xs) = omega (arith, sum_by-cons (λ y. 1) x xs, length_summed xs)

any_counted : (test : ℕ → Bool) (ks : List ℕ) → list_any test ks ≡ not (length (filter test ks) == 0)
any_counted test [] = refl
any_counted test (k ∷ ks) = by_first (test k) (any_counted test ks)
  where
    by_first : (b : Bool) → list_any test ks ≡ not (length (filter test ks) == 0) → (b || list_any test ks) ≡ not (length (if b then k ∷ filter test ks else filter test ks) == 0)
    by_first true rest = let apart : (length (k ∷ filter test ks) == 0) ≡ false = not_equal (length (k ∷ filter test ks)) 0 (λ e. omega (arith, e)) in ap not (sym apart)
    by_first false rest = rest

pub some_listed : (n : ℕ) (test : ℕ → Bool) (members : List ℕ) → IsListOf n test members → not (length members == 0) ≡ list_any test (positions_below n)
some_listed n test members lists =
    ap (λ m. not (m == 0)) (sym (length_summed members) ∙ lists (λ k. 1) ∙ length_summed (filter test (positions_below n)))
    ∙ sym (any_counted test (positions_below n))

pub filter_within : (test : ℕ → Bool) (n : ℕ) → length (filter test (positions_below n)) ≤ n
filter_within test zero = omega arith
filter_within test (suc n) = omega (arith, filter_within test n, ap length (filter_suc test n), length-append (filter test (positions_below n)) (if test n then n ∷ [] else []), one_at_most (test n))
  where
    one_at_most : (b : Bool) → length (if b then n ∷ [] else []) ≤ 1
    one_at_most true = omega arith
    one_at_most false = omega arith

-- ---- one more on the list

single : (f : ℕ → ℕ) (b : Bool) (k n : ℕ) → sum_by f (filter (λ j. (j == k) && b) (positions_below n)) ≡ (if nat_lt k n && b then f k else 0)
single f b k zero = let none : nat_lt k zero ≡ false = grind (arith, nat_tests) in rw none refl
single f b k (suc n) = elim (eqb_tells n k) [
  | inl (t, same) ↦
      let before : nat_lt k n ≡ false = grind (arith, nat_tests) in
      let after : nat_lt k (suc n) ≡ true = grind (arith, nat_tests) in
      sum_suc f (λ j. (j == k) && b) n ∙ rw (single f b k n, t, before, after) (zero-add (if b then f n else 0) ∙ ap (λ j. if b then f j else 0) same)
  | inr (t, apart) ↦
      let still : nat_lt k (suc n) ≡ nat_lt k n = grind (arith, nat_tests) in
      sum_suc f (λ j. (j == k) && b) n ∙ rw (single f b k n, t, still) (add-zero (if nat_lt k n && b then f k else 0))
]

-- the list with one more, who passes now and didn't before
pub one_more : (n k : ℕ) (one both : ℕ → Bool) (b : Bool) (members : List ℕ) → k < n → IsListOf n one members → (one k && b) ≡ false → both k ≡ (one k || b) →
    ((j : ℕ) → j < n → j ≢ k → both j ≡ one j) → IsListOf n both (members ++ (if b then k ∷ [] else []))
one_more n k one both b members inside lists apart here others f =
    sum_by-append f members (if b then k ∷ [] else [])
    ∙ ap (λ m. m + sum_by f (if b then k ∷ [] else [])) (lists f)
    ∙ ap (λ m. sum_by f (filter one (positions_below n)) + m) (sum_last b f k ∙ sym (single f b k n ∙ ap (λ t. if t && b then f k else 0) below))
    ∙ joined f one (λ j. (j == k) && b) both n is_both never
  where
    eqb_refl : (x : ℕ) → (x == x) ≡ true
    eqb_refl x = eq-eqb x x refl

    below : nat_lt k n ≡ true
    below = grind (arith, nat_tests)

    or_none : (t : Bool) → t ≡ (t || false)
    or_none true = refl
    or_none false = refl

    and_none : (t : Bool) → (t && false) ≡ false
    and_none true = refl
    and_none false = refl

    is_both : (j : ℕ) → j < n → both j ≡ (one j || ((j == k) && b))
    is_both j low = elim (eqb_tells j k) [
      | inl (t, same) ↦ rw (same, eqb_refl k) here
      | inr (t, away) ↦ others j low away ∙ rw t (or_none (one j))
    ]

    never : (j : ℕ) → j < n → (one j && ((j == k) && b)) ≡ false
    never j low = elim (eqb_tells j k) [
      | inl (t, same) ↦ rw (same, eqb_refl k) apart
      | inr (t, away) ↦ rw t (and_none (one j))
    ]

-- there is room for one more
pub room_for_one : (n k : ℕ) (test : ℕ → Bool) (members : List ℕ) → IsListOf n test members → k < n → test k ≡ false → length members < n
room_for_one n k test members lists below fails =
    let more : IsListOf n (λ j. test j || (j == k)) (members ++ k ∷ []) = one_more n k test (λ j. test j || (j == k)) true members below lists
    (rw fails refl) (ap (λ b. test k || b) (eq-eqb k k refl)) (λ j low away. rw (not_equal j k away) (or_none (test j))) in
    let many : length (members ++ k ∷ []) ≡ length (filter (λ j. test j || (j == k)) (positions_below n)) =
    sym (length_summed (members ++ k ∷ [])) ∙ more (λ j. 1) ∙ length_summed (filter (λ j. test j || (j == k)) (positions_below n)) in
    omega (arith, many, length-append members (k ∷ []), filter_within (λ j. test j || (j == k)) n)
  where
    or_none : (t : Bool) → (t || false) ≡ t
    or_none true = refl
    or_none false = refl

-- nobody is listed where nobody passes
pub none_list : (n : ℕ) (test : ℕ → Bool) → ((k : ℕ) → k < n → test k ≡ false) → IsListOf n test []
none_list n test fails f = sym (ap (λ ks. sum_by f ks) (filter_same test (λ k. false) n fails ∙ none_listed n))

pub listed_few : (n : ℕ) (test : ℕ → Bool) (members : List ℕ) → IsListOf n test members → length members ≤ n
listed_few n test members lists =
    let many : length members ≡ length (filter test (positions_below n)) = sym (length_summed members) ∙ lists (λ j. 1) ∙ length_summed (filter test (positions_below n)) in
    omega (arith, many, filter_within test n)
