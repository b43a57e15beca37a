-- How often mirrors are told of.
use Rattle.std.proofs.Common.{◌≡◌, ℕ, zero, suc, ◌+◌, ◌<◌, ◌≤◌, ◌≢◌, ◌∙◌, Bool, true, false, cond, List, [], ◌∷◌, ◌++◌, length, get_or, take, map, refl, sym, ap, arith, inl, inr, eqb-true, eq-eqb, Option, Some, None, subst}
use Rattle.std.specs.Prelude.{◌==◌, nat_lt, IfSome, IfNone, filter, sum_by, if◌then◌else◌}
use Rattle.std.specs.List.Sorted.{IsStrictlyIncreasing}
use Rattle.std.proofs.lemmas.List.{append-nil}
use Rattle.std.proofs.lemmas.Bool.Decides.{eqb_tells, nat_tests}
use Rattle.std.proofs.lemmas.List.Folds.{list_any_at}
use Rattle.std.proofs.lemmas.List.Sums.{passes_at_first, sum_by_more, sum_by_more_le, sum_by-le-sum_by, sum_by-take-le}
use Rattle.px_base.proofs.Listed.{not_equal}
use Rattle.px_base.specs.declared.graph.Part.{Part}
use Rattle.px_base.specs.declared.graph.Read.{Read}
use Rattle.px_base.specs.declared.wire.Update.{Update}
use Rattle.px_base.specs.Values.{positions_below, is_listed, place_of, one_if}
use Rattle.px_base.specs.Graphs.{row_at, reads_passing, read_count}
use Rattle.px_base.specs.Parts.{PartFits, is_within}
use Rattle.count_world.specs.Told.{is_place, times_of, reads_of, told_updates}
use Rattle.list_laws.specs.Sets.{IsListOf}
use Rattle.list_laws.proofs.Sums.{sum_suc, passing_within}
use Rattle.list_laws.proofs.Ordered.{differ}

-- ---- where a read's source stands among the mirrors

pub master_is_no_mirror : (part : Part) (u i : ℕ) → PartFits part → is_within part.low part.high u ≡ true → i < length part.mirrors → (u == get_or part.mirrors i 0) ≡ false
master_is_no_mirror part u i fits inside below = not_equal u (get_or part.mirrors i 0) apart
  where
    apart : u ≢ get_or part.mirrors i 0
    apart e = let outside : is_within part.low part.high u ≡ false = rw e (fits.mirrors_outside i 0 below).1 in cc

place_tells : (xs : List ℕ) (u at i : ℕ) → IsStrictlyIncreasing xs → at ≡ place_of xs u → at < length xs → i < length xs → (at == i) ≡ (u == get_or xs i 0)
place_tells xs u at i rising is inside below =
    let found : get_or xs at 0 ≡ u = eqb-true _ _ (rw (← is) at (passes_at_first (λ p. p == u) xs 0 (rw is at inside))) in
    elim (eqb_tells at i) [
      | inl (t, same) ↦ t ∙ sym (eq-eqb u (get_or xs i 0) (sym found ∙ ap (λ k. get_or xs k 0) same))
      | inr (t, apart) ↦ t ∙ sym (not_equal u (get_or xs i 0) (λ e. differ xs rising i at below inside (λ same. apart (sym same)) (found ∙ e)))
    ]

none_there : (xs : List ℕ) (u i : ℕ) → is_listed xs u ≡ false → i < length xs → (u == get_or xs i 0) ≡ false
none_there xs u i none below = not_equal u (get_or xs i 0) apart
  where
    apart : u ≢ get_or xs i 0
    apart e = let there : is_listed xs u ≡ true = list_any_at (λ item. item == u) xs i 0 below (eq-eqb (get_or xs i 0) u (sym e)) in cc

pub found_tells : (xs : List ℕ) (u : ℕ) (r : Option ℕ) → IsStrictlyIncreasing xs → IfSome r (λ at. (at ≡ place_of xs u) × (at < length xs) × (is_listed xs u ≡ true)) → IfNone r (is_listed xs u ≡ false) →
    (i : ℕ) → i < length xs → is_place r i ≡ (u == get_or xs i 0)
found_tells xs u None rising some none i below = sym (none_there xs u i none below)
found_tells xs u (Some at) rising some none i below = place_tells xs u at i rising some.0 some.1 below

-- ---- one read more

pub passing_more : (test : ℕ → Bool) (row : List Read) (i : ℕ) (d : Read) → i < length row → reads_passing test (take (i + 1) row) ≡ reads_passing test (take i row) + one_if (test (get_or row i d).source)
passing_more test row i d below = sum_by_more (λ r. cond (test r.source) 1 0) row i d below

-- ---- rows of members

pub told_within : (rows : List (List Read)) (members : List ℕ) (m : ℕ) → times_of rows members m ≤ reads_of rows members
told_within rows members m = sum_by-le-sum_by (λ k. reads_passing (λ u. u == m) (row_at rows k)) (λ k. length (row_at rows k)) members (λ k. passing_within (λ u. u == m) (row_at rows k))

-- there is room for what a row adds
pub room_for_row : (rows : List (List Read)) (members : List ℕ) (i : ℕ) → i < length members → reads_of rows (take i members) + length (row_at rows (get_or members i 0)) ≤ reads_of rows members
room_for_row rows members i inside = sum_by_more_le (λ k. length (row_at rows k)) members i 0 inside

lengths_within : (rows : List (List Read)) (test : ℕ → Bool) (k : ℕ) → k ≤ length rows → reads_of rows (filter test (positions_below k)) ≤ sum_by (λ row. length row) (take k rows)
lengths_within rows test zero inside = omega arith
lengths_within rows test (suc k) inside =
    let next : k + 1 ≡ suc k = omega arith in
    let all : sum_by (λ row. length row) (take (suc k) rows) ≡ sum_by (λ row. length row) (take k rows) + length (row_at rows k) =
    subst (λ n. sum_by (λ row. length row) (take n rows) ≡ sum_by (λ row. length row) (take k rows) + length (row_at rows k)) next (sum_by_more (λ row. length row) rows k [] (omega arith)) in
    omega (arith, sum_suc (λ j. length (row_at rows j)) test k, all, at_most (test k) (length (row_at rows k)), lengths_within rows test k (omega arith))
  where
    at_most : (b : Bool) (n : ℕ) → (if b then n else 0) ≤ n
    at_most true n = omega arith
    at_most false n = omega arith

-- the rows of some masters have no more reads than all rows
pub few_reads : (rows : List (List Read)) (n most : ℕ) (test : ℕ → Bool) (members : List ℕ) → IsListOf n test members → length rows ≡ n → read_count rows ≤ most → reads_of rows members ≤ most
few_reads rows n most test members lists size few =
    let same : reads_of rows members ≡ reads_of rows (filter test (positions_below n)) = lists (λ k. length (row_at rows k)) in
    omega (arith, same, lengths_within rows test n (omega (arith, size)), sum_by-take-le (λ row. length row) rows n, few)

-- ---- what is told

abbrev pub told_update : (ℕ → ℕ) → ℕ → Update
told_update times m = record { vertex = m; value = times m }

pub told_is : (mirrors : List ℕ) (times : ℕ → ℕ) → told_updates mirrors (map times mirrors) ≡ map (told_update times) (filter (λ m. nat_lt 0 (times m)) mirrors)
told_is [] times = refl
told_is (m ∷ mirrors) times = by_first (nat_lt 0 (times m)) (told_is mirrors times)
  where
    by_first : (b : Bool) → told_updates mirrors (map times mirrors) ≡ map (told_update times) (filter (λ v. nat_lt 0 (times v)) mirrors) →
        (if b then told_update times m ∷ told_updates mirrors (map times mirrors) else told_updates mirrors (map times mirrors))
        ≡ map (told_update times) (if b then m ∷ filter (λ v. nat_lt 0 (times v)) mirrors else filter (λ v. nat_lt 0 (times v)) mirrors)
    by_first true rest = ap (λ us. told_update times m ∷ us) rest
    by_first false rest = rest

-- one mirror more
updates_suc : (mirrors times : List ℕ) (k : ℕ) → k < length mirrors → k < length times →
    told_updates (take (suc k) mirrors) (take (suc k) times) ≡ told_updates (take k mirrors) (take k times) ++ told_updates (get_or mirrors k 0 ∷ []) (get_or times k 0 ∷ [])
updates_suc [] times k inside below = absurd (omega arith)
updates_suc (m ∷ mirrors) [] k inside below = absurd (omega arith)
updates_suc (m ∷ mirrors) (t ∷ times) zero inside below = refl
updates_suc (m ∷ mirrors) (t ∷ times) (suc k) inside below = by_first (nat_lt 0 t) (updates_suc mirrors times k (omega arith) (omega arith))
  where
    by_first : (b : Bool) → told_updates (take (suc k) mirrors) (take (suc k) times) ≡ told_updates (take k mirrors) (take k times) ++ told_updates (get_or mirrors k 0 ∷ []) (get_or times k 0 ∷ []) →
        (if b then record { vertex = m; value = t } ∷ told_updates (take (suc k) mirrors) (take (suc k) times) else told_updates (take (suc k) mirrors) (take (suc k) times))
        ≡ (if b then record { vertex = m; value = t } ∷ told_updates (take k mirrors) (take k times) else told_updates (take k mirrors) (take k times)) ++ told_updates (get_or mirrors k 0 ∷ []) (get_or times k 0 ∷ [])
    by_first true rest = ap (λ us. record { vertex = m; value = t } ∷ us) rest
    by_first false rest = rest

-- one mirror more that is told something
pub told_one : (mirrors times : List ℕ) (k : ℕ) → k < length mirrors → k < length times → 0 < get_or times k 0 →
    told_updates (take (k + 1) mirrors) (take (k + 1) times) ≡ told_updates (take k mirrors) (take k times) ++ record { vertex = get_or mirrors k 0; value = get_or times k 0 } ∷ []
told_one mirrors times k inside below some =
    let next : suc k ≡ k + 1 = omega arith in
    let yes : nat_lt 0 (get_or times k 0) ≡ true = grind (arith, nat_tests) in
    subst (λ n. told_updates (take n mirrors) (take n times) ≡ told_updates (take k mirrors) (take k times) ++ record { vertex = get_or mirrors k 0; value = get_or times k 0 } ∷ []) next
    (updates_suc mirrors times k inside below ∙ ap (λ b. told_updates (take k mirrors) (take k times) ++ (if b then record { vertex = get_or mirrors k 0; value = get_or times k 0 } ∷ [] else [])) yes)

-- one that is told nothing
pub told_none : (mirrors times : List ℕ) (k : ℕ) → k < length mirrors → k < length times → get_or times k 0 ≤ 0 →
    told_updates (take (k + 1) mirrors) (take (k + 1) times) ≡ told_updates (take k mirrors) (take k times)
told_none mirrors times k inside below none =
    let next : suc k ≡ k + 1 = omega arith in
    let no : nat_lt 0 (get_or times k 0) ≡ false = grind (arith, nat_tests) in
    subst (λ n. told_updates (take n mirrors) (take n times) ≡ told_updates (take k mirrors) (take k times)) next
    (updates_suc mirrors times k inside below ∙ ap (λ b. told_updates (take k mirrors) (take k times) ++ (if b then record { vertex = get_or mirrors k 0; value = get_or times k 0 } ∷ [] else [])) no ∙ append-nil (told_updates (take k mirrors) (take k times)))
