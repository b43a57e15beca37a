-- After as many layers as there are vertices only the core is left.
use Rattle.std.proofs.Common.{◌≡◌, ℕ, zero, suc, ◌+◌, ◌<◌, ◌≤◌, Bool, true, false, List, [], ◌∷◌, length, get_or, refl, sym, ap, ◌∙◌, arith, inl, inr}
use Rattle.std.specs.Prelude.{◌⊎◌, ◌&&◌, nat_le, slice_index}
use Rattle.std.specs.List.{AllByRecursion}
use Rattle.std.proofs.lemmas.Bool.{cases_lt, leb-true, leb-false, le-leb, eqb-true}
use Rattle.std.proofs.lemmas.List.{get_or_past}
use Rattle.std.proofs.lemmas.List.Elements.{recursion_from_All}
use Rattle.px_base.specs.declared.graph.Read.{Read}
use Rattle.px_base.specs.Values.{by_position, is_in, one_if}
use Rattle.px_base.specs.Graphs.{RowsFit, row_at, reads_passing}
use Rattle.px_base.specs.Answers.{IsKCore, SupportsItself}
use Rattle.px_base.proofs.Positions.{length_by_position}
use Rattle.step_laws.proofs.Counting.{passing_cons}
use Rattle.settling_laws.specs.Settling.{is_left}
use Rattle.settling_laws.proofs.Numbers.{count_below, count_most, fewer, some_passes}
use Rattle.list_laws.proofs.Sets.{flag_is}

and_first : (a b : Bool) → (a && b) ≡ true → a ≡ true
and_first true b h = refl
and_first false b h = h

and_second : (a b : Bool) → (a && b) ≡ true → b ≡ true
and_second true b h = h
and_second false b h = absurd (cc h)

-- ---- how many reads pass

-- where those that pass p pass q, at most as many pass p
pub passing_grows : (p q : ℕ → Bool) (row : List Read) → AllByRecursion (λ r. p r.source ≡ true → q r.source ≡ true) row → reads_passing p row ≤ reads_passing q row
passing_grows p q [] each = omega arith
passing_grows p q (r ∷ row) each = omega (arith, passing_cons p r row, passing_cons q r row, by_flags (p r.source) (q r.source) each.0, passing_grows p q row each.1)
  where
    by_flags : (a b : Bool) → (a ≡ true → b ≡ true) → one_if a ≤ one_if b
    by_flags true b more = let is : one_if b ≡ 1 = ap one_if (more refl) in omega (arith, is)
    by_flags false b more = omega arith

-- each read passes one of three tests
pub passing_covers : (p q r : ℕ → Bool) (row : List Read) → AllByRecursion (λ x. (p x.source ≡ true) ⊎ ((q x.source ≡ true) ⊎ (r x.source ≡ true))) row → length row ≤ reads_passing p row + reads_passing q row + reads_passing r row
passing_covers p q r [] each = omega arith
passing_covers p q r (x ∷ row) each = omega (arith, passing_cons p x row, passing_cons q x row, passing_cons r x row, by_case each.0, passing_covers p q r row each.1)
  where
    by_case : (p x.source ≡ true) ⊎ ((q x.source ≡ true) ⊎ (r x.source ≡ true)) → 1 ≤ one_if (p x.source) + one_if (q x.source) + one_if (r x.source)
    by_case (inl is) = let one : one_if (p x.source) ≡ 1 = ap one_if is in omega (arith, one)
    by_case (inr (inl is)) = let one : one_if (q x.source) ≡ 1 = ap one_if is in omega (arith, one)
    by_case (inr (inr is)) = let one : one_if (r x.source) ≡ 1 = ap one_if is in omega (arith, one)

-- a test that passes all passes the whole row
pub passing_whole : (p : ℕ → Bool) (row : List Read) → ((u : ℕ) → p u ≡ true) → reads_passing p row ≡ length row
passing_whole p [] all = refl
passing_whole p (r ∷ row) all = let one : one_if (p r.source) ≡ 1 = ap one_if (all r.source) in omega (arith, passing_cons p r row, one, passing_whole p row all)

-- ---- layers

-- who is no longer left was gone before, or had too few reads of those that were left
pub gone_before : (rows : List (List Read)) (needed k v : ℕ) → is_left rows needed (suc k) v ≡ false → (is_left rows needed k v ≡ false) ⊎ (reads_passing (is_left rows needed k) (row_at rows v) < needed)
gone_before rows needed k v gone = by_test (is_left rows needed k v) (nat_le needed (reads_passing (is_left rows needed k) (row_at rows v))) refl refl gone
  where
    by_test : (a b : Bool) → is_left rows needed k v ≡ a → nat_le needed (reads_passing (is_left rows needed k) (row_at rows v)) ≡ b → (a && b) ≡ false → (is_left rows needed k v ≡ false) ⊎ (reads_passing (is_left rows needed k) (row_at rows v) < needed)
    by_test false b is few gone = inl is
    by_test true false is few gone = inr (leb-false needed (reads_passing (is_left rows needed k) (row_at rows v)) few)
    by_test true true is few gone = absurd (cc gone)

pub gone_stays : (rows : List (List Read)) (needed k v : ℕ) → is_left rows needed k v ≡ false → is_left rows needed (suc k) v ≡ false
gone_stays rows needed k v gone = ap (λ b. b && nat_le needed (reads_passing (is_left rows needed k) (row_at rows v))) gone

module _ (rows : List (List Read)) (needed : ℕ) (core : List ℕ) (fits : RowsFit (length rows) rows) (is : IsKCore needed rows core) where
  abbrev n : ℕ
  n = length rows

  abbrev left : ℕ → ℕ → Bool
  left k = is_left rows needed k

  -- where a layer takes nobody out, those that are left support each other
  module _ (k : ℕ) (stuck : (v : ℕ) → v < n → left k v ≡ true → left (suc k) v ≡ true) where
    abbrev set_left : List ℕ
    set_left = by_position n (λ v. one_if (left k v))

    member_is : (v : ℕ) → v < n → is_in set_left v ≡ left k v
    member_is v inside = flag_is n (left k) v inside

    member_inside : (v : ℕ) → is_in set_left v ≡ true → v < n
    member_inside v member = elim (cases_lt v n) [
      | inl inside ↦ inside
      | inr past ↦ (let over : length set_left ≤ v = omega (arith, past, length_by_position n (λ v. one_if (left k v))) in
          absurd (omega (arith, eqb-true (slice_index set_left v) 1 member, get_or_past set_left v 0 over)))
    ]

    supports : SupportsItself needed rows set_left
    supports v member =
        let inside : v < n = member_inside v member in
        let stays : left (suc k) v ≡ true = stuck v inside (sym (member_is v inside) ∙ member) in
        let enough : needed ≤ reads_passing (left k) (row_at rows v) = leb-true needed (reads_passing (left k) (row_at rows v)) (and_second (left k v) (nat_le needed (reads_passing (left k) (row_at rows v))) stays) in
        let more : reads_passing (left k) (row_at rows v) ≤ reads_passing (is_in set_left) (row_at rows v) =
        passing_grows (left k) (is_in set_left) (row_at rows v) (recursion_from_All (λ r. left k r.source ≡ true → is_in set_left r.source ≡ true) (row_at rows v)
        (λ m d within known. member_is (get_or (row_at rows v) m d).source (fits.sources v [] inside m d within) ∙ known)) in
        (inside, omega (arith, enough, more))

    stuck_core : (v : ℕ) → v < n → left k v ≡ true → is_in core v ≡ true
    stuck_core v inside known = is.greatest set_left supports v (member_is v inside ∙ known)

  peeled : (k : ℕ) → (count_below n (left k) + k ≤ n) ⊎ ((v : ℕ) → v < n → left k v ≡ true → is_in core v ≡ true)
  peeled zero = inl (omega (arith, count_most n (left zero)))
  peeled (suc k) = by_case (peeled k)
    where
      was : (v : ℕ) → left (suc k) v ≡ true → left k v ≡ true
      was v known = and_first (left k v) (nat_le needed (reads_passing (left k) (row_at rows v))) known

      by_case : (count_below n (left k) + k ≤ n) ⊎ ((v : ℕ) → v < n → left k v ≡ true → is_in core v ≡ true) →
          (count_below n (left (suc k)) + suc k ≤ n) ⊎ ((v : ℕ) → v < n → left (suc k) v ≡ true → is_in core v ≡ true)
      by_case (inr done) = inr (λ v inside known. done v inside (was v known))
      by_case (inl few) = elim (fewer n (left (suc k)) (left k) (λ v inside known. was v known)) [
        | inl less ↦ inl (omega (arith, less, few))
        | inr same ↦ inr (λ v inside known. stuck_core k same.1 v inside (was v known))
      ]

  pub left_is_core : (v : ℕ) → v < n → left n v ≡ true → is_in core v ≡ true
  left_is_core v inside known = elim (peeled n) [
    | inr done ↦ done v inside known
    | inl none ↦ absurd (omega (arith, none, some_passes n (left n) v inside known))
  ]

  -- a member of the core is never peeled off, since it has enough reads of other members
  pub core_is_left : (k v : ℕ) → is_in core v ≡ true → left k v ≡ true
  core_is_left zero v member = refl
  core_is_left (suc k) v member =
      let more : reads_passing (is_in core) (row_at rows v) ≤ reads_passing (left k) (row_at rows v) =
      passing_grows (is_in core) (left k) (row_at rows v) (recursion_from_All (λ r. is_in core r.source ≡ true → left k r.source ≡ true) (row_at rows v) (λ m d within. core_is_left k (get_or (row_at rows v) m d).source)) in
      let enough : nat_le needed (reads_passing (left k) (row_at rows v)) ≡ true = le-leb needed (reads_passing (left k) (row_at rows v)) (omega (arith, (is.supported v member).1, more)) in
      rw (core_is_left k v member, enough) refl
