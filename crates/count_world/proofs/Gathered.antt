-- How often masters are among the readers of masters.
use Rattle.std.proofs.Common.{◌≡◌, ℕ, ◌+◌, ◌-◌, ◌<◌, ◌≤◌, ◌∙◌, Bool, true, false, cond, List, [], ◌∷◌, length, get_or, set, refl, sym, ap, arith, inl, inr, add-zero, zero-add, length-set, take, replicate}
use Rattle.std.specs.Prelude.{◌==◌, nat_lt, count_by, slice_index, if◌then◌else◌}
use Rattle.std.proofs.lemmas.Bool.Decides.{eqb_tells, nat_tests}
use Rattle.std.proofs.lemmas.List.{get_or-set_same, get_or-set_other, length-replicate}
use Rattle.std.proofs.lemmas.List.Sums.{sum_by-cons}
use Rattle.px_base.specs.Values.{one_if}
use Rattle.px_base.specs.declared.graph.Read.{Read}
use Rattle.px_base.specs.declared.graph.Part.{Part}
use Rattle.px_base.specs.Graphs.{row_at, reads_passing}
use Rattle.reader_chains.specs.declared.readers.Readers.{Readers}
use Rattle.reader_chains.specs.Readers.{readers_of}
use Rattle.reader_chains.proofs.Lists.{none_of, of_added, of_others, all_added}
use Rattle.count_world.proofs.Telling.{passing_more}
use Rattle.count_world.specs.Readers.{times_listed, times_in_row, AreMasters, HasGrown}

-- how often an item stands in a list with one more before it
times_before : (reader j : ℕ) (rest : List ℕ) → count_by (λ x. x == j) (reader ∷ rest) ≡ one_if (reader == j) + count_by (λ x. x == j) rest
times_before reader j rest = sum_by-cons (λ x. cond (x == j) 1 0) reader rest

-- ---- one reader more

times_more : (readers : Readers) (place reader : ℕ) → place < length readers → (k j : ℕ) →
    times_listed (set readers place (reader ∷ readers_of readers place)) k j ≡ times_listed readers k j + (if reader == j then one_if (k == place) else 0)
times_more readers place reader inside k j = elim (eqb_tells k place) [
  | inl (t, same) ↦
      rw t
      (ap (λ n. times_listed (set readers place (reader ∷ readers_of readers place)) n j) same
      ∙ ap (λ list. count_by (λ x. x == j) list) (of_added readers place reader inside)
      ∙ times_before reader j (readers_of readers place)
      ∙ turned (reader == j) (times_listed readers place j)
      ∙ ap (λ n. times_listed readers n j + (if reader == j then 1 else 0)) (sym same))
  | inr (t, apart) ↦ rw t (ap (λ list. count_by (λ x. x == j) list) (of_others readers place reader k apart) ∙ none (reader == j) (times_listed readers k j))
]
  where
    turned : (b : Bool) (n : ℕ) → one_if b + n ≡ n + (if b then 1 else 0)
    turned true n = omega arith
    turned false n = omega arith

    none : (b : Bool) (n : ℕ) → n ≡ n + (if b then 0 else 0)
    none true n = omega arith
    none false n = omega arith

pub added_grows : (masters : ℕ) (old new : Readers) (place reader : ℕ) → AreMasters masters old → place < masters → reader < masters → new ≡ set old place (reader ∷ readers_of old place) →
    HasGrown masters old new (λ k j. if reader == j then one_if (k == place) else 0)
added_grows masters old new place reader are inside within is =
    let here : place < length old = omega (arith, inside, are.size) in
    record {
      still = record {
        size = ap length is ∙ length-set old place (reader ∷ readers_of old place) ∙ are.size;
        inside = rw is (all_added (λ x. x < masters) old place reader here are.inside within);
      };
      times = λ k j below. rw is (times_more old place reader here k j);
    }

-- the same as the read says it
pub read_grows : (masters low : ℕ) (old new : Readers) (source reader : ℕ) → low ≤ source → HasGrown masters old new (λ i j. if reader == j then one_if (i == source - low) else 0) →
    HasGrown masters old new (λ i j. if reader == j then one_if (source == low + i) else 0)
read_grows masters low old new source reader above grown = record {
  still = grown.still;
  times = λ i j below. grown.times i j below ∙ ap (λ b. times_listed old i j + (if reader == j then one_if b else 0)) (turned i);
}
  where
    turned : (i : ℕ) → (i == source - low) ≡ (source == low + i)
    turned i = grind (arith, nat_tests)

-- one growth after another
pub grows_on : (masters : ℕ) (old mid new : Readers) (first second both : ℕ → ℕ → ℕ) → HasGrown masters old mid first → HasGrown masters mid new second →
    ((i j : ℕ) → i < masters → both i j ≡ first i j + second i j) → HasGrown masters old new both
grows_on masters old mid new first second both g h sums = record {
  still = h.still;
  times = λ i j below. omega (arith, g.times i j below, h.times i j below, sums i j below);
}

-- ---- all rows

pub row_grows : (masters low : ℕ) (old mid new : Readers) (reader : ℕ) (row : List Read) (i : ℕ) (d : Read) → i < length row →
    HasGrown masters old mid (λ k j. if reader == j then reads_passing (λ u. u == low + k) (take i row) else 0) →
    HasGrown masters mid new (λ k j. if reader == j then one_if ((get_or row i d).source == low + k) else 0) →
    HasGrown masters old new (λ k j. if reader == j then reads_passing (λ u. u == low + k) (take (i + 1) row) else 0)
row_grows masters low old mid new reader row i d inside g h =
    grows_on masters old mid new (λ k j. if reader == j then reads_passing (λ u. u == low + k) (take i row) else 0)
    (λ k j. if reader == j then one_if ((get_or row i d).source == low + k) else 0)
    (λ k j. if reader == j then reads_passing (λ u. u == low + k) (take (i + 1) row) else 0) g h
    (λ k j below. both (reader == j) k)
  where
    both : (b : Bool) (k : ℕ) →
        (if b then reads_passing (λ u. u == low + k) (take (i + 1) row) else 0)
        ≡ (if b then reads_passing (λ u. u == low + k) (take i row) else 0) + (if b then one_if ((get_or row i d).source == low + k) else 0)
    both true k = passing_more (λ u. u == low + k) row i d inside
    both false k = refl

-- before any row
pub none_yet : (masters : ℕ) (readers : Readers) → readers ≡ replicate masters [] → AreMasters masters readers
none_yet masters readers is = record {
  size = ap length is ∙ length-replicate {A = List ℕ} masters [];
  inside = λ k. rw (is, none_of masters k) (λ i d below. absurd (omega (arith, below)));
}

pub never_yet : (masters k j : ℕ) (readers : Readers) → readers ≡ replicate masters [] → times_listed readers k j ≡ 0
never_yet masters k j readers is = rw (is, none_of masters k) refl

-- one row more
pub rows_grow : (part : Part) (old new : Readers) (at k i : ℕ) →
    times_listed old k i ≡ (if nat_lt i at then times_in_row part k i else 0) →
    times_listed new k i ≡ times_listed old k i + (if at == i then reads_passing (λ u. u == part.low + k) (row_at part.rows at) else 0) →
    times_listed new k i ≡ (if nat_lt i (at + 1) then times_in_row part k i else 0)
rows_grow part old new at k i before more = elim (eqb_tells at i) [
  | inl (t, same) ↦
      let no : nat_lt i at ≡ false = grind (arith, nat_tests) in
      let yes : nat_lt i (at + 1) ≡ true = grind (arith, nat_tests) in
      more ∙ rw (before, no, t, yes) (zero-add (reads_passing (λ u. u == part.low + k) (row_at part.rows at)) ∙ ap (λ j. reads_passing (λ u. u == part.low + k) (row_at part.rows j)) same)
  | inr (t, apart) ↦
      let still : nat_lt i (at + 1) ≡ nat_lt i at = grind (arith, nat_tests) in
      more ∙ rw (before, t, still) (add-zero (if nat_lt i at then times_in_row part k i else 0))
]

-- ---- taking off along a list

-- What is left of a count once the first reader has lost one, and the others are to lose theirs, is what is left of it once all
-- have.
pub left_after : (counts : List ℕ) (reader : ℕ) (rest : List ℕ) (j : ℕ) → j < length counts →
    slice_index (set counts reader (slice_index counts reader - 1)) j - count_by (λ x. x == j) rest ≡ slice_index counts j - count_by (λ x. x == j) (reader ∷ rest)
left_after counts reader rest j below = elim (eqb_tells reader j) [
  | inl (t, same) ↦
      let one : count_by (λ x. x == j) (reader ∷ rest) ≡ 1 + count_by (λ x. x == j) rest = times_before reader j rest ∙ ap (λ b. one_if b + count_by (λ x. x == j) rest) t in
      let new : slice_index (set counts reader (slice_index counts reader - 1)) j ≡ slice_index counts j - 1 = rw same (get_or-set_same counts j (slice_index counts j - 1) 0 below) in
      omega (arith, one, new)
  | inr (t, apart) ↦
      let none : count_by (λ x. x == j) (reader ∷ rest) ≡ 0 + count_by (λ x. x == j) rest = times_before reader j rest ∙ ap (λ b. one_if b + count_by (λ x. x == j) rest) t in
      let kept : slice_index (set counts reader (slice_index counts reader - 1)) j ≡ slice_index counts j = get_or-set_other counts reader j (slice_index counts reader - 1) 0 (λ e. apart (sym e)) in
      omega (arith, none, kept)
]
