-- Reads whose sources and weights stand in two lists.
use Rattle.std.proofs.Common.{◌≡◌, ℕ, zero, suc, ◌+◌, ◌-◌, ◌<◌, ◌≤◌, List, [], ◌∷◌, ◌++◌, length, map, get_or, set, take, drop, refl, ap, sym, ◌∙◌, arith}
use Rattle.std.specs.Prelude.{slice_range}
use Rattle.std.proofs.lemmas.List.{drop_more, drop_all}
use Rattle.px_base.specs.declared.graph.Read.{Read}
use Rattle.px_base.specs.FlatRows.{read_with, reads_in}

pub length-reads_in : (sources weights : List ℕ) → length weights ≡ length sources → length (reads_in sources weights) ≡ length sources
length-reads_in [] weights same = refl
length-reads_in (s ∷ sources) [] same = absurd (omega arith)
length-reads_in (s ∷ sources) (w ∷ weights) same = omega (arith, length-reads_in sources weights (omega arith))

pub sources-reads_in : (sources weights : List ℕ) → length weights ≡ length sources → map (λ (r : Read). r.source) (reads_in sources weights) ≡ sources
sources-reads_in [] weights same = refl
sources-reads_in (s ∷ sources) [] same = absurd (omega arith)
sources-reads_in (s ∷ sources) (w ∷ weights) same = ap (λ rest. s ∷ rest) (sources-reads_in sources weights (omega arith))

pub weights-reads_in : (sources weights : List ℕ) → length weights ≡ length sources → map (λ (r : Read). r.weight) (reads_in sources weights) ≡ weights
weights-reads_in [] [] same = refl
weights-reads_in [] (w ∷ weights) same = absurd (omega arith)
weights-reads_in (s ∷ sources) [] same = absurd (omega arith)
weights-reads_in (s ∷ sources) (w ∷ weights) same = ap (λ rest. w ∷ rest) (weights-reads_in sources weights (omega arith))

pub take-reads_in : (n : ℕ) (sources weights : List ℕ) → take n (reads_in sources weights) ≡ reads_in (take n sources) (take n weights)
take-reads_in zero sources weights = refl
take-reads_in (suc n) [] weights = refl
take-reads_in (suc n) (s ∷ sources) [] = refl
take-reads_in (suc n) (s ∷ sources) (w ∷ weights) = ap (λ rest. read_with s w ∷ rest) (take-reads_in n sources weights)

-- nothing to read where there are no weights
reads_in-none : (sources : List ℕ) → reads_in sources [] ≡ []
reads_in-none [] = refl
reads_in-none (s ∷ sources) = refl

pub drop-reads_in : (n : ℕ) (sources weights : List ℕ) → drop n (reads_in sources weights) ≡ reads_in (drop n sources) (drop n weights)
drop-reads_in zero sources weights = refl
drop-reads_in (suc n) [] weights = refl
drop-reads_in (suc n) (s ∷ sources) [] = sym (reads_in-none (drop n sources))
drop-reads_in (suc n) (s ∷ sources) (w ∷ weights) = drop-reads_in n sources weights

pub slice_range-reads_in : (i j : ℕ) (sources weights : List ℕ) → slice_range (reads_in sources weights) i j ≡ reads_in (slice_range sources i j) (slice_range weights i j)
slice_range-reads_in i j sources weights = ap (take (j - i)) (drop-reads_in i sources weights) ∙ take-reads_in (j - i) (drop i sources) (drop i weights)

pub get_or-reads_in : (sources weights : List ℕ) (i : ℕ) (d : Read) → i < length sources → i < length weights → get_or (reads_in sources weights) i d ≡ read_with (get_or sources i 0) (get_or weights i 0)
get_or-reads_in [] weights i d h k = absurd (omega arith)
get_or-reads_in (s ∷ sources) [] i d h k = absurd (omega arith)
get_or-reads_in (s ∷ sources) (w ∷ weights) zero d h k = refl
get_or-reads_in (s ∷ sources) (w ∷ weights) (suc i) d h k = get_or-reads_in sources weights i d (omega arith) (omega arith)

pub set-reads_in : (sources weights : List ℕ) (i s w : ℕ) → reads_in (set sources i s) (set weights i w) ≡ set (reads_in sources weights) i (read_with s w)
set-reads_in [] weights i s w = refl
set-reads_in (a ∷ sources) [] zero s w = refl
set-reads_in (a ∷ sources) [] (suc i) s w = refl
set-reads_in (a ∷ sources) (b ∷ weights) zero s w = refl
set-reads_in (a ∷ sources) (b ∷ weights) (suc i) s w = ap (λ rest. read_with a b ∷ rest) (set-reads_in sources weights i s w)

pub reads_in-append : (sources weights more also : List ℕ) → length weights ≡ length sources → reads_in (sources ++ more) (weights ++ also) ≡ reads_in sources weights ++ reads_in more also
reads_in-append [] [] more also same = refl
reads_in-append [] (w ∷ weights) more also same = absurd (omega arith)
reads_in-append (s ∷ sources) [] more also same = absurd (omega arith)
reads_in-append (s ∷ sources) (w ∷ weights) more also same = ap (λ rest. read_with s w ∷ rest) (reads_in-append sources weights more also (omega arith))

-- reads are known by their sources and weights
pub reads_in-of : (reads : List Read) → reads_in (map (λ (r : Read). r.source) reads) (map (λ (r : Read). r.weight) reads) ≡ reads
reads_in-of [] = refl
reads_in-of (r ∷ reads) = ap (λ rest. r ∷ rest) (reads_in-of reads)

-- what is left from a place on: the read there and the rest, or nothing at the end
pub from_place : (sources weights : List ℕ) (at : ℕ) → length weights ≡ length sources → at < length sources →
    drop at (reads_in sources weights) ≡ read_with (get_or sources at 0) (get_or weights at 0) ∷ drop (at + 1) (reads_in sources weights)
from_place sources weights at same inside =
    let here : at < length (reads_in sources weights) = rw (length-reads_in sources weights same) inside in
    let read = get_or-reads_in sources weights at (read_with 0 0) inside (omega arith) in
    drop_more (reads_in sources weights) at (read_with 0 0) here ∙ ap (λ r. r ∷ drop (at + 1) (reads_in sources weights)) read

pub from_end : (sources weights : List ℕ) (at : ℕ) → length weights ≡ length sources → length sources ≤ at → drop at (reads_in sources weights) ≡ []
from_end sources weights at same past = drop_all at (reads_in sources weights) (rw (length-reads_in sources weights same) past)
