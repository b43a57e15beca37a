-- Every edges have a graph of each form.
use Rattle.std.proofs.Common.{◌≡◌, ℕ, zero, suc, ◌+◌, ◌<◌, Bool, true, false, cond, List, [], ◌∷◌, length, get_or, arith, refl, sym, subst}
use Rattle.std.specs.Prelude.{◌==◌, ◌&&◌, ◌||◌, nat_lt, IsPermutation}
use Rattle.std.specs.List.Sorted.{IsSortedBy}
use Rattle.std.proofs.lemmas.Bool.Decides.{nat_tests}
use Rattle.std.proofs.lemmas.List.Sorted.{IsPermutation-cons, IsPermutation-insert, IsPermutation-refl, IsPermutation-trans}
use Rattle.px_base.specs.declared.graph.Edge.{Edge}
use Rattle.px_base.specs.declared.graph.Read.{Read}
use Rattle.px_base.specs.declared.graph.ReadGraph.{ReadGraph}
use Rattle.px_base.specs.declared.program.Form.{Form}
use Rattle.px_base.specs.declared.program.Reads.{Reads}
use Rattle.px_base.specs.Values.{by_position}
use Rattle.px_base.specs.Graphs.{degrees_of, is_lower_read, IsRowOf, IsGraphOf, kept_reads, reads_of}
use Rattle.px_base.proofs.Positions.{length_by_position, at_position}

-- ---- reads in order

abbrev IsOrdered : List Read → Type 0
IsOrdered row = IsSortedBy is_lower_read row

-- the row with one read more, before the first that isn't lower
abbrev with_read : Read → List Read → List Read
with_read r [] = r ∷ []
with_read r (x ∷ xs) = cond (is_lower_read x r) (x ∷ with_read r xs) (r ∷ x ∷ xs)

abbrev in_order : List Read → List Read
in_order [] = []
in_order (r ∷ rs) = with_read r (in_order rs)

one_more : (r : Read) (xs : List Read) → IsPermutation (r ∷ xs) (with_read r xs)
one_more r [] = IsPermutation-refl (r ∷ [])
one_more r (x ∷ xs) = elim (is_lower_read x r) as (λ b. IsPermutation (r ∷ x ∷ xs) (cond b (x ∷ with_read r xs) (r ∷ x ∷ xs))) [
  | true ↦ IsPermutation-trans (r ∷ x ∷ xs) (x ∷ r ∷ xs) (x ∷ with_read r xs) (IsPermutation-insert (x ∷ xs) 1 r) (IsPermutation-cons x (r ∷ xs) (with_read r xs) (one_more r xs))
  | false ↦ IsPermutation-refl (r ∷ x ∷ xs)
]

same_reads : (rs : List Read) → IsPermutation rs (in_order rs)
same_reads [] = IsPermutation-refl []
same_reads (r ∷ rs) = IsPermutation-trans (r ∷ rs) (r ∷ in_order rs) (with_read r (in_order rs)) (IsPermutation-cons r rs (in_order rs) (same_reads rs)) (one_more r (in_order rs))

-- no read of the row is lower than this one, if the first isn't
abbrev IsNotAbove : Read → List Read → Type 0
IsNotAbove x ys = (d : Read) → 0 < length ys → is_lower_read (get_or ys 0 d) x ≡ false

cons_ordered : (x : Read) (ys : List Read) → IsOrdered ys → IsNotAbove x ys → IsOrdered (x ∷ ys)
cons_ordered x ys h first zero d low below = first d (omega arith)
cons_ordered x ys h first (suc k) d low below =
    let next : suc k + 1 ≡ suc (k + 1) = omega arith in
    subst (λ (n : ℕ). is_lower_read (get_or (x ∷ ys) n d) (get_or ys k d) ≡ false) (sym next) (h k d (omega arith) (omega arith))

not_both : (s t w v : ℕ) → (nat_lt s t || (s == t && nat_lt w v)) ≡ true → (nat_lt t s || (t == s && nat_lt v w)) ≡ false
not_both s t w v h = grind (arith, nat_tests)

head_of : (x : Read) (xs : List Read) → IsOrdered (x ∷ xs) → IsNotAbove x xs
head_of x [] h d some = absurd (omega arith)
head_of x (y ∷ ys) h d some = h 0 d (omega arith) (omega arith)

rest_of : (x : Read) (xs : List Read) → IsOrdered (x ∷ xs) → IsOrdered xs
rest_of x xs h k d low below =
    let next : suc k + 1 ≡ suc (k + 1) = omega arith in
    subst (λ (n : ℕ). is_lower_read (get_or (x ∷ xs) n d) (get_or xs k d) ≡ false) next (h (suc k) d (omega arith) (omega arith))

-- a read that is lower than one more, and not above the row, is not above both
still_lowest : (x r : Read) (xs : List Read) → is_lower_read x r ≡ true → IsNotAbove x xs → IsNotAbove x (with_read r xs)
still_lowest x r [] less first = λ d some. not_both x.source r.source x.weight r.weight less
still_lowest x r (y ∷ ys) less first = elim (is_lower_read y r) as (λ b. IsNotAbove x (cond b (y ∷ with_read r ys) (r ∷ y ∷ ys))) [
  | true ↦ λ d some. first d (omega arith)
  | false ↦ λ d some. not_both x.source r.source x.weight r.weight less
]

more_ordered : (r : Read) (xs : List Read) → IsOrdered xs → IsOrdered (with_read r xs)
more_ordered r [] h = cons_ordered r [] h (λ d some. absurd (omega arith))
more_ordered r (x ∷ xs) h = by_first (is_lower_read x r) refl (more_ordered r xs (rest_of x xs h))
  where
    by_first : (b : Bool) → is_lower_read x r ≡ b → IsOrdered (with_read r xs) → IsOrdered (cond b (x ∷ with_read r xs) (r ∷ x ∷ xs))
    by_first true less rest = cons_ordered x (with_read r xs) rest (still_lowest x r xs less (head_of x xs h))
    by_first false more rest = cons_ordered r (x ∷ xs) h (λ d some. more)

all_ordered : (rs : List Read) → IsOrdered (in_order rs)
all_ordered [] = λ k d low below. absurd (omega arith)
all_ordered (r ∷ rs) = more_ordered r (in_order rs) (all_ordered rs)

-- ---- the graph

abbrev row_of : Form → Reads → ℕ → List Edge → ℕ → List Read
row_of form reads n edges v = in_order (kept_reads reads (degrees_of form n edges) v (reads_of form n edges v))

-- the graph of some edges
abbrev pub graph_of : Form → Reads → ℕ → List Edge → ReadGraph
graph_of form reads n edges = record { n = n; rows = by_position n (row_of form reads n edges); degrees = degrees_of form n edges }

pub has_graph : (form : Form) (reads : Reads) (n : ℕ) (edges : List Edge) → IsGraphOf form reads n edges (graph_of form reads n edges)
has_graph form reads n edges = record {
  size = refl;
  one_each = length_by_position n (row_of form reads n edges);
  degrees = refl;
  rows = λ v below.
      let kept : List Read = kept_reads reads (degrees_of form n edges) v (reads_of form n edges v) in
      subst (IsRowOf kept) (sym (at_position n (row_of form reads n edges) v [] below)) (record { same = same_reads kept; ordered = all_ordered kept });
}
