-- What a vertex gathers depends on the values of its sources alone, and is a value.
use Rattle.std.proofs.Common.{◌≡◌, ℕ, ◌<◌, ◌≤◌, ◌+◌, max, false, List, [], ◌∷◌, length, map, get_or, take, refl, ap, subst, arith, inl, inr}
use Rattle.std.specs.Prelude.{All, slice_index}
use Rattle.std.proofs.lemmas.Bool.{cases_lt}
use Rattle.std.specs.Ordering.{nat_cmp, ord_max}
use Rattle.std.proofs.lemmas.Bool.Decides.{nat_tests}
use Rattle.std.proofs.lemmas.List.{get_or_past, length-map, take_all}
use Rattle.std.proofs.lemmas.List.Elements.{All-head, All-tail, All-get_or, All-nil, All-map, All-more, All-weaker}
use Rattle.std.proofs.lemmas.List.Sums.{get_or-le-sum_by}
use Rattle.px_base.specs.declared.TheConstants.{MOST_READS}
use Rattle.px_base.specs.declared.graph.Read.{Read}
use Rattle.px_base.specs.declared.program.Fold.{Fold}
use Rattle.px_base.specs.declared.program.Fold.TheVariants.{Least, Greatest, Mex, Count}
use Rattle.px_base.specs.declared.program.Program.{Program}
use Rattle.px_base.specs.Values.{IsValue, IsWeight}
use Rattle.px_base.specs.Graphs.{HasWeights, read_count, row_at}
use Rattle.px_base.specs.Rules.{edge_value, edge_values, gather, greatest, pull}
use Rattle.value_laws.specs.EdgeLaws.{core_in_range}
use Rattle.value_laws.specs.GatherLaws.{least_in_range, mex_in_range}

-- ---- sources with the same values

map_agrees : (f g : Read → ℕ) (row : List Read) → All (λ r. f r ≡ g r) row → map f row ≡ map g row
map_agrees f g [] h = refl
map_agrees f g (r ∷ row) h = rw (All-head (λ r. f r ≡ g r) r row h, map_agrees f g row (All-tail (λ r. f r ≡ g r) r row h)) refl

pub pull_agrees : (p : Program) (rows : List (List Read)) (starts x y : List ℕ) (v : ℕ) →
    All (λ r. slice_index x r.source ≡ slice_index y r.source) (row_at rows v) → pull p rows starts x v ≡ pull p rows starts y v
pull_agrees p rows starts x y v h =
    ap (gather p.fold (slice_index starts v))
    (map_agrees (λ r. edge_value p.along (slice_index x r.source) r.weight) (λ r. edge_value p.along (slice_index y r.source) r.weight) (row_at rows v)
    (All-weaker (λ r. slice_index x r.source ≡ slice_index y r.source) (λ r. edge_value p.along (slice_index x r.source) r.weight ≡ edge_value p.along (slice_index y r.source) r.weight)
    (λ r e. ap (λ n. edge_value p.along n r.weight) e) (row_at rows v) h))

above_both : (a b : ℕ) → (a ≤ ord_max nat_cmp a b) × (b ≤ ord_max nat_cmp a b)
above_both a b = (grind (arith, nat_tests), grind (arith, nat_tests))

-- ---- one row

pub row_holds : (P : Read → Type 0) (rows : List (List Read)) → All (λ row. All P row) rows → (v : ℕ) → All P (row_at rows v)
row_holds P rows h v = elim (cases_lt v (length rows)) [
  | inl below ↦ All-get_or (λ row. All P row) rows v [] below h
  | inr past ↦ rw (get_or_past rows v [] past) (All-nil P)
]

pub row_within : (rows : List (List Read)) (v : ℕ) → length (row_at rows v) ≤ read_count rows
row_within rows v = elim (cases_lt v (length rows)) [
  | inl below ↦ get_or-le-sum_by (λ row. length row) rows v [] below
  | inr past ↦ rw (get_or_past rows v [] past) (omega arith)
]

-- one row more
pub longest_more : (rows : List (List Read)) (i m n : ℕ) (row : List Read) → i < length rows → row ≡ get_or rows i row → n ≡ ord_max nat_cmp m (length row) →
    All (λ r. length r ≤ m) (take i rows) → All (λ r. length r ≤ n) (take (i + 1) rows)
longest_more rows i m n row inside is greater so_far =
    All-more (λ r. length r ≤ n) rows i row inside
    (All-weaker (λ r. length r ≤ m) (λ r. length r ≤ n) (λ r h. omega (arith, h, greater, (above_both m (length row)).0)) (take i rows) so_far)
    (subst (λ (r : List Read). length r ≤ n) is (omega (arith, greater, (above_both m (length row)).1)))

pub longest_all : (rows : List (List Read)) (i n : ℕ) → length rows ≤ i → All (λ r. length r ≤ n) (take i rows) → All (λ r. length r ≤ n) rows
longest_all rows i n end so_far = subst (λ (rs : List (List Read)). All (λ r. length r ≤ n) rs) (take_all i rows end) so_far

-- ---- what is gathered is a value

pub value_at : (x : List ℕ) → All IsValue x → (k : ℕ) → IsValue (slice_index x k)
value_at x h k = elim (cases_lt k (length x)) [
  | inl below ↦ h k 0 below
  | inr past ↦ rw (get_or_past x k 0 past) (omega arith)
]

pub edges_in_range : (p : Program) (x : List ℕ) (row : List Read) → All IsValue x → All (λ r. IsWeight r.weight) row → All IsValue (edge_values p.along x row)
edges_in_range p x row values weights =
    All-map IsValue (λ r. edge_value p.along (slice_index x r.source) r.weight) row
    (All-weaker (λ r. IsWeight r.weight) (λ r. IsValue (edge_value p.along (slice_index x r.source) r.weight))
    (λ r weight. core_in_range (record { program = p; flipped = false }) (slice_index x r.source) r.weight (value_at x values r.source) weight) row weights)

greatest_in_range : (start : ℕ) (items : List ℕ) → IsValue start → All IsValue items → IsValue (greatest start items)
greatest_in_range start [] first items = first
greatest_in_range start (x ∷ xs) first items =
    greatest_in_range (max start x) xs (omega (arith, first, All-head IsValue x xs items)) (All-tail IsValue x xs items)

pub gathered_in_range : (fold : Fold) (start : ℕ) (items : List ℕ) → IsValue start → All IsValue items → IsValue (length items) → IsValue (gather fold start items)
gathered_in_range Least start items first values few = least_in_range start items first
gathered_in_range Greatest start items first values few = greatest_in_range start items first values
gathered_in_range Mex start items first values few = mex_in_range items few
gathered_in_range (Count k) start items first values few = first

pub pull_in_range : (p : Program) (rows : List (List Read)) (starts x : List ℕ) (v : ℕ) →
    HasWeights rows → read_count rows ≤ MOST_READS → All IsValue starts → All IsValue x → IsValue (pull p rows starts x v)
pull_in_range p rows starts x v weights few first values =
    gathered_in_range p.fold (slice_index starts v) (edge_values p.along x (row_at rows v)) (value_at starts first v)
    (edges_in_range p x (row_at rows v) values (row_holds (λ r. IsWeight r.weight) rows weights v))
    (omega (arith, few, row_within rows v, length-map (row_at rows v) (λ r. edge_value p.along (slice_index x r.source) r.weight)))
