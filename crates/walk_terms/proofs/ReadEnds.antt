-- Lemmas on single reads: their ends, one read more at the end of a walk, and that what a vertex gathers is at most what each read gives.
use Rattle.std.proofs.Common.{◌≡◌, ℕ, zero, suc, ◌<◌, ◌≤◌, min, false, List, [], ◌∷◌, ◌++◌, length, map, refl, sym, ap, subst, arith, inl, inr}
use Rattle.std.specs.Prelude.{slice_index, fold, Contains}
use Rattle.std.proofs.lemmas.Bool.{cases_lt}
use Rattle.std.proofs.lemmas.List.{get_or_past}
use Rattle.px_base.specs.declared.graph.Read.{Read}
use Rattle.px_base.specs.declared.program.CoreProgram.{CoreProgram}
use Rattle.px_base.specs.Values.{IsWeight}
use Rattle.px_base.specs.Graphs.{RowsFit, row_at}
use Rattle.px_base.specs.Classes.{is_mex}
use Rattle.px_base.specs.Core.{core_edge_value}
use Rattle.px_base.specs.Rules.{least}
use Rattle.px_base.proofs.Gathers.{least_below_start}
use Rattle.consistent_solver.specs.CoreLists.{gathered_at}
use Rattle.consistent_solver.proofs.Below.{least_gathered}
use Rattle.walk_terms.specs.Walks.{HasRead, IsWalk}
use Rattle.px_base.proofs.Members.{mapped}

-- ---- the ends of a read

abbrev read_of : ℕ → ℕ → Read
read_of u w = record { source = u; weight = w }

pub reader_inside : (rows : List (List Read)) (v u w : ℕ) → HasRead rows v u w → v < length rows
reader_inside rows v u w (k, below, is) = elim (cases_lt v (length rows)) [
  | inl inside ↦ inside
  | inr past ↦ (let none : k < length {A = Read} [] = rw (get_or_past rows v [] past) at below in absurd (omega arith))
]

pub source_inside : (rows : List (List Read)) (v u w : ℕ) → RowsFit (length rows) rows → HasRead rows v u w → u < length rows
source_inside rows v u w fits (k, below, is) =
    subst (λ (r : Read). r.source < length rows) is (fits.sources v [] (reader_inside rows v u w (k, below, is)) k (read_of u w) below)

pub weight_fits : (rows : List (List Read)) (v u w : ℕ) → RowsFit (length rows) rows → HasRead rows v u w → IsWeight w
weight_fits rows v u w fits (k, below, is) =
    subst (λ (r : Read). IsWeight r.weight) is (fits.weights v [] (reader_inside rows v u w (k, below, is)) k (read_of u w) below)

-- ---- one read more

pub walk_more : (rows : List (List Read)) (u v next w : ℕ) (weights : List ℕ) → IsWalk rows u v weights → HasRead rows next v w → IsWalk rows u next (weights ++ w ∷ [])
walk_more rows u v next w [] here read = (next, subst (λ (a : ℕ). HasRead rows next a w) (sym here) read, refl)
walk_more rows u v next w (a ∷ weights) (mid, first, rest) read = (mid, first, walk_more rows mid v next w weights rest read)

pub fold_more : (f : ℕ → ℕ → ℕ) (x w : ℕ) (weights : List ℕ) → fold f x (weights ++ w ∷ []) ≡ f (fold f x weights) w
fold_more f x w [] = refl
fold_more f x w (a ∷ weights) = fold_more f (f x a) w weights

pub length_more : (w : ℕ) (weights : List ℕ) → length (weights ++ w ∷ []) ≡ suc (length weights)
length_more w [] = refl
length_more w (a ∷ weights) = ap suc (length_more w weights)

-- where a walk begins that ends at a vertex of the graph, there is one
pub start_inside : (rows : List (List Read)) (u v : ℕ) (weights : List ℕ) → RowsFit (length rows) rows → v < length rows → IsWalk rows u v weights → u < length rows
start_inside rows u v [] fits inside here = subst (λ (a : ℕ). a < length rows) (sym here) inside
start_inside rows u v (w ∷ weights) fits inside (next, read, rest) = source_inside rows next u w fits read

-- ---- what is gathered

pub least_below_member : (s : ℕ) (items : List ℕ) (y : ℕ) → Contains items y → least s items ≤ y
least_below_member s [] y (k, below, is) = absurd (omega arith)
least_below_member s (x ∷ xs) y (zero, below, is) = omega (arith, is, least_below_start (min s x) xs)
least_below_member s (x ∷ xs) y (suc k, below, is) = least_below_member (min s x) xs y (k, omega arith, is)

-- what is gathered is at most the edge value of each read
pub gathered_below_read : (core : CoreProgram) (rows : List (List Read)) (starts x : List ℕ) (v u w : ℕ) → is_mex core.program.fold ≡ false →
    HasRead rows v u w → gathered_at core rows starts x v ≤ core_edge_value core (slice_index x u) w
gathered_below_read core rows starts x v u w plain read =
    rw (least_gathered core (slice_index x) (slice_index starts v) (row_at rows v) plain)
    (least_below_member (slice_index starts v) (map item (row_at rows v)) (core_edge_value core (slice_index x u) w) (mapped item (row_at rows v) (read_of u w) read))
  where
    item : Read → ℕ
    item r = core_edge_value core (slice_index x r.source) r.weight
