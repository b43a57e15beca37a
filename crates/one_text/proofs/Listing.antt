-- Every edges have a list.
use Rattle.std.proofs.Common.{◌≡◌, ℕ, suc, ◌<◌, true, List, map, arith, refl}
use Rattle.std.specs.Prelude.{◌↔◌, Contains, filter, sum_by}
use Rattle.std.proofs.lemmas.List.Elements.{All-contains, filter_passes}
use Rattle.std.proofs.lemmas.List.Kept.{IsStrictlyIncreasing-filter}
use Rattle.std.proofs.lemmas.List.Sums.{get_or-le-sum_by}
use Rattle.px_base.specs.declared.graph.EdgeList.{EdgeList}
use Rattle.px_base.specs.Values.{is_listed, positions_below}
use Rattle.px_base.specs.Lines.{IdEdge, ends_of, placed_edge, IsEdgeListOf}
use Rattle.px_base.proofs.Members.{contains_listed, kept, listed_contains, position, range_rises}

-- a number that is above all in the list
abbrev above : List ℕ → ℕ
above xs = suc (sum_by (λ x. x) xs)

-- the numbers that stand in the list, once each, rising
abbrev once_each : List ℕ → List ℕ
once_each xs = filter (is_listed xs) (positions_below (above xs))

is_below : (xs : List ℕ) (u : ℕ) → Contains xs u → u < above xs
is_below xs u (k, inside, is) = omega (arith, get_or-le-sum_by (λ x. x) xs k u inside, is)

same_once : (xs : List ℕ) (u : ℕ) → Contains (once_each xs) u ↔ Contains xs u
same_once xs u = (
  λ here. listed_contains xs u (All-contains (λ w. is_listed xs w ≡ true) (once_each xs) u (filter_passes (is_listed xs) (positions_below (above xs))) here),
  λ here. kept (is_listed xs) (positions_below (above xs)) u (position (above xs) u (is_below xs u here)) (contains_listed xs u here),
)

-- the list of some edges
abbrev pub list_of : List IdEdge → EdgeList
list_of edges = record { ids = once_each (ends_of edges); edges = map (placed_edge (once_each (ends_of edges))) edges }

pub has_list : (edges : List IdEdge) → IsEdgeListOf edges (list_of edges)
has_list edges = record {
  rising = IsStrictlyIncreasing-filter (is_listed (ends_of edges)) (positions_below (above (ends_of edges))) (range_rises 0 (above (ends_of edges)));
  members = same_once (ends_of edges);
  placed = refl;
}
