-- The greatest length of walks, where each read is of a vertex that stands before its reader.
use Rattle.std.proofs.Common.{◌≡◌, ℕ, ◌+◌, ◌<◌, ◌≤◌, min, List, [], ◌∷◌, length, get_or, refl, sym, ap, ◌∙◌, arith}
use Rattle.std.specs.Prelude.{slice_index}
use Rattle.std.proofs.lemmas.List.{get_or_default}
use Rattle.px_base.specs.declared.TheConstants.{MOST_VERTICES, TOP}
use Rattle.px_base.specs.declared.graph.EdgeList.{EdgeList}
use Rattle.px_base.specs.declared.graph.Read.{Read}
use Rattle.px_base.specs.declared.graph.ReadGraph.{ReadGraph}
use Rattle.px_base.specs.Values.{IsValueList}
use Rattle.px_base.specs.Graphs.{IsGraphOf, RowsFit, row_at}
use Rattle.px_base.specs.Laws.{IsOrdered}
use Rattle.px_base.specs.Lines.{EdgeListFits}
use Rattle.px_base.specs.Starts.{starts_of}
use Rattle.px_base.specs.Answers.{IsAnswer}
use Rattle.px_base.specs.ProgramNames.{levels}
use Rattle.path_laws.specs.Paths.{IsRisingChainTo}
use Rattle.path_laws.specs.Readings.{IsGreatestLength}
use Rattle.walk_terms.specs.Walks.{IsWalk, IsWalkTo, ReadBefore, carried}
use Rattle.path_laws.proofs.Beginning.{own_rows, start_at, starts_are_values}
use Rattle.walk_terms.proofs.ReadEnds.{source_inside, start_inside}
use Rattle.path_laws.proofs.Distances.{bfs_brings}
use Rattle.path_laws.proofs.Edges.{earlier_fits, earlier_neighbour}
use Rattle.path_laws.proofs.Fixed.{fixed_attained, fixed_none_better}
use Rattle.px_base.proofs.Members.{of_member, of_members}
use Rattle.path_laws.proofs.Ways.{Climbs, LeadsIn, climb_leads, walk_climbs}

-- ---- by reads

levels_bring : (y : ℕ) (weights : List ℕ) → y ≤ TOP → carried levels y weights ≡ min (y + length weights) TOP
levels_bring = bfs_brings

are_ordered : (rows : List (List Read)) → RowsFit (length rows) rows → ReadBefore rows → IsOrdered rows
are_ordered rows fits before = record {
  place = λ v. v;
  before = λ v k d below.
      let r : Read = get_or (row_at rows v) k d in
      (source_inside rows v r.source r.weight fits (k, below, get_or_default (row_at rows v) k r d below), before v k d below);
}

-- a walk of so many reads leads at least so far up
goes_up : (rows : List (List Read)) (u v : ℕ) (weights : List ℕ) → ReadBefore rows → IsWalk rows u v weights → u + length weights ≤ v
goes_up rows u v [] before here = omega (arith, here)
goes_up rows u v (w ∷ weights) before (next, read, rest) =
    let up : u < next = of_member (λ r. r.source < next) (row_at rows next) (record { source = u; weight = w }) (before next) read in
    omega (arith, up, goes_up rows next v weights before rest)

pub levels_are : (rows : List (List Read)) (ids sources x : List ℕ) → RowsFit (length ids) rows → length ids ≤ MOST_VERTICES → ReadBefore rows →
    IsAnswer levels rows (starts_of levels.start ids sources) x → (v : ℕ) → v < length ids → IsGreatestLength (IsWalkTo rows v) (slice_index x v)
levels_are rows ids sources x fit limit before answer v below = record { none_longer = none_longer; attained = from }
  where
    starts : List ℕ
    starts = starts_of levels.start ids sources

    fits : RowsFit (length rows) rows
    fits = own_rows (length ids) rows fit

    values : IsValueList (length rows) starts
    values = starts_are_values levels.start rows ids sources fit (λ u here. omega arith)

    inside : v < length rows
    inside = omega (arith, fit.one_each, below)

    brought : (u : ℕ) (weights : List ℕ) → IsWalk rows u v weights → carried levels (slice_index starts u) weights ≡ length weights
    brought u weights walk =
        let start : slice_index starts u ≡ 0 = start_at levels.start rows ids sources u fit (start_inside rows u v weights fits inside walk) in
        ap (λ y. carried levels y weights) start ∙ levels_bring 0 weights (omega arith) ∙ omega (arith, goes_up rows u v weights before walk, below, limit)

    none_longer : (weights : List ℕ) → IsWalkTo rows v weights → length weights ≤ slice_index x v
    none_longer weights (u, walk) = rw (brought u weights walk) at (fixed_none_better levels rows starts x refl refl fits values answer u v weights inside walk)

    from : (weights : List ℕ) × IsWalkTo rows v weights × (length weights ≡ slice_index x v)
    from = (let some = fixed_attained levels rows starts x refl refl (are_ordered rows fits before) answer v inside in
        (some.1, (some.0, some.2), sym (brought some.0 some.1 some.2) ∙ sym some.3))

-- ---- by edges

pub levels_on_edges : (list : EdgeList) (graph : ReadGraph) (sources x : List ℕ) → EdgeListFits list → IsGraphOf levels.form levels.reads (length list.ids) list.edges graph →
    IsAnswer levels graph.rows (starts_of levels.start list.ids sources) x → (v : ℕ) → v < length list.ids →
    IsGreatestLength (IsRisingChainTo list.edges v) (slice_index x v)
levels_on_edges list graph sources x fits is answer v below =
    let n : ℕ = length list.ids in
    let before : ReadBefore graph.rows = λ u. of_members (λ r. r.source < u) (row_at graph.rows u) (λ r read. (earlier_neighbour n list.edges graph u r.source r.weight is read).3) in
    let known : IsGreatestLength (IsWalkTo graph.rows v) (slice_index x v) =
    levels_are graph.rows list.ids sources x (earlier_fits n list.edges graph is) fits.vertices before answer v below in
    record {
      none_longer = λ vertices chain.
          let walk : LeadsIn graph.rows chain.0 v (length vertices) = climb_leads n list.edges graph chain.0 v vertices fits.ends is chain.1 in
          omega (arith, walk.2, known.none_longer walk.0 (chain.0, walk.1));
      attained = (let found = known.attained in
          let climb : Climbs list.edges found.1.0 v (length found.0) = walk_climbs n list.edges graph found.1.0 v found.0 is found.1.1 in
          (climb.0, (found.1.0, climb.1), climb.2 ∙ found.2));
    }
