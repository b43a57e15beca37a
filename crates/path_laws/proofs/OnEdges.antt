-- The answers of built-in programs, in words of the edge list.
use Rattle.std.proofs.Common.{ℕ, ◌<◌, List, length, arith}
use Rattle.std.specs.Prelude.{◌↔◌, slice_index, sum}
use Rattle.px_base.specs.declared.graph.EdgeList.{EdgeList}
use Rattle.px_base.specs.declared.graph.ReadGraph.{ReadGraph}
use Rattle.px_base.specs.declared.program.Form.TheVariants.{Given, Simple}
use Rattle.px_base.specs.declared.program.Reads.TheVariants as reads_kind
use Rattle.px_base.specs.Graphs.{IsGraphOf}
use Rattle.px_base.specs.Answers.{IsAnswer}
use Rattle.px_base.specs.Lines.{EdgeListFits}
use Rattle.px_base.specs.Programs.{bfs}
use Rattle.px_base.specs.ProgramNames.{components, sssp, widest}
use Rattle.px_base.specs.Starts.{starts_of}
use Rattle.path_laws.specs.Paths.{IsConnected, IsPath, IsSourcePath}
use Rattle.path_laws.specs.Readings.{IsGreatestWidth, IsLeastCost, IsLeastId}
use Rattle.walk_terms.specs.Walks.{IsSourceWalk, IsWalk, LeadsTo}
use Rattle.path_laws.proofs.Distances.{bfs_is, sssp_is}
use Rattle.path_laws.proofs.Edges.{given_fits, simple_fits}
use Rattle.path_laws.proofs.LeastIds.{components_are}
use Rattle.path_laws.proofs.Ways.{walks_are_chains, walks_are_paths}
use Rattle.path_laws.proofs.Widths.{widest_is}

-- ---- walks and paths

pub on_paths : (list : EdgeList) (graph : ReadGraph) (u v : ℕ) (weights : List ℕ) → EdgeListFits list →
    IsGraphOf Given reads_kind.All (length list.ids) list.edges graph → IsWalk graph.rows u v weights ↔ IsPath list.edges u v weights
on_paths list graph u v weights fits is = walks_are_paths (length list.ids) list.edges graph u v weights fits.ends is

pub on_chains : (list : EdgeList) (graph : ReadGraph) (u v : ℕ) → EdgeListFits list →
    IsGraphOf Simple reads_kind.All (length list.ids) list.edges graph → LeadsTo graph.rows u v ↔ IsConnected list.edges u v
on_chains list graph u v fits is = walks_are_chains (length list.ids) list.edges graph u v fits.ends is

from_sources : (list : EdgeList) (graph : ReadGraph) (sources : List ℕ) (v : ℕ) (weights : List ℕ) → EdgeListFits list →
    IsGraphOf Given reads_kind.All (length list.ids) list.edges graph → IsSourceWalk graph.rows sources v weights ↔ IsSourcePath list.edges sources v weights
from_sources list graph sources v weights fits is =
    (λ a. (a.0, a.1, (on_paths list graph a.0 v weights fits is).0 a.2), λ b. (b.0, b.1, (on_paths list graph b.0 v weights fits is).1 b.2))

-- ---- answers

pub same_cost : (cost : List ℕ → ℕ) (A B : List ℕ → Type 0) (x : ℕ) → ((weights : List ℕ) → A weights ↔ B weights) → IsLeastCost cost A x → IsLeastCost cost B x
same_cost cost A B x same least = record {
  none_less = λ weights way. least.none_less weights ((same weights).1 way);
  attained = λ apart. (let found = least.attained apart in (found.0, (same found.0).0 found.1, found.2));
  top = (λ is weights way. least.top.0 is weights ((same weights).1 way), λ none. least.top.1 (λ weights way. none weights ((same weights).0 way)));
}

pub same_width : (A B : List ℕ → Type 0) (x : ℕ) → ((weights : List ℕ) → A weights ↔ B weights) → IsGreatestWidth A x → IsGreatestWidth B x
same_width A B x same greatest = record {
  none_wider = λ weights way. greatest.none_wider weights ((same weights).1 way);
  attained = λ apart. (let found = greatest.attained apart in (found.0, (same found.0).0 found.1, found.2));
  zero = λ none. greatest.zero (λ weights way. none weights ((same weights).0 way));
}

pub bfs_on_edges : (list : EdgeList) (graph : ReadGraph) (sources x : List ℕ) → EdgeListFits list → IsGraphOf bfs.form bfs.reads (length list.ids) list.edges graph →
    IsAnswer bfs graph.rows (starts_of bfs.start list.ids sources) x → (v : ℕ) → v < length list.ids → IsLeastCost length (IsSourcePath list.edges sources v) (slice_index x v)
bfs_on_edges list graph sources x fits is answer v below =
    same_cost length (IsSourceWalk graph.rows sources v) (IsSourcePath list.edges sources v) (slice_index x v)
    (λ weights. from_sources list graph sources v weights fits is)
    (bfs_is graph.rows list.ids sources x (given_fits (length list.ids) list.edges graph fits.ends is) fits.vertices answer v below)

pub sssp_on_edges : (list : EdgeList) (graph : ReadGraph) (sources x : List ℕ) → EdgeListFits list → IsGraphOf sssp.form sssp.reads (length list.ids) list.edges graph →
    IsAnswer sssp graph.rows (starts_of sssp.start list.ids sources) x → (v : ℕ) → v < length list.ids → IsLeastCost sum (IsSourcePath list.edges sources v) (slice_index x v)
sssp_on_edges list graph sources x fits is answer v below =
    same_cost sum (IsSourceWalk graph.rows sources v) (IsSourcePath list.edges sources v) (slice_index x v)
    (λ weights. from_sources list graph sources v weights fits is)
    (sssp_is graph.rows list.ids sources x (given_fits (length list.ids) list.edges graph fits.ends is) fits.vertices answer v below)

pub widest_on_edges : (list : EdgeList) (graph : ReadGraph) (sources x : List ℕ) → EdgeListFits list → IsGraphOf widest.form widest.reads (length list.ids) list.edges graph →
    IsAnswer widest graph.rows (starts_of widest.start list.ids sources) x → (v : ℕ) → v < length list.ids → IsGreatestWidth (IsSourcePath list.edges sources v) (slice_index x v)
widest_on_edges list graph sources x fits is answer v below =
    same_width (IsSourceWalk graph.rows sources v) (IsSourcePath list.edges sources v) (slice_index x v)
    (λ weights. from_sources list graph sources v weights fits is)
    (widest_is graph.rows list.ids sources x (given_fits (length list.ids) list.edges graph fits.ends is) answer v below)

pub components_on_edges : (list : EdgeList) (graph : ReadGraph) (sources x : List ℕ) → EdgeListFits list → IsGraphOf components.form components.reads (length list.ids) list.edges graph →
    IsAnswer components graph.rows (starts_of components.start list.ids sources) x → (v : ℕ) → v < length list.ids → IsLeastId list.ids (λ u. IsConnected list.edges u v) (slice_index x v)
components_on_edges list graph sources x fits is answer v below =
    let n : ℕ = length list.ids in
    let known : IsLeastId list.ids (λ u. LeadsTo graph.rows u v) (slice_index x v) =
    components_are graph.rows list.ids sources x (simple_fits n list.edges graph is) (λ k d here. omega (arith, fits.ids k d here)) answer v below in
    record {
      none_less = λ u chain. known.none_less u ((on_chains list graph u v fits is).1 chain);
      attained = (let found = known.attained in (found.0, (on_chains list graph found.0 v fits is).0 found.1, found.2));
    }
