-- What the texts of built-in programs say, in words of edges with their ends named by ids.
use Rattle.std.proofs.Common.{◌≡◌, ℕ, ◌<◌, ◌≤◌, Bool, List, length, ◌∙◌, subst, arith}
use Rattle.std.specs.Prelude.{slice_index, sum, Ok}
use Rattle.px_base.specs.declared.graph.EdgeList.{EdgeList}
use Rattle.px_base.specs.declared.program.Program.{Program}
use Rattle.px_base.specs.AnswerTexts.{IsAnswerOn, IsAnswerText}
use Rattle.px_base.specs.Inputs.{input_limits, input_of}
use Rattle.px_base.specs.Lines.{EdgeListFits, IdEdge, IsEdgeListOf}
use Rattle.px_base.specs.Programs.{bfs}
use Rattle.px_base.specs.ProgramNames.{components, levels, sssp, widest}
use Rattle.px_base.specs.Starts.{positions_of}
use Rattle.px_base.specs.Values.{place_of}
use Rattle.path_laws.specs.ByIds.{AreConnected, IsIdRiseTo, IsIdSourcePath, IsLeastOf, SaysOfEach}
use Rattle.path_laws.specs.Paths.{IsConnected, IsRisingChain, IsRisingChainTo, IsSourcePath}
use Rattle.path_laws.specs.Readings.{IsGreatestLength, IsGreatestWidth, IsLeastCost, IsLeastId}
use Rattle.path_laws.proofs.IdEdges.{IsPlacedChain, at_place, chain_by_ids, chain_by_places, place_at, rise_by_ids, rise_by_places, source_paths}
use Rattle.edge_reader.proofs.InputFits.{input_fits}
use Rattle.path_laws.proofs.Levels.{levels_on_edges}
use Rattle.path_laws.proofs.OnEdges.{bfs_on_edges, components_on_edges, same_cost, same_width, sssp_on_edges, widest_on_edges}

-- the text of an answer says what holds of each of its values
said : (p : Program) (sources : List ℕ) (edges : List IdEdge) (text : List ℕ) (answer : IsAnswerText p sources edges text) (Holds : ℕ → ℕ → Type 0) →
    length answer.answered.values ≡ length answer.answered.graph.rows →
    ((v : ℕ) → v < length answer.list.ids → Holds (slice_index answer.list.ids v) (slice_index answer.answered.values v)) →
    SaysOfEach edges Holds text
said p sources edges text answer Holds sized each = record {
  ids = answer.list.ids;
  rising = answer.listed.rising;
  members = answer.listed.members;
  values = answer.answered.values;
  one_each = sized ∙ answer.answered.built.one_each;
  written = answer.answered.written;
  each = each;
}

-- ---- paths from sources

pub bfs_says : (weighted : Bool) (bytes sources text : List ℕ) (edges : List IdEdge) → input_of input_limits weighted bytes ≡ Ok edges → IsAnswerText bfs sources edges text →
    SaysOfEach edges (λ id x. IsLeastCost length (IsIdSourcePath edges sources id) x) text
bfs_says weighted bytes sources text edges input answer =
    let list : EdgeList = answer.list in
    let fits : EdgeListFits list = input_fits weighted bytes edges list input answer.listed in
    let on : IsAnswerOn bfs (positions_of list.ids sources) list text = answer.answered in
    said bfs sources edges text answer (λ id x. IsLeastCost length (IsIdSourcePath edges sources id) x) on.is_answer.consistent.values.one_each
    (λ v below. same_cost length (IsSourcePath list.edges (positions_of list.ids sources) v) (IsIdSourcePath edges sources (slice_index list.ids v)) (slice_index on.values v)
    (λ weights. source_paths edges list sources v weights answer.listed fits below)
    (bfs_on_edges list on.graph (positions_of list.ids sources) on.values fits on.built on.is_answer v below))

pub sssp_says : (weighted : Bool) (bytes sources text : List ℕ) (edges : List IdEdge) → input_of input_limits weighted bytes ≡ Ok edges → IsAnswerText sssp sources edges text →
    SaysOfEach edges (λ id x. IsLeastCost sum (IsIdSourcePath edges sources id) x) text
sssp_says weighted bytes sources text edges input answer =
    let list : EdgeList = answer.list in
    let fits : EdgeListFits list = input_fits weighted bytes edges list input answer.listed in
    let on : IsAnswerOn sssp (positions_of list.ids sources) list text = answer.answered in
    said sssp sources edges text answer (λ id x. IsLeastCost sum (IsIdSourcePath edges sources id) x) on.is_answer.consistent.values.one_each
    (λ v below. same_cost sum (IsSourcePath list.edges (positions_of list.ids sources) v) (IsIdSourcePath edges sources (slice_index list.ids v)) (slice_index on.values v)
    (λ weights. source_paths edges list sources v weights answer.listed fits below)
    (sssp_on_edges list on.graph (positions_of list.ids sources) on.values fits on.built on.is_answer v below))

pub widest_says : (weighted : Bool) (bytes sources text : List ℕ) (edges : List IdEdge) → input_of input_limits weighted bytes ≡ Ok edges → IsAnswerText widest sources edges text →
    SaysOfEach edges (λ id x. IsGreatestWidth (IsIdSourcePath edges sources id) x) text
widest_says weighted bytes sources text edges input answer =
    let list : EdgeList = answer.list in
    let fits : EdgeListFits list = input_fits weighted bytes edges list input answer.listed in
    let on : IsAnswerOn widest (positions_of list.ids sources) list text = answer.answered in
    said widest sources edges text answer (λ id x. IsGreatestWidth (IsIdSourcePath edges sources id) x) on.is_answer.consistent.values.one_each
    (λ v below. same_width (IsSourcePath list.edges (positions_of list.ids sources) v) (IsIdSourcePath edges sources (slice_index list.ids v)) (slice_index on.values v)
    (λ weights. source_paths edges list sources v weights answer.listed fits below)
    (widest_on_edges list on.graph (positions_of list.ids sources) on.values fits on.built on.is_answer v below))

-- ---- chains

least_connected : (edges : List IdEdge) (list : EdgeList) (v x : ℕ) → IsEdgeListOf edges list → EdgeListFits list → v < length list.ids →
    IsLeastId list.ids (λ u. IsConnected list.edges u v) x → IsLeastOf (λ a. AreConnected edges a (slice_index list.ids v)) x
least_connected edges list v x of fits below known = record { none_less = none_less; attained = from }
  where
    none_less : (a : ℕ) → AreConnected edges a (slice_index list.ids v) → x ≤ a
    none_less a chain =
        let placed : IsPlacedChain list a (slice_index list.ids v) =
        chain_by_places edges list a (slice_index list.ids v) chain.0 of fits (rw (place_at list.ids v of.rising below) below) chain.1 in
        let ends : IsConnected list.edges (place_of list.ids a) v = subst (λ (t : ℕ). IsConnected list.edges (place_of list.ids a) t) (place_at list.ids v of.rising below) placed.connected in
        omega (arith, known.none_less (place_of list.ids a) ends, at_place list.ids a placed.begins)

    from : AreConnected edges x (slice_index list.ids v)
    from = (let found = known.attained in
        subst (λ (a : ℕ). AreConnected edges a (slice_index list.ids v)) found.2 (chain_by_ids edges list found.0 v found.1.0 of fits found.1.1))

pub components_say : (weighted : Bool) (bytes sources text : List ℕ) (edges : List IdEdge) → input_of input_limits weighted bytes ≡ Ok edges → IsAnswerText components sources edges text →
    SaysOfEach edges (λ id x. IsLeastOf (λ a. AreConnected edges a id) x) text
components_say weighted bytes sources text edges input answer =
    let list : EdgeList = answer.list in
    let fits : EdgeListFits list = input_fits weighted bytes edges list input answer.listed in
    let on : IsAnswerOn components (positions_of list.ids sources) list text = answer.answered in
    said components sources edges text answer (λ id x. IsLeastOf (λ a. AreConnected edges a id) x) on.is_answer.consistent.values.one_each
    (λ v below. least_connected edges list v (slice_index on.values v) answer.listed fits below
    (components_on_edges list on.graph (positions_of list.ids sources) on.values fits on.built on.is_answer v below))

greatest_rise : (edges : List IdEdge) (list : EdgeList) (v x : ℕ) → IsEdgeListOf edges list → EdgeListFits list → v < length list.ids →
    IsGreatestLength (IsRisingChainTo list.edges v) x → IsGreatestLength (IsIdRiseTo edges (slice_index list.ids v)) x
greatest_rise edges list v x of fits below known = record { none_longer = none_longer; attained = from }
  where
    none_longer : (ids : List ℕ) → IsIdRiseTo edges (slice_index list.ids v) ids → length ids ≤ x
    none_longer ids (a, rise) =
        let placed = rise_by_places edges list a (slice_index list.ids v) ids of fits rise in
        let chain : IsRisingChain list.edges (place_of list.ids a) v placed.0 =
        subst (λ (t : ℕ). IsRisingChain list.edges (place_of list.ids a) t placed.0) (place_at list.ids v of.rising below) placed.1 in
        omega (arith, placed.2, known.none_longer placed.0 (place_of list.ids a, chain))

    from : (ids : List ℕ) × IsIdRiseTo edges (slice_index list.ids v) ids × (length ids ≡ x)
    from = (let found = known.attained in
        let rise = rise_by_ids edges list found.1.0 v found.0 of fits found.1.1 in
        (rise.0, (slice_index list.ids found.1.0, rise.1), rise.2 ∙ found.2))

pub levels_say : (weighted : Bool) (bytes sources text : List ℕ) (edges : List IdEdge) → input_of input_limits weighted bytes ≡ Ok edges → IsAnswerText levels sources edges text →
    SaysOfEach edges (λ id x. IsGreatestLength (IsIdRiseTo edges id) x) text
levels_say weighted bytes sources text edges input answer =
    let list : EdgeList = answer.list in
    let fits : EdgeListFits list = input_fits weighted bytes edges list input answer.listed in
    let on : IsAnswerOn levels (positions_of list.ids sources) list text = answer.answered in
    said levels sources edges text answer (λ id x. IsGreatestLength (IsIdRiseTo edges id) x) on.is_answer.values.one_each
    (λ v below. greatest_rise edges list v (slice_index on.values v) answer.listed fits below
    (levels_on_edges list on.graph (positions_of list.ids sources) on.values fits on.built on.is_answer v below))
