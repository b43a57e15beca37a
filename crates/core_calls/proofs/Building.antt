-- A graph of a list of edges is built for its program, such a job is sound, and a hub is new for it.
use Rattle.std.proofs.Common.{◌≡◌, ℕ, ◌≤◌, Bool, List, length, ap, sym, ◌∙◌, subst, arith}
use Rattle.std.specs.Prelude.{IsOk}
use Rattle.px_base.specs.declared.TheConstants.{MOST_READS, MOST_VERTICES}
use Rattle.px_base.specs.declared.graph.Read.{Read}
use Rattle.px_base.specs.declared.program.CoreProgram.{CoreProgram}
use Rattle.px_base.specs.Classes.{class_of}
use Rattle.px_base.specs.Core.{core_form}
use Rattle.px_base.specs.Graphs.{RowsFit, read_count}
use Rattle.px_base.specs.Parts.{IsWorkerCuts, part_count, route_of, routes_of}
use Rattle.px_base.specs.RowTexts.{IsRowProgram}
use Rattle.px_base.specs.Values.{IsValueList}
use Rattle.px_base.proofs.Positions.{length_by_position}
use Rattle.partitioner.specs.Cuts.{vertex_count}
use Rattle.list_laws.specs.Routes.{AreRoutes}
use Rattle.list_laws.proofs.Routes.{routes_fit}
use Rattle.hub_terms.specs.declared.tasks.Limits.{Limits}
use Rattle.hub_terms.specs.Hubs.{HubState, opening_hub}
use Rattle.hub_terms.specs.Jobs.{IsSound, job_of}
use Rattle.job_laws.proofs.Built.{built_is_sound}
use Rattle.core_calls.specs.Jobs.{IsCutJob}
use Rattle.px_base.specs.declared.graph.EdgeList.{EdgeList}
use Rattle.px_base.specs.declared.graph.ReadGraph.{ReadGraph}
use Rattle.px_base.specs.declared.program.Program.{Program}
use Rattle.px_base.specs.Graphs.{IsGraphOf}
use Rattle.px_base.specs.Lines.{EdgeListFits}
use Rattle.answers.specs.Built.{IsBuilt}

pub built_on : (p : Program) (list : EdgeList) (graph : ReadGraph) → EdgeListFits list → IsGraphOf p.form p.reads (length list.ids) list.edges graph → IsBuilt p graph
built_on p list graph fits built = record {
  edges = list.edges;
  ends = λ k d inside. let ends = fits.ends k d inside in (omega (arith, ends.0, built.size), omega (arith, ends.1, built.size));
  graph = subst (λ (n : ℕ). IsGraphOf p.form p.reads n list.edges graph) (sym built.size) built;
}

pub is_cut_job : (p : Program) (graph : ReadGraph) (core : CoreProgram) (starts ends : List ℕ) (count : ℕ) → IsOk (class_of p) → IsRowProgram p →
    IsBuilt p graph → graph.n ≡ count → RowsFit graph.n graph.rows → read_count graph.rows ≤ MOST_READS → count ≤ MOST_VERTICES →
    IsValueList count starts → core ≡ core_form p → IsWorkerCuts graph.n ends → IsCutJob graph core starts ends
is_cut_job p graph core starts ends count accepted numbers built size rows reads few values form cuts = record {
  sound = subst (λ (k : CoreProgram). IsSound (job_of graph k starts)) (sym form)
      (built_is_sound p graph starts accepted numbers built rows (omega (arith, size, few)) reads (subst (λ (n : ℕ). IsValueList n starts) (sym size) values));
  one_each = rows.one_each;
  cuts = cuts;
}

-- copied cuts, and the routes of a graph on them
module _ (rows : List (List Read)) (ends own : List ℕ) (to : List (List ℕ)) (copy : own ≡ ends) (routes : to ≡ routes_of rows ends) where
  pub routes_here : AreRoutes (part_count own) to
  routes_here = subst (λ (e : List ℕ). AreRoutes (part_count e) to) (sym copy) (subst (λ (t : List (List ℕ)). AreRoutes (part_count ends) t) (sym routes) (routes_fit rows ends))

  pub one_route_each : IsWorkerCuts (length rows) ends → length to ≡ vertex_count own
  one_route_each cuts = subst (λ (e : List ℕ). length to ≡ vertex_count e) (sym copy)
      (ap (λ (t : List (List ℕ)). length t) routes ∙ (length_by_position (length rows) (route_of rows ends) ∙ sym cuts.cut.last))

  pub routes_of_hub : (hub : HubState) (counting : Bool) (limits : Limits) → hub ≡ opening_hub own to counting limits → hub.inboxes.routes ≡ routes_of rows hub.inboxes.cuts
  routes_of_hub hub counting limits new =
      ap (λ (h : HubState). h.inboxes.routes) new ∙ (routes ∙ ap (λ (e : List ℕ). routes_of rows e) (sym (ap (λ (h : HubState). h.inboxes.cuts) new ∙ copy)))
