-- A new hub of a graph's routes, beside no world, is the opening of a sound job, and has all facts.
use Rattle.std.proofs.Common.{◌≡◌, ℕ, Bool, List, None, Option, length, sym, ap, subst, ◌∙◌}
use Rattle.std.specs.Prelude.{replicate}
use Rattle.px_base.specs.declared.graph.Read.{Read}
use Rattle.px_base.specs.Classes.{counts_reads}
use Rattle.px_base.specs.Parts.{IsWorkerCuts, route_of, routes_of}
use Rattle.px_base.specs.Worlds.{World}
use Rattle.px_base.proofs.Positions.{length_by_position}
use Rattle.recovery.specs.Keeping.{IsCutGraph}
use Rattle.hub_terms.specs.Jobs.{IsSound, Job}
use Rattle.hub_terms.specs.Hubs.{HubState, opening_hub, worker_count}
use Rattle.hub_terms.specs.HubInStep.{IsHubInStep}
use Rattle.hub_terms.specs.Systems.{SystemState, opening_system}
use Rattle.budget_laws.specs.KeptFacts.{KeepsAll}
use Rattle.budget_laws.proofs.AllKept.{opens_with_all}

-- the cuts of a hub whose routes are those of a graph are cuts of the graph
of_graph : (rows : List (List Read)) (ends : List ℕ) (to : List (List ℕ)) → IsCutGraph ends to → to ≡ routes_of rows ends → IsWorkerCuts (length rows) ends
of_graph rows ends to graph same =
    subst (λ (n : ℕ). IsWorkerCuts n ends) (sym graph.one_each ∙ (ap (λ (routes : List (List ℕ)). length routes) same ∙ length_by_position (length rows) (route_of rows ends))) graph.cut

module _ (hub : HubState) (job : Job) (told : Bool) (worlds : List (Option World))
    (new : hub ≡ opening_hub hub.inboxes.cuts hub.inboxes.routes hub.inboxes.counting hub.members.limits) (none : worlds ≡ replicate (worker_count hub) None)
    (routes : hub.inboxes.routes ≡ routes_of job.rows hub.inboxes.cuts) (counting : hub.inboxes.counting ≡ counts_reads job.core.program.fold) where
  abbrev made : SystemState
  made = record { hub = hub; job = job; told = told; worlds = worlds }

  pub made_is_opening : made ≡ opening_system hub.inboxes.cuts hub.members.limits told job
  made_is_opening =
      let same : hub ≡ opening_hub hub.inboxes.cuts (routes_of job.rows hub.inboxes.cuts) (counts_reads job.core.program.fold) hub.members.limits =
      new ∙ (ap (λ (r : List (List ℕ)). opening_hub hub.inboxes.cuts r hub.inboxes.counting hub.members.limits) routes
      ∙ ap (λ (b : Bool). opening_hub hub.inboxes.cuts (routes_of job.rows hub.inboxes.cuts) b hub.members.limits) counting) in
      ap (λ (h : HubState). record { hub = h; job = job; told = told; worlds = worlds }) same
      ∙ ap (λ (ws : List (Option World)). record { hub = opening_hub hub.inboxes.cuts (routes_of job.rows hub.inboxes.cuts) (counts_reads job.core.program.fold) hub.members.limits; job = job; told = told; worlds = ws }) none

  pub made_keeps_all : IsHubInStep hub → IsCutGraph hub.inboxes.cuts hub.inboxes.routes → IsSound job → KeepsAll made
  made_keeps_all ok graph sound = subst KeepsAll (sym made_is_opening) (opens_with_all hub.inboxes.cuts hub.members.limits told job
      (record { sound = sound; in_range = ok.limits; of_graph = of_graph job.rows hub.inboxes.cuts hub.inboxes.routes graph routes }))
