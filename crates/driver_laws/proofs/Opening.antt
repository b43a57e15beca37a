-- The state before the first event of a run, and its parts.
use Rattle.std.proofs.Common.{◌≡◌, ℕ, zero, suc, ◌+◌, ◌*◌, ◌/◌, ◌<◌, Bool, false, List, ◌∷◌, length, map, get_or, Option, None, replicate, arith, refl, ap, sym, ◌∙◌, subst}
use Rattle.std.specs.Option.{option_map}
use Rattle.std.proofs.lemmas.List.{length-replicate}
use Rattle.std.proofs.lemmas.List.Elements.{All-nil}
use Rattle.px_base.specs.declared.graph.Part.{Part}
use Rattle.px_base.specs.declared.graph.Read.{Read}
use Rattle.px_base.specs.declared.wire.Loss.{Loss}
use Rattle.px_base.specs.declared.wire.LossKind.TheVariants.{Ended}
use Rattle.px_base.specs.Parts.{IsWorkerCuts, block_cuts, part_count, part_of, route_of, routes_of}
use Rattle.px_base.specs.Values.{by_position}
use Rattle.px_base.proofs.Positions.{at_position, length_by_position}
use Rattle.partitioner.specs.Cuts.{vertex_count}
use Rattle.list_laws.specs.Routes.{AreRoutes}
use Rattle.list_laws.proofs.Lists.{at_replicate}
use Rattle.list_laws.proofs.Routes.{routes_fit}
use Rattle.hub_terms.specs.declared.tasks.Limits.{Limits}
use Rattle.hub_terms.specs.declared.workers.MemberState.{MemberState}
use Rattle.hub_terms.specs.Jobs.{Job}
use Rattle.hub_terms.specs.Members.{opening_member}
use Rattle.hub_terms.specs.Hubs.{worker_at, worker_count}
use Rattle.hub_terms.specs.Systems.{SystemState, opening_system, part_at}
use Rattle.link_trait.specs.Links.{LinkView}
use Rattle.link_trait.specs.Nurseries.{NurseryView, IsLent, new_spawner}
use Rattle.link_trait.specs.Spawners.{SpawnerView}
use Rattle.driver_laws.specs.Seats.{Fits, IsInTune}

-- ---- the hub's routes

pub routes_are : (rows : List (List Read)) (ends : List ℕ) (to : List (List ℕ)) → to ≡ routes_of rows ends → AreRoutes (part_count ends) to
routes_are rows ends to is = subst (AreRoutes (part_count ends)) (sym is) (routes_fit rows ends)

pub route_each : (rows : List (List Read)) (n : ℕ) (ends : List ℕ) (to : List (List ℕ)) → to ≡ routes_of rows ends → n ≡ length rows → IsWorkerCuts n ends → length to ≡ vertex_count ends
route_each rows n ends to is size cuts = ap length is ∙ (length_by_position (length rows) (route_of rows ends) ∙ (sym size ∙ sym cuts.cut.last))

-- ---- the parts of its workers

pub team_parts : (s : SystemState) (ends : List ℕ) (limits : Limits) (told : Bool) (job : Job) (rows : List (List Read)) (parts : List Part) → s ≡ opening_system ends limits told job → rows ≡ job.rows →
    parts ≡ by_position (part_count ends) (part_of rows job.starts ends) → parts ≡ by_position (worker_count s.hub) (part_at s)
team_parts s ends limits told job rows parts opens same are = are ∙ (ap (λ (r : List (List Read)). by_position (part_count ends) (part_of r job.starts ends)) same ∙ sym (ap (λ (x : SystemState). by_position (worker_count x.hub) (part_at x)) opens))

-- ---- spawners that were lent, and no links

none_at : (n i : ℕ) → get_or (replicate {A = Option LinkView} n None) i None ≡ None
none_at n i = at_replicate n None i

none_shown : {L : Type 0} (h : L → LinkView) (n : ℕ) → map (option_map h) (replicate n None) ≡ replicate n None
none_shown h zero = refl
none_shown h (suc n) = ap (λ (ls : List (Option LinkView)). None ∷ ls) (none_shown h n)

module _ (s : SystemState) (ends : List ℕ) (limits : Limits) (told : Bool) (job : Job) (opens : s ≡ opening_system ends limits told job) (old lent : NurseryView) (all : List SpawnerView) (lends : IsLent old lent (part_count ends) all) (tells : told ≡ old.tells) where
  opening_fits : (i : ℕ) → i < part_count ends → Fits (opening_system ends limits told job) i (new_spawner lent i) None
  opening_fits i below = record {
    spawner = record { worker = refl; tells = ap (λ (v : NurseryView). v.tells) lends.nursery ∙ sym tells; retired = refl };
    counts = record {
      few_starts = omega arith;
      most_starts = omega arith;
      starts = λ free. rw missing refl;
      kinds = λ h. All-nil (λ (loss : Loss). loss.kind ≡ Ended);
      ends = omega arith;
      refused = λ named. absurd (cc named);
    };
    out = refl;
    missing = missing;
  }
    where
      missing : (worker_at (opening_system ends limits told job).hub i).live ≡ false
      missing = ap (λ (u : MemberState). u.live) (at_replicate (part_count ends) opening_member i)

  -- before the first event all workers are in tune
  pub opening_tune : {L : Type 0} (h : L → LinkView) (ls : List (Option L)) → ls ≡ replicate (part_count ends) None → IsInTune s all (map (option_map h) ls)
  opening_tune h ls none = rw (opens, none, none_shown h (part_count ends), lends.spawners) (record {
    spawner_count = length_by_position (part_count ends) (new_spawner lent);
    link_count = length-replicate {A = Option LinkView} (part_count ends) None;
    each = λ i below p. rw (at_position (part_count ends) (new_spawner lent) i p below, none_at (part_count ends) i) (opening_fits i below);
    idle = λ i. at_replicate (part_count ends) None i;
  })

pub blocks_count : (n workers : ℕ) → part_count (block_cuts n workers) ≡ workers
blocks_count n workers = omega (arith, length_by_position (workers + 1) (λ (k : ℕ). k * n / workers))

-- the same for the cuts of a job
pub job_tune : (s : SystemState) (vertices workers : ℕ) (limits : Limits) (told : Bool) (job : Job) (old lent : NurseryView) (all : List SpawnerView) {L : Type 0} (h : L → LinkView) (ls : List (Option L)) →
    s ≡ opening_system (block_cuts vertices workers) limits told job → IsLent old lent workers all → told ≡ old.tells → ls ≡ replicate workers None → IsInTune s all (map (option_map h) ls)
job_tune s vertices workers limits told job old lent all h ls opens lends tells none =
    opening_tune s (block_cuts vertices workers) limits told job opens old lent all (subst (λ (n : ℕ). IsLent old lent n all) (sym (blocks_count vertices workers)) lends) tells h ls
    (none ∙ ap (λ (n : ℕ). replicate n None) (sym (blocks_count vertices workers)))
