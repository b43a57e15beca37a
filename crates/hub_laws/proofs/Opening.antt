-- The state before the first event is in step.
use Rattle.std.proofs.Common.{◌≡◌, ℕ, zero, suc, Bool, true, false, not, List, [], None, length, arith, refl, sym, ap, ◌∙◌}
use Rattle.std.specs.Prelude.{◌&&◌, is_none, filter}
use Rattle.std.proofs.lemmas.List.{length-replicate}
use Rattle.std.proofs.Math.ListN.{replicate}
use Rattle.px_base.specs.declared.wire.Update.{Update}
use Rattle.px_base.specs.Classes.{counts_reads}
use Rattle.px_base.specs.Parts.{IsWorkerCuts, part_count, routes_of}
use Rattle.hub_terms.specs.declared.tasks.Limits.{Limits}
use Rattle.hub_terms.specs.declared.workers.MemberState.{MemberState}
use Rattle.hub_terms.specs.Members.{opening_member, live_count}
use Rattle.hub_terms.specs.Hubs.{HubState, opening_hub, worker_at, order_at, reported_at}
use Rattle.hub_terms.specs.HubInStep.{IsHubInStep}
use Rattle.hub_terms.specs.Jobs.{Job, IsSound, LimitsFit}
use Rattle.hub_terms.specs.Systems.{opening_system, world_at}
use Rattle.hub_terms.specs.InStep.{IsInStep}
use Rattle.list_laws.proofs.Lists.{at_replicate}
use Rattle.hub_laws.proofs.Mail.{no_mail}

module _ (cuts : List ℕ) (routes : List (List ℕ)) (counting : Bool) (limits : Limits) (fit : LimitsFit limits) where
  abbrev hub : HubState
  hub = opening_hub cuts routes counting limits

  opening_is : (i : ℕ) → worker_at hub i ≡ opening_member
  opening_is i = at_replicate (part_count cuts) opening_member i

  no_order : (i : ℕ) → order_at hub i ≡ None
  no_order i = at_replicate (part_count cuts) None i

  no_report : (i : ℕ) → reported_at hub i ≡ None
  no_report i = at_replicate (part_count cuts) None i

  not_live : (i : ℕ) → (worker_at hub i).live ≡ true → ⊥
  not_live i live = cc (live, ap (λ (w : MemberState). w.live) (opening_is i))

  none_live : (n : ℕ) → length (filter (λ (w : MemberState). w.live) (replicate n opening_member)) ≡ 0
  none_live zero = refl
  none_live (suc n) = none_live n

  none_counted : live_count hub.members ≡ 0
  none_counted = none_live (part_count cuts)

  pub hub_opens : IsHubInStep hub
  hub_opens = record {
    limits = fit;
    places = record {
      members = length-replicate (part_count cuts) opening_member;
      boxes = length-replicate (part_count cuts) [];
      orders = length-replicate (part_count cuts) None;
      reported = length-replicate (part_count cuts) None;
    };
    inboxes = λ j. rw (at_replicate {X = List Update} (part_count cuts) [] j) (no_mail hub.inboxes j);
    orders = λ i order is. absurd (cc (is, no_order i));
    tasks = λ i. rw (opening_is i, no_order i) refl;
    missing = λ i missing. record { due = ap (λ (w : MemberState). w.due) (opening_is i); order = no_order i; reported = no_report i };
    unchanged = λ i due. ap (λ (w : MemberState). w.changed) (opening_is i);
    epochs = record {
      some_epoch = omega arith;
      losses = λ free. refl;
      loss_workers = λ k d inside. absurd (omega (arith, inside));
      loss_limit = (λ over. absurd (omega (arith, over)), λ is. absurd (cc is));
      room = omega (arith, none_counted);
    };
    rounds = record {
      most = λ i live. absurd (not_live i live);
      base_room = omega arith;
      room = λ i live. absurd (not_live i live);
    };
    rounds_left = λ i epoch round updates is. absurd (cc (is, no_order i));
    reports = record {
      idle = λ i values is. absurd (cc (is, no_report i));
      quiet = λ i values is. absurd (cc (is, no_report i));
      asked = λ i is. absurd (cc (is, no_order i));
      values = λ i values is. absurd (cc (is, no_report i));
    };
  }

pub system_opens : (cuts : List ℕ) (limits : Limits) (told : Bool) (job : Job) → IsSound job → LimitsFit limits → IsWorkerCuts (length job.rows) cuts → IsInStep (opening_system cuts limits told job)
system_opens cuts limits told job sound fit cut = record {
  job = record { sound = sound; cuts = cut; routes = refl; counting = refl; worlds = length-replicate (part_count cuts) None };
  hub = hub_opens cuts (routes_of job.rows cuts) (counts_reads job.core.program.fold) limits fit;
  live_worlds = λ i. (let missing = ap (λ (w : MemberState). not (told && w.live)) (opening_is cuts (routes_of job.rows cuts) (counts_reads job.core.program.fold) limits fit i) in
      ap is_none (nothing i) ∙ sym (missing ∙ by_told told));
  worlds = λ i w is. absurd (cc (is, nothing i));
  values = λ i j v w is. absurd (cc (is, nothing i));
  settled = λ i w is. absurd (cc (is, nothing i));
  honest = λ i w is. absurd (cc (is, nothing i));
}
  where
    nothing : (i : ℕ) → world_at (opening_system cuts limits told job) i ≡ None
    nothing i = at_replicate (part_count cuts) None i

    by_told : (b : Bool) → not (b && false) ≡ true
    by_told true = refl
    by_told false = refl
