-- Each event keeps all that the hub keeps.
use Rattle.std.proofs.Common.{◌≡◌, ℕ, zero, suc, ◌-◌, ◌<◌, ◌≤◌, Bool, true, false, List, [], ◌∷◌, Option, Some, None, length, map, set, get_or, arith, refl, sym, ap, subst, ◌∙◌, inl, inr}
use Rattle.std.specs.Prelude.{◌^◌, is_some}
use Rattle.std.specs.List.{list_all}
use Rattle.std.proofs.Math.ListN.{replicate}
use Rattle.std.proofs.lemmas.List.{length-map, length-replicate, map-set, get_or-map}
use Rattle.std.proofs.lemmas.List.Folds.{list_all-map}
use Rattle.std.proofs.lemmas.Bool.{cases_lt}
use Rattle.px_base.specs.declared.wire.Header.{Header}
use Rattle.px_base.specs.declared.wire.LossKind.{LossKind}
use Rattle.px_base.specs.Parts.{part_count}
use Rattle.partitioner.specs.Cuts.{vertex_count}
use Rattle.hub_terms.specs.declared.tasks.Limits.{Limits}
use Rattle.hub_terms.specs.declared.stops.Why.{Why}
use Rattle.hub_terms.specs.declared.stops.Why.TheVariants as why
use Rattle.hub_terms.specs.declared.stops.Halt.{Halt}
use Rattle.hub_terms.specs.Jobs.{LimitsFit}
use Rattle.hub_terms.specs.Hubs.{HubState, worker_count, worker_at, reported_at, all_reported, opening_hub}
use Rattle.hub_terms.specs.HubEvents.{why_of, after_loss, after_join, after_halt, halt_after_loss}
use Rattle.hub_laws.proofs.HubChanged.{lost_in_step, joined_in_step, halted_in_step}
use Rattle.hub_laws.proofs.HubGave.{stopped_in_step}
use Rattle.hub_laws.proofs.Opening.{hub_opens}
use Rattle.recovery.specs.Keeping.{IsCutGraph, IsHub, IsKept, header_of, headers_of, flags_of, halt_after}
use Rattle.recovery.specs.Reports.{HoldsReports}
use Rattle.recovery.proofs.Reported.{none_held}

-- ---- the hub before the first event

none_mapped : {X Y : Type 0} (f : X → Y) (x : X) (n : ℕ) → map f (replicate n x) ≡ replicate n (f x)
none_mapped f x zero = refl
none_mapped f x (suc n) = ap (λ ys. f x ∷ ys) (none_mapped f x n)

pub hub_opened : (ends : List ℕ) (to : List (List ℕ)) (counts : Bool) (limits : Limits) → IsCutGraph ends to → LimitsFit limits →
    IsHub ends to counts (replicate (part_count ends) None) (replicate (part_count ends) false) (replicate (vertex_count ends) 0) (opening_hub ends to counts limits)
hub_opened ends to counts limits graph fit = record {
  kept = record {
    cuts = refl;
    routes = refl;
    counting = refl;
    graph = graph;
    headed = sym (none_mapped header_of None (part_count ends));
    flagged = sym (none_mapped {X = Option (List ℕ)} is_some None (part_count ends));
    held = none_held ends (part_count ends) (replicate (vertex_count ends) 0) (length-replicate (vertex_count ends) 0);
  };
  in_step = hub_opens ends to counts limits fit;
}

module _ (ends : List ℕ) (to : List (List ℕ)) (counts : Bool) (headers : List (Option Header)) (flags : List Bool) (values : List ℕ) (hub : HubState) (all : IsHub ends to counts headers flags values hub) where
  -- ---- what its lists have room for

  pub headers_size : length headers ≡ part_count ends
  headers_size = ap length all.kept.headed ∙ length-map hub.orders header_of ∙ all.in_step.places.orders ∙ ap part_count all.kept.cuts

  pub flags_size : length flags ≡ part_count ends
  flags_size = ap length all.kept.flagged ∙ length-map hub.reported is_some ∙ all.in_step.places.reported ∙ ap part_count all.kept.cuts

  few_workers : worker_count hub ≤ 64
  few_workers = let cuts : worker_count hub ≡ length ends - 1 = ap part_count all.kept.cuts in omega (arith, cuts, all.kept.graph.cut.room)

  pub epoch_room : hub.members.epoch < 2 ^ 32 - 1
  epoch_room = let size : length hub.members.members ≡ worker_count hub = all.in_step.places.members in
      omega (arith, size, few_workers, all.in_step.epochs.room, all.in_step.limits.losses)

  pub loss_room : hub.halt ≡ None → length hub.members.losses ≤ hub.members.limits.losses
  loss_room free = elim (cases_lt hub.members.limits.losses (length hub.members.losses)) [
    | inl over ↦ absurd (cc (free, all.in_step.epochs.loss_limit.0 over))
    | inr few ↦ few
  ]

  pub headers_inside : (i : ℕ) → i < worker_count hub → i < length headers
  headers_inside i inside = let parts : worker_count hub ≡ part_count ends = ap part_count all.kept.cuts in omega (arith, inside, headers_size, parts)

  -- ---- what its flags say

  pub flags_all : list_all (λ flag. flag) flags ≡ all_reported hub
  flags_all = ap (list_all (λ (flag : Bool). flag)) all.kept.flagged ∙ list_all-map (λ (flag : Bool). flag) is_some hub.reported

  pub flag_at : (i : ℕ) → i < worker_count hub → get_or flags i false ≡ is_some (reported_at hub i)
  flag_at i inside = ap (λ fs. get_or fs i false) all.kept.flagged ∙ get_or-map is_some hub.reported i None false (omega (arith, inside, all.in_step.places.reported))

  -- ---- events that change no list

  -- the same beside a hub with the same inboxes, orders and reports
  kept_beside : (new : HubState) → new.inboxes ≡ hub.inboxes → new.orders ≡ hub.orders → new.reported ≡ hub.reported → IsKept ends to counts headers flags values new
  kept_beside new boxes orders reported = record {
    cuts = ap (λ t. t.cuts) boxes ∙ all.kept.cuts;
    routes = ap (λ t. t.routes) boxes ∙ all.kept.routes;
    counting = ap (λ t. t.counting) boxes ∙ all.kept.counting;
    graph = all.kept.graph;
    headed = all.kept.headed ∙ sym (ap headers_of orders);
    flagged = all.kept.flagged ∙ sym (ap flags_of reported);
    held = subst (λ rs. HoldsReports ends rs values) (sym reported) all.kept.held;
  }

  pub halt_kept : (reason : Halt) (i : ℕ) → IsHub ends to counts headers flags values (after_halt hub i reason)
  halt_kept reason i = record {
    kept = by_halt hub.halt;
    in_step = halted_in_step hub i reason all.in_step;
  }
    where
      by_halt : (h : Option Why) → IsKept ends to counts headers flags values (elim h [ Some first ↦ hub | None ↦ record hub { halt = Some (why_of reason i) } ])
      by_halt (Some first) = all.kept
      by_halt None = kept_beside (record hub { halt = Some (why_of reason i) }) refl refl refl

  pub spent_kept : hub.halt ≡ None → IsHub ends to counts headers flags values (record hub { halt = Some why.Budget })
  spent_kept free = record {
    kept = kept_beside (record hub { halt = Some why.Budget }) refl refl refl;
    in_step = stopped_in_step hub why.Budget all.in_step (inr (free, λ e. cc e));
  }

  pub join_kept : (i : ℕ) → i < worker_count hub → (worker_at hub i).live ≡ false → hub.halt ≡ None → IsHub ends to counts headers flags values (after_join hub i)
  join_kept i inside missing free = record {
    kept = kept_beside (after_join hub i) refl refl refl;
    in_step = joined_in_step hub i all.in_step inside missing free;
  }

  -- ---- a loss

  pub loss_kept : (i : ℕ) (kind : LossKind) → i < worker_count hub → (worker_at hub i).live ≡ true → IsHub ends to counts (set headers i None) (map (λ (_ : Bool). false) flags) values (after_loss hub i kind)
  loss_kept i kind inside live = record {
    kept = record {
      cuts = all.kept.cuts;
      routes = all.kept.routes;
      counting = all.kept.counting;
      graph = all.kept.graph;
      headed = ap (λ hs. set hs i None) all.kept.headed ∙ sym (map-set header_of hub.orders i None);
      flagged = ap (λ fs. map (λ (_ : Bool). false) fs) all.kept.flagged ∙ none_flagged hub.reported;
      held = none_held ends (length hub.reported) values all.kept.held.size;
    };
    in_step = lost_in_step hub i kind all.in_step inside live;
  }
    where
      none_flagged : (rs : List (Option (List ℕ))) → map (λ (_ : Bool). false) (flags_of rs) ≡ flags_of (replicate (length rs) None)
      none_flagged [] = refl
      none_flagged (r ∷ rs) = ap (λ fs. false ∷ fs) (none_flagged rs)

  pub loss_halt : halt_after hub.halt hub.members.limits.losses (length hub.members.losses) ≡ halt_after_loss hub
  loss_halt = by_halt hub.halt
    where
      by_halt : (h : Option Why) → halt_after h hub.members.limits.losses (length hub.members.losses) ≡ halt_after_loss (record hub { halt = h })
      by_halt (Some first) = refl
      by_halt None = refl
