-- Spawner and link of a worker go with the state, after each event of its turn and after any turn of another worker.
use Rattle.std.proofs.Common.{◌≡◌, ℕ, ◌+◌, ◌<◌, ◌≤◌, ◌^◌, Bool, true, false, cond, List, [], ◌∷◌, ◌++◌, Option, Some, None, length, set, arith, refl, sym, ap, subst, ◌∙◌, inl, inr, eq-eqb}
use Rattle.std.specs.Prelude.{◌==◌, min, nat_lt, is_none, if◌then◌else◌}
use Rattle.std.proofs.lemmas.List.{length-append}
use Rattle.std.proofs.lemmas.Bool.{cases_lt}
use Rattle.std.proofs.lemmas.List.Elements.{filter-append, All-push}
use Rattle.std.proofs.lemmas.List.Sums.{sum_by-append, sum_by-cons}
use Rattle.px_io.specs.Causes.{LAST}
use Rattle.px_base.specs.declared.graph.Part.{Part}
use Rattle.px_base.specs.declared.program.CoreProgram.{CoreProgram}
use Rattle.px_base.specs.declared.wire.Loss.{Loss}
use Rattle.px_base.specs.declared.wire.LossKind.{LossKind}
use Rattle.px_base.specs.declared.wire.LossKind.TheVariants.{Ended}
use Rattle.px_base.specs.declared.wire.Order.{Order}
use Rattle.px_base.specs.declared.wire.Order.TheVariants.{Step, Report}
use Rattle.px_base.specs.declared.wire.Update.{Update}
use Rattle.hub_terms.specs.declared.stops.Halt.TheVariants.{Memory}
use Rattle.hub_terms.specs.declared.stops.Why.{Why}
use Rattle.hub_terms.specs.declared.stops.Why.TheVariants as why
use Rattle.hub_terms.specs.declared.tasks.Task.{Task}
use Rattle.hub_terms.specs.declared.tasks.Task.TheVariants as task
use Rattle.hub_terms.specs.declared.workers.MemberState.{MemberState}
use Rattle.hub_terms.specs.Hubs.{HubState, Turn, after_turn, waiting_at, worker_at, worker_count}
use Rattle.hub_terms.specs.Seats.{SeatPart, names_worker}
use Rattle.hub_terms.specs.Systems.{SystemState, give, halt, joined, lost, new_world_at, part_at, state_after, world_at}
use Rattle.link_trait.specs.Links.{LinkView}
use Rattle.link_trait.specs.Spawners.{SpawnerView, IsStarted, discarded, new_peer, not_started}
use Rattle.list_laws.proofs.Lists.{counted_most}
use Rattle.hub_laws.proofs.Workers.{due_tasked, live_tasked, re_tasked}
use Rattle.hub_laws.proofs.HubGave.{turn_by}
use Rattle.hub_laws.proofs.HubChanged.{joined_worker, lost_worker}
use Rattle.system_laws.proofs.WorldsKept.{world_there}
use Rattle.budget_laws.specs.KeptFacts.{KeepsAll}
use Rattle.driver_laws.specs.Seats.{CountsLosses, Fits, HasRisenBy, IsLinked, IsMissing, IsSpawnerOf, ended_count, is_ended, losses_of, naming}
use Rattle.driver_laws.proofs.Stays.{GainsNothing, Stays}

-- ---- what doesn't touch a worker

-- the states are the same in all that worker j's spawner and link go with
pub record SameFor (s t : SystemState) (j : ℕ) : Type 0 where
  pub told : t.told ≡ s.told
  pub limits : t.hub.members.limits ≡ s.hub.members.limits
  pub live : (worker_at t.hub j).live ≡ (worker_at s.hub j).live
  pub losses : losses_of t j ≡ losses_of s j
  pub world : world_at t j ≡ world_at s j
  pub named : names_worker j t.hub.halt ≡ names_worker j s.hub.halt
  pub gains : GainsNothing s.hub t.hub j

module _ (s t : SystemState) (j : ℕ) (same : SameFor s t j) where
  spawner_after : (p : SpawnerView) → IsSpawnerOf s j p → IsSpawnerOf t j p
  spawner_after p is = record { worker = is.worker; tells = is.tells ∙ sym same.told; retired = is.retired }

  counts_after : (p : SpawnerView) → CountsLosses s j p → CountsLosses t j p
  counts_after p counts = record {
    few_starts = rw same.limits counts.few_starts;
    most_starts = rw same.losses counts.most_starts;
    starts = λ free. rw (same.losses, same.live) (counts.starts (same.gains.free free));
    kinds = λ tells. rw same.losses (counts.kinds (sym same.told ∙ tells));
    ends = rw same.losses counts.ends;
    refused = λ named. counts.refused (sym same.named ∙ named);
  }

  pub linked_same : (p : SpawnerView) (l : LinkView) → IsLinked s j p l → IsLinked t j p l
  linked_same p l fit = record {
    spawner = spawner_after p fit.spawner;
    counts = counts_after p fit.counts;
    link = fit.link;
    alive = fit.alive;
    peer = fit.peer ∙ sym same.world;
    live = same.live ∙ fit.live;
    answered = record {
      once = λ tells due. fit.answered.once (sym same.told ∙ tells) (same.gains.due due);
      twice = λ tells values had. fit.answered.twice (sym same.told ∙ tells) values (same.gains.reported values had);
    };
  }

  fits_same : (p : SpawnerView) (l : Option LinkView) → Fits s j p l → Fits t j p l
  fits_same p None fit = record { spawner = spawner_after p fit.spawner; counts = counts_after p fit.counts; out = fit.out; missing = same.live ∙ fit.missing }
  fits_same p (Some l) fit = linked_same p l fit

pub fits_after : (s t : SystemState) (j : ℕ) → Stays s t j → (p : SpawnerView) (l : Option LinkView) → Fits s j p l → Fits t j p l
fits_after s t j stays = fits_same s t j (record {
  told = ap (λ (x : SeatPart). x.told) stays.seat;
  limits = ap (λ (x : SeatPart). x.limits) stays.seat;
  live = ap (λ (x : SeatPart). x.live) stays.seat;
  losses = ap (λ (x : SeatPart). x.losses) stays.seat;
  world = ap (λ (x : SeatPart). x.world) stays.seat;
  named = ap (λ (x : SeatPart). x.is_refused) stays.seat;
  gains = stays.gains;
})

-- a turn that is told changes nothing that the worker's own link goes with
module _ (s : SystemState) (i : ℕ) (free : s.hub.halt ≡ None) where
  tasked : (boxes : List (List Update)) (orders : List (Option Order)) (t : Task) →
      SameFor s (record s { hub = record s.hub { members = re_tasked s.hub.members i t; inboxes = record s.hub.inboxes { boxes = boxes }; orders = orders } }) i
  tasked boxes orders t = record {
    told = refl;
    limits = refl;
    live = live_tasked s.hub.members i t i;
    losses = refl;
    world = refl;
    named = refl;
    gains = record { due = λ h. sym (due_tasked s.hub.members i t i) ∙ h; reported = λ values h. h; free = λ h. h };
  }

  halted : (reason : Why) → names_worker i (Some reason) ≡ false → SameFor s (record s { hub = record s.hub { halt = Some reason } }) i
  halted reason other = record {
    told = refl;
    limits = refl;
    live = refl;
    losses = refl;
    world = refl;
    named = other ∙ sym (ap (names_worker i) free);
    gains = record { due = λ h. h; reported = λ values h. h; free = λ h. absurd (cc h) };
  }

  untouched : SameFor s s i
  untouched = record { told = refl; limits = refl; live = refl; losses = refl; world = refl; named = refl; gains = record { due = λ h. h; reported = λ values h. h; free = λ h. h } }

  gave_same : SameFor s (state_after s (give i)) i
  gave_same = turn_by (λ (turn : Turn). SameFor s (record s { hub = after_turn s.hub i turn }) i) s.hub i
      (λ reason is. absurd (cc (is, free))) (λ quiet all still. untouched)
      (λ still quiet none. tasked s.hub.inboxes.boxes (set s.hub.orders i (Some (Report s.hub.members.epoch))) task.Report)
      (λ still busy steps. tasked (set s.hub.inboxes.boxes i []) (set s.hub.orders i (Some (Step s.hub.members.epoch (worker_at s.hub i).round (waiting_at s.hub i)))) task.Step)
      (λ still busy out. halted why.Budget refl) untouched

  pub gave_fits : (p : SpawnerView) (l : LinkView) → IsLinked s i p l → IsLinked (state_after s (give i)) i p l
  gave_fits = linked_same s (state_after s (give i)) i gave_same

  wants_same : SameFor s (state_after s (halt i Memory)) i
  wants_same = subst (λ (o : Option Why). SameFor s (record s { hub = elim o as (λ (x : Option Why). HubState) [ Some first ↦ s.hub | None ↦ record s.hub { halt = Some why.Memory } ] }) i) (sym free) (halted why.Memory refl)

  pub wants_fits : (p : SpawnerView) (l : LinkView) → IsLinked s i p l → IsLinked (state_after s (halt i Memory)) i p l
  wants_fits = linked_same s (state_after s (halt i Memory)) i wants_same

-- ---- a loss

naming_more : (i : ℕ) (losses : List Loss) (loss : Loss) → loss.worker ≡ i → naming i (losses ++ loss ∷ []) ≡ naming i losses ++ loss ∷ []
naming_more i losses loss same = filter-append (λ (l : Loss). l.worker == i) losses (loss ∷ []) ∙ ap (λ (b : Bool). naming i losses ++ cond b (loss ∷ []) []) (eq-eqb loss.worker i same)

ended_more : (losses : List Loss) (loss : Loss) → ended_count (losses ++ loss ∷ []) ≡ ended_count losses + (if is_ended loss.kind then 1 else 0)
ended_more losses loss = let one : Loss → ℕ = λ (l : Loss). if is_ended l.kind then 1 else 0 in
    omega (arith, sum_by-append one losses (loss ∷ []), sum_by-cons one loss [])

-- the count after one end more, of the links that came back
ends_more : (n b ends link : ℕ) → HasRisenBy n 0 ends → b ≤ link → HasRisenBy (n + b) 0 (min (ends + link) LAST)
ends_more n b ends link had one = omega arith

-- the loss is of this kind for this reason: a link that tells has ended, and each end is counted
pub record IsCause (h : SystemState) (kind : LossKind) (l : LinkView) : Type 0 where
  pub kind_told : h.told ≡ true → kind ≡ Ended
  pub counted : is_ended kind ≡ true → 1 ≤ l.ends

module _ (h : SystemState) (i : ℕ) (kind : LossKind) (kept : KeepsAll h) (inside : i < worker_count h.hub) (live : (worker_at h.hub i).live ≡ true) where
  abbrev after : SystemState
  after = state_after h (lost i kind)

  abbrev the_loss : Loss
  the_loss = record { worker = i; epoch = h.hub.members.epoch; kind = kind }

  gone : (worker_at after.hub i).live ≡ false
  gone = ap (λ (u : MemberState). u.live) (lost_worker h.hub i kind kept.in_step.hub inside live)

  -- the list of losses, where the loss is noted and where it isn't
  abbrev noted : Bool → List Loss
  noted b = naming i (if b then h.hub.members.losses ++ the_loss ∷ [] else h.hub.members.losses)

  abbrev halt_then : Option Why → Bool → Option Why
  halt_then o b = elim o as (λ (x : Option Why). Option Why) [ Some reason ↦ Some reason | None ↦ if b then Some why.TooManyLosses else None ]

  not_named : (b : Bool) → names_worker i (halt_then None b) ≡ false
  not_named true = refl
  not_named false = refl

  lost_counts : (p : SpawnerView) (l : LinkView) → CountsLosses h i p → (h.hub.halt ≡ None → IsCause h kind l) → CountsLosses after i (discarded p l)
  lost_counts p l counts cause = by_halt h.hub.halt refl
    where
      fewer : h.hub.halt ≡ None → (b : Bool) → is_ended kind ≡ b → (if b then 1 else 0) ≤ l.ends
      fewer free true is = (cause free).counted is
      fewer free false is = omega arith

      by_halt : (o : Option Why) → h.hub.halt ≡ o → CountsLosses after i (discarded p l)
      by_halt None free = record {
        few_starts = counts.few_starts;
        most_starts = rw (losses_are, length-append) (omega (arith, counts.most_starts));
        starts = λ still. rw (losses_are, gone, length-append) (omega (arith, rw live at (counts.starts free)));
        kinds = λ tells. rw losses_are (All-push (λ (x : Loss). x.kind ≡ Ended) (losses_of h i) the_loss (counts.kinds tells) ((cause free).kind_told tells));
        ends = rw (losses_are, ended_more (losses_of h i) the_loss) (ends_more (ended_count (losses_of h i)) (if is_ended kind then 1 else 0) p.ends l.ends counts.ends (fewer free (is_ended kind) refl));
        refused = λ named. absurd (cc (named, ap (names_worker i) halt_is, not_named (nat_lt h.hub.members.limits.losses (length h.hub.members.losses + 1))));
      }
        where
          losses_are : losses_of after i ≡ losses_of h i ++ the_loss ∷ []
          losses_are = ap (λ (x : Option Why). noted (is_none x)) free ∙ naming_more i h.hub.members.losses the_loss refl

          halt_is : after.hub.halt ≡ halt_then None (nat_lt h.hub.members.limits.losses (length h.hub.members.losses + 1))
          halt_is = ap (λ (x : Option Why). halt_then x (nat_lt h.hub.members.limits.losses (length h.hub.members.losses + 1))) free
      by_halt (Some reason) is = record {
        few_starts = counts.few_starts;
        most_starts = rw losses_are counts.most_starts;
        starts = λ still. absurd (cc (still, halt_is));
        kinds = λ tells. rw losses_are (counts.kinds tells);
        ends = rw losses_are (omega (arith, counts.ends));
        refused = λ named. counts.refused (ap (names_worker i) (is ∙ sym halt_is) ∙ named);
      }
        where
          losses_are : losses_of after i ≡ losses_of h i
          losses_are = ap (λ (x : Option Why). noted (is_none x)) is

          halt_is : after.hub.halt ≡ Some reason
          halt_is = ap (λ (x : Option Why). halt_then x (nat_lt h.hub.members.limits.losses (length h.hub.members.losses + 1))) is

  -- a worker is missing after its loss, and its link came back
  pub lost_fits : (p : SpawnerView) (l : LinkView) → IsSpawnerOf h i p → CountsLosses h i p → (h.hub.halt ≡ None → IsCause h kind l) → IsMissing after i (discarded p l)
  lost_fits p l is counts cause = record {
    spawner = record { worker = is.worker; tells = is.tells; retired = is.retired };
    counts = lost_counts p l counts cause;
    out = refl;
    missing = gone;
  }

-- ---- a start

-- while nothing stops the run, no more losses were noted than are allowed
few_losses : (s : SystemState) (i : ℕ) → KeepsAll s → s.hub.halt ≡ None → length (losses_of s i) ≤ s.hub.members.limits.losses
few_losses s i kept free = omega (arith, counted_most (λ (loss : Loss). loss.worker == i) s.hub.members.losses, within)
  where
    within : length s.hub.members.losses ≤ s.hub.members.limits.losses
    within = elim (cases_lt s.hub.members.limits.losses (length s.hub.members.losses)) [
      | inl more ↦ absurd (cc (free, kept.in_step.hub.epochs.loss_limit.0 more))
      | inr few ↦ few
    ]

-- a spawner has started few links
pub can_start : (s : SystemState) (i : ℕ) (p : SpawnerView) → KeepsAll s → CountsLosses s i p → p.starts < 2 ^ 32
can_start s i p kept counts = omega (arith, counts.few_starts, kept.in_step.hub.limits.losses)

-- a start that gave no link, and so stops the run
pub not_started_fits : (s : SystemState) (i faults : ℕ) (reason : Why) (p : SpawnerView) → KeepsAll s → s.hub.halt ≡ None → IsMissing s i p → (names_worker i (Some reason) ≡ true → 1 ≤ faults) →
    IsMissing (record s { hub = record s.hub { halt = Some reason } }) i (not_started p faults)
not_started_fits s i faults reason p kept free fit refused = record {
  spawner = record { worker = fit.spawner.worker; tells = fit.spawner.tells; retired = fit.spawner.retired };
  counts = record {
    few_starts = omega (arith, counted, few_losses s i kept free);
    most_starts = omega (arith, counted);
    starts = λ still. absurd (cc still);
    kinds = fit.counts.kinds;
    ends = fit.counts.ends;
    refused = refused;
  };
  out = fit.out;
  missing = fit.missing;
}
  where
    counted : p.starts ≡ length (losses_of s i) + 0
    counted = rw fit.missing at (fit.counts.starts free)

-- ---- a join

module _ (s : SystemState) (i : ℕ) (kept : KeepsAll s) (inside : i < worker_count s.hub) (free : s.hub.halt ≡ None) where
  -- a worker that joins goes with the link that was started for it
  pub joined_fits : (p q : SpawnerView) (part : Part) (core : CoreProgram) (l : LinkView) → IsMissing s i p → IsStarted p q part core l → part ≡ part_at s i → core ≡ s.job.core →
      IsLinked (state_after s (joined i)) i q l
  joined_fits p q part core l fit started its_part its_core = record {
    spawner = record { worker = ap (λ (x : SpawnerView). x.worker) started.spawner ∙ fit.spawner.worker; tells = ap (λ (x : SpawnerView). x.tells) started.spawner ∙ fit.spawner.tells; retired = ap (λ (x : SpawnerView). x.retired) started.spawner ∙ fit.spawner.retired };
    counts = record {
      few_starts = omega (arith, starts_are, counted, few_losses s i kept free);
      most_starts = omega (arith, starts_are, counted);
      starts = λ still. rw is_live (omega (arith, starts_are, counted));
      kinds = fit.counts.kinds;
      ends = rw (ap (λ (x : SpawnerView). x.ends) started.spawner) fit.counts.ends;
      refused = λ named. absurd (cc (sym named ∙ ap (names_worker i) free));
    };
    link = record { worker = started.worker ∙ sym (ap (λ (x : SpawnerView). x.worker) started.spawner); mark = ap (λ (x : SpawnerView). x.out) started.spawner };
    alive = started.alive;
    peer = started.peer ∙ (ap (λ (b : Bool). new_peer b part core) fit.spawner.tells ∙ (ap (λ (x : Part). new_peer s.told x core) its_part ∙ (ap (λ (x : CoreProgram). new_peer s.told (part_at s i) x) its_core ∙ sym world_is)));
    live = is_live;
    answered = record {
      once = λ tells due. absurd (cc (due, ap (λ (u : MemberState). u.due) (joined_worker s.hub i kept.in_step.hub inside fit.missing free)));
      twice = λ tells values had. absurd (cc (had, (kept.in_step.hub.missing i fit.missing).reported));
    };
  }
    where
      is_live : (worker_at (state_after s (joined i)).hub i).live ≡ true
      is_live = ap (λ (u : MemberState). u.live) (joined_worker s.hub i kept.in_step.hub inside fit.missing free)

      starts_are : q.starts ≡ p.starts + 1
      starts_are = ap (λ (x : SpawnerView). x.starts) started.spawner

      counted : p.starts ≡ length (losses_of s i) + 0
      counted = rw fit.missing at (fit.counts.starts free)

      world_is : world_at (state_after s (joined i)) i ≡ new_world_at s i
      world_is = world_there s i (new_world_at s i) (state_after s (joined i)).hub (omega (arith, inside, kept.in_step.job.worlds))
