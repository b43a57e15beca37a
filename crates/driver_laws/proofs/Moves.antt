-- What each way out of a turn shows: which turn it was, that spawner and link go with the state, and how the run goes on.
use Rattle.std.proofs.Common.{◌≡◌, ℕ, ◌+◌, ◌<◌, Bool, true, false, Option, Some, None, arith, refl, sym, ap, subst, ◌∙◌, inl}
use Rattle.std.specs.Prelude.{MatchBool, Result, Ok, Err, nat_lt, length, if◌then◌else◌}
use Rattle.std.proofs.lemmas.List.{get_or-set_same}
use Rattle.px_base.specs.declared.wire.Answer.{Answer}
use Rattle.px_base.specs.declared.wire.Broken.{Broken}
use Rattle.px_base.specs.declared.wire.Foreign.{Foreign}
use Rattle.px_base.specs.declared.wire.LossKind.{LossKind}
use Rattle.px_base.specs.declared.wire.LossKind.TheVariants.{Ended, Broke}
use Rattle.px_base.specs.declared.wire.Order.{Order}
use Rattle.px_base.specs.declared.wire.Order.TheVariants.{Step, Report}
use Rattle.recovery.specs.Givens.{GivenState}
use Rattle.recovery.specs.TurnFor.{turn_for}
use Rattle.recovery.specs.declared.given.Turn.TheVariants as told
use Rattle.hub_terms.specs.declared.stops.Halt.{Halt}
use Rattle.hub_terms.specs.declared.stops.Halt.TheVariants.{Memory, NoReplacement}
use Rattle.hub_terms.specs.declared.stops.Why.{Why}
use Rattle.hub_terms.specs.declared.stops.Why.TheVariants as why
use Rattle.hub_terms.specs.Hubs.{HubState, Turn, after_turn, done, order_at, stop, turn_of, wait, waiting_at, work, worker_at, worker_count}
use Rattle.hub_terms.specs.HubEvents.{after_answer, after_halt, after_loss, why_of}
use Rattle.hub_terms.specs.UnderWay.{order_epoch}
use Rattle.hub_terms.specs.Systems.{SystemState, Event, IsRun, MayCome, give, halt, joined, lost, state_after, state_after_all, state_taken, took}
use Rattle.link_trait.specs.Counts.{HasRisen}
use Rattle.link_trait.specs.Links.{LinkView}
use Rattle.link_trait.specs.Spawners.{SpawnerView, discarded, not_started}
use Rattle.system_core.specs.Promises.{IsHandedOut}
use Rattle.hub_laws.proofs.HubGave.{some_same, turn_by}
use Rattle.hub_laws.proofs.HubChanged.{lost_order}
use Rattle.budget_laws.specs.KeptFacts.{KeepsAll}
use Rattle.budget_laws.proofs.AllKept.{event_keeps_all, give_first_spent}
use Rattle.driver_laws.specs.Seats.{Fits, IsLinked, IsMissing}
use Rattle.driver_laws.specs.Turns.{GoesOn, IsOver, IsReply, IsTurn, Reply, answers, gives_up, is_lost, reply_events, rests, stays_away, work_left, works}
use Rattle.driver_laws.proofs.Fitting.{IsCause, gave_fits, lost_fits, not_started_fits, wants_fits}
use Rattle.driver_laws.proofs.Work.{joined_less, lost_less, order_same_work, taken_less}

-- ---- a reason to stop that is kept

-- the state with this reason to stop
abbrev pub with_halt : SystemState → Why → SystemState
with_halt s reason = record s { hub = record s.hub { halt = Some reason } }

pub halted_is : (s : SystemState) (i : ℕ) (reason : Halt) → s.hub.halt ≡ None → state_after s (halt i reason) ≡ with_halt s (why_of reason i)
halted_is s i reason free = ap (λ (o : Option Why). record s { hub = elim o as (λ (x : Option Why). HubState) [ Some first ↦ s.hub | None ↦ record s.hub { halt = Some (why_of reason i) } ] }) free

-- a reason that is kept stays after a loss
still_halted : (hub : HubState) (i : ℕ) (kind : LossKind) → (after_loss hub i kind).halt ≡ None → hub.halt ≡ None
still_halted hub i kind = by_halt hub.halt (nat_lt hub.members.limits.losses (length hub.members.losses + 1))
  where
    by_halt : (o : Option Why) (b : Bool) → (elim o as (λ (x : Option Why). Option Why) [ Some reason ↦ Some reason | None ↦ if b then Some why.TooManyLosses else None ]) ≡ None → o ≡ None
    by_halt (Some reason) b h = absurd (cc h)
    by_halt None b h = refl

is_halted : (hub : HubState) (i : ℕ) (reason : Halt) → (after_halt hub i reason).halt ≡ None → ⊥
is_halted hub i reason = by_halt hub.halt refl
  where
    by_halt : (o : Option Why) → hub.halt ≡ o → (elim o as (λ (x : Option Why). HubState) [ Some first ↦ hub | None ↦ record hub { halt = Some (why_of reason i) } ]).halt ≡ None → ⊥
    by_halt (Some first) is h = cc (h, is)
    by_halt None is h = cc h

-- ---- where a missing worker isn't started

module _ (s t : SystemState) (i : ℕ) (reason : Halt) (inside : i < worker_count s.hub) (free : s.hub.halt ≡ None) (idle : order_at s.hub i ≡ None) (is : t ≡ state_after s (halt i reason)) where
  halt_idle : order_at t.hub i ≡ None
  halt_idle = ap (λ (u : SystemState). order_at u.hub i) (is ∙ halted_is s i reason free) ∙ idle

  pub not_started_turn : (worker_at s.hub i).live ≡ false → IsTurn i s t
  not_started_turn missing = record { turned = stays_away reason; live = missing; events = record { may = (inside, tt); after = is }; idle = halt_idle }

-- ---- a worker that joins

module _ (s t : SystemState) (i : ℕ) (kept : KeepsAll s) (inside : i < worker_count s.hub) (missing : (worker_at s.hub i).live ≡ false) (free : s.hub.halt ≡ None) (is : t ≡ state_after s (joined i)) where
  pub joined_goes_on : GoesOn i s t
  joined_goes_on = rw is (record {
    free = free;
    moved = inl (joined_less s.hub i kept.in_step.hub inside missing (event_keeps_all s (joined i) kept (inside, missing, free)).in_step.hub);
  })

-- ---- an order is answered or not

-- all that comes of an order
pub record Replied (i : ℕ) (g t : SystemState) (q : SpawnerView) (o : Option LinkView) : Type 0 where
  pub reply : IsReply i g t
  pub idle : order_at t.hub i ≡ None
  pub fits : Fits t i q o

module _ (g t : SystemState) (i : ℕ) (kept : KeepsAll g) (inside : i < worker_count g.hub) (p q : SpawnerView) (l m : LinkView) (fit : IsLinked g i p l) (back : q ≡ discarded p m) where
  -- the worker is lost
  pub lost_replied : (kind : LossKind) → IsCause g kind m → t ≡ state_after g (lost i kind) → Replied i g t q None
  lost_replied kind cause is = record {
    reply = record { reply = is_lost kind; events = record { may = ((inside, fit.live), tt); after = is } };
    idle = rw is (lost_order g.hub i kind kept.in_step.hub inside fit.live);
    fits = rw (is, back) (lost_fits g i kind kept inside fit.live p m fit.spawner fit.counts (λ free. cause));
  }

  -- memory is wanting at its link
  pub gave_up_replied : g.hub.halt ≡ None → t ≡ state_after (state_after g (halt i Memory)) (lost i Ended) → Replied i g t q None
  gave_up_replied free is =
      let h : SystemState = state_after g (halt i Memory) in
      let kept_then : KeepsAll h = event_keeps_all g (halt i Memory) kept inside in
      let fits : IsLinked h i p l = wants_fits g i free p l fit in
      let there : i < worker_count h.hub = subst (λ (u : SystemState). i < worker_count u.hub) (sym (halted_is g i Memory free)) inside in
      record {
        reply = record { reply = gives_up; events = record { may = (inside, ((there, fits.live), tt)); after = is } };
        idle = rw is (lost_order h.hub i Ended kept_then.in_step.hub there fits.live);
        fits = rw (is, back) (lost_fits h i Ended kept_then there fits.live p m fits.spawner fits.counts (λ still. absurd (is_halted g.hub i Memory still)));
      }

-- the worker answers
pub answered_replied : (g t : SystemState) (i : ℕ) (answer : Answer) (p : SpawnerView) (m : LinkView) (hub : HubState) → MayCome g (took i answer) → after_answer g.hub i answer ≡ Ok hub → t ≡ state_after g (took i answer) →
    IsLinked (state_taken g i (Ok hub)) i p m → order_at hub i ≡ None → Replied i g t p (Some m)
answered_replied g t i answer p m hub may taken is fits idle =
    let same : t ≡ state_taken g i (Ok hub) = is ∙ ap (state_taken g i) taken in
    record {
      reply = record { reply = answers answer; events = record { may = (may, tt); after = is } };
      idle = ap (λ (u : SystemState). order_at u.hub i) same ∙ idle;
      fits = subst (λ (u : SystemState). IsLinked u i p m) (sym same) fits;
    }

-- ---- a live worker's turn

module _ (s g : SystemState) (i : ℕ) (kept : KeepsAll s) (may : MayCome s (give i)) (gave : g ≡ state_after s (give i)) where
  -- what an order that was given shows
  record IsGivenNow (hub : HubState) (order : Order) : Type 0 where
    current : order_epoch order ≡ hub.members.epoch
    work : work_left hub ≡ work_left s.hub
    halt : hub.halt ≡ s.hub.halt

  by_turn : (order : Order) → order_at (after_turn s.hub i (turn_of s.hub i)) i ≡ Some order → IsGivenNow (after_turn s.hub i (turn_of s.hub i)) order
  by_turn order = turn_by (λ (turn : Turn). order_at (after_turn s.hub i turn) i ≡ Some order → IsGivenNow (after_turn s.hub i turn) order) s.hub i
      (λ reason is had. absurd (cc (had, may.2)))
      (λ free quiet all had. absurd (cc (had, may.2)))
      (λ free quiet none had. record { current = ap order_epoch (some_same order (Report s.hub.members.epoch) (sym had ∙ get_or-set_same s.hub.orders i (Some (Report s.hub.members.epoch)) None room)); work = order_same_work s.hub i kept.in_step.hub may.0 (Report s.hub.members.epoch); halt = refl })
      (λ free busy steps had. record { current = ap order_epoch (some_same order (the_step s.hub) (sym had ∙ get_or-set_same s.hub.orders i (Some (the_step s.hub)) None room)); work = order_same_work s.hub i kept.in_step.hub may.0 (the_step s.hub); halt = refl })
      (λ free busy out had. absurd (cc (had, may.2)))
      (λ had. absurd (cc (had, may.2)))
    where
      room : i < length s.hub.orders
      room = omega (arith, may.0, kept.in_step.hub.places.orders)

      the_step : HubState → Order
      the_step hub = Step hub.members.epoch (worker_at hub i).round (waiting_at hub i)

  given_now : (order : Order) → order_at g.hub i ≡ Some order → IsGivenNow g.hub order
  given_now order had = subst (λ (u : SystemState). IsGivenNow u.hub order) (sym gave) (by_turn order (ap (λ (u : SystemState). order_at u.hub i) (sym gave) ∙ had))

  gave_kept : KeepsAll g
  gave_kept = rw gave (event_keeps_all s (give i) kept may)

  module _ (t : SystemState) (given : GivenState) (handed : IsHandedOut g i given) (replied : IsReply i g t) (idle : order_at t.hub i ≡ None) where
    pub works_turn : IsTurn i s t
    works_turn = record {
      turned = works replied.reply;
      live = may.1;
      events = record {
        may = (may, subst (λ (u : SystemState). IsRun u (reply_events i replied.reply)) gave replied.events.may);
        after = subst (λ (u : SystemState). t ≡ state_after_all u (reply_events i replied.reply)) gave replied.events.after;
      };
      idle = idle;
    }

    less : t.hub.halt ≡ None → work_left t.hub < work_left g.hub
    less free = by_reply replied.reply replied.events.may replied.events.after
      where
        by_reply : (r : Reply) → IsRun g (reply_events i r) → t ≡ state_after_all g (reply_events i r) → work_left t.hub < work_left g.hub
        by_reply (answers answer) run is = by_taken (after_answer g.hub i answer) refl
          where
            by_taken : (r : Result HubState Foreign) → after_answer g.hub i answer ≡ r → work_left t.hub < work_left g.hub
            by_taken (Ok hub) taken = rw (is, taken) (taken_less g.hub i gave_kept.in_step.hub run.0.0 given.order answer hub handed.order (given_now given.order handed.order).current taken)
            by_taken (Err foreign) refused = absurd (cc (idle, handed.order))
        by_reply (is_lost kind) run is = rw is (lost_less g.hub i kind gave_kept.in_step.hub run.0.0 run.0.1 (event_keeps_all g (lost i kind) gave_kept run.0).in_step.hub)
        by_reply gives_up run is = absurd (is_halted g.hub i Memory (still_halted (state_after g (halt i Memory)).hub i Ended (ap (λ (u : SystemState). u.hub.halt) (sym is) ∙ free)))

    pub works_go_on : t.hub.halt ≡ None → GoesOn i s t
    works_go_on free = record { free = free; moved = inl (omega (arith, less free, (given_now given.order handed.order).work)) }

    pub works_went : (over : Bool) → MatchBool over (IsOver t) (t.hub.halt ≡ None) → MatchBool over (IsOver t) (GoesOn i s t)
    works_went true is = is
    works_went false free = works_go_on free

-- ---- a turn that is told to stop

told_stop : (i : ℕ) (turn : Turn) (reason : Why) → told.Stop reason ≡ turn_for i turn → turn ≡ stop reason
told_stop i (work order) reason e = cc
told_stop i wait reason e = cc
told_stop i done reason e = cc
told_stop i (stop other) reason e = cc

module _ (s t : SystemState) (i : ℕ) (kept : KeepsAll s) (may : MayCome s (give i)) (free : s.hub.halt ≡ None) (gave : t ≡ state_after s (give i)) (reason : Why) (is : told.Stop reason ≡ turn_for i (turn_of s.hub i)) where
  stops : turn_of s.hub i ≡ stop reason
  stops = told_stop i (turn_of s.hub i) reason is

  stopped_is : t ≡ with_halt s reason
  stopped_is = gave ∙ ap (λ (turn : Turn). record s { hub = after_turn s.hub i turn }) stops

  pub stop_turn : IsTurn i s t
  stop_turn = record { turned = rests; live = may.1; events = record { may = (may, tt); after = gave }; idle = ap (λ (u : SystemState). order_at u.hub i) stopped_is ∙ may.2 }

  pub stop_fits : (p : SpawnerView) (l : LinkView) → IsLinked s i p l → IsLinked t i p l
  stop_fits p l fit = rw gave (gave_fits s i free p l fit)

  pub stop_over : IsOver t
  stop_over = subst IsOver (sym stopped_is) (record {
    done = λ none. absurd (cc none);
    spent = λ budget. give_first_spent s i kept free (stops ∙ ap stop (some_same reason why.Budget budget));
  })

-- ---- why a worker was lost

-- its link ended
pub ended_cause : (g : SystemState) (l m : LinkView) → HasRisen l.ends m.ends → IsCause g Ended m
ended_cause g l m risen = record { kind_told = λ tells. refl; counted = λ ended. omega (arith, risen) }

-- its link doesn't tell, and broke, or gave an answer that the hub refuses
pub broke_cause : (g : SystemState) (fault : Broken) (m : LinkView) → (g.told ≡ true → ⊥) → IsCause g (Broke fault) m
broke_cause g fault m silent = record { kind_told = λ tells. absurd (silent tells); counted = λ ended. absurd (cc ended) }

-- an answer that the hub refuses changes nothing
pub refused_same : (g t : SystemState) (i : ℕ) (answer : Answer) (foreign : Foreign) → t ≡ state_after g (took i answer) → after_answer g.hub i answer ≡ Err foreign → t ≡ g
refused_same g t i answer foreign is refused = is ∙ ap (state_taken g i) refused

-- an event after the same state leads to the same state
pub after_same : (g h t : SystemState) (e : Event) → h ≡ g → t ≡ state_after h e → t ≡ state_after g e
after_same g h t e same is = is ∙ ap (λ (u : SystemState). state_after u e) same

-- ---- a start that gave no link

module _ (s t : SystemState) (i : ℕ) (kept : KeepsAll s) (free : s.hub.halt ≡ None) (p q : SpawnerView) (fit : IsMissing s i p) (back : q ≡ not_started p q.faults) where
  -- it was refused
  pub refused_start_fits : t ≡ state_after s (halt i NoReplacement) → HasRisen p.faults q.faults → IsMissing t i q
  refused_start_fits is risen = rw (is ∙ halted_is s i NoReplacement free, back) (not_started_fits s i q.faults (why.NoReplacement i) p kept free fit (λ named. omega (arith, risen)))

  -- memory was wanting
  pub wanting_start_fits : t ≡ state_after s (halt i Memory) → IsMissing t i q
  wanting_start_fits is = rw (is ∙ halted_is s i Memory free, back) (not_started_fits s i q.faults why.Memory p kept free fit (λ named. absurd (cc named)))
