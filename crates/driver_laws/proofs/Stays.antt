-- What an event, or a turn, of one worker leaves of the run and of another worker.
use Rattle.std.proofs.Common.{◌≡◌, ◌≢◌, ℕ, ◌<◌, Bool, true, false, List, [], ◌∷◌, Option, Some, None, refl, sym, ap, subst, ◌∙◌, ⊎_elim}
use Rattle.std.specs.Prelude.{◌==◌, ◌+◌, nat_lt, length, if◌then◌else◌}
use Rattle.px_base.specs.declared.wire.Answer.{Answer}
use Rattle.px_base.specs.declared.wire.Answer.TheVariants.{Stepped, Reported}
use Rattle.px_base.specs.declared.wire.Foreign.{Foreign}
use Rattle.px_base.specs.declared.wire.LossKind.{LossKind}
use Rattle.px_base.specs.declared.wire.Order.{Order}
use Rattle.px_base.specs.declared.wire.Order.TheVariants.{Step, Report}
use Rattle.px_base.specs.declared.wire.Update.{Update}
use Rattle.hub_terms.specs.declared.stops.Halt.{Halt}
use Rattle.hub_terms.specs.declared.stops.Why.{Why}
use Rattle.hub_terms.specs.declared.stops.Why.TheVariants as why
use Rattle.hub_terms.specs.declared.tasks.Task.TheVariants as task
use Rattle.hub_terms.specs.declared.workers.MemberState.{MemberState}
use Rattle.hub_terms.specs.Hubs.{HubState, Turn, after_turn, order_at, reported_at, turn_of, worker_at, worker_count}
use Rattle.hub_terms.specs.HubEvents.{absorption, after_halt, after_join, after_loss, answer_taken, answer_to, foreign_of, why_of}
use Rattle.hub_terms.specs.HubInStep.{IsHubInStep}
use Rattle.hub_terms.specs.Seats.{seat_part, worker_of}
use Rattle.hub_terms.specs.Systems.{SystemState, Event, AnswersValues, IsRun, MayCome, give, halt, joined, lost, state_after, state_after_all, state_taken, took}
use Rattle.hub_laws.proofs.Workers.{due_tasked}
use Rattle.hub_laws.proofs.HubGave.{turn_by}
use Rattle.hub_laws.proofs.HubTook.{report_at, reported_hub, reported_is, reported_order, right_answer, stepped_hub, stepped_is, stepped_order, worker_other}
use Rattle.hub_laws.proofs.HubChanged.{joined_other, lost_due, lost_reported}
use Rattle.system_laws.proofs.SeatsApart.{seat_kept}
use Rattle.round_laws.proofs.Suffice.{same_run}
use Rattle.budget_laws.specs.KeptFacts.{KeepsAll}
use Rattle.budget_laws.proofs.AllKept.{event_keeps_all}
use Rattle.driver_laws.specs.Turns.{IsSameRun, IsTurn, Leads, Reply, Turned, answers, gives_up, is_lost, joins, reply_events, rests, stays_away, turn_events, wants, works}

-- ---- an event

-- of worker j, no fact is new that its link would have to answer for; and what stopped the run still does
pub record GainsNothing (hub new : HubState) (j : ℕ) : Type 0 where
  pub due : (worker_at new j).due ≡ false → (worker_at hub j).due ≡ false
  pub reported : (values : List ℕ) → reported_at new j ≡ Some values → reported_at hub j ≡ Some values
  pub free : new.halt ≡ None → hub.halt ≡ None

itself : (hub : HubState) (j : ℕ) → GainsNothing hub hub j
itself hub j = record { due = λ h. h; reported = λ values h. h; free = λ h. h }

stopped : (hub : HubState) (j : ℕ) (reason : Why) → GainsNothing hub (record hub { halt = Some reason }) j
stopped hub j reason = record { due = λ h. h; reported = λ values h. h; free = λ h. absurd (cc h) }

module _ (hub : HubState) (ok : IsHubInStep hub) (i j : ℕ) (apart : j ≢ i) where
  gave_nothing : GainsNothing hub (after_turn hub i (turn_of hub i)) j
  gave_nothing = turn_by (λ (turn : Turn). GainsNothing hub (after_turn hub i turn) j) hub i
      (λ reason is. stopped hub j reason) (λ free quiet all. itself hub j)
      (λ free quiet none. record { due = λ h. sym (due_tasked hub.members i task.Report j) ∙ h; reported = λ values h. h; free = λ h. h })
      (λ free busy steps. record { due = λ h. sym (due_tasked hub.members i task.Step j) ∙ h; reported = λ values h. h; free = λ h. h })
      (λ free busy out. stopped hub j why.Budget) (itself hub j)

  lost_nothing : (kind : LossKind) → i < worker_count hub → (worker_at hub i).live ≡ true → GainsNothing hub (after_loss hub i kind) j
  lost_nothing kind inside live = record {
    due = λ h. absurd (cc (h, lost_due hub i kind ok inside live j));
    reported = λ values h. absurd (cc (h, lost_reported hub i kind ok inside live j));
    free = λ h. by_halt hub.halt (nat_lt hub.members.limits.losses (length hub.members.losses + 1)) h;
  }
    where
      by_halt : (o : Option Why) (b : Bool) → (elim o as (λ (x : Option Why). Option Why) [ Some reason ↦ Some reason | None ↦ if b then Some why.TooManyLosses else None ]) ≡ None → o ≡ None
      by_halt (Some reason) b h = absurd (cc h)
      by_halt None b h = refl

  joined_nothing : i < worker_count hub → (worker_at hub i).live ≡ false → hub.halt ≡ None → GainsNothing hub (after_join hub i) j
  joined_nothing inside missing free = record {
    due = λ h. sym (ap (λ (u : MemberState). u.due) (joined_other hub i ok inside missing free j apart)) ∙ h;
    reported = λ values h. h;
    free = λ h. h;
  }

  halted_nothing : (reason : Halt) → GainsNothing hub (after_halt hub i reason) j
  halted_nothing reason = by_halt hub.halt
    where
      by_halt : (o : Option Why) → GainsNothing hub (elim o as (λ (x : Option Why). HubState) [ Some first ↦ hub | None ↦ record hub { halt = Some (why_of reason i) } ]) j
      by_halt (Some first) = itself hub j
      by_halt None = stopped hub j (why_of reason i)

  stepped_nothing : (epoch round : ℕ) (sent : List Update) (changed : Bool) (updates : List Update) → i < worker_count hub → order_at hub i ≡ Some (Step epoch round sent) → AnswersValues (Stepped epoch round changed updates) → (b : Bool) →
      GainsNothing hub (stepped_hub b hub i changed updates) j
  stepped_nothing epoch round sent changed updates inside had values b = record {
    due = λ h. sym (ap (λ (u : MemberState). u.due) (worker_other hub i epoch round sent changed updates ok inside had values b j apart)) ∙ h;
    reported = λ values h. h;
    free = λ h. h;
  }

  told_nothing : (epoch : ℕ) (seen : List ℕ) → i < worker_count hub → order_at hub i ≡ Some (Report epoch) → AnswersValues (Reported epoch seen) → (b : Bool) → GainsNothing hub (reported_hub b hub i seen) j
  told_nothing epoch seen inside had known b = record {
    due = λ h. sym (due_tasked hub.members i task.Nothing j) ∙ h;
    reported = λ values h. ⊎_elim (λ before. before) (λ now. absurd (apart now.1)) (report_at hub i epoch seen ok inside had known b j values h);
    free = λ h. h;
  }

  absorbed_nothing : (order : Order) (answer : Answer) → i < worker_count hub → order_at hub i ≡ Some order → foreign_of hub.inboxes i order answer ≡ None → AnswersValues answer → GainsNothing hub (absorption hub i answer) j
  absorbed_nothing order (Stepped epoch round changed updates) inside had none values =
      let this = stepped_order order epoch round changed updates (right_answer hub.inboxes i order (Stepped epoch round changed updates) none).0 in
      rw (stepped_is hub i epoch round changed updates (epoch == hub.members.epoch) refl) (stepped_nothing epoch round this.0 changed updates inside (had ∙ ap Some this.1) values (epoch == hub.members.epoch))
  absorbed_nothing order (Reported epoch seen) inside had none known =
      let this = reported_order order epoch seen (right_answer hub.inboxes i order (Reported epoch seen) none).0 in
      rw (reported_is hub i epoch seen (epoch == hub.members.epoch) refl) (told_nothing epoch seen inside (had ∙ ap Some this) known (epoch == hub.members.epoch))

module _ (s : SystemState) (i j : ℕ) (kept : KeepsAll s) (apart : j ≢ i) where
  took_nothing : (answer : Answer) → MayCome s (took i answer) → GainsNothing s.hub (state_after s (took i answer)).hub j
  took_nothing answer may = by_order (order_at s.hub i) refl
    where
      by_foreign : (order : Order) → order_at s.hub i ≡ Some order → (f : Option Foreign) → foreign_of s.hub.inboxes i order answer ≡ f → GainsNothing s.hub (state_taken s i (answer_taken s.hub i answer f)).hub j
      by_foreign order had None none = absorbed_nothing s.hub kept.in_step.hub i j apart order answer may.0 had none may.2
      by_foreign order had (Some foreign) some = itself s.hub j

      by_order : (o : Option Order) → order_at s.hub i ≡ o → GainsNothing s.hub (state_taken s i (answer_to s.hub i answer o)).hub j
      by_order None none = itself s.hub j
      by_order (Some order) had = by_foreign order had (foreign_of s.hub.inboxes i order answer) refl

event_nothing : (s : SystemState) (e : Event) (j : ℕ) → KeepsAll s → MayCome s e → j ≢ worker_of e → GainsNothing s.hub (state_after s e).hub j
event_nothing s (give i) j kept may apart = gave_nothing s.hub kept.in_step.hub i j apart
event_nothing s (took i answer) j kept may apart = took_nothing s i j kept apart answer may
event_nothing s (lost i kind) j kept may apart = lost_nothing s.hub kept.in_step.hub i j apart kind may.0 may.1
event_nothing s (joined i) j kept may apart = joined_nothing s.hub kept.in_step.hub i j apart may.0 may.1 may.2
event_nothing s (halt i reason) j kept may apart = halted_nothing s.hub kept.in_step.hub i j apart reason

-- ---- several events of one worker

-- what they leave of worker j
pub record Stays (s t : SystemState) (j : ℕ) : Type 0 where
  pub seat : seat_part t j ≡ seat_part s j
  pub gains : GainsNothing s.hub t.hub j

-- all events are of worker i
abbrev AreOf : ℕ → List Event → Type 0
AreOf i [] = Unit {0}
AreOf i (e ∷ events) = (worker_of e ≡ i) × AreOf i events

stays_on : (s t u : SystemState) (j : ℕ) → Stays s t j → Stays t u j → Stays s u j
stays_on s t u j one two = record {
  seat = two.seat ∙ one.seat;
  gains = record {
    due = λ h. one.gains.due (two.gains.due h);
    reported = λ values h. one.gains.reported values (two.gains.reported values h);
    free = λ h. one.gains.free (two.gains.free h);
  };
}

run_same : (s t u : SystemState) → IsSameRun s t → IsSameRun t u → IsSameRun s u
run_same s t u one two = record { job = two.job ∙ one.job; told = two.told ∙ one.told; limits = two.limits ∙ one.limits; cuts = two.cuts ∙ one.cuts }

pub run_itself : (s : SystemState) → IsSameRun s s
run_itself s = record { job = refl; told = refl; limits = refl; cuts = refl }

pub run_on : (s t u : SystemState) → IsSameRun s t → IsSameRun t u → IsSameRun s u
run_on = run_same

event_run : (s : SystemState) (e : Event) → IsSameRun s (state_after s e)
event_run s e = let same = same_run s e in record { job = same.job; told = same.told; limits = same.limits; cuts = same.cuts }

all_run : (s : SystemState) (events : List Event) → IsSameRun s (state_after_all s events)
all_run s [] = run_itself s
all_run s (e ∷ events) = run_same s (state_after s e) (state_after_all s (e ∷ events)) (event_run s e) (all_run (state_after s e) events)

all_kept : (s : SystemState) (events : List Event) → KeepsAll s → IsRun s events → KeepsAll (state_after_all s events)
all_kept s [] kept run = kept
all_kept s (e ∷ events) kept run = all_kept (state_after s e) events (event_keeps_all s e kept run.0) run.1

all_stay : (s : SystemState) (i j : ℕ) (events : List Event) → KeepsAll s → AreOf i events → IsRun s events → j ≢ i → Stays s (state_after_all s events) j
all_stay s i j [] kept own run apart = record { seat = refl; gains = itself s.hub j }
all_stay s i j (e ∷ events) kept own run apart =
    let other : worker_of e ≢ j = λ same. apart (sym same ∙ own.0) in
    stays_on s (state_after s e) (state_after_all s (e ∷ events)) j
    (record { seat = seat_kept s e j kept.in_step run.0 other; gains = event_nothing s e j kept run.0 (λ same. other (sym same)) })
    (all_stay (state_after s e) i j events (event_keeps_all s e kept run.0) own.1 run.1 apart)

-- ---- a turn

reply_is_of : (i : ℕ) (reply : Reply) → AreOf i (reply_events i reply)
reply_is_of i (answers answer) = (refl, tt)
reply_is_of i (is_lost kind) = (refl, tt)
reply_is_of i gives_up = (refl, (refl, tt))

turn_is_of : (i : ℕ) (turned : Turned) → AreOf i (turn_events i turned)
turn_is_of i joins = (refl, tt)
turn_is_of i (stays_away reason) = (refl, tt)
turn_is_of i rests = (refl, tt)
turn_is_of i wants = (refl, tt)
turn_is_of i (works reply) = (refl, reply_is_of i reply)

-- events of worker i leave the run and the other workers
module _ (s t : SystemState) (events : List Event) (leads : Leads s t events) where
  pub leads_run : IsSameRun s t
  leads_run = rw leads.after (all_run s events)

  pub leads_kept : KeepsAll s → KeepsAll t
  leads_kept kept = rw leads.after (all_kept s events kept leads.may)

pub turn_run : (s t : SystemState) (i : ℕ) → IsTurn i s t → IsSameRun s t
turn_run s t i turn = leads_run s t (turn_events i turn.turned) turn.events

pub turn_kept : (s t : SystemState) (i : ℕ) → KeepsAll s → IsTurn i s t → KeepsAll t
turn_kept s t i kept turn = leads_kept s t (turn_events i turn.turned) turn.events kept

pub turn_stays : (s t : SystemState) (i j : ℕ) → KeepsAll s → IsTurn i s t → j ≢ i → Stays s t j
turn_stays s t i j kept turn apart = subst (λ (u : SystemState). Stays s u j) (sym turn.events.after)
    (all_stay s i j (turn_events i turn.turned) kept (turn_is_of i turn.turned) turn.events.may apart)
