-- A run is stopped for want of rounds only where they were spent.
use Rattle.std.proofs.Common.{◌≡◌, ◌≢◌, ℕ, zero, suc, ◌+◌, ◌<◌, Bool, true, false, List, Option, Some, None, length, arith, refl, sym, ap, subst, ◌∙◌, inl, inr}
use Rattle.std.specs.Prelude.{◌&&◌, ◌==◌, nat_lt, MatchOption, if◌then◌else◌, ⊤}
use Rattle.std.proofs.lemmas.Bool.{cases_eq, cases_lt, eqb-true}
use Rattle.std.proofs.lemmas.List.{get_or_past}
use Rattle.px_base.specs.declared.wire.Order.{Order}
use Rattle.px_base.specs.declared.wire.Order.TheVariants.{Step, Report}
use Rattle.px_base.specs.declared.wire.Answer.{Answer}
use Rattle.px_base.specs.declared.wire.Answer.TheVariants.{Stepped, Reported}
use Rattle.px_base.specs.declared.wire.Foreign.{Foreign}
use Rattle.px_base.specs.Worlds.{World, epoch_of}
use Rattle.hub_terms.specs.declared.tasks.Limits.{Limits}
use Rattle.hub_terms.specs.declared.stops.Halt.{Halt}
use Rattle.hub_terms.specs.declared.stops.Halt.TheVariants as halts
use Rattle.hub_terms.specs.declared.stops.Why.{Why}
use Rattle.hub_terms.specs.declared.stops.Why.TheVariants as why
use Rattle.hub_terms.specs.Jobs.{Job}
use Rattle.hub_terms.specs.declared.workers.MemberState.{MemberState}
use Rattle.hub_terms.specs.Members.{opening_member, is_spent, is_no_task}
use Rattle.hub_terms.specs.Hubs.{Turn, stop, worker_at, order_at, turn_of, after_turn}
use Rattle.hub_terms.specs.HubEvents.{after_loss, why_of, foreign_of, absorption, answer_to, answer_taken}
use Rattle.hub_terms.specs.UnderWay.{task_of}
use Rattle.hub_terms.specs.Systems.{SystemState, Event, give, took, lost, joined, halt, opening_system, world_at, with_world, MayCome, state_after, state_taken}
use Rattle.hub_terms.specs.InStep.{IsInStep, IsAtRound, round_of}
use Rattle.list_laws.proofs.Lists.{all_at}
use Rattle.hub_laws.proofs.Workers.{live_inside}
use Rattle.hub_laws.proofs.HubGave as gave
use Rattle.hub_laws.proofs.HubChanged as changed
use Rattle.system_laws.proofs.Kept.{some_told}
use Rattle.system_laws.proofs.WorldsKept.{world_there, world_elsewhere}
use Rattle.settling_laws.specs.Settling.{last_settling}
use Rattle.settling_laws.specs.SettledWorlds.{IsSettledAt, ReadsSettled}
use Rattle.round_laws.specs.Rounds.{AllLive}
use Rattle.round_laws.specs.OnTime.{IsTimed, AllowsEnough, IsOnTime, AreSpent, StopsOnlySpent}
use Rattle.round_laws.proofs.Suffice.{some_part, not_spent}

-- ---- where the rounds are spent

-- the member is live, has nothing to answer, and stands at this round
record IsAtEnd (w : MemberState) (most : ℕ) : Type 0 where
  live : w.live ≡ true
  idle : is_no_task w.task ≡ true
  round : w.round ≡ most

at_end : (w : MemberState) (most : ℕ) → (w.live && is_no_task w.task && w.round == most) ≡ true → IsAtEnd w most
at_end w most all = by_tests w.live (is_no_task w.task) (w.round == most) refl refl refl all
  where
    by_tests : (a b c : Bool) → w.live ≡ a → is_no_task w.task ≡ b → (w.round == most) ≡ c → (a && b && c) ≡ true → IsAtEnd w most
    by_tests true true true l x y h = record { live = l; idle = x; round = eqb-true w.round most y }
    by_tests true true false l x y h = absurd (cc h)
    by_tests true false c l x y h = absurd (cc h)
    by_tests false b c l x y h = absurd (cc h)

module _ (s : SystemState) (ok : IsInStep s) (out : is_spent s.hub.members ≡ true) where
  abbrev most : ℕ
  most = s.hub.members.base + s.hub.members.limits.rounds

  end_of : (i : ℕ) → i < length s.hub.members.members → IsAtEnd (worker_at s.hub i) most
  end_of i inside = at_end (worker_at s.hub i) most (all_at (λ (w : MemberState). w.live && is_no_task w.task && w.round == most) s.hub.members.members i opening_member out inside)

  none_under_way : (i : ℕ) → order_at s.hub i ≡ None
  none_under_way i = elim (cases_lt i (length s.hub.orders)) [
    | inr past ↦ get_or_past s.hub.orders i None past
    | inl inside ↦ by_order (order_at s.hub i) refl (end_of i (omega (arith, inside, ok.hub.places.orders, ok.hub.places.members))).idle
  ]
    where
      by_order : (o : Option Order) → order_at s.hub i ≡ o → is_no_task (worker_at s.hub i).task ≡ true → order_at s.hub i ≡ None
      by_order None is idle = is
      by_order (Some (Step epoch round updates)) is idle = absurd (cc (idle, ap is_no_task (ok.hub.tasks i ∙ ap task_of is)))
      by_order (Some (Report epoch)) is idle = absurd (cc (idle, ap is_no_task (ok.hub.tasks i ∙ ap task_of is)))

  all_live : AllLive s.hub
  all_live i inside = (end_of i (omega (arith, inside, ok.hub.places.members))).live

  last_round : (i : ℕ) (w : World) → world_at s i ≡ Some w → round_of w + 1 ≡ most
  last_round i w is = by_epoch (epoch_of w) (ok.worlds i w is).at_round
    where
      at : (worker_at s.hub i).round ≡ most
      at = (end_of i (live_inside s.hub.members i (some_told s i w ok.live_worlds is).1)).round

      by_epoch : (e : ℕ) → IsAtRound s i w e → round_of w + 1 ≡ most
      by_epoch zero new = absurd (omega (arith, new.1, at, ok.hub.limits.rounds.0))
      by_epoch (suc e) last = last ∙ at

-- ---- every event

pub opens_unspent : (cuts : List ℕ) (limits : Limits) (told : Bool) (job : Job) → StopsOnlySpent (opening_system cuts limits told job)
opens_unspent cuts limits told job h = absurd (cc h)

pub event_stops_spent : (s : SystemState) (e : Event) → IsInStep s → StopsOnlySpent s → MayCome s e → StopsOnlySpent (state_after s e)
event_stops_spent s (give i) ok old may = gave.turn_by (λ (turn : Turn). StopsOnlySpent (record s { hub = after_turn s.hub i turn })) s.hub i
    (λ reason is h. (let spent = old (is ∙ h) in record { no_order = spent.no_order; rounds = spent.rounds }))
    (λ free quiet all. old)
    (λ free quiet none h. absurd (cc (free, h)))
    (λ free busy steps h. absurd (cc (free, h)))
    (λ free busy out h. record { no_order = none_under_way s ok out; rounds = last_round s ok out })
    old
event_stops_spent s (took i answer) ok old may = by_order (order_at s.hub i) refl
  where
    same_halt : (answer : Answer) → (absorption s.hub i answer).halt ≡ s.hub.halt
    same_halt (Stepped epoch round changed updates) = refl
    same_halt (Reported epoch values) = refl

    by_foreign : (order : Order) → order_at s.hub i ≡ Some order → (f : Option Foreign) → StopsOnlySpent (state_taken s i (answer_taken s.hub i answer f))
    by_foreign order had (Some foreign) h = old h
    by_foreign order had None h = absurd (cc (had, (old (sym (same_halt answer) ∙ h)).no_order i))

    by_order : (o : Option Order) → order_at s.hub i ≡ o → StopsOnlySpent (state_taken s i (answer_to s.hub i answer o))
    by_order None none h = absurd (subst (λ (o : Option Order). MatchOption o ⊥ (λ order. ⊤)) none may.1)
    by_order (Some order) had h = by_foreign order had (foreign_of s.hub.inboxes i order answer) h
event_stops_spent s (lost i kind) ok old may = by_halt s.hub.halt refl
  where
    by_limit : (b : Bool) → (if b then Some why.TooManyLosses else None) ≡ Some why.Budget → ⊥
    by_limit true h = cc h
    by_limit false h = cc h

    after_it : AreSpent s → AreSpent (with_world s i None (after_loss s.hub i kind))
    after_it spent = record {
      no_order = λ j. elim (cases_eq j i) [
        | inl same ↦ ap (order_at (after_loss s.hub i kind)) same ∙ changed.lost_order s.hub i kind ok.hub may.0 may.1
        | inr apart ↦ changed.lost_order_other s.hub i kind ok.hub may.0 may.1 j apart ∙ spent.no_order j
      ];
      rounds = λ j w is. elim (cases_eq j i) [
        | inl same ↦ absurd (cc (world_there s i None (after_loss s.hub i kind) (omega (arith, may.0, ok.job.worlds)), subst (λ (k : ℕ). world_at (with_world s i None (after_loss s.hub i kind)) k ≡ Some w) same is))
        | inr apart ↦ spent.rounds j w (sym (world_elsewhere s i None (after_loss s.hub i kind) j apart) ∙ is)
      ];
    }

    by_halt : (o : Option Why) → s.hub.halt ≡ o → (elim o [ Some reason ↦ Some reason | None ↦ if nat_lt s.hub.members.limits.losses (length s.hub.members.losses + 1) then Some why.TooManyLosses else None ]) ≡ Some why.Budget →
        AreSpent (with_world s i None (after_loss s.hub i kind))
    by_halt (Some reason) is h = after_it (old (is ∙ h))
    by_halt None is h = absurd (by_limit (nat_lt s.hub.members.limits.losses (length s.hub.members.losses + 1)) h)
event_stops_spent s (joined i) ok old may = λ h. absurd (cc (may.2, h))
event_stops_spent s (halt i reason) ok old may = by_halt s.hub.halt refl
  where
    other : (reason : Halt) → Some (why_of reason i) ≡ Some why.Budget → ⊥
    other halts.NoReplacement h = cc h
    other halts.Memory h = cc h

    by_halt : (o : Option Why) → s.hub.halt ≡ o → StopsOnlySpent (record s { hub = elim o [ Some first ↦ s.hub | None ↦ record s.hub { halt = Some (why_of reason i) } ] })
    by_halt (Some first) is h = old h
    by_halt None is h = absurd (other reason h)

-- ---- a turn

-- of a timed state that allows rounds enough, no turn tells a worker that they are spent
pub budget_never_told : (s : SystemState) (i : ℕ) → IsInStep s → IsOnTime s → IsTimed s → AllowsEnough s → turn_of s.hub i ≢ stop why.Budget
budget_never_told s i ok time timed enough = gave.turn_by (λ (turn : Turn). turn ≢ stop why.Budget) s.hub i
    (λ reason is h. time.budget timed enough (is ∙ ap Some (same_reason reason h)))
    (λ free quiet all h. cc h)
    (λ free quiet none h. cc h)
    (λ free busy may h. cc h)
    (λ free busy out h. not_spent IsSettledAt ReadsSettled last_settling s ok (some_part ok.job.cuts) (omega (arith, enough)) (time.facts timed) out)
    (λ h. cc h)
  where
    same_reason : (reason : Why) → stop reason ≡ stop why.Budget → reason ≡ why.Budget
    same_reason reason h = cc h

-- where a turn tells a worker that the rounds are spent, they are, and that is kept
pub told_is_spent : (s : SystemState) (i : ℕ) → IsInStep s → StopsOnlySpent s → MayCome s (give i) → turn_of s.hub i ≡ stop why.Budget → AreSpent (state_after s (give i))
told_is_spent s i ok old may told = event_stops_spent s (give i) ok old may (ap (λ (turn : Turn). (after_turn s.hub i turn).halt) told)

-- where it is the first such turn, all workers are live
pub first_told_all_live : (s : SystemState) (i : ℕ) → IsInStep s → s.hub.halt ≡ None → turn_of s.hub i ≡ stop why.Budget → AllLive s.hub
first_told_all_live s i ok free = gave.turn_by (λ (turn : Turn). turn ≡ stop why.Budget → AllLive s.hub) s.hub i
    (λ reason is h. absurd (cc (free, is)))
    (λ none quiet all h. absurd (cc h))
    (λ none quiet unseen h. absurd (cc h))
    (λ none busy may h. absurd (cc h))
    (λ none busy out h. all_live s ok out)
    (λ h. absurd (cc h))
