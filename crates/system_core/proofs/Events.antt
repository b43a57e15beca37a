-- What each call leaves, over plain states: all facts are kept, and no other worker's part has changed.
use Rattle.std.proofs.Common.{◌≡◌, ◌≢◌, ℕ, refl, sym, subst}
use Rattle.std.specs.Prelude.{Result, Ok, Err, IfOk, OnErr, OnOk}
use Rattle.px_base.specs.declared.memory.Memory.{Memory}
use Rattle.px_base.specs.declared.wire.Answer.{Answer}
use Rattle.px_base.specs.declared.wire.Foreign.{Foreign}
use Rattle.recovery.specs.Givens.{GivenState}
use Rattle.recovery.specs.TurnFor.{turn_for}
use Rattle.recovery.specs.declared.given.Turn as declared
use Rattle.recovery.specs.declared.given.Turn.TheVariants.{Work, Done, Stop}
use Rattle.hub_terms.specs.declared.stops.Why.TheVariants as why
use Rattle.hub_terms.specs.Hubs.{HubState, after_turn, turn_of}
use Rattle.hub_terms.specs.HubEvents.{after_answer}
use Rattle.hub_terms.specs.Seats.{worker_of}
use Rattle.hub_terms.specs.Systems.{SystemState, Event, MayCome, give, state_after, state_taken, took, with_world, world_after}
use Rattle.system_laws.proofs.SeatsApart.{seat_kept}
use Rattle.round_laws.specs.OnTime.{AllowsEnough, AreSpent, IsTimed}
use Rattle.budget_laws.specs.KeptFacts.{KeepsAll}
use Rattle.budget_laws.proofs.AllKept.{event_keeps_all}
use Rattle.system_core.specs.Promises.{IsDone, IsHandedOut, OthersStay}
use Rattle.system_core.proofs.Turns.{gave_budget, gave_done, gave_never_budget, gave_order}

-- ---- any event

pub others_stay : (s : SystemState) (e : Event) → KeepsAll s → MayCome s e → OthersStay (worker_of e) s (state_after s e)
others_stay s e kept may = λ j apart. seat_kept s e j kept.in_step may apart

-- ---- a turn, or no room for one

module _ (s : SystemState) (i : ℕ) (hub : HubState) (r : Result declared.Turn Memory) (kept : KeepsAll s) (may : MayCome s (give i))
    (tells : IfOk r (λ turn. turn ≡ turn_for i (turn_of s.hub i))) (left : OnOk r (hub ≡ after_turn s.hub i (turn_of s.hub i))) (stays : OnErr r (hub ≡ s.hub)) where
  abbrev new : SystemState
  new = record s { hub = hub }

  -- where a turn is told, it is the event
  gave : (turn : declared.Turn) → r ≡ Ok turn → state_after s (give i) ≡ new
  gave turn is = let made : hub ≡ after_turn s.hub i (turn_of s.hub i) = subst (λ (x : Result declared.Turn Memory). OnOk x (hub ≡ after_turn s.hub i (turn_of s.hub i))) is left in rw made refl

  its_turn : (turn : declared.Turn) → r ≡ Ok turn → turn_for i (turn_of s.hub i) ≡ turn
  its_turn turn is = sym (subst (λ (x : Result declared.Turn Memory). IfOk x (λ turn. turn ≡ turn_for i (turn_of s.hub i))) is tells)

  -- else nothing has changed
  stayed : (fault : Memory) → r ≡ Err fault → s ≡ new
  stayed fault is = let same : hub ≡ s.hub = subst (λ (x : Result declared.Turn Memory). OnErr x (hub ≡ s.hub)) is stays in rw same refl

  pub gave_all : KeepsAll new
  gave_all = by_result r refl
    where
      by_result : (x : Result declared.Turn Memory) → r ≡ x → KeepsAll new
      by_result (Ok turn) is = subst KeepsAll (gave turn is) (event_keeps_all s (give i) kept may)
      by_result (Err fault) is = subst KeepsAll (stayed fault is) kept

  pub gave_others : OthersStay i s new
  gave_others = by_result r refl
    where
      by_result : (x : Result declared.Turn Memory) → r ≡ x → OthersStay i s new
      by_result (Ok turn) is = subst (OthersStay i s) (gave turn is) (others_stay s (give i) kept may)
      by_result (Err fault) is = subst (OthersStay i s) (stayed fault is) (λ j apart. refl)

  pub hands_out : (given : GivenState) → r ≡ Ok (Work given) → IsHandedOut new i given
  hands_out given is = subst (λ (t : SystemState). IsHandedOut t i given) (gave (Work given) is) (gave_order s i kept may given (its_turn (Work given) is))

  pub is_done : r ≡ Ok Done → IsDone new
  is_done is = subst IsDone (gave Done is) (gave_done s i kept may (its_turn Done is))

  pub never_budget : IsTimed s → AllowsEnough s → r ≢ Ok (Stop why.Budget)
  never_budget timed enough is = gave_never_budget s i kept may timed enough (its_turn (Stop why.Budget) is)

  pub was_spent : r ≡ Ok (Stop why.Budget) → AreSpent new
  was_spent is = subst AreSpent (gave (Stop why.Budget) is) (gave_budget s i kept may (its_turn (Stop why.Budget) is))

-- ---- an answer that the hub takes

module _ (s : SystemState) (i : ℕ) (answer : Answer) (hub : HubState) (kept : KeepsAll s) (may : MayCome s (took i answer)) (taken : after_answer s.hub i answer ≡ Ok hub) where
  abbrev after : SystemState
  after = with_world s i (world_after s i) hub

  pub took_all : KeepsAll after
  took_all = subst (λ (r : Result HubState Foreign). KeepsAll (state_taken s i r)) taken (event_keeps_all s (took i answer) kept may)

  pub took_others : OthersStay i s after
  took_others = subst (λ (r : Result HubState Foreign). OthersStay i s (state_taken s i r)) taken (others_stay s (took i answer) kept may)
