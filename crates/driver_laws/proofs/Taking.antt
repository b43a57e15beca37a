-- What the hub takes leaves of the worker that answered, and the link goes with it.
use Rattle.std.proofs.Common.{◌≡◌, ℕ, ◌<◌, ◌≤◌, Bool, true, false, List, Option, Some, None, arith, refl, sym, ap, subst, ◌∙◌, ⊎_elim, inl, inr, eqb-true}
use Rattle.std.specs.Prelude.{◌==◌, ◌⊎◌, MatchOption, Result, Ok, is_some, ⊤}
use Rattle.px_base.specs.declared.wire.Answer.{Answer}
use Rattle.px_base.specs.declared.wire.Answer.TheVariants.{Stepped, Reported}
use Rattle.px_base.specs.declared.wire.Foreign.{Foreign}
use Rattle.px_base.specs.declared.wire.Order.{Order}
use Rattle.px_base.specs.declared.wire.Order.TheVariants.{Step, Report}
use Rattle.px_base.specs.declared.wire.Update.{Update}
use Rattle.px_base.specs.Worlds.{World}
use Rattle.recovery.specs.Givens.{GivenState}
use Rattle.hub_terms.specs.declared.tasks.Task.TheVariants as task
use Rattle.hub_terms.specs.Hubs.{HubState, order_at, reported_at, worker_at, worker_count}
use Rattle.hub_terms.specs.HubEvents.{absorption, after_answer, answer_taken, answer_to, foreign_of}
use Rattle.hub_terms.specs.HubInStep.{IsHubInStep}
use Rattle.hub_terms.specs.Seats.{names_worker}
use Rattle.hub_terms.specs.Systems.{SystemState, AnswersValues, IsHonestAnswer, step_of, with_world, world_after, world_at, world_left}
use Rattle.link_trait.specs.Links.{LinkView, Accepts, IsAnswered, IsHonestTo, IsSameLink, is_told, peer_after, reports_with}
use Rattle.link_trait.specs.Spawners.{SpawnerView}
use Rattle.system_core.specs.Promises.{IsHandedOut}
use Rattle.hub_laws.proofs.Workers.{idle_at, live_tasked}
use Rattle.hub_laws.proofs.HubTook.{report_at, reported_hub, reported_is, reported_order, right_answer, stepped_hub, stepped_is, stepped_order, told_order, took_live, took_order}
use Rattle.system_laws.proofs.WorldsKept.{world_there}
use Rattle.round_laws.proofs.Suffice.{world_of_live}
use Rattle.budget_laws.specs.KeptFacts.{KeepsAll}
use Rattle.driver_laws.specs.Seats.{IsLinked, losses_of, naming}

-- ---- what the hub takes

ok_same : (r : Result HubState Foreign) (a b : HubState) → r ≡ Ok a → r ≡ Ok b → a ≡ b
ok_same r a b one two = cc

-- of worker i, whose order this was, the hub knows only that it has reported, if that is what it had to do
pub record Absorbs (hub new : HubState) (i : ℕ) (order : Order) : Type 0 where
  pub halt : new.halt ≡ hub.halt
  pub limits : new.members.limits ≡ hub.members.limits
  pub losses : new.members.losses ≡ hub.members.losses
  pub live : (worker_at new i).live ≡ (worker_at hub i).live
  pub idle : order_at new i ≡ None
  pub reported : (values : List ℕ) → reported_at new i ≡ Some values → (reported_at hub i ≡ Some values) ⊎ (order ≡ Report hub.members.epoch)

module _ (hub : HubState) (i : ℕ) (ok : IsHubInStep hub) (inside : i < worker_count hub) where
  stepped_absorbs : (epoch round : ℕ) (sent : List Update) (changed : Bool) (updates : List Update) → order_at hub i ≡ Some (Step epoch round sent) → AnswersValues (Stepped epoch round changed updates) → (b : Bool) →
      Absorbs hub (stepped_hub b hub i changed updates) i (Step epoch round sent)
  stepped_absorbs epoch round sent changed updates had values b = record {
    halt = refl;
    limits = refl;
    losses = refl;
    live = took_live hub i epoch round sent changed updates ok inside had values b i;
    idle = took_order hub i epoch round sent changed updates ok inside had values b;
    reported = λ seen h. inl h;
  }

  told_absorbs : (epoch : ℕ) (seen : List ℕ) → order_at hub i ≡ Some (Report epoch) → AnswersValues (Reported epoch seen) → (b : Bool) → (epoch == hub.members.epoch) ≡ b → Absorbs hub (reported_hub b hub i seen) i (Report epoch)
  told_absorbs epoch seen had known b now = record {
    halt = refl;
    limits = refl;
    losses = refl;
    live = live_tasked hub.members i task.Nothing i;
    idle = told_order hub i epoch seen ok inside had known b;
    reported = λ values h. ⊎_elim (λ before. inl before) (λ new. inr (ap Report (eqb-true epoch hub.members.epoch (now ∙ new.0)))) (report_at hub i epoch seen ok inside had known b i values h);
  }

  absorbs : (order : Order) (answer : Answer) → order_at hub i ≡ Some order → foreign_of hub.inboxes i order answer ≡ None → AnswersValues answer → Absorbs hub (absorption hub i answer) i order
  absorbs order (Stepped epoch round changed updates) had none values =
      let this = stepped_order order epoch round changed updates (right_answer hub.inboxes i order (Stepped epoch round changed updates) none).0 in
      rw (stepped_is hub i epoch round changed updates (epoch == hub.members.epoch) refl, this.1) (stepped_absorbs epoch round this.0 changed updates (had ∙ ap Some this.1) values (epoch == hub.members.epoch))
  absorbs order (Reported epoch seen) had none known =
      let this = reported_order order epoch seen (right_answer hub.inboxes i order (Reported epoch seen) none).0 in
      rw (reported_is hub i epoch seen (epoch == hub.members.epoch) refl, this) (told_absorbs epoch seen (had ∙ ap Some this) known (epoch == hub.members.epoch) refl)

  -- an answer that was taken had nothing wrong
  pub taken_absorbs : (order : Order) (answer : Answer) (new : HubState) → order_at hub i ≡ Some order → AnswersValues answer → after_answer hub i answer ≡ Ok new → Absorbs hub new i order
  taken_absorbs order answer new had values taken = by_foreign (foreign_of hub.inboxes i order answer) refl (ap (answer_to hub i answer) (sym had) ∙ taken)
    where
      by_foreign : (f : Option Foreign) → foreign_of hub.inboxes i order answer ≡ f → answer_taken hub i answer f ≡ Ok new → Absorbs hub new i order
      by_foreign None none is = subst (λ (h : HubState). Absorbs hub h i order) (ok_same (answer_taken hub i answer None) (absorption hub i answer) new refl is) (absorbs order answer had none values)
      by_foreign (Some foreign) some is = absurd (cc is)

-- ---- the link

-- a peer that isn't told isn't the world of any worker
has_peer : (s : SystemState) (i : ℕ) → KeepsAll s → (worker_at s.hub i).live ≡ true → s.told ≡ true → is_some (world_at s i) ≡ true
has_peer s i kept live tells = ap is_some (world_of_live s i kept.in_step.live_worlds tells live).1

module _ (s : SystemState) (i : ℕ) (given : GivenState) (kept : KeepsAll s) (p : SpawnerView) (l : LinkView) (handed : IsHandedOut s i given) (fit : IsLinked s i p l) where
  -- the link accepts the order
  pub link_accepts : Accepts l.peer given.order
  link_accepts = rw fit.peer (by_world (world_at s i) refl)
    where
      by_world : (o : Option World) → world_at s i ≡ o → Accepts o given.order
      by_world None none = tt
      by_world (Some w) here = by_told s.told refl
        where
          by_told : (b : Bool) → s.told ≡ b → Accepts (Some w) given.order
          by_told true tells = subst (λ (o : Option World). MatchOption o ⊥ (λ x. Accepts (Some x) given.order)) here (handed.accepted tells)
          by_told false silent = absurd (cc (kept.in_step.live_worlds i, here, silent))

  pub is_asked : MatchOption (order_at s.hub i) ⊥ (λ order. ⊤)
  is_asked = rw handed.order tt

  -- the answer may come
  pub honest_answer : (answer : Answer) → IsHonestTo l.peer given.order answer → IsHonestAnswer s i answer
  honest_answer answer honest tells = let w = world_of_live s i kept.in_step.live_worlds tells fit.live in
      rw (handed.order, w.1) (subst (λ (o : Option World). IsHonestTo o given.order answer) (fit.peer ∙ w.1) honest)

  pub tells_peer : s.told ≡ true → is_told l ≡ true
  tells_peer tells = ap is_some fit.peer ∙ has_peer s i kept fit.live tells

  -- the link goes with the worker that answered
  module _ (answer : Answer) (m : LinkView) (hub : HubState) (inside : i < worker_count s.hub) (answered : IsAnswered l m given.order answer) (same : IsSameLink l m) (taken : after_answer s.hub i answer ≡ Ok hub) where
    abbrev after : SystemState
    after = with_world s i (world_after s i) hub

    absorbed : Absorbs s.hub hub i given.order
    absorbed = taken_absorbs s.hub i kept.in_step.hub inside given.order answer hub handed.order answered.values taken

    world_is : world_at after i ≡ world_after s i
    world_is = world_there s i (world_after s i) hub (omega (arith, inside, kept.in_step.job.worlds))

    one_call : s.told ≡ true → 1 ≤ m.calls
    one_call tells = omega (arith, answered.calls (tells_peer tells))

    two_calls : s.told ≡ true → given.order ≡ Report s.hub.members.epoch → (2 ≤ m.calls) × (1 ≤ m.reports)
    two_calls tells asked =
        let quiet = kept.in_step.hub.reports.asked i (handed.order ∙ ap Some asked) in
        let current : (worker_at s.hub i).due ≡ false = (idle_at s.hub i quiet (omega (arith, inside, kept.in_step.hub.places.members))).due in
        (omega (arith, answered.calls (tells_peer tells), fit.answered.once tells current), omega (arith, answered.reports (tells_peer tells) ∙ ap (reports_with l.reports) asked))

    pub took_fits : IsLinked after i p m
    took_fits = record {
      spawner = record { worker = fit.spawner.worker; tells = fit.spawner.tells; retired = fit.spawner.retired };
      counts = record {
        few_starts = rw absorbed.limits fit.counts.few_starts;
        most_starts = rw losses_same fit.counts.most_starts;
        starts = λ free. rw (losses_same, absorbed.live) (fit.counts.starts (sym absorbed.halt ∙ free));
        kinds = λ tells. rw losses_same (fit.counts.kinds tells);
        ends = rw losses_same fit.counts.ends;
        refused = λ named. fit.counts.refused (ap (names_worker i) (sym absorbed.halt) ∙ named);
      };
      link = record { worker = same.worker ∙ fit.link.worker; mark = fit.link.mark ∙ ap Some (sym same.mark) };
      alive = answered.alive;
      peer = answered.peer ∙ (ap (λ (o : Option World). peer_after o given.order) fit.peer ∙ (ap (λ (o : Option Order). world_left (step_of (world_at s i) o)) (sym handed.order) ∙ sym world_is));
      live = absorbed.live ∙ fit.live;
      answered = record {
        once = λ tells due. one_call tells;
        twice = λ tells values had. ⊎_elim (λ before. absurd (cc (kept.in_step.hub.reports.idle i values before, handed.order))) (λ asked. two_calls tells asked) (absorbed.reported values had);
      };
    }
      where
        losses_same : losses_of after i ≡ losses_of s i
        losses_same = ap (naming i) absorbed.losses

    pub took_idle : order_at after.hub i ≡ None
    took_idle = absorbed.idle
