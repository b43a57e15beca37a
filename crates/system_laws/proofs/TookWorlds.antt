-- An answer that is taken keeps what is known of the worlds.
use Rattle.std.proofs.Common.{◌≡◌, ◌≢◌, ℕ, zero, suc, ◌+◌, ◌<◌, ◌≤◌, Bool, true, false, not, List, Option, Some, length, arith, refl, sym, ap, subst, ◌∙◌, inl, inr, eqb-true, eq-eqb}
use Rattle.std.specs.Prelude.{◌&&◌, ◌==◌, All, is_none}
use Rattle.std.proofs.lemmas.Bool.{cases_eq}
use Rattle.px_base.specs.declared.wire.Update.{Update}
use Rattle.px_base.specs.declared.wire.Order.TheVariants.{Step, Report}
use Rattle.px_base.specs.Values.{IsValue}
use Rattle.px_base.specs.Worlds.{World, epoch_of, masters_of, CarriesValues}
use Rattle.hub_terms.specs.declared.tasks.Task.TheVariants as task
use Rattle.hub_terms.specs.declared.workers.MemberState.{MemberState}
use Rattle.hub_terms.specs.Hubs.{HubState, worker_at, order_at, worker_count}
use Rattle.hub_terms.specs.HubInStep.{IsHubInStep, IsOrderOf}
use Rattle.hub_terms.specs.Systems.{SystemState, world_at, part_at, with_world}
use Rattle.hub_terms.specs.InStep.{IsForJob, IsAtRound, IsWorldInStep, WorldsInStep, LiveHaveWorlds, round_of}
use Rattle.hub_laws.proofs.Workers.{live_tasked, due_tasked, round_tasked}
use Rattle.hub_laws.proofs.HubTook.{stepped_hub, stepped_worker, reported_hub}
use Rattle.hub_laws.proofs.HubTook as took
use Rattle.step_laws.proofs.WorldSteps.{outcome_of, step_epoch, step_round, world_stays}
use Rattle.system_laws.proofs.WorldsKept.{world_on, part_short, part_same, world_there, world_elsewhere}

-- the cuts stay, whichever answer it was
pub stepped_cuts : (b : Bool) (hub : HubState) (i : ℕ) (changed : Bool) (updates : List Update) → (stepped_hub b hub i changed updates).inboxes.cuts ≡ hub.inboxes.cuts
stepped_cuts true hub i changed updates = refl
stepped_cuts false hub i changed updates = refl

-- ---- a Step is answered

module _ (s : SystemState) (i epoch round : ℕ) (sent : List Update) (changed : Bool) (updates : List Update) (b : Bool) (ok : IsHubInStep s.hub) (fit : IsForJob s) (inside : i < worker_count s.hub)
    (had : order_at s.hub i ≡ Some (Step epoch round sent)) (values : CarriesValues updates) (world : Option World) where
  abbrev pub stepped : SystemState
  stepped = with_world s i world (stepped_hub b s.hub i changed updates)

  pub stepped_place : i < length s.worlds
  stepped_place = omega (arith, fit.worlds)

  -- the others
  stepped_other : (j : ℕ) (w : World) → j ≢ i → IsWorldInStep s j w → IsWorldInStep stepped j w
  stepped_other j w apart old =
      let same = took.worker_other s.hub i epoch round sent changed updates ok inside had values b j apart in
      world_on s stepped j w
      (record { job = refl; cuts = stepped_cuts b s.hub i changed updates; epoch = refl; due = ap (λ (u : MemberState). u.due) same; round = ap (λ (u : MemberState). u.round) same })
      (λ low. low) (λ order has. old.accepts order (sym (took.took_other s.hub i epoch round sent changed updates ok inside had values b j apart) ∙ has)) old.reported old

  -- the world that made the step
  pub stepped_here : (w : World) → (epoch == s.hub.members.epoch) ≡ b → IsWorldInStep s i w → IsWorldInStep stepped i (outcome_of w (Step epoch round sent)).world
  stepped_here w current old =
      let order : IsOrderOf s.hub i (Step epoch round sent) = ok.orders i (Step epoch round sent) had in
      let now : epoch_of (outcome_of w (Step epoch round sent)).world ≡ epoch = step_epoch w epoch round sent in
      let worker : worker_at stepped.hub i ≡ stepped_worker b (worker_at s.hub i) changed = took.took_worker s.hub i epoch round sent changed updates ok inside had values b in
      let parts : part_at stepped i ≡ part_at s i = part_same s stepped i refl (stepped_cuts b s.hub i changed updates) in
      record {
        of_part = rw parts (world_stays (part_at s i) s.job.core w (Step epoch round sent) (part_short s fit i inside) order.mail.values old.of_part);
        not_ahead = rw now order.not_later;
        due = rw (worker, now) (by_current b current order);
        at_round = rw now (by_epoch epoch order.some_epoch (rw (worker, step_round w epoch round sent) (ap (λ r. r + 1) order.stands ∙ sym (took.round_more s.hub i epoch round sent changed updates ok inside had values b))));
        accepts = λ o has. absurd (cc (has, took.took_order s.hub i epoch round sent changed updates ok inside had values b));
        reported = λ seen has. absurd (cc (ok.reports.idle i seen has, had));
      }
    where
      by_epoch : (e : ℕ) → 1 ≤ e → round_of (outcome_of w (Step epoch round sent)).world + 1 ≡ (worker_at stepped.hub i).round → IsAtRound stepped i (outcome_of w (Step epoch round sent)).world e
      by_epoch zero some at = absurd (omega (arith, some))
      by_epoch (suc e) some at = at

      by_current : (c : Bool) → (epoch == s.hub.members.epoch) ≡ c → IsOrderOf s.hub i (Step epoch round sent) →
          ((stepped_worker c (worker_at s.hub i) changed).due ≡ true → epoch < s.hub.members.epoch) × (epoch < s.hub.members.epoch → (stepped_worker c (worker_at s.hub i) changed).due ≡ true)
      by_current true is order = (λ due. absurd (cc due), λ less. absurd (omega (arith, less, eqb-true epoch s.hub.members.epoch is)))
      by_current false is order = (
        λ due. elim (cases_eq epoch s.hub.members.epoch) [ inl same ↦ absurd (cc (is, eq-eqb epoch s.hub.members.epoch same)) | inr apart ↦ omega (arith, order.not_later, apart) ],
        λ less. by_due (worker_at s.hub i).due refl less,
      )
        where
          by_due : (d : Bool) → (worker_at s.hub i).due ≡ d → epoch < s.hub.members.epoch → (worker_at s.hub i).due ≡ true
          by_due true is less = is
          by_due false is less = absurd (omega (arith, less, order.current is))

  pub stepped_worlds : (epoch == s.hub.members.epoch) ≡ b → ((w : World) → world ≡ Some w → (old : World) × (world_at s i ≡ Some old) × (w ≡ (outcome_of old (Step epoch round sent)).world)) → WorldsInStep s → WorldsInStep stepped
  stepped_worlds current from worlds j w is = elim (cases_eq j i) [
    | inl same ↦
        (let step = from w (sym (world_there s i world (stepped_hub b s.hub i changed updates) stepped_place) ∙ (ap (world_at stepped) (sym same) ∙ is)) in
        subst (λ (k : ℕ). IsWorldInStep stepped k w) (sym same) (subst (λ (x : World). IsWorldInStep stepped i x) (sym step.2) (stepped_here step.0 current (worlds i step.0 step.1))))
    | inr apart ↦ stepped_other j w apart (worlds j w (sym (world_elsewhere s i world (stepped_hub b s.hub i changed updates) j apart) ∙ is))
  ]

  pub stepped_live : is_none world ≡ is_none (world_at s i) → LiveHaveWorlds s → LiveHaveWorlds stepped
  stepped_live same have j = elim (cases_eq j i) [
    | inl here ↦ subst (λ (k : ℕ). is_none (world_at stepped k) ≡ not (s.told && (worker_at stepped.hub k).live)) (sym here)
        (ap is_none (world_there s i world (stepped_hub b s.hub i changed updates) stepped_place) ∙ (same ∙ (have i ∙ ap (λ l. not (s.told && l)) (sym (took.took_live s.hub i epoch round sent changed updates ok inside had values b i)))))
    | inr apart ↦ ap is_none (world_elsewhere s i world (stepped_hub b s.hub i changed updates) j apart) ∙ (have j ∙ ap (λ l. not (s.told && l)) (sym (took.took_live s.hub i epoch round sent changed updates ok inside had values b j)))
  ]

-- ---- a Report is answered

module _ (s : SystemState) (i epoch : ℕ) (values : List ℕ) (b : Bool) (ok : IsHubInStep s.hub) (fit : IsForJob s) (inside : i < worker_count s.hub) (had : order_at s.hub i ≡ Some (Report epoch)) (known : All IsValue values) where
  abbrev pub reported : SystemState
  reported = with_world s i (world_at s i) (reported_hub b s.hub i values)

  reported_place : i < length s.worlds
  reported_place = omega (arith, fit.worlds)

  -- each world is as before
  pub worlds_stay : (j : ℕ) → world_at reported j ≡ world_at s j
  worlds_stay j = elim (cases_eq j i) [
    | inl same ↦ ap (world_at reported) same ∙ (world_there s i (world_at s i) (reported_hub b s.hub i values) reported_place ∙ ap (world_at s) (sym same))
    | inr apart ↦ world_elsewhere s i (world_at s i) (reported_hub b s.hub i values) j apart
  ]

  pub reported_worlds : ((w : World) → world_at s i ≡ Some w → values ≡ masters_of w) → WorldsInStep s → WorldsInStep reported
  reported_worlds honest worlds j w is =
      let there : world_at s j ≡ Some w = sym (worlds_stay j) ∙ is in
      let old = worlds j w there in
      world_on s reported j w
      (record { job = refl; cuts = refl; epoch = refl; due = due_tasked s.hub.members i task.Nothing j; round = round_tasked s.hub.members i task.Nothing j })
      (λ low. low)
      (λ order has. elim (cases_eq j i) [
        | inl same ↦ absurd (cc (took.told_order s.hub i epoch values ok inside had known b, subst (λ (k : ℕ). order_at reported.hub k ≡ Some order) same has))
        | inr apart ↦ old.accepts order (sym (took.told_other s.hub i epoch values ok inside had known b j apart) ∙ has)
      ])
      (λ seen has. elim (took.report_at s.hub i epoch values ok inside had known b j seen has) [
        | inl before ↦ old.reported seen before
        | inr now ↦ now.2 ∙ honest w (ap (world_at s) (sym now.1) ∙ there)
      ])
      old

  pub reported_live : LiveHaveWorlds s → LiveHaveWorlds reported
  reported_live have j = ap is_none (worlds_stay j) ∙ (have j ∙ ap (λ l. not (s.told && l)) (sym (live_tasked s.hub.members i task.Nothing j)))
