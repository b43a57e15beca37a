-- Each event keeps what is known of the worlds of live workers.
use Rattle.std.proofs.Common.{◌≡◌, ◌≢◌, ℕ, zero, suc, ◌<◌, ◌≤◌, Bool, true, false, not, List, [], Option, Some, None, length, get_or, set, arith, refl, sym, ap, subst, ◌∙◌, inl, inr, eq-eqb}
use Rattle.std.specs.Prelude.{◌&&◌, ◌==◌, IsTrue, is_none, nat_lt, if◌then◌else◌}
use Rattle.std.proofs.lemmas.List.{get_or-set_same, get_or-set_other, get_or_past}
use Rattle.std.proofs.lemmas.Bool.{cases_eq, cases_lt, le-ltb}
use Rattle.px_base.specs.declared.graph.Part.{Part}
use Rattle.px_base.specs.declared.wire.Update.{Update}
use Rattle.px_base.specs.declared.wire.Order.{Order}
use Rattle.px_base.specs.declared.wire.Order.TheVariants.{Step, Report}
use Rattle.px_base.specs.declared.wire.LossKind.{LossKind}
use Rattle.px_base.specs.declared.TheConstants.{TOP}
use Rattle.px_base.specs.Values.{is_listed}
use Rattle.px_base.specs.Graphs.{HasWeights, read_count}
use Rattle.px_base.specs.Parts.{PartFits, is_master, route_of, routes_of}
use Rattle.px_base.specs.Worlds.{World, of_values, of_counts, epoch_of, masters_of, takes_update, new_world}
use Rattle.px_base.proofs.Positions.{length_by_position, at_position}
use Rattle.partitioner.proofs.Fitting.{mirror_on_route}
use Rattle.hub_terms.specs.declared.stops.Why.{Why}
use Rattle.hub_terms.specs.declared.stops.Why.TheVariants as why
use Rattle.hub_terms.specs.declared.tasks.Task.TheVariants as task
use Rattle.hub_terms.specs.declared.workers.MemberState.{MemberState}
use Rattle.hub_terms.specs.Inboxes.{is_addressed, route_at}
use Rattle.hub_terms.specs.Hubs.{HubState, Turn, worker_at, order_at, reported_at, waiting_at, worker_count, is_quiet_hub, turn_of, after_turn}
use Rattle.hub_terms.specs.HubEvents.{after_loss, after_join}
use Rattle.hub_terms.specs.UnderWay.{task_of}
use Rattle.hub_terms.specs.HubInStep.{IsHubInStep, IsMailOf}
use Rattle.hub_terms.specs.Systems.{SystemState, world_at, part_at, with_world, new_world_at}
use Rattle.hub_terms.specs.InStep.{IsForJob, IsWorldOf, IsAtRound, IsAccepted, IsWorldInStep, WorldsInStep, LiveHaveWorlds}
use Rattle.list_laws.proofs.Told.{none_refused}
use Rattle.hub_laws.proofs.Workers.{live_tasked, due_tasked, round_tasked, idle_at}
use Rattle.hub_laws.proofs.HubGave.{turn_by}
use Rattle.hub_laws.proofs.HubGave as gave
use Rattle.hub_laws.proofs.HubChanged as changed
use Rattle.step_laws.proofs.JobParts.{job_part_fits, job_part_short, job_part_weights}
use Rattle.step_laws.proofs.WorldSteps.{new_world_is, new_world_epoch}

-- ---- the parts

module _ (s : SystemState) (fit : IsForJob s) (i : ℕ) (inside : i < worker_count s.hub) where
  pub part_is_fit : PartFits (part_at s i)
  part_is_fit = job_part_fits s.job s.hub.inboxes.cuts i fit.sound fit.cuts inside

  pub part_weights : HasWeights (part_at s i).rows
  part_weights = job_part_weights s.job s.hub.inboxes.cuts i fit.sound

  pub part_short : read_count (part_at s i).rows ≤ TOP
  part_short = job_part_short s.job s.hub.inboxes.cuts i fit.sound

-- ---- what goes to a worker is taken by its world

pub addressed_taken : (s : SystemState) (i : ℕ) (w : World) → IsForJob s → i < worker_count s.hub → IsWorldOf (part_at s i) s.job.core w → (v : ℕ) → IsTrue (is_addressed s.hub.inboxes i v) → takes_update w v ≡ true
addressed_taken s i (of_counts w) fit inside is v for_i =
    let counts : s.hub.inboxes.counting ≡ true = fit.counting ∙ is.0 in
    let here : is_master s.hub.inboxes.cuts i v ≡ true = rw counts at for_i in
    rw is.1 here
addressed_taken s i (of_values w) fit inside is v for_i =
    let counts : s.hub.inboxes.counting ≡ false = fit.counting ∙ is.0 in
    let here : is_listed (route_at s.hub.inboxes.routes v) i ≡ true = rw counts at for_i in
    let there : is_listed (get_or (routes_of s.job.rows s.hub.inboxes.cuts) v []) i ≡ true = rw fit.routes at here in
    rw is.1 (elim (cases_lt v (length s.job.rows)) [
      | inl below ↦ mirror_on_route s.job.rows s.hub.inboxes.cuts v i below inside ∙ (ap (λ (route : List ℕ). is_listed route i) (sym (at_position (length s.job.rows) (route_of s.job.rows s.hub.inboxes.cuts) v [] below)) ∙ there)
      | inr past ↦ absurd (no_route past there)
    ])
  where
    no_route : length s.job.rows ≤ v → is_listed (get_or (routes_of s.job.rows s.hub.inboxes.cuts) v []) i ≡ true → ⊥
    no_route past listed =
        let over : length (routes_of s.job.rows s.hub.inboxes.cuts) ≤ v = omega (arith, past, length_by_position (length s.job.rows) (route_of s.job.rows s.hub.inboxes.cuts)) in
        let none : get_or (routes_of s.job.rows s.hub.inboxes.cuts) v [] ≡ [] = get_or_past (routes_of s.job.rows s.hub.inboxes.cuts) v [] over in
        cc (listed, ap (λ (route : List ℕ). is_listed route i) none)

-- a Step with mail is accepted by a world that isn't ahead
pub mail_accepted : (s : SystemState) (i : ℕ) (w : World) (epoch round : ℕ) (updates : List Update) → IsForJob s → i < worker_count s.hub → IsWorldOf (part_at s i) s.job.core w → epoch_of w ≤ epoch →
    IsMailOf s.hub.inboxes i updates → IsAccepted w (Step epoch round updates)
mail_accepted s i w epoch round updates fit inside is late mail =
    let not_early : nat_lt epoch (epoch_of w) ≡ false = le-ltb epoch (epoch_of w) late in
    rw not_early (none_refused (takes_update w) updates (λ k d within. addressed_taken s i w fit inside is (get_or updates k d).vertex (mail.addressed k d within)))

-- a live worker has a place
pub world_inside : (s : SystemState) (i : ℕ) (w : World) → IsForJob s → world_at s i ≡ Some w → i < worker_count s.hub
world_inside s i w fit is = elim (cases_lt i (length s.worlds)) [
  | inl inside ↦ omega (arith, fit.worlds)
  | inr past ↦ absurd (cc (is, get_or_past s.worlds i None past))
]

-- ---- a worker of which nothing changed but its order and its report

pub record SameFor (s t : SystemState) (j : ℕ) : Type 0 where
  pub job : t.job ≡ s.job
  pub cuts : t.hub.inboxes.cuts ≡ s.hub.inboxes.cuts
  pub epoch : t.hub.members.epoch ≡ s.hub.members.epoch
  pub due : (worker_at t.hub j).due ≡ (worker_at s.hub j).due
  pub round : (worker_at t.hub j).round ≡ (worker_at s.hub j).round

pub part_same : (s t : SystemState) (j : ℕ) → t.job ≡ s.job → t.hub.inboxes.cuts ≡ s.hub.inboxes.cuts → part_at t j ≡ part_at s j
part_same s t j jobs cuts = rw (jobs, cuts) refl

at_round_on : (s t : SystemState) (j : ℕ) (w : World) (n : ℕ) → t.job ≡ s.job → t.hub.inboxes.cuts ≡ s.hub.inboxes.cuts → (worker_at t.hub j).round ≡ (worker_at s.hub j).round →
    ((worker_at s.hub j).round ≤ s.hub.members.base → (worker_at s.hub j).round ≤ t.hub.members.base) → IsAtRound s j w n → IsAtRound t j w n
at_round_on s t j w zero jobs cuts rounds bases at = (at.0 ∙ sym (rw (jobs, cuts) refl), rw rounds (bases at.1))
at_round_on s t j w (suc n) jobs cuts rounds bases at = at ∙ sym rounds

pub world_on : (s t : SystemState) (j : ℕ) (w : World) → SameFor s t j → ((worker_at s.hub j).round ≤ s.hub.members.base → (worker_at s.hub j).round ≤ t.hub.members.base) →
    ((order : Order) → order_at t.hub j ≡ Some order → IsAccepted w order) → ((values : List ℕ) → reported_at t.hub j ≡ Some values → values ≡ masters_of w) → IsWorldInStep s j w → IsWorldInStep t j w
world_on s t j w same bases accepts reports old = record {
  of_part = (let parts : part_at t j ≡ part_at s j = part_same s t j same.job same.cuts in let cores : t.job.core ≡ s.job.core = rw same.job refl in
      subst (λ (c : _). IsWorldOf (part_at t j) c w) (sym cores) (subst (λ (p : Part). IsWorldOf p s.job.core w) (sym parts) old.of_part));
  not_ahead = rw same.epoch old.not_ahead;
  due = (λ is. rw same.epoch (old.due.0 (sym same.due ∙ is)), λ less. same.due ∙ old.due.1 (rw same.epoch at less));
  at_round = at_round_on s t j w (epoch_of w) same.job same.cuts same.round bases old.at_round;
  accepts = accepts;
  reported = reports;
}

-- ---- a turn

module _ (s : SystemState) (i : ℕ) (ok : IsHubInStep s.hub) (fit : IsForJob s) (worlds : WorldsInStep s) (inside : i < worker_count s.hub) (live : (worker_at s.hub i).live ≡ true) where
  abbrev with_hub : HubState → SystemState
  with_hub hub = record s { hub = hub }

  given_worlds : (boxes : List (List Update)) (order : Order) → ((w : World) → world_at s i ≡ Some w → IsAccepted w order) → WorldsInStep (with_hub (gave.given s.hub s.hub i order boxes ok inside live))
  given_worlds boxes order accepted j w is =
      let old = worlds j w is in
      world_on s (with_hub (gave.given s.hub s.hub i order boxes ok inside live)) j w
      (record { job = refl; cuts = refl; epoch = refl; due = due_tasked s.hub.members i (task_of (Some order)) j; round = round_tasked s.hub.members i (task_of (Some order)) j })
      (λ low. low)
      (λ o has. elim (cases_eq j i) [
        | inl same ↦ (let this : o ≡ order = gave.some_same o order (sym has ∙ (ap (order_at (gave.given s.hub s.hub i order boxes ok inside live)) same ∙ gave.order_same s.hub s.hub i order boxes ok inside live)) in
            rw this (accepted w (ap (world_at s) (sym same) ∙ is)))
        | inr apart ↦ old.accepts o (sym (gave.order_other s.hub s.hub i order boxes ok inside live j apart) ∙ has)
      ])
      old.reported old

  step_accepted : (w : World) → world_at s i ≡ Some w → IsAccepted w (Step s.hub.members.epoch (worker_at s.hub i).round (waiting_at s.hub i))
  step_accepted w is = mail_accepted s i w s.hub.members.epoch (worker_at s.hub i).round (waiting_at s.hub i) fit inside (worlds i w is).of_part (worlds i w is).not_ahead (ok.inboxes i)

  -- the world of a worker that isn't due has the epoch now
  pub current_epoch : (w : World) → world_at s i ≡ Some w → (worker_at s.hub i).due ≡ false → epoch_of w ≡ s.hub.members.epoch
  current_epoch w is current = elim (cases_lt (epoch_of w) s.hub.members.epoch) [
    | inl less ↦ absurd (cc ((worlds i w is).due.1 less, current))
    | inr level ↦ omega (arith, (worlds i w is).not_ahead)
  ]

  report_accepted : is_quiet_hub s.hub ≡ true → (w : World) → world_at s i ≡ Some w → IsAccepted w (Report s.hub.members.epoch)
  report_accepted quiet w is =
      let room : i < length s.hub.members.members = omega (arith, ok.places.members) in
      let level : s.hub.members.epoch ≡ epoch_of w = sym (current_epoch w is (idle_at s.hub i quiet room).due) in
      let same : (s.hub.members.epoch == epoch_of w) ≡ true = eq-eqb s.hub.members.epoch (epoch_of w) level in
      rw same refl

  stopped_worlds : (reason : Why) → WorldsInStep (with_hub (record s.hub { halt = Some reason }))
  stopped_worlds reason j w is = world_on s (with_hub (record s.hub { halt = Some reason })) j w (record { job = refl; cuts = refl; epoch = refl; due = refl; round = refl }) (λ low. low) (worlds j w is).accepts (worlds j w is).reported (worlds j w is)

  pub gave_worlds : WorldsInStep (with_hub (after_turn s.hub i (turn_of s.hub i)))
  gave_worlds = turn_by (λ (turn : Turn). WorldsInStep (with_hub (after_turn s.hub i turn))) s.hub i
      (λ reason kept. stopped_worlds reason)
      (λ free quiet all. worlds)
      (λ free quiet none. given_worlds s.hub.inboxes.boxes (Report s.hub.members.epoch) (report_accepted quiet))
      (λ free busy may. given_worlds (set s.hub.inboxes.boxes i []) (Step s.hub.members.epoch (worker_at s.hub i).round (waiting_at s.hub i)) step_accepted)
      (λ free busy out. stopped_worlds why.Budget)
      worlds

  pub gave_live : LiveHaveWorlds s → LiveHaveWorlds (with_hub (after_turn s.hub i (turn_of s.hub i)))
  gave_live have = turn_by (λ (turn : Turn). LiveHaveWorlds (with_hub (after_turn s.hub i turn))) s.hub i
      (λ reason kept. have)
      (λ free quiet all. have)
      (λ free quiet none j. have j ∙ ap (λ b. not (s.told && b)) (sym (live_tasked s.hub.members i task.Report j)))
      (λ free busy may j. have j ∙ ap (λ b. not (s.told && b)) (sym (live_tasked s.hub.members i task.Step j)))
      (λ free busy out. have)
      have

-- ---- one world written

module _ (s : SystemState) (i : ℕ) (world : Option World) (hub : HubState) where
  pub world_there : i < length s.worlds → world_at (with_world s i world hub) i ≡ world
  world_there room = get_or-set_same s.worlds i world None room

  pub world_elsewhere : (j : ℕ) → j ≢ i → world_at (with_world s i world hub) j ≡ world_at s j
  world_elsewhere j apart = get_or-set_other s.worlds i j world None apart

-- ---- a loss

module _ (s : SystemState) (i : ℕ) (kind : LossKind) (ok : IsHubInStep s.hub) (fit : IsForJob s) (worlds : WorldsInStep s) (inside : i < worker_count s.hub) (live : (worker_at s.hub i).live ≡ true) where
  abbrev after_lost : SystemState
  after_lost = with_world s i None (after_loss s.hub i kind)

  lost_place : i < length s.worlds
  lost_place = omega (arith, fit.worlds)

  pub lost_apart : (j : ℕ) (w : World) → world_at after_lost j ≡ Some w → j ≢ i
  lost_apart j w is e = cc (world_there s i None (after_loss s.hub i kind) lost_place, subst (λ (k : ℕ). world_at after_lost k ≡ Some w) e is)

  pub lost_worlds : WorldsInStep after_lost
  lost_worlds j w is =
      let apart : j ≢ i = lost_apart j w is in
      let old = worlds j w (sym (world_elsewhere s i None (after_loss s.hub i kind) j apart) ∙ is) in
      record {
        of_part = old.of_part;
        not_ahead = omega (arith, old.not_ahead);
        due = (λ due. omega (arith, old.not_ahead), λ less. changed.lost_due s.hub i kind ok inside live j);
        at_round = at_round_on s after_lost j w (epoch_of w) refl refl (changed.lost_round s.hub i kind ok inside live j) (λ low. low) old.at_round;
        accepts = λ order has. old.accepts order (sym (changed.lost_order_other s.hub i kind ok inside live j apart) ∙ has);
        reported = λ values has. absurd (cc (has, changed.lost_reported s.hub i kind ok inside live j));
      }

  pub lost_live : LiveHaveWorlds s → LiveHaveWorlds after_lost
  lost_live have j = elim (cases_eq j i) [
    | inl same ↦ subst (λ (k : ℕ). is_none (world_at after_lost k) ≡ not (s.told && (worker_at after_lost.hub k).live)) (sym same)
        (ap is_none (world_there s i None (after_loss s.hub i kind) lost_place) ∙ sym (ap (λ (u : MemberState). not (s.told && u.live)) (changed.lost_worker s.hub i kind ok inside live) ∙ none_told s.told))
    | inr apart ↦ ap is_none (world_elsewhere s i None (after_loss s.hub i kind) j apart) ∙ (have j ∙ sym (ap (λ (u : MemberState). not (s.told && u.live)) (changed.lost_other s.hub i kind ok inside live j apart)))
  ]
    where
      none_told : (told : Bool) → not (told && false) ≡ true
      none_told true = refl
      none_told false = refl

-- ---- a join

module _ (s : SystemState) (i : ℕ) (ok : IsHubInStep s.hub) (fit : IsForJob s) (worlds : WorldsInStep s) (inside : i < worker_count s.hub) (missing : (worker_at s.hub i).live ≡ false) (free : s.hub.halt ≡ None) where
  abbrev after_joined : SystemState
  after_joined = with_world s i (new_world_at s i) (after_join s.hub i)

  joined_place : i < length s.worlds
  joined_place = omega (arith, fit.worlds)

  -- the newcomer's world is the new one, where the links tell
  pub newcomer_world : (w : World) → world_at after_joined i ≡ Some w → (s.told ≡ true) × (w ≡ new_world (part_at s i) s.job.core)
  newcomer_world w is = by_told s.told refl (sym (world_there s i (new_world_at s i) (after_join s.hub i) joined_place) ∙ is)
    where
      by_told : (b : Bool) → s.told ≡ b → (if b then Some (new_world (part_at s i) s.job.core) else None) ≡ Some w → (s.told ≡ true) × (w ≡ new_world (part_at s i) s.job.core)
      by_told true told h = (told, sym (gave.some_same (new_world (part_at s i) s.job.core) w h))
      by_told false told h = absurd (cc h)

  newcomer_in_step : (w : World) → w ≡ new_world (part_at s i) s.job.core → IsWorldInStep after_joined i w
  newcomer_in_step w is =
      let none : epoch_of w ≡ 0 = ap epoch_of is ∙ new_world_epoch (part_at s i) s.job.core in
      record {
        of_part = rw is (new_world_is (part_at s i) s.job.core (part_is_fit s fit i inside) (part_weights s fit i inside));
        not_ahead = omega (arith, none);
        due = (λ due. omega (arith, none, ok.epochs.some_epoch), λ less. ap (λ (u : MemberState). u.due) (changed.joined_worker s.hub i ok inside missing free));
        at_round = rw none (is, changed.at_most_base s.hub i ok inside missing free i (ap (λ (u : MemberState). u.live) (changed.joined_worker s.hub i ok inside missing free)));
        accepts = λ order has. absurd (cc (has, (ok.missing i missing).order));
        reported = λ values has. absurd (cc (has, (ok.missing i missing).reported));
      }

  pub joined_worlds : LiveHaveWorlds s → WorldsInStep after_joined
  joined_worlds have j w is = elim (cases_eq j i) [
    | inl same ↦ subst (λ (k : ℕ). IsWorldInStep after_joined k w) (sym same) (newcomer_in_step w (newcomer_world w (ap (world_at after_joined) (sym same) ∙ is)).1)
    | inr apart ↦
        (let there = sym (world_elsewhere s i (new_world_at s i) (after_join s.hub i) j apart) ∙ is in
        let old = worlds j w there in
        let other = changed.joined_other s.hub i ok inside missing free j apart in
        world_on s after_joined j w (record { job = refl; cuts = refl; epoch = refl; due = ap (λ (u : MemberState). u.due) other; round = ap (λ (u : MemberState). u.round) other })
        (λ low. rw other at (changed.at_most_base s.hub i ok inside missing free j (ap (λ (u : MemberState). u.live) other ∙ live_of j w there have)))
        old.accepts old.reported old)
  ]
    where
      by_both : (a b : Bool) → false ≡ not (a && b) → b ≡ true
      by_both true true h = refl
      by_both true false h = cc
      by_both false b h = cc

      live_of : (j : ℕ) (w : World) → world_at s j ≡ Some w → LiveHaveWorlds s → (worker_at s.hub j).live ≡ true
      live_of j w there have = by_both s.told (worker_at s.hub j).live (ap is_none (sym there) ∙ have j)

  pub joined_live : LiveHaveWorlds s → LiveHaveWorlds after_joined
  joined_live have j = elim (cases_eq j i) [
    | inl same ↦ subst (λ (k : ℕ). is_none (world_at after_joined k) ≡ not (s.told && (worker_at after_joined.hub k).live)) (sym same)
        (ap is_none (world_there s i (new_world_at s i) (after_join s.hub i) joined_place) ∙ (by_told s.told ∙ sym (ap (λ (u : MemberState). not (s.told && u.live)) (changed.joined_worker s.hub i ok inside missing free))))
    | inr apart ↦ ap is_none (world_elsewhere s i (new_world_at s i) (after_join s.hub i) j apart) ∙ (have j ∙ sym (ap (λ (u : MemberState). not (s.told && u.live)) (changed.joined_other s.hub i ok inside missing free j apart)))
  ]
    where
      by_told : (b : Bool) → is_none (if b then Some (new_world (part_at s i) s.job.core) else None) ≡ not (b && true)
      by_told true = refl
      by_told false = refl
