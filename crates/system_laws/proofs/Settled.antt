-- A worker that isn't due and whose last Step changed nothing is settled, and its counts are honest.
use Rattle.std.proofs.Common.{◌≡◌, ◌≢◌, ℕ, ◌<◌, ◌≤◌, Bool, true, false, List, Option, Some, None, length, arith, refl, sym, ap, subst, ◌∙◌, inl, inr, eqb-true, eq-eqb}
use Rattle.std.specs.Prelude.{◌==◌, All, slice_index}
use Rattle.std.proofs.lemmas.Grind.{same_number_lists}
use Rattle.std.proofs.lemmas.Bool.{cases_eq, ltb-false}
use Rattle.px_base.specs.declared.graph.Part.{Part}
use Rattle.px_base.specs.declared.program.CoreProgram.{CoreProgram}
use Rattle.px_base.specs.declared.wire.Update.{Update}
use Rattle.px_base.specs.declared.wire.Order.TheVariants.{Step, Report}
use Rattle.px_base.specs.declared.wire.Answer.TheVariants.{Stepped}
use Rattle.px_base.specs.declared.wire.LossKind.{LossKind}
use Rattle.px_base.specs.Values.{IsValue}
use Rattle.px_base.specs.Worlds.{World, of_values, of_counts, epoch_of, is_fresh, CarriesValues}
use Rattle.px_base.specs.ValueSteps.{some_changed, has_changed, renewed_masters, updated_mirrors}
use Rattle.px_base.proofs.Positions.{length_by_position}
use Rattle.partitioner.proofs.Found.{position_has}
use Rattle.hub_terms.specs.declared.tasks.Task.TheVariants as task
use Rattle.hub_terms.specs.declared.workers.MemberState.{MemberState}
use Rattle.hub_terms.specs.Hubs.{Turn, worker_at, order_at, worker_count, turn_of, after_turn}
use Rattle.hub_terms.specs.HubEvents.{after_loss, after_join}
use Rattle.hub_terms.specs.HubInStep.{IsHubInStep, IsOrderOf}
use Rattle.hub_terms.specs.Systems.{SystemState, world_at, part_at, with_world, new_world_at}
use Rattle.hub_terms.specs.InStep.{IsForJob, IsWorldOf, WorldsInStep, IsSettled, UnchangedAreSettled, IsHonest, CountsAreHonest}
use Rattle.list_laws.proofs.Told.{no_change, no_entry_changed}
use Rattle.hub_laws.proofs.Workers.{due_tasked, changed_tasked}
use Rattle.hub_laws.proofs.HubGave.{turn_by}
use Rattle.hub_laws.proofs.HubTook.{stepped_hub, stepped_worker, reported_hub}
use Rattle.hub_laws.proofs.HubTook as took
use Rattle.hub_laws.proofs.HubChanged as changed
use Rattle.step_laws.proofs.WorldSteps.{outcome_of}
use Rattle.system_laws.proofs.WorldsKept.{world_there, world_elsewhere}
use Rattle.system_laws.proofs.TookWorlds as took_worlds
use Rattle.step_laws.proofs.Counting.{count_settles, count_honest}

-- ---- one Step

-- the world that a Step leaves which changed nothing is settled
pub step_settles : (part : Part) (core : CoreProgram) (w : World) (epoch round : ℕ) (sent updates : List Update) → IsWorldOf part core w → (outcome_of w (Step epoch round sent)).answer ≡ Stepped epoch round false updates →
    IsSettled (outcome_of w (Step epoch round sent)).world
step_settles part core (of_values u) epoch round sent updates is answer =
    let mirrors : List ℕ = updated_mirrors u.part.mirrors sent u.mirrors in
    let masters : List ℕ = renewed_masters u.part u.core u.masters mirrors in
    let sized : length u.masters ≡ length masters = is.3.masters.one_each ∙ (sym is.3.part.rows ∙ sym (length_by_position (length u.part.rows) _)) in
    let same : u.masters ≡ masters = no_entry_changed u.masters masters sized (unchanged_in (some_changed u.masters masters) _ answer) in
    subst (λ (ms : List ℕ). renewed_masters u.part u.core ms mirrors ≡ masters) same refl
  where
    unchanged_in : (b : Bool) (us : List Update) → Stepped epoch round b us ≡ Stepped epoch round false updates → b ≡ false
    unchanged_in b us h = cc h
step_settles part core (of_counts w) epoch round sent updates is answer = count_settles w epoch round sent is.3 (unchanged_in _ _ answer)
  where
    unchanged_in : (b : Bool) (us : List Update) → Stepped epoch round b us ≡ Stepped epoch round false updates → b ≡ false
    unchanged_in b us h = cc h

pub step_honest : (part : Part) (core : CoreProgram) (w : World) (epoch round : ℕ) (sent : List Update) → IsWorldOf part core w → (is_fresh (epoch_of w) epoch ≡ false → IsHonest w) → IsHonest (outcome_of w (Step epoch round sent)).world
step_honest part core (of_values u) epoch round sent is old = tt
step_honest part core (of_counts w) epoch round sent is old = count_honest w epoch round sent is.3 old

-- ---- a turn

pub gave_settled : (s : SystemState) (i : ℕ) → UnchangedAreSettled s → UnchangedAreSettled (record s { hub = after_turn s.hub i (turn_of s.hub i) })
gave_settled s i old = turn_by (λ (turn : Turn). UnchangedAreSettled (record s { hub = after_turn s.hub i turn })) s.hub i
    (λ reason is. old) (λ free quiet all. old)
    (λ free quiet none j w is up same. old j w is (sym (due_tasked s.hub.members i task.Report j) ∙ up) (sym (changed_tasked s.hub.members i task.Report j) ∙ same))
    (λ free busy may j w is up same. old j w is (sym (due_tasked s.hub.members i task.Step j) ∙ up) (sym (changed_tasked s.hub.members i task.Step j) ∙ same))
    (λ free busy out. old) old

pub gave_honest : (s : SystemState) (i : ℕ) → CountsAreHonest s → CountsAreHonest (record s { hub = after_turn s.hub i (turn_of s.hub i) })
gave_honest s i old = turn_by (λ (turn : Turn). CountsAreHonest (record s { hub = after_turn s.hub i turn })) s.hub i
    (λ reason is. old) (λ free quiet all. old)
    (λ free quiet none j w is up. old j w is (sym (due_tasked s.hub.members i task.Report j) ∙ up))
    (λ free busy may j w is up. old j w is (sym (due_tasked s.hub.members i task.Step j) ∙ up))
    (λ free busy out. old) old

-- ---- a loss and a join

pub lost_settled : (s : SystemState) (i : ℕ) (kind : LossKind) → IsHubInStep s.hub → i < worker_count s.hub → (worker_at s.hub i).live ≡ true → UnchangedAreSettled (with_world s i None (after_loss s.hub i kind))
lost_settled s i kind ok inside live j w is up = absurd (cc (up, changed.lost_due s.hub i kind ok inside live j))

pub lost_honest : (s : SystemState) (i : ℕ) (kind : LossKind) → IsHubInStep s.hub → i < worker_count s.hub → (worker_at s.hub i).live ≡ true → CountsAreHonest (with_world s i None (after_loss s.hub i kind))
lost_honest s i kind ok inside live j w is up = absurd (cc (up, changed.lost_due s.hub i kind ok inside live j))

module _ (s : SystemState) (k : ℕ) (ok : IsHubInStep s.hub) (inside : k < worker_count s.hub) (missing : (worker_at s.hub k).live ≡ false) (free : s.hub.halt ≡ None) where
  abbrev next : SystemState
  next = with_world s k (new_world_at s k) (after_join s.hub k)

  apart_from : (j : ℕ) → (worker_at next.hub j).due ≡ false → j ≢ k
  apart_from j up e = cc (subst (λ (l : ℕ). (worker_at (after_join s.hub k) l).due ≡ false) e up, ap (λ (u : MemberState). u.due) (changed.joined_worker s.hub k ok inside missing free))

  pub joined_settled : UnchangedAreSettled s → UnchangedAreSettled next
  joined_settled old j w is up same =
      let apart = apart_from j up in
      let other = changed.joined_other s.hub k ok inside missing free j apart in
      old j w (sym (world_elsewhere s k (new_world_at s k) (after_join s.hub k) j apart) ∙ is) (sym (ap (λ (u : MemberState). u.due) other) ∙ up) (sym (ap (λ (u : MemberState). u.changed) other) ∙ same)

  pub joined_honest : CountsAreHonest s → CountsAreHonest next
  joined_honest old j w is up =
      let apart = apart_from j up in
      let other = changed.joined_other s.hub k ok inside missing free j apart in
      old j w (sym (world_elsewhere s k (new_world_at s k) (after_join s.hub k) j apart) ∙ is) (sym (ap (λ (u : MemberState). u.due) other) ∙ up)

-- ---- an answer

module _ (s : SystemState) (k epoch round : ℕ) (sent : List Update) (changed : Bool) (updates : List Update) (b : Bool) (ok : IsHubInStep s.hub) (fit : IsForJob s) (inside : k < worker_count s.hub)
    (had : order_at s.hub k ≡ Some (Step epoch round sent)) (values : CarriesValues updates) (current : (epoch == s.hub.members.epoch) ≡ b) (worlds : WorldsInStep s) (world : Option World)
    (from : (w : World) → world ≡ Some w → (old : World) × (world_at s k ≡ Some old) × (w ≡ (outcome_of old (Step epoch round sent)).world) × ((outcome_of old (Step epoch round sent)).answer ≡ Stepped epoch round changed updates)) where
  abbrev after : SystemState
  after = took_worlds.stepped s k epoch round sent changed updates b ok fit inside had values world

  place : k < length s.worlds
  place = took_worlds.stepped_place s k epoch round sent changed updates b ok fit inside had values world

  worker : worker_at after.hub k ≡ stepped_worker b (worker_at s.hub k) changed
  worker = took.took_worker s.hub k epoch round sent changed updates ok inside had values b

  here_is : (w : World) → world_at after k ≡ Some w → world ≡ Some w
  here_is w is = sym (world_there s k world (stepped_hub b s.hub k changed updates) place) ∙ is

  order_is : IsOrderOf s.hub k (Step epoch round sent)
  order_is = ok.orders k (Step epoch round sent) had

  -- the worker isn't due after the Step only where the Step is of this epoch
  is_current : (worker_at after.hub k).due ≡ false → b ≡ true
  is_current up = by_current b current (sym (ap (λ (m : MemberState). m.due) worker) ∙ up)
    where
      by_current : (c : Bool) → (epoch == s.hub.members.epoch) ≡ c → (stepped_worker c (worker_at s.hub k) changed).due ≡ false → c ≡ true
      by_current true is up = refl
      by_current false is up = sym is ∙ eq-eqb epoch s.hub.members.epoch (order_is.current up)

  settled_here : (w : World) → world_at after k ≡ Some w → (worker_at after.hub k).due ≡ false → (worker_at after.hub k).changed ≡ false → IsSettled w
  settled_here w is up same =
      let step = from w (here_is w is) in
      let now : b ≡ true = is_current up in
      let none : changed ≡ false = sym (ap (λ (m : MemberState). m.changed) (worker ∙ ap (λ c. stepped_worker c (worker_at s.hub k) changed) now)) ∙ same in
      rw step.2 (step_settles (part_at s k) s.job.core step.0 epoch round sent updates (worlds k step.0 step.1).of_part (step.3 ∙ ap (λ c. Stepped epoch round c updates) none))

  honest_here : CountsAreHonest s → (w : World) → world_at after k ≡ Some w → (worker_at after.hub k).due ≡ false → IsHonest w
  honest_here old w is up =
      let step = from w (here_is w is) in
      let now : epoch ≡ s.hub.members.epoch = eqb-true epoch s.hub.members.epoch (current ∙ is_current up) in
      rw step.2 (step_honest (part_at s k) s.job.core step.0 epoch round sent (worlds k step.0 step.1).of_part
      (λ stale. old k step.0 step.1 (by_due (epoch_of step.0) (worker_at s.hub k).due refl (worlds k step.0 step.1).due.0 (omega (arith, ltb-false (epoch_of step.0) epoch stale, now)))))
    where
      by_due : (e : ℕ) (d : Bool) → (worker_at s.hub k).due ≡ d → ((worker_at s.hub k).due ≡ true → e < s.hub.members.epoch) → s.hub.members.epoch ≤ e → (worker_at s.hub k).due ≡ false
      by_due e true is less late = absurd (omega (arith, less is, late))
      by_due e false is less late = is

  other_world : (j : ℕ) (w : World) → j ≢ k → world_at after j ≡ Some w → world_at s j ≡ Some w
  other_world j w apart is = sym (world_elsewhere s k world (stepped_hub b s.hub k changed updates) j apart) ∙ is

  pub stepped_settled : UnchangedAreSettled s → UnchangedAreSettled after
  stepped_settled old j w is up same = elim (cases_eq j k) [
    | inl here ↦ settled_here w (ap (world_at after) (sym here) ∙ is) (ap (λ (l : ℕ). (worker_at after.hub l).due) (sym here) ∙ up) (ap (λ (l : ℕ). (worker_at after.hub l).changed) (sym here) ∙ same)
    | inr apart ↦ (let other = took.worker_other s.hub k epoch round sent changed updates ok inside had values b j apart in
        old j w (other_world j w apart is) (sym (ap (λ (m : MemberState). m.due) other) ∙ up) (sym (ap (λ (m : MemberState). m.changed) other) ∙ same))
  ]

  pub stepped_honest : CountsAreHonest s → CountsAreHonest after
  stepped_honest old j w is up = elim (cases_eq j k) [
    | inl here ↦ honest_here old w (ap (world_at after) (sym here) ∙ is) (ap (λ (l : ℕ). (worker_at after.hub l).due) (sym here) ∙ up)
    | inr apart ↦ (let other = took.worker_other s.hub k epoch round sent changed updates ok inside had values b j apart in old j w (other_world j w apart is) (sym (ap (λ (m : MemberState). m.due) other) ∙ up))
  ]

module _ (s : SystemState) (k epoch : ℕ) (seen : List ℕ) (b : Bool) (ok : IsHubInStep s.hub) (fit : IsForJob s) (inside : k < worker_count s.hub) (had : order_at s.hub k ≡ Some (Report epoch)) (known : All IsValue seen) where
  abbrev told : SystemState
  told = took_worlds.reported s k epoch seen b ok fit inside had known

  pub reported_settled : UnchangedAreSettled s → UnchangedAreSettled told
  reported_settled old j w is up same = old j w (sym (took_worlds.worlds_stay s k epoch seen b ok fit inside had known j) ∙ is) (sym (due_tasked s.hub.members k task.Nothing j) ∙ up) (sym (changed_tasked s.hub.members k task.Nothing j) ∙ same)

  pub reported_honest : CountsAreHonest s → CountsAreHonest told
  reported_honest old j w is up = old j w (sym (took_worlds.worlds_stay s k epoch seen b ok fit inside had known j) ∙ is) (sym (due_tasked s.hub.members k task.Nothing j) ∙ up)
