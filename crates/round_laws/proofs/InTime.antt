-- Every event keeps the facts on rounds, where the class of the program gives what settles.
use Rattle.std.proofs.Common.{◌≡◌, ◌≢◌, ℕ, zero, suc, ◌+◌, ◌<◌, ◌≤◌, Bool, true, false, not, List, [], ◌∷◌, Option, Some, None, length, get_or, set, arith, refl, sym, ap, subst, ◌∙◌, inl, inr, eqb-true, eq-eqb}
use Rattle.std.specs.Prelude.{◌||◌, ◌⊎◌, ◌==◌, nat_lt}
use Rattle.std.specs.List.{list_any, AllByRecursion}
use Rattle.std.proofs.lemmas.List.{get_or-set_same, get_or-set_other, get_or_past}
use Rattle.std.proofs.lemmas.Bool.{cases_eq, cases_lt, ltb-true}
use Rattle.px_base.specs.declared.wire.Update.{Update}
use Rattle.px_base.specs.declared.wire.Order.{Order}
use Rattle.px_base.specs.declared.wire.Order.TheVariants.{Step, Report}
use Rattle.px_base.specs.declared.wire.Answer.TheVariants.{Stepped}
use Rattle.px_base.specs.declared.wire.LossKind.{LossKind}
use Rattle.px_base.specs.Worlds.{World, CarriesValues}
use Rattle.px_base.proofs.Positions.{at_position, length_by_position}
use Rattle.hub_terms.specs.declared.stops.Halt.{Halt}
use Rattle.hub_terms.specs.declared.stops.Why.{Why}
use Rattle.hub_terms.specs.declared.stops.Why.TheVariants as why
use Rattle.hub_terms.specs.declared.tasks.Task.TheVariants as task
use Rattle.hub_terms.specs.Jobs.{Job}
use Rattle.hub_terms.specs.declared.workers.MemberState.{MemberState}
use Rattle.hub_terms.specs.Members.{live_rounds, may_step, has_work}
use Rattle.hub_terms.specs.Inboxes.{InboxesState, inbox_at, is_empty_box, box_with_all, with_updates}
use Rattle.hub_terms.specs.Hubs.{HubState, Turn, worker_count, worker_at, order_at, waiting_at, has_mail, turn_of, after_turn, with_order}
use Rattle.hub_terms.specs.HubEvents.{after_loss, after_join, after_halt, why_of}
use Rattle.hub_terms.specs.Systems.{SystemState, world_at, with_world, new_world_at}
use Rattle.hub_terms.specs.InStep.{IsInStep}
use Rattle.hub_laws.proofs.Workers.{live_tasked, due_tasked, round_tasked, changed_tasked}
use Rattle.hub_laws.proofs.HubGave as gave
use Rattle.hub_laws.proofs.HubTook.{stepped_hub, stepped_worker, reported_hub}
use Rattle.hub_laws.proofs.HubTook as took
use Rattle.hub_laws.proofs.HubChanged as changed
use Rattle.step_laws.proofs.WorldSteps.{outcome_of}
use Rattle.system_laws.proofs.Kept.{some_told, joined_in_step}
use Rattle.system_laws.proofs.WorldsKept.{world_there, world_elsewhere}
use Rattle.round_laws.specs.Rounds.{RoundsAreNear, AllLive, DueAreLow, HaveSettled, BusyAreWithin, AreInTime}
use Rattle.round_laws.proofs.Near.{from_live, may_steps, paced, gave_near, stepped_near, reported_near, lost_near, joined_near, halted_near}

-- ---- what a class gives

module _ (IsSettledAt : Job → ℕ → World → Type 0) (ReadsSettled : Job → ℕ → World → Order → Type 0) (last : Job → ℕ) where
  -- A Step of this epoch, given where all workers are current and all that settles in k rounds has, reads just that. After any Step
  -- all has settled that settles at once; after one that reads what settles in k rounds, all that settles in one round more; and where
  -- all has settled, a Step of a worker that is current changes nothing and announces nothing.
  pub record Settles (s : SystemState) : Type 0 where
    pub given : (i k : ℕ) (w : World) → i < worker_count s.hub → world_at s i ≡ Some w → order_at s.hub i ≡ None → AllLive s.hub →
        ((j : ℕ) (u : World) → world_at s j ≡ Some u → ((worker_at s.hub j).due ≡ false) × IsSettledAt s.job k u) →
        ReadsSettled s.job k w (Step s.hub.members.epoch (worker_at s.hub i).round (waiting_at s.hub i))
    pub begun : (i epoch round : ℕ) (updates : List Update) (w : World) → i < worker_count s.hub → world_at s i ≡ Some w → order_at s.hub i ≡ Some (Step epoch round updates) → epoch ≡ s.hub.members.epoch →
        IsSettledAt s.job 0 (outcome_of w (Step epoch round updates)).world
    pub more : (i k epoch round : ℕ) (updates : List Update) (w : World) → i < worker_count s.hub → world_at s i ≡ Some w → order_at s.hub i ≡ Some (Step epoch round updates) → epoch ≡ s.hub.members.epoch →
        IsSettledAt s.job k w → ReadsSettled s.job k w (Step epoch round updates) → IsSettledAt s.job (suc k) (outcome_of w (Step epoch round updates)).world
    pub ended : (i epoch round : ℕ) (updates : List Update) (w : World) (changed : Bool) (sent : List Update) → i < worker_count s.hub → world_at s i ≡ Some w →
        order_at s.hub i ≡ Some (Step epoch round updates) → epoch ≡ s.hub.members.epoch → (worker_at s.hub i).due ≡ false →
        IsSettledAt s.job (last s.job) w → ReadsSettled s.job (last s.job) w (Step epoch round updates) → (outcome_of w (Step epoch round updates)).answer ≡ Stepped epoch round changed sent →
        (changed ≡ false) × (sent ≡ [])

  abbrev pub InTime : SystemState → Type 0
  InTime s = AreInTime IsSettledAt ReadsSettled last s

  -- ---- states that are alike

  -- what the workers are is as before, and no worker has mail that had none
  pub record IsLike (hub new : HubState) : Type 0 where
    pub count : worker_count new ≡ worker_count hub
    pub epoch : new.members.epoch ≡ hub.members.epoch
    pub base : new.members.base ≡ hub.members.base
    pub live : (j : ℕ) → (worker_at new j).live ≡ (worker_at hub j).live
    pub due : (j : ℕ) → (worker_at new j).due ≡ (worker_at hub j).due
    pub changed : (j : ℕ) → (worker_at new j).changed ≡ (worker_at hub j).changed
    pub round : (j : ℕ) → (worker_at new j).round ≡ (worker_at hub j).round
    pub mail : (j : ℕ) → has_mail new j ≡ true → has_mail hub j ≡ true

  -- a Step that is given now
  pub record IsGivenNow (s : SystemState) (new : HubState) (i epoch round : ℕ) (updates : List Update) : Type 0 where
    pub now : epoch ≡ s.hub.members.epoch
    pub no_mail : has_mail new i ≡ false
    pub low : round ≤ s.hub.members.base + last s.job + 2
    pub reads : (k : ℕ) (w : World) → world_at s i ≡ Some w → s.hub.members.base + 2 + k ≤ round → ReadsSettled s.job k w (Step epoch round updates)

  abbrev pub StepsAre : SystemState → HubState → Type 0
  StepsAre s new = (i epoch round : ℕ) (updates : List Update) → order_at new i ≡ Some (Step epoch round updates) → (order_at s.hub i ≡ Some (Step epoch round updates)) ⊎ IsGivenNow s new i epoch round updates

  module _ (s : SystemState) (new : HubState) (worlds : List (Option World)) (same : IsLike s.hub new) (worlds_same : (j : ℕ) → get_or worlds j None ≡ world_at s j) where
    abbrev next : SystemState
    next = record s { hub = new; worlds = worlds }

    all_live : AllLive new → AllLive s.hub
    all_live each j inside = sym (same.live j) ∙ each j (rw same.count inside)

    low_like : StepsAre s new → DueAreLow s.hub → DueAreLow new
    low_like steps old = record {
      due = λ i live due. rw (same.round i, same.base) (old.due i (sym (same.live i) ∙ live) (sym (same.due i) ∙ due));
      older = λ i e r us is less. rw same.base (elim (steps i e r us is) [
        | inl before ↦ old.older i e r us before (rw same.epoch at less)
        | inr now ↦ absurd (let this : e < s.hub.members.epoch = rw same.epoch at less in omega (arith, this, now.now))
      ]);
    }

    settled_like : StepsAre s new → HaveSettled IsSettledAt ReadsSettled s → HaveSettled IsSettledAt ReadsSettled next
    settled_like steps old = record {
      worlds = λ i k w is due high. old.worlds i k w (sym (worlds_same i) ∙ is) (sym (same.due i) ∙ due) (rw (same.round i, same.base) at high);
      steps = λ i k e r us w is has now high. elim (steps i e r us has) [
        | inl before ↦ old.steps i k e r us w (sym (worlds_same i) ∙ is) before (now ∙ same.epoch) (rw same.base at high)
        | inr this ↦ this.reads k w (sym (worlds_same i) ∙ is) (rw same.base at high)
      ];
    }

    busy_like : StepsAre s new → BusyAreWithin (last s.job) s.hub → BusyAreWithin (last s.job) new
    busy_like steps old = record {
      changed = λ i live is. rw (same.round i, same.base) (old.changed i (sym (same.live i) ∙ live) (sym (same.changed i) ∙ is));
      mail = λ i live is. rw (same.round i, same.base) (old.mail i (sym (same.live i) ∙ live) (same.mail i is));
      mail_steps = λ i e r us is has. rw same.base (elim (steps i e r us has) [
        | inl before ↦ old.mail_steps i e r us (same.mail i is) before
        | inr this ↦ absurd (cc (is, this.no_mail))
      ]);
      rounds = λ i live. rw (same.round i, same.base) (old.rounds i (sym (same.live i) ∙ live));
      steps = λ i e r us has. rw same.base (elim (steps i e r us has) [
        | inl before ↦ old.steps i e r us before
        | inr this ↦ this.low
      ]);
    }

    pub in_time_like : (AllLive s.hub → StepsAre s new) → RoundsAreNear new → InTime s → InTime next
    in_time_like steps near old = record {
      near = near;
      low = λ each. low_like (steps (all_live each)) (old.low (all_live each));
      settled = λ each. settled_like (steps (all_live each)) (old.settled (all_live each));
      busy = λ each. busy_like (steps (all_live each)) (old.busy (all_live each));
    }

  -- ---- a turn

  any_below : (x most : ℕ) (rs : List ℕ) → AllByRecursion (λ r. r ≤ most) rs → list_any (λ r. nat_lt x r) rs ≡ true → x < most
  any_below x most [] all some = cc some
  any_below x most (r ∷ rs) all some = by_test (nat_lt x r) refl (any_below x most rs all.1) some
    where
      by_test : (b : Bool) → nat_lt x r ≡ b → (list_any (λ r. nat_lt x r) rs ≡ true → x < most) → (b || list_any (λ r. nat_lt x r) rs) ≡ true → x < most
      by_test true is rest some = omega (arith, ltb-true x r is, all.0)
      by_test false is rest some = rest some

  -- a worker that has work stands within the bound of a Step
  work_within : (hub : HubState) (most i : ℕ) → (worker_at hub i).live ≡ true → DueAreLow hub → BusyAreWithin most hub → has_work hub.members (worker_at hub i) (has_mail hub i) ≡ true → (worker_at hub i).round ≤ hub.members.base + most + 2
  work_within hub most i live low busy work = by_test (worker_at hub i).due (has_mail hub i) (worker_at hub i).changed (list_any (λ r. nat_lt (worker_at hub i).round r) (live_rounds hub.members)) refl refl refl refl work
    where
      by_test : (a b c d : Bool) → (worker_at hub i).due ≡ a → has_mail hub i ≡ b → (worker_at hub i).changed ≡ c → list_any (λ r. nat_lt (worker_at hub i).round r) (live_rounds hub.members) ≡ d →
          (a || b || c || d) ≡ true → (worker_at hub i).round ≤ hub.members.base + most + 2
      by_test true b c d x y z u h = omega (arith, low.due i live x)
      by_test false true c d x y z u h = busy.mail i live y
      by_test false false true d x y z u h = busy.changed i live z
      by_test false false false true x y z u h =
          let less : (worker_at hub i).round < hub.members.base + most + 3 = any_below (worker_at hub i).round (hub.members.base + most + 3) (live_rounds hub.members)
          (from_live (λ r. r ≤ hub.members.base + most + 3) hub.members.members (λ j inside is. busy.rounds j is)) u in
          omega (arith, less)
      by_test false false false false x y z u h = cc h

  module _ (s : SystemState) (i : ℕ) (ok : IsInStep s) (law : Settles s) (even : s.hub.members.limits.lag ≡ 0) (inside : i < worker_count s.hub) (live : (worker_at s.hub i).live ≡ true) (idle : order_at s.hub i ≡ None) where
    -- the Report, and the Step, as the turn's only new order
    report_steps : AllLive s.hub → StepsAre s (with_order s.hub i (Report s.hub.members.epoch))
    report_steps each j e r us is = elim (cases_eq j i) [
      | inl same ↦ absurd (not_step (sym (gave.order_same s.hub s.hub i (Report s.hub.members.epoch) s.hub.inboxes.boxes ok.hub inside live) ∙ (ap (order_at (with_order s.hub i (Report s.hub.members.epoch))) (sym same) ∙ is)))
      | inr apart ↦ inl (sym (gave.order_other s.hub s.hub i (Report s.hub.members.epoch) s.hub.inboxes.boxes ok.hub inside live j apart) ∙ is)
    ]
      where
        not_step : Some (Report s.hub.members.epoch) ≡ Some (Step e r us) → ⊥
        not_step h = cc h

    abbrev step : Order
    step = Step s.hub.members.epoch (worker_at s.hub i).round (waiting_at s.hub i)

    abbrev stepping : HubState
    stepping = with_order s.hub i step

    drained : has_mail stepping i ≡ false
    drained = let room : i < length s.hub.inboxes.boxes = omega (arith, inside, ok.hub.places.boxes) in ap (λ (box : List Update). not (is_empty_box box)) (get_or-set_same s.hub.inboxes.boxes i [] [] room)

    mail_before : (j : ℕ) → has_mail stepping j ≡ true → has_mail s.hub j ≡ true
    mail_before j is = elim (cases_eq j i) [
      | inl same ↦ absurd (cc (drained, subst (λ (k : ℕ). has_mail stepping k ≡ true) same is))
      | inr apart ↦ sym (ap (λ (box : List Update). not (is_empty_box box)) (get_or-set_other s.hub.inboxes.boxes i j [] [] apart)) ∙ is
    ]

    -- where a worker keeps pace at such a round, each worker is current and as far
    settled_everywhere : (k : ℕ) → DueAreLow s.hub → HaveSettled IsSettledAt ReadsSettled s → may_step s.hub.members i (has_mail s.hub i) ≡ true → s.hub.members.base + 2 + k ≤ (worker_at s.hub i).round →
        (j : ℕ) (u : World) → world_at s j ≡ Some u → ((worker_at s.hub j).due ≡ false) × IsSettledAt s.job k u
    settled_everywhere k low settled may high j u is =
        let there : (worker_at s.hub j).live ≡ true = (some_told s j u ok.live_worlds is).1 in
        let far : (worker_at s.hub i).round ≤ (worker_at s.hub j).round + s.hub.members.limits.lag = paced s.hub.members i j (has_mail s.hub i) may there in
        let current : (worker_at s.hub j).due ≡ false = by_due (worker_at s.hub j).due refl there far in
        (current, settled.worlds j k u is current (omega (arith, far, even, high)))
      where
        by_due : (d : Bool) → (worker_at s.hub j).due ≡ d → (worker_at s.hub j).live ≡ true → (worker_at s.hub i).round ≤ (worker_at s.hub j).round + s.hub.members.limits.lag → (worker_at s.hub j).due ≡ false
        by_due false is there far = is
        by_due true is there far = absurd (omega (arith, low.due j there is, far, even, high))

    step_steps : InTime s → may_step s.hub.members i (has_mail s.hub i) ≡ true → AllLive s.hub → StepsAre s stepping
    step_steps old may each j e r us is = elim (cases_eq j i) [
      | inl same ↦
          (let this : Step e r us ≡ step = gave.some_same (Step e r us) step (sym is ∙ (ap (order_at stepping) same ∙ gave.order_same s.hub s.hub i step (set s.hub.inboxes.boxes i []) ok.hub inside live)) in
          let fields = parts_of this in
          inr (rw (same, fields.0, fields.1, fields.2) given_now))
      | inr apart ↦ inl (sym (gave.order_other s.hub s.hub i step (set s.hub.inboxes.boxes i []) ok.hub inside live j apart) ∙ is)
    ]
      where
        parts_of : Step e r us ≡ Step s.hub.members.epoch (worker_at s.hub i).round (waiting_at s.hub i) → (e ≡ s.hub.members.epoch) × (r ≡ (worker_at s.hub i).round) × (us ≡ waiting_at s.hub i)
        parts_of h = (cc h, cc h, cc h)

        given_now : IsGivenNow s stepping i s.hub.members.epoch (worker_at s.hub i).round (waiting_at s.hub i)
        given_now = record {
          now = refl;
          no_mail = drained;
          low = work_within s.hub (last s.job) i live (old.low each) (old.busy each) (may_steps s.hub.members i (has_mail s.hub i) may).work;
          reads = λ k w there high. law.given i k w inside there idle each (settled_everywhere k (old.low each) (old.settled each) may high);
        }

    pub gave_in_time : InTime s → InTime (record s { hub = after_turn s.hub i (turn_of s.hub i) })
    gave_in_time old =
        (gave.turn_by (λ (turn : Turn). RoundsAreNear (after_turn s.hub i turn) → InTime (record s { hub = after_turn s.hub i turn })) s.hub i
        (λ reason is near. stays (Some reason) near)
        (λ free quiet all near. old)
        (λ free quiet none near. in_time_like s (with_order s.hub i (Report s.hub.members.epoch)) s.worlds
        (record { count = refl; epoch = refl; base = refl; live = live_tasked s.hub.members i task.Report; due = due_tasked s.hub.members i task.Report; changed = changed_tasked s.hub.members i task.Report; round = round_tasked s.hub.members i task.Report; mail = λ j is. is })
        (λ j. refl) report_steps near old)
        (λ free busy may near. in_time_like s stepping s.worlds
        (record { count = refl; epoch = refl; base = refl; live = live_tasked s.hub.members i task.Step; due = due_tasked s.hub.members i task.Step; changed = changed_tasked s.hub.members i task.Step; round = round_tasked s.hub.members i task.Step; mail = mail_before })
        (λ j. refl) (step_steps old may) near old)
        (λ free busy out near. stays (Some why.Budget) near)
        (λ near. old))
        (gave_near s.hub i ok.hub inside live old.near)
      where
        stays : (h : Option Why) → RoundsAreNear (record s.hub { halt = h }) → InTime (record s { hub = record s.hub { halt = h } })
        stays h near = in_time_like s (record s.hub { halt = h }) s.worlds
            (record { count = refl; epoch = refl; base = refl; live = λ j. refl; due = λ j. refl; changed = λ j. refl; round = λ j. refl; mail = λ j is. is })
            (λ j. refl) (λ each j e r us is. inl is) near old

  -- ---- a loss, a join, a halt

  pub lost_in_time : (s : SystemState) (i : ℕ) (kind : LossKind) → IsInStep s → i < worker_count s.hub → (worker_at s.hub i).live ≡ true → InTime s → InTime (with_world s i None (after_loss s.hub i kind))
  lost_in_time s i kind ok inside live old = record {
    near = lost_near s.hub i kind ok.hub inside live old.near;
    low = λ each. absurd (none each);
    settled = λ each. absurd (none each);
    busy = λ each. absurd (none each);
  }
    where
      none : AllLive (after_loss s.hub i kind) → ⊥
      none each = cc (each i inside, ap (λ (u : MemberState). u.live) (changed.lost_worker s.hub i kind ok.hub inside live))

  module _ (s : SystemState) (i : ℕ) (ok : IsInStep s) (inside : i < worker_count s.hub) (missing : (worker_at s.hub i).live ≡ false) (free : s.hub.halt ≡ None) where
    abbrev with_newcomer : SystemState
    with_newcomer = with_world s i (new_world_at s i) (after_join s.hub i)

    at_most_base : (j : ℕ) → (worker_at with_newcomer.hub j).live ≡ true → (worker_at with_newcomer.hub j).round ≤ with_newcomer.hub.members.base
    at_most_base = changed.at_most_base s.hub i ok.hub inside missing free

    step_at_most : (j e r : ℕ) (us : List Update) → order_at s.hub j ≡ Some (Step e r us) → r ≤ with_newcomer.hub.members.base
    step_at_most j e r us is =
        let was = changed.ordered_apart s.hub i ok.hub inside missing free j (Step e r us) is in
        let other = changed.joined_other s.hub i ok.hub inside missing free j was.0 in
        let stands : r ≡ (worker_at s.hub j).round = (ok.hub.orders j (Step e r us) is).stands in
        omega (arith, at_most_base j (ap (λ (u : MemberState). u.live) other ∙ was.1), stands, ap (λ (u : MemberState). u.round) other)

    pub joined_in_time : InTime s → InTime with_newcomer
    joined_in_time old = record {
      near = joined_near s.hub i ok.hub inside missing free old.near;
      low = λ each. record {
        due = λ j live due. omega (arith, at_most_base j live);
        older = λ j e r us is less. step_at_most j e r us is;
      };
      settled = λ each. record {
        worlds = λ j k w is due high. absurd (omega (arith, high, at_most_base j (some_told with_newcomer j w next.live_worlds is).1));
        steps = λ j k e r us w is has now high. absurd (omega (arith, high, step_at_most j e r us has));
      };
      busy = λ each. record {
        changed = λ j live is. omega (arith, at_most_base j live);
        mail = λ j live is. omega (arith, at_most_base j live);
        mail_steps = λ j e r us is has. omega (arith, step_at_most j e r us has);
        rounds = λ j live. omega (arith, at_most_base j live);
        steps = λ j e r us has. omega (arith, step_at_most j e r us has);
      };
    }
      where
        next : IsInStep with_newcomer
        next = joined_in_step s i ok (inside, missing, free)

  pub halted_in_time : (s : SystemState) (i : ℕ) (reason : Halt) → InTime s → InTime (record s { hub = after_halt s.hub i reason })
  halted_in_time s i reason old = by_halt s.hub.halt (halted_near s.hub i reason old.near)
    where
      by_halt : (h : Option Why) → RoundsAreNear (elim h [ Some first ↦ s.hub | None ↦ record s.hub { halt = Some (why_of reason i) } ]) → InTime (record s { hub = elim h [ Some first ↦ s.hub | None ↦ record s.hub { halt = Some (why_of reason i) } ] })
      by_halt (Some first) near = old
      by_halt None near = in_time_like s (record s.hub { halt = Some (why_of reason i) }) s.worlds
          (record { count = refl; epoch = refl; base = refl; live = λ j. refl; due = λ j. refl; changed = λ j. refl; round = λ j. refl; mail = λ j is. is })
          (λ j. refl) (λ each j e r us is. inl is) near old

  -- ---- a Report is answered

  pub reported_in_time : (s : SystemState) (i epoch : ℕ) (values : List ℕ) (b : Bool) (world : Option World) → IsInStep s → i < worker_count s.hub → order_at s.hub i ≡ Some (Report epoch) →
      world ≡ world_at s i → InTime s → InTime (with_world s i world (reported_hub b s.hub i values))
  reported_in_time s i epoch values b world ok inside had stays old = in_time_like s (reported_hub b s.hub i values) (set s.worlds i world)
      (record { count = refl; epoch = refl; base = refl; live = live_tasked s.hub.members i task.Nothing; due = due_tasked s.hub.members i task.Nothing; changed = changed_tasked s.hub.members i task.Nothing; round = round_tasked s.hub.members i task.Nothing; mail = λ j is. is })
      (λ j. elim (cases_eq j i) [
        | inl same ↦ ap (λ (k : ℕ). get_or (set s.worlds i world) k None) same ∙ (world_there s i world (reported_hub b s.hub i values) room ∙ (stays ∙ ap (world_at s) (sym same)))
        | inr apart ↦ world_elsewhere s i world (reported_hub b s.hub i values) j apart
      ])
      (λ each j e r us is. elim (cases_eq j i) [
        | inl same ↦ absurd (cc (none_here, subst (λ (k : ℕ). order_at (reported_hub b s.hub i values) k ≡ Some (Step e r us)) same is))
        | inr apart ↦ inl (sym (get_or-set_other s.hub.orders i j None None apart) ∙ is)
      ])
      (reported_near s.hub i epoch values b ok.hub inside had old.near) old
    where
      room : i < length s.worlds
      room = omega (arith, inside, ok.job.worlds)

      none_here : order_at (reported_hub b s.hub i values) i ≡ None
      none_here = let there : i < length s.hub.orders = omega (arith, inside, ok.hub.places.orders) in get_or-set_same s.hub.orders i None None there

  -- ---- a Step is answered

  -- no updates bring no mail
  no_more_mail : (t : InboxesState) (j : ℕ) → not (is_empty_box (inbox_at (with_updates t []) j)) ≡ true → not (is_empty_box (inbox_at t j)) ≡ true
  no_more_mail t j is = elim (cases_lt j (length t.boxes)) [
    | inl below ↦ sym (ap (λ (box : List Update). not (is_empty_box box)) (at_position (length t.boxes) (λ j. box_with_all t.counting [] (inbox_at t j)) j [] below)) ∙ is
    | inr past ↦ (let over : length (with_updates t []).boxes ≤ j = omega (arith, past, length_by_position (length t.boxes) (λ j. box_with_all t.counting [] (inbox_at t j))) in
        absurd (cc (is, ap (λ (box : List Update). not (is_empty_box box)) (get_or_past (with_updates t []).boxes j [] over))))
  ]

  module _ (s : SystemState) (i epoch round : ℕ) (sent : List Update) (changed : Bool) (updates : List Update) (ok : IsInStep s) (law : Settles s) (even : s.hub.members.limits.lag ≡ 0) (inside : i < worker_count s.hub)
      (had : order_at s.hub i ≡ Some (Step epoch round sent)) (values : CarriesValues updates) (old : World) (there : world_at s i ≡ Some old) (answered : (outcome_of old (Step epoch round sent)).answer ≡ Stepped epoch round changed updates)
      (b : Bool) (current : (epoch == s.hub.members.epoch) ≡ b) (was : InTime s) where
    abbrev new : HubState
    new = stepped_hub b s.hub i changed updates

    abbrev after_step : SystemState
    after_step = with_world s i (Some (outcome_of old (Step epoch round sent)).world) new

    live : (worker_at s.hub i).live ≡ true
    live = took.asked_live s.hub i epoch round sent changed updates ok.hub inside had values

    at : round ≡ (worker_at s.hub i).round
    at = (ok.hub.orders i (Step epoch round sent) had).stands

    live_before : (k : ℕ) → (worker_at new k).live ≡ true → (worker_at s.hub k).live ≡ true
    live_before k is = sym (took.took_live s.hub i epoch round sent changed updates ok.hub inside had values b k) ∙ is

    same_count : worker_count new ≡ worker_count s.hub
    same_count = by_case b
      where
        by_case : (c : Bool) → worker_count (stepped_hub c s.hub i changed updates) ≡ worker_count s.hub
        by_case true = refl
        by_case false = refl

    all_before : AllLive new → AllLive s.hub
    all_before each j within = live_before j (each j (rw same_count within))

    here : worker_at new i ≡ stepped_worker b (worker_at s.hub i) changed
    here = took.took_worker s.hub i epoch round sent changed updates ok.hub inside had values b

    round_here : (worker_at new i).round ≡ (worker_at s.hub i).round + 1
    round_here = ap (λ (u : MemberState). u.round) here ∙ took.round_more s.hub i epoch round sent changed updates ok.hub inside had values b

    other : (k : ℕ) → k ≢ i → worker_at new k ≡ worker_at s.hub k
    other k apart = took.worker_other s.hub i epoch round sent changed updates ok.hub inside had values b k apart

    -- an order under way is another worker's
    apart_from : (j : ℕ) (order : Order) → order_at new j ≡ Some order → j ≢ i
    apart_from j order is e = cc (took.took_order s.hub i epoch round sent changed updates ok.hub inside had values b, subst (λ (k : ℕ). order_at new k ≡ Some order) e is)

    before : (j : ℕ) (order : Order) → order_at new j ≡ Some order → order_at s.hub j ≡ Some order
    before j order is = sym (took.took_other s.hub i epoch round sent changed updates ok.hub inside had values b j (apart_from j order is)) ∙ is

    -- a Step of an older epoch leaves its worker due
    old_due : b ≡ false → ((worker_at s.hub i).due ≡ true) × (epoch < s.hub.members.epoch)
    old_due older = (by_due (worker_at s.hub i).due refl (ok.hub.orders i (Step epoch round sent) had).current, less)
      where
        apart : epoch ≢ s.hub.members.epoch
        apart e = cc (current, older, eq-eqb epoch s.hub.members.epoch e)

        less : epoch < s.hub.members.epoch
        less = omega (arith, apart, (ok.hub.orders i (Step epoch round sent) had).not_later)

        by_due : (d : Bool) → (worker_at s.hub i).due ≡ d → ((worker_at s.hub i).due ≡ false → epoch ≡ s.hub.members.epoch) → (worker_at s.hub i).due ≡ true
        by_due true is now = is
        by_due false is now = absurd (apart (now is))

    now : b ≡ true → epoch ≡ s.hub.members.epoch
    now is_now = eqb-true epoch s.hub.members.epoch (current ∙ is_now)

    low_after : DueAreLow s.hub → DueAreLow new
    low_after low = record {
      due = λ j is due. elim (cases_eq j i) [
        | inl same ↦ rw (same, round_here) (omega (arith, at, low.older i epoch round sent had (old_due (older_here b refl (sym (ap (λ (u : MemberState). u.due) here) ∙ subst (λ (k : ℕ). (worker_at new k).due ≡ true) same due))).1))
        | inr apart ↦ rw (other j apart) (low.due j (live_before j is) (sym (ap (λ (u : MemberState). u.due) (other j apart)) ∙ due))
      ];
      older = λ j e r us is less. low.older j e r us (before j (Step e r us) is) less;
    }
      where
        older_here : (c : Bool) → b ≡ c → (stepped_worker c (worker_at s.hub i) changed).due ≡ true → b ≡ false
        older_here true is due = absurd (cc due)
        older_here false is due = is

    -- the worker isn't due after the Step only where the Step is of this epoch
    current_here : (worker_at new i).due ≡ false → b ≡ true
    current_here up = by_case b refl (sym (ap (λ (u : MemberState). u.due) here) ∙ up)
      where
        by_case : (c : Bool) → b ≡ c → (stepped_worker c (worker_at s.hub i) changed).due ≡ false → b ≡ true
        by_case true is up = is
        by_case false is up = absurd (cc ((old_due is).0, up))

    -- a worker above the first rounds is current, and knows what has settled, with the Step that it has
    settled_there : (k : ℕ) → b ≡ true → DueAreLow s.hub → HaveSettled IsSettledAt ReadsSettled s → s.hub.members.base + 2 + k ≤ (worker_at s.hub i).round →
        ((worker_at s.hub i).due ≡ false) × IsSettledAt s.job k old × ReadsSettled s.job k old (Step epoch round sent)
    settled_there k is_now low settled high =
        let up : (worker_at s.hub i).due ≡ false = by_due (worker_at s.hub i).due refl (low.due i live) in
        (up, settled.worlds i k old there up high, settled.steps i k epoch round sent old there had (now is_now) (omega (arith, at, high)))
      where
        by_due : (d : Bool) → (worker_at s.hub i).due ≡ d → ((worker_at s.hub i).due ≡ true → (worker_at s.hub i).round ≤ s.hub.members.base + 1) → (worker_at s.hub i).due ≡ false
        by_due true is low = absurd (omega (arith, low is, high))
        by_due false is low = is

    settled_here : (k : ℕ) → b ≡ true → DueAreLow s.hub → HaveSettled IsSettledAt ReadsSettled s → s.hub.members.base + 2 + k ≤ (worker_at s.hub i).round + 1 → IsSettledAt s.job k (outcome_of old (Step epoch round sent)).world
    settled_here zero is_now low settled high = law.begun i epoch round sent old inside there had (now is_now)
    settled_here (suc k) is_now low settled high =
        let known = settled_there k is_now low settled (omega (arith, high)) in
        law.more i k epoch round sent old inside there had (now is_now) known.1 known.2

    settled_after : DueAreLow s.hub → HaveSettled IsSettledAt ReadsSettled s → HaveSettled IsSettledAt ReadsSettled after_step
    settled_after low settled = record {
      worlds = λ j k w is due high. elim (cases_eq j i) [
        | inl same ↦
            (let this : (outcome_of old (Step epoch round sent)).world ≡ w = gave.some_same (outcome_of old (Step epoch round sent)).world w (sym (world_there s i (Some (outcome_of old (Step epoch round sent)).world) new room) ∙ subst (λ (k : ℕ). world_at after_step k ≡ Some w) same is) in
            let far : s.hub.members.base + 2 + k ≤ (worker_at new i).round = subst (λ (l : ℕ). s.hub.members.base + 2 + k ≤ (worker_at new l).round) same high in
            subst (λ (x : World). IsSettledAt s.job k x) this (settled_here k (current_here (subst (λ (l : ℕ). (worker_at new l).due ≡ false) same due)) low settled (omega (arith, far, round_here))))
        | inr apart ↦ settled.worlds j k w (sym (world_elsewhere s i (Some (outcome_of old (Step epoch round sent)).world) new j apart) ∙ is) (sym (ap (λ (u : MemberState). u.due) (other j apart)) ∙ due) (rw (other j apart) at high)
      ];
      steps = λ j k e r us w is has epochs high.
          settled.steps j k e r us w (sym (world_elsewhere s i (Some (outcome_of old (Step epoch round sent)).world) new j (apart_from j (Step e r us) has)) ∙ is) (before j (Step e r us) has) epochs high;
    }
      where
        room : i < length s.worlds
        room = omega (arith, inside, ok.job.worlds)

    -- high enough a Step changes nothing and sends nothing
    still : b ≡ true → DueAreLow s.hub → HaveSettled IsSettledAt ReadsSettled s → s.hub.members.base + 2 + last s.job ≤ (worker_at s.hub i).round → (changed ≡ false) × (updates ≡ [])
    still is_now low settled high =
        let known = settled_there (last s.job) is_now low settled high in
        law.ended i epoch round sent old changed updates inside there had (now is_now) known.0 known.1 known.2 answered

    -- so where someone has mail that had none, the worker stands low
    mail_or_low : DueAreLow s.hub → HaveSettled IsSettledAt ReadsSettled s → (j : ℕ) → has_mail new j ≡ true → (has_mail s.hub j ≡ true) ⊎ ((worker_at s.hub i).round ≤ s.hub.members.base + last s.job + 1)
    mail_or_low low settled j is = by_case b refl is
      where
        by_case : (c : Bool) → b ≡ c → has_mail (stepped_hub c s.hub i changed updates) j ≡ true → (has_mail s.hub j ≡ true) ⊎ ((worker_at s.hub i).round ≤ s.hub.members.base + last s.job + 1)
        by_case false older is = inl is
        by_case true is_now is = elim (cases_lt (worker_at s.hub i).round (s.hub.members.base + 2 + last s.job)) [
          | inl below ↦ inr (omega (arith, below))
          | inr high ↦ inl (no_more_mail s.hub.inboxes j (subst (λ (us : List Update). not (is_empty_box (inbox_at (with_updates s.hub.inboxes us) j)) ≡ true) (still is_now low settled high).1 is))
        ]

    busy_after : DueAreLow s.hub → HaveSettled IsSettledAt ReadsSettled s → BusyAreWithin (last s.job) s.hub → BusyAreWithin (last s.job) new
    busy_after low settled busy = record {
      changed = λ j is moved. elim (cases_eq j i) [
        | inl same ↦ rw (same, round_here) (changed_here b refl (sym (ap (λ (u : MemberState). u.changed) here) ∙ subst (λ (k : ℕ). (worker_at new k).changed ≡ true) same moved))
        | inr apart ↦ rw (other j apart) (busy.changed j (live_before j is) (sym (ap (λ (u : MemberState). u.changed) (other j apart)) ∙ moved))
      ];
      mail = λ j is has. elim (mail_or_low low settled j has) [
        | inl had_mail ↦ elim (cases_eq j i) [
          | inl same ↦ rw (same, round_here) (omega (arith, at, busy.mail_steps i epoch round sent (subst (λ (k : ℕ). has_mail s.hub k ≡ true) same had_mail) had))
          | inr apart ↦ rw (other j apart) (busy.mail j (live_before j is) had_mail)
        ]
        | inr few ↦ elim (cases_eq j i) [
          | inl same ↦ rw (same, round_here) (omega (arith, few))
          | inr apart ↦ rw (other j apart) (omega (arith, few, even, was.near.near j i (live_before j is) live))
        ]
      ];
      mail_steps = λ j e r us has is. elim (mail_or_low low settled j has) [
        | inl had_mail ↦ busy.mail_steps j e r us had_mail (before j (Step e r us) is)
        | inr few ↦ omega (arith, few, even, was.near.pace j i e r us (before j (Step e r us) is) live)
      ];
      rounds = λ j is. elim (cases_eq j i) [
        | inl same ↦ rw (same, round_here) (omega (arith, at, busy.steps i epoch round sent had))
        | inr apart ↦ rw (other j apart) (busy.rounds j (live_before j is))
      ];
      steps = λ j e r us is. busy.steps j e r us (before j (Step e r us) is);
    }
      where
        changed_here : (c : Bool) → b ≡ c → (stepped_worker c (worker_at s.hub i) changed).changed ≡ true → (worker_at s.hub i).round + 1 ≤ s.hub.members.base + last s.job + 2
        changed_here false older moved = absurd (cc (moved, ok.hub.unchanged i (old_due older).0))
        changed_here true is_now moved = elim (cases_lt (worker_at s.hub i).round (s.hub.members.base + 2 + last s.job)) [
          | inl below ↦ omega (arith, below)
          | inr high ↦ absurd (cc (moved, (still is_now low settled high).0))
        ]

    pub stepped_in_time : InTime after_step
    stepped_in_time = record {
      near = stepped_near s.hub i epoch round sent changed updates b ok.hub inside had values was.near;
      low = λ each. low_after (was.low (all_before each));
      settled = λ each. settled_after (was.low (all_before each)) (was.settled (all_before each));
      busy = λ each. busy_after (was.low (all_before each)) (was.settled (all_before each)) (was.busy (all_before each));
    }
