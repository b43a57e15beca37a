-- A worker's turn keeps the book-keeping of the hub.
use Rattle.std.proofs.Common.{◌≡◌, ◌≢◌, ℕ, ◌+◌, ◌<◌, Bool, true, false, List, [], Option, Some, None, length, get_or, set, arith, refl, sym, ap, subst, ◌∙◌, inl, inr}
use Rattle.std.specs.Prelude.{◌&&◌, ◌⊎◌, IsTrue, is_none, nat_lt, if◌then◌else◌}
use Rattle.std.proofs.lemmas.List.{get_or-set_same, get_or-set_other, length-set}
use Rattle.std.proofs.lemmas.Bool.{cases_eq, ltb-true}
use Rattle.std.proofs.Math.Seq.{map-set_same}
use Rattle.px_base.specs.declared.wire.Update.{Update}
use Rattle.px_base.specs.declared.wire.Order.{Order}
use Rattle.px_base.specs.declared.wire.Order.TheVariants.{Step, Report}
use Rattle.px_base.specs.Worlds.{updates_in}
use Rattle.hub_terms.specs.declared.stops.Why.{Why}
use Rattle.hub_terms.specs.declared.stops.Why.TheVariants as why
use Rattle.hub_terms.specs.declared.tasks.Task.{Task}
use Rattle.hub_terms.specs.declared.tasks.Task.TheVariants as task
use Rattle.hub_terms.specs.declared.workers.MemberState.{MemberState}
use Rattle.hub_terms.specs.Members.{MembersState, opening_member, member_at, live_count, may_step, is_idle, is_spent, has_work, keeps_pace, is_no_task}
use Rattle.hub_terms.specs.Inboxes.{all_empty}
use Rattle.hub_terms.specs.Hubs.{HubState, Turn, work, wait, done, stop, worker_at, order_at, reported_at, waiting_at, worker_count, has_mail, is_quiet_hub, all_reported, quiet_turn, busy_turn, open_turn, turn_of, with_order, after_turn}
use Rattle.hub_terms.specs.UnderWay.{task_of}
use Rattle.hub_terms.specs.HubInStep.{IsHubInStep, HasPlaces, InboxesFit, IsMailOf, IsOrderOf, OrdersFit, TasksAgree, MissingHaveNothing, DueUnchanged, EpochsFit, RoundsLeft, ReportsFit}
use Rattle.list_laws.proofs.Lists.{at_set, all_by_map}
use Rattle.hub_laws.proofs.Mail.{no_mail}
use Rattle.hub_laws.proofs.Workers.{member_same, member_other, re_tasked, live_tasked, due_tasked, round_tasked, changed_tasked, count_tasked, rounds_tasked, mail_kept, order_kept}

-- the two options are the same, so what they hold is
pub some_same : {X : Type 0} (x y : X) → Some x ≡ Some y → x ≡ y
some_same x y h = cc h

-- ---- which turn it is

-- what holds of the turn in each case holds of it
pub turn_by : (P : Turn → Type 0) (hub : HubState) (i : ℕ) →
    ((reason : Why) → hub.halt ≡ Some reason → P (stop reason)) →
    (hub.halt ≡ None → is_quiet_hub hub ≡ true → all_reported hub ≡ true → P done) →
    (hub.halt ≡ None → is_quiet_hub hub ≡ true → is_none (reported_at hub i) ≡ true → P (work (Report hub.members.epoch))) →
    (hub.halt ≡ None → is_quiet_hub hub ≡ false → may_step hub.members i (has_mail hub i) ≡ true → P (work (Step hub.members.epoch (worker_at hub i).round (waiting_at hub i)))) →
    (hub.halt ≡ None → is_quiet_hub hub ≡ false → is_spent hub.members ≡ true → P (stop why.Budget)) →
    P wait → P (turn_of hub i)
turn_by P hub i halted finished asked stepped spent idle = by_halt hub.halt refl
  where
    by_report : hub.halt ≡ None → is_quiet_hub hub ≡ true → (a b : Bool) → all_reported hub ≡ a → is_none (reported_at hub i) ≡ b → P (if a then done else if b then work (Report hub.members.epoch) else wait)
    by_report free quiet true b all none = finished free quiet all
    by_report free quiet false true all none = asked free quiet none
    by_report free quiet false false all none = idle

    by_step : hub.halt ≡ None → is_quiet_hub hub ≡ false → (a b : Bool) → may_step hub.members i (has_mail hub i) ≡ a → is_spent hub.members ≡ b →
        P (if a then work (Step hub.members.epoch (worker_at hub i).round (waiting_at hub i)) else if b then stop why.Budget else wait)
    by_step free busy true b may out = stepped free busy may
    by_step free busy false true may out = spent free busy out
    by_step free busy false false may out = idle

    by_quiet : hub.halt ≡ None → (q : Bool) → is_quiet_hub hub ≡ q → P (if q then quiet_turn hub i else busy_turn hub i)
    by_quiet free true quiet = by_report free quiet (all_reported hub) (is_none (reported_at hub i)) refl refl
    by_quiet free false busy = by_step free busy (may_step hub.members i (has_mail hub i)) (is_spent hub.members) refl refl

    by_halt : (halt : Option Why) → hub.halt ≡ halt → P (elim halt [ Some reason ↦ stop reason | None ↦ open_turn hub i ])
    by_halt (Some reason) kept = halted reason kept
    by_halt None free = by_quiet free (is_quiet_hub hub) refl

-- a worker that may step has a round left
pub round_left : (m : MembersState) (i : ℕ) (waiting : Bool) → may_step m i waiting ≡ true → (member_at m i).round < m.base + m.limits.rounds
round_left m i waiting may = ltb-true (member_at m i).round (m.base + m.limits.rounds)
    (last (member_at m i).live (is_no_task (member_at m i).task) (has_work m (member_at m i) waiting) (keeps_pace m (member_at m i)) (nat_lt (member_at m i).round (m.base + m.limits.rounds)) may)
  where
    last : (a b c d e : Bool) → (a && b && c && d && e) ≡ true → e ≡ true
    last true true true true e h = h
    last true true true false e h = cc
    last true true false d e h = cc
    last true false c d e h = cc
    last false b c d e h = cc

-- ---- an order is given

-- whatever the order, if it is such a one and it leaves such inboxes
module _ (hub new : HubState) (i : ℕ) (order : Order) (boxes : List (List Update)) (ok : IsHubInStep hub) (inside : i < worker_count hub) (live : (worker_at hub i).live ≡ true) where
  abbrev pub given : HubState
  given = record hub { members = re_tasked hub.members i (task_of (Some order)); inboxes = record hub.inboxes { boxes = boxes }; orders = set hub.orders i (Some order) }

  pub order_same : order_at given i ≡ Some order
  order_same = let room : i < length hub.orders = omega (arith, inside, ok.places.orders) in get_or-set_same hub.orders i (Some order) None room

  pub order_other : (j : ℕ) → j ≢ i → order_at given j ≡ order_at hub j
  order_other j apart = get_or-set_other hub.orders i j (Some order) None apart

  given_places : length boxes ≡ length hub.inboxes.boxes → HasPlaces given
  given_places sized = record {
    members = length-set hub.members.members i (record (worker_at hub i) { task = task_of (Some order) }) ∙ ok.places.members;
    boxes = sized ∙ ok.places.boxes;
    orders = length-set hub.orders i (Some order) ∙ ok.places.orders;
    reported = ok.places.reported;
  }

  given_inboxes : ((j : ℕ) → IsMailOf hub.inboxes j (get_or boxes j [])) → InboxesFit given.inboxes
  given_inboxes mail j = mail_kept hub.inboxes boxes j (get_or boxes j []) (mail j)

  given_orders : IsOrderOf given i order → OrdersFit given
  given_orders here j o is = elim (cases_eq j i) [
    | inl same ↦ (let this : o ≡ order = some_same o order (sym is ∙ (ap (order_at given) same ∙ order_same)) in
        subst (λ (k : ℕ). IsOrderOf given k o) (sym same) (subst (λ (p : Order). IsOrderOf given i p) (sym this) here))
    | inr apart ↦ order_kept hub given j o (round_tasked hub.members i (task_of (Some order)) j) (due_tasked hub.members i (task_of (Some order)) j) refl
        (mail_kept hub.inboxes boxes j (updates_in o)) (ok.orders j o (sym (order_other j apart) ∙ is))
  ]

  given_tasks : TasksAgree given
  given_tasks j = elim (cases_eq j i) [
    | inl same ↦ (let room : i < length hub.members.members = omega (arith, inside, ok.places.members) in
        subst (λ (k : ℕ). (worker_at given k).task ≡ task_of (order_at given k)) (sym same)
        (ap (λ (w : MemberState). w.task) (member_same hub.members i (record (worker_at hub i) { task = task_of (Some order) }) room) ∙ ap task_of (sym order_same)))
    | inr apart ↦ ap (λ (w : MemberState). w.task) (member_other hub.members i j (record (worker_at hub i) { task = task_of (Some order) }) apart) ∙ (ok.tasks j ∙ ap task_of (sym (order_other j apart)))
  ]

  given_missing : MissingHaveNothing given
  given_missing j missing =
      let was : (worker_at hub j).live ≡ false = rw (live_tasked hub.members i (task_of (Some order)) j) at missing in
      let apart : j ≢ i = (λ e. cc (subst (λ (k : ℕ). (worker_at hub k).live ≡ false) e was, live)) in
      record {
        due = due_tasked hub.members i (task_of (Some order)) j ∙ (ok.missing j was).due;
        order = order_other j apart ∙ (ok.missing j was).order;
        reported = (ok.missing j was).reported;
      }

  given_unchanged : DueUnchanged given.members
  given_unchanged j due = changed_tasked hub.members i (task_of (Some order)) j ∙ ok.unchanged j (sym (due_tasked hub.members i (task_of (Some order)) j) ∙ due)

  given_epochs : EpochsFit given
  given_epochs =
      let sized : length given.members.members ≡ length hub.members.members = length-set hub.members.members i (record (worker_at hub i) { task = task_of (Some order) }) in
      let counted : live_count given.members ≡ live_count hub.members = count_tasked hub.members i (task_of (Some order)) in
      record {
        some_epoch = ok.epochs.some_epoch;
        losses = ok.epochs.losses;
        loss_workers = λ k d within. rw sized (ok.epochs.loss_workers k d within);
        loss_limit = ok.epochs.loss_limit;
        room = rw (sized, counted) ok.epochs.room;
      }

  given_in_step : length boxes ≡ length hub.inboxes.boxes → ((j : ℕ) → IsMailOf hub.inboxes j (get_or boxes j [])) → IsOrderOf given i order → RoundsLeft given → ReportsFit given → IsHubInStep given
  given_in_step sized mail here left reports = record {
    limits = ok.limits;
    places = given_places sized;
    inboxes = given_inboxes mail;
    orders = given_orders here;
    tasks = given_tasks;
    missing = given_missing;
    unchanged = given_unchanged;
    epochs = given_epochs;
    rounds = rounds_tasked hub.members i (task_of (Some order)) ok.rounds;
    rounds_left = left;
    reports = reports;
  }

-- ---- a Step

module _ (hub : HubState) (i : ℕ) (ok : IsHubInStep hub) (inside : i < worker_count hub) (live : (worker_at hub i).live ≡ true) (busy : is_quiet_hub hub ≡ false) (may : may_step hub.members i (has_mail hub i) ≡ true) where
  abbrev step : Order
  step = Step hub.members.epoch (worker_at hub i).round (waiting_at hub i)

  abbrev stepping : HubState
  stepping = with_order hub i step

  nothing_reported : (j : ℕ) (values : List ℕ) → reported_at hub j ≡ Some values → ⊥
  nothing_reported j values is = cc (ok.reports.quiet j values is, busy)

  step_left : RoundsLeft stepping
  step_left j epoch round updates is = elim (cases_eq j i) [
    | inl same ↦ rw (round_tasked hub.members i task.Step j, same) (round_left hub.members i (has_mail hub i) may)
    | inr apart ↦ rw (round_tasked hub.members i task.Step j) (ok.rounds_left j epoch round updates (sym (order_other hub hub i step (set hub.inboxes.boxes i []) ok inside live j apart) ∙ is))
  ]

  step_reports : ReportsFit stepping
  step_reports = record {
    idle = λ j values is. absurd (nothing_reported j values is);
    quiet = λ j values is. absurd (nothing_reported j values is);
    asked = λ j is. elim (cases_eq j i) [
      | inl same ↦ absurd (not_report (sym (order_same hub hub i step (set hub.inboxes.boxes i []) ok inside live) ∙ (ap (order_at stepping) (sym same) ∙ is)))
      | inr apart ↦ absurd (not_quiet (ok.reports.asked j (sym (order_other hub hub i step (set hub.inboxes.boxes i []) ok inside live j apart) ∙ is)))
    ];
    values = ok.reports.values;
  }
    where
      not_report : Some step ≡ Some (Report hub.members.epoch) → ⊥
      not_report h = cc h

      not_quiet : IsTrue (is_quiet_hub hub) → ⊥
      not_quiet h = cc (h, busy)

  pub step_in_step : IsHubInStep stepping
  step_in_step =
      let room : i < length hub.inboxes.boxes = omega (arith, inside, ok.places.boxes) in
      given_in_step hub hub i step (set hub.inboxes.boxes i []) ok inside live (length-set hub.inboxes.boxes i [])
      (at_set (λ (j : ℕ) (box : List Update). IsMailOf hub.inboxes j box) hub.inboxes.boxes i [] [] room (no_mail hub.inboxes i) (λ j apart. ok.inboxes j))
      (record {
        stands = sym (round_tasked hub.members i task.Step i);
        some_epoch = ok.epochs.some_epoch;
        not_later = omega arith;
        current = λ due. refl;
        mail = mail_kept hub.inboxes (set hub.inboxes.boxes i []) i (waiting_at hub i) (ok.inboxes i);
      })
      step_left step_reports

-- ---- a Report

module _ (hub : HubState) (i : ℕ) (ok : IsHubInStep hub) (inside : i < worker_count hub) (live : (worker_at hub i).live ≡ true) (idle : order_at hub i ≡ None) (quiet : is_quiet_hub hub ≡ true) (none : is_none (reported_at hub i) ≡ true) where
  abbrev report : Order
  report = Report hub.members.epoch

  abbrev reporting : HubState
  reporting = with_order hub i report

  report_left : RoundsLeft reporting
  report_left j epoch round updates is = elim (cases_eq j i) [
    | inl same ↦ absurd (not_step (sym (order_same hub hub i report hub.inboxes.boxes ok inside live) ∙ (ap (order_at reporting) (sym same) ∙ is)))
    | inr apart ↦ rw (round_tasked hub.members i task.Report j) (ok.rounds_left j epoch round updates (sym (order_other hub hub i report hub.inboxes.boxes ok inside live j apart) ∙ is))
  ]
    where
      not_step : Some report ≡ Some (Step epoch round updates) → ⊥
      not_step h = cc h

  -- a worker that has nothing to do still has no Step
  still_idle : is_idle (record (worker_at hub i) { task = task.Report }) ≡ is_idle (worker_at hub i)
  still_idle = by_task (worker_at hub i).task (ok.tasks i ∙ ap task_of idle)
    where
      by_task : (t : Task) → t ≡ task.Nothing → is_idle (record (worker_at hub i) { task = task.Report }) ≡ is_idle (record (worker_at hub i) { task = t })
      by_task task.Nothing h = refl
      by_task task.Step h = absurd (cc h)
      by_task task.Report h = refl

  still_quiet : is_quiet_hub reporting ≡ true
  still_quiet = ap (λ b. all_empty hub.inboxes && b) (all_by_map is_idle (set hub.members.members i (record (worker_at hub i) { task = task.Report })) hub.members.members
      (map-set_same is_idle hub.members.members i (record (worker_at hub i) { task = task.Report }) opening_member still_idle)) ∙ quiet

  report_reports : ReportsFit reporting
  report_reports = record {
    idle = λ j values is. elim (cases_eq j i) [
      | inl same ↦ absurd (not_none (ap (reported_at hub) (sym same) ∙ is))
      | inr apart ↦ order_other hub hub i report hub.inboxes.boxes ok inside live j apart ∙ ok.reports.idle j values is
    ];
    quiet = λ j values is. still_quiet;
    asked = λ j is. still_quiet;
    values = ok.reports.values;
  }
    where
      not_none : {values : List ℕ} → reported_at hub i ≡ Some values → ⊥
      not_none h = cc (ap is_none h, none)

  pub report_in_step : IsHubInStep reporting
  report_in_step = given_in_step hub hub i report hub.inboxes.boxes ok inside live refl ok.inboxes
      (record {
        stands = tt;
        some_epoch = ok.epochs.some_epoch;
        not_later = omega arith;
        current = λ due. refl;
        mail = no_mail (record hub.inboxes { boxes = hub.inboxes.boxes }) i;
      })
      report_left report_reports

-- ---- a reason to stop

-- a reason that isn't the number of losses, where there was none, or the one that was kept
pub stopped_in_step : (hub : HubState) (reason : Why) → IsHubInStep hub → (hub.halt ≡ Some reason) ⊎ ((hub.halt ≡ None) × (reason ≢ why.TooManyLosses)) → IsHubInStep (record hub { halt = Some reason })
stopped_in_step hub reason ok which = record {
  limits = ok.limits;
  places = record { members = ok.places.members; boxes = ok.places.boxes; orders = ok.places.orders; reported = ok.places.reported };
  inboxes = ok.inboxes;
  orders = λ j order is. order_kept hub (record hub { halt = Some reason }) j order refl refl refl (λ mail. mail) (ok.orders j order is);
  tasks = ok.tasks;
  missing = λ j missing. record { due = (ok.missing j missing).due; order = (ok.missing j missing).order; reported = (ok.missing j missing).reported };
  unchanged = ok.unchanged;
  epochs = record {
    some_epoch = ok.epochs.some_epoch;
    losses = λ free. absurd (cc free);
    loss_workers = ok.epochs.loss_workers;
    loss_limit = elim which [
      | inl kept ↦ (λ over. sym kept ∙ ok.epochs.loss_limit.0 over, λ is. ok.epochs.loss_limit.1 (kept ∙ is))
      | inr free ↦ (λ over. absurd (none_over free.0 (ok.epochs.loss_limit.0 over)), λ is. absurd (free.1 (some_same reason why.TooManyLosses is)))
    ];
    room = ok.epochs.room;
  };
  rounds = ok.rounds;
  rounds_left = ok.rounds_left;
  reports = record { idle = ok.reports.idle; quiet = ok.reports.quiet; asked = ok.reports.asked; values = ok.reports.values };
}
  where
    none_over : hub.halt ≡ None → hub.halt ≡ Some why.TooManyLosses → ⊥
    none_over a b = cc (a, b)

-- ---- the turn

pub gave_in_step : (hub : HubState) (i : ℕ) → IsHubInStep hub → i < worker_count hub → (worker_at hub i).live ≡ true → order_at hub i ≡ None → IsHubInStep (after_turn hub i (turn_of hub i))
gave_in_step hub i ok inside live idle = turn_by (λ (turn : Turn). IsHubInStep (after_turn hub i turn)) hub i
    (λ reason kept. stopped_in_step hub reason ok (inl kept))
    (λ free quiet all. ok)
    (λ free quiet none. report_in_step hub i ok inside live idle quiet none)
    (λ free busy may. step_in_step hub i ok inside live busy may)
    (λ free busy out. stopped_in_step hub why.Budget ok (inr (free, λ e. cc e)))
    ok
