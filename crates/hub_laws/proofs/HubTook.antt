-- An answer that is taken keeps the book-keeping of the hub.
use Rattle.std.proofs.Common.{◌≡◌, ◌≢◌, ℕ, suc, ◌+◌, ◌-◌, ◌*◌, ◌<◌, ◌≤◌, Bool, true, false, List, [], Some, None, length, get_or, set, arith, refl, sym, ap, subst, ◌∙◌, inl, inr, eqb-true}
use Rattle.std.specs.Prelude.{◌&&◌, ◌⊎◌, ◌==◌, All, IsTrue, if◌then◌else◌, filter}
use Rattle.std.proofs.lemmas.List.{get_or-set_same, get_or-set_other, get_or_past, length-set}
use Rattle.std.proofs.lemmas.Bool.{cases_eq, cases_lt}
use Rattle.std.proofs.Math.Nat.{suc-mul}
use Rattle.std.proofs.Math.Seq.{map-set_same}
use Rattle.px_base.specs.declared.wire.Update.{Update}
use Rattle.px_base.specs.declared.wire.Order.{Order}
use Rattle.px_base.specs.declared.wire.Order.TheVariants.{Step, Report}
use Rattle.px_base.specs.declared.wire.Answer.{Answer}
use Rattle.px_base.specs.declared.wire.Answer.TheVariants.{Stepped, Reported}
use Rattle.px_base.specs.declared.wire.Foreign.{Foreign}
use Rattle.px_base.specs.declared.wire.Foreign.TheVariants as fault
use Rattle.px_base.specs.Values.{IsValue, by_position}
use Rattle.px_base.specs.Worlds.{updates_in, CarriesValues}
use Rattle.px_base.proofs.Positions.{length_by_position, at_position}
use Rattle.hub_terms.specs.declared.tasks.Task.{Task}
use Rattle.hub_terms.specs.declared.tasks.Task.TheVariants as task
use Rattle.hub_terms.specs.declared.workers.MemberState.{MemberState}
use Rattle.hub_terms.specs.Members.{MembersState, opening_member, member_at, with_member, live_count, is_idle, with_stepped}
use Rattle.hub_terms.specs.Inboxes.{InboxesState, all_empty, is_addressed, box_with_all, with_updates}
use Rattle.hub_terms.specs.Hubs.{HubState, worker_at, order_at, reported_at, waiting_at, worker_count, is_quiet_hub}
use Rattle.hub_terms.specs.HubEvents.{order_header, answer_header, same_header, foreign_content, foreign_of, absorption}
use Rattle.hub_terms.specs.Systems.{AnswersValues}
use Rattle.hub_terms.specs.UnderWay.{task_of}
use Rattle.hub_terms.specs.HubInStep.{IsHubInStep, InboxesFit, IsMailOf, OrdersFit, TasksAgree, MissingHaveNothing, DueUnchanged, join_count, EpochsFit, RoundsFit, RoundsLeft, ReportsFit}
use Rattle.list_laws.proofs.Lists.{field_kept, all_by_map, count_by_map, some_counted}
use Rattle.hub_laws.proofs.Mail.{no_mail, mail_more}
use Rattle.hub_laws.proofs.Workers.{member_same, member_other, re_tasked, live_tasked, due_tasked, round_tasked, changed_tasked, count_tasked, rounds_tasked, mail_kept, order_kept, idle_at}

pub some_same : {X : Type 0} (x y : X) → Some x ≡ Some y → x ≡ y
some_same x y h = cc h

-- ---- what nothing wrong says

same_numbers : (k l e f r s : ℕ) → ((k == l) && (e == f) && (r == s)) ≡ true → (k ≡ l) × (e ≡ f) × (r ≡ s)
same_numbers k l e f r s h = by_tests (k == l) (e == f) (r == s) refl refl refl h
  where
    by_tests : (a b c : Bool) → (k == l) ≡ a → (e == f) ≡ b → (r == s) ≡ c → (a && b && c) ≡ true → (k ≡ l) × (e ≡ f) × (r ≡ s)
    by_tests true true true x y z h = (eqb-true k l x, eqb-true e f y, eqb-true r s z)
    by_tests true true false x y z h = cc
    by_tests true false c x y z h = cc
    by_tests false b c x y z h = cc

-- the header is right, and so is the content
pub right_answer : (t : InboxesState) (i : ℕ) (order : Order) (answer : Answer) → foreign_of t i order answer ≡ None → (same_header (order_header order) (answer_header answer) ≡ true) × (foreign_content t i answer ≡ None)
right_answer t i order answer none = by_header (fault.Unordered (order_header order) (answer_header answer)) (same_header (order_header order) (answer_header answer)) refl none
  where
    by_header : (f : Foreign) (b : Bool) → same_header (order_header order) (answer_header answer) ≡ b → (if b then foreign_content t i answer else Some f) ≡ None →
        (same_header (order_header order) (answer_header answer) ≡ true) × (foreign_content t i answer ≡ None)
    by_header f true is none = (is, none)
    by_header f false is none = absurd (cc none)

-- a Stepped answers a Step of its epoch and round
pub stepped_order : (order : Order) (epoch round : ℕ) (changed : Bool) (updates : List Update) → same_header (order_header order) (answer_header (Stepped epoch round changed updates)) ≡ true →
    (sent : List Update) × (order ≡ Step epoch round sent)
stepped_order (Step e r sent) epoch round changed updates h = let same = same_numbers 9 9 e epoch r round h in (sent, rw (same.1, same.2) refl)
stepped_order (Report e) epoch round changed updates h = cc

-- a Reported answers a Report of its epoch
pub reported_order : (order : Order) (epoch : ℕ) (values : List ℕ) → same_header (order_header order) (answer_header (Reported epoch values)) ≡ true → order ≡ Report epoch
reported_order (Step e r sent) epoch values h = cc
reported_order (Report e) epoch values h = let same = same_numbers 10 10 e epoch 0 0 h in rw same.1 refl

-- one round more, where there was room for all but one of the joins
room_more : (joins most base round : ℕ) → 1 ≤ joins → base ≤ (joins - 1) * most → round < base + most → round + 1 ≤ joins * most
room_more joins most base round some low less =
    let one : suc (joins - 1) ≡ joins = omega (arith, some) in
    let product : suc (joins - 1) * most ≡ (joins - 1) * most + most = suc-mul (joins - 1) most in
    let same : joins * most ≡ (joins - 1) * most + most = rw one at product in
    rw same (omega (arith, low, less))

-- ---- a Step is answered

-- the worker after it, which is current or isn't
abbrev pub stepped_worker : Bool → MemberState → Bool → MemberState
stepped_worker current w changed = if current
    then record w { task = task.Nothing; round = w.round + 1; due = false; changed = changed }
    else record w { task = task.Nothing; round = w.round + 1 }

-- the hub after it
abbrev pub stepped_hub : Bool → HubState → ℕ → Bool → List Update → HubState
stepped_hub current hub i changed updates = record hub {
  members = with_member hub.members i (stepped_worker current (worker_at hub i) changed);
  inboxes = if current then with_updates hub.inboxes updates else hub.inboxes;
  orders = set hub.orders i None;
}

module _ (hub : HubState) (i epoch round : ℕ) (sent : List Update) (changed : Bool) (updates : List Update) (ok : IsHubInStep hub) (inside : i < worker_count hub)
    (had : order_at hub i ≡ Some (Step epoch round sent)) (values : CarriesValues updates) where
  abbrev w : MemberState
  w = worker_at hub i

  pub room : i < length hub.members.members
  room = omega (arith, inside, ok.places.members)

  -- a worker with an order is live
  pub asked_live : w.live ≡ true
  asked_live = by_live w.live refl
    where
      by_live : (b : Bool) → w.live ≡ b → w.live ≡ true
      by_live true is = is
      by_live false is = absurd (cc ((ok.missing i is).order, had))

  -- nothing is quiet while a Step is under way
  pub step_busy : IsTrue (is_quiet_hub hub) → ⊥
  step_busy quiet = cc ((idle_at hub i quiet room).no_step, ok.tasks i, had)

  left : w.round < hub.members.base + hub.members.limits.rounds
  left = ok.rounds_left i epoch round sent had

  pub took_order : (b : Bool) → order_at (stepped_hub b hub i changed updates) i ≡ None
  took_order b = let there : i < length hub.orders = omega (arith, inside, ok.places.orders) in get_or-set_same hub.orders i None None there

  pub took_other : (b : Bool) (j : ℕ) → j ≢ i → order_at (stepped_hub b hub i changed updates) j ≡ order_at hub j
  took_other b j apart = get_or-set_other hub.orders i j None None apart

  pub took_worker : (b : Bool) → worker_at (stepped_hub b hub i changed updates) i ≡ stepped_worker b w changed
  took_worker b = member_same hub.members i (stepped_worker b w changed) room

  pub worker_other : (b : Bool) (j : ℕ) → j ≢ i → worker_at (stepped_hub b hub i changed updates) j ≡ worker_at hub j
  worker_other b j apart = member_other hub.members i j (stepped_worker b w changed) apart

  live_same : (b : Bool) → (stepped_worker b w changed).live ≡ w.live
  live_same true = refl
  live_same false = refl

  pub took_live : (b : Bool) (j : ℕ) → (worker_at (stepped_hub b hub i changed updates) j).live ≡ (worker_at hub j).live
  took_live b j = field_kept (λ (u : MemberState). u.live) hub.members.members i (stepped_worker b w changed) opening_member (live_same b) j

  took_count : (b : Bool) → live_count (stepped_hub b hub i changed updates).members ≡ live_count hub.members
  took_count b = count_by_map (λ (u : MemberState). u.live) (set hub.members.members i (stepped_worker b w changed)) hub.members.members
      (map-set_same (λ (u : MemberState). u.live) hub.members.members i (stepped_worker b w changed) opening_member (live_same b))

  -- ---- the inboxes

  abbrev box_of : ℕ → List Update
  box_of j = box_with_all hub.inboxes.counting (filter (λ u. is_addressed hub.inboxes j u.vertex) updates) (waiting_at hub j)

  took_boxes : (b : Bool) → length (stepped_hub b hub i changed updates).inboxes.boxes ≡ length hub.inboxes.boxes
  took_boxes true = length_by_position (length hub.inboxes.boxes) box_of
  took_boxes false = refl

  took_inboxes : (b : Bool) → InboxesFit (stepped_hub b hub i changed updates).inboxes
  took_inboxes false j = ok.inboxes j
  took_inboxes true j = mail_kept hub.inboxes (by_position (length hub.inboxes.boxes) box_of) j (get_or (by_position (length hub.inboxes.boxes) box_of) j []) (elim (cases_lt j (length hub.inboxes.boxes)) [
    | inl below ↦ rw (at_position (length hub.inboxes.boxes) box_of j [] below) (mail_more hub.inboxes j hub.inboxes.counting updates (waiting_at hub j) values (ok.inboxes j))
    | inr past ↦ (let over : length (by_position (length hub.inboxes.boxes) box_of) ≤ j = omega (arith, past, length_by_position (length hub.inboxes.boxes) box_of) in
        rw (get_or_past (by_position (length hub.inboxes.boxes) box_of) j [] over) (no_mail hub.inboxes j))
  ])

  mail_on : (b : Bool) (j : ℕ) (us : List Update) → IsMailOf hub.inboxes j us → IsMailOf (stepped_hub b hub i changed updates).inboxes j us
  mail_on true j us mail = mail_kept hub.inboxes (by_position (length hub.inboxes.boxes) box_of) j us mail
  mail_on false j us mail = mail

  -- ---- the facts

  took_orders : (b : Bool) → OrdersFit (stepped_hub b hub i changed updates)
  took_orders b j order is = elim (cases_eq j i) [
    | inl same ↦ absurd (no_order (sym (took_order b) ∙ (ap (order_at (stepped_hub b hub i changed updates)) (sym same) ∙ is)))
    | inr apart ↦ order_kept hub (stepped_hub b hub i changed updates) j order (ap (λ (u : MemberState). u.round) (worker_other b j apart)) (ap (λ (u : MemberState). u.due) (worker_other b j apart)) refl
        (mail_on b j (updates_in order)) (ok.orders j order (sym (took_other b j apart) ∙ is))
  ]
    where
      no_order : None ≡ Some order → ⊥
      no_order h = cc h

  task_done : (b : Bool) → (stepped_worker b w changed).task ≡ task.Nothing
  task_done true = refl
  task_done false = refl

  took_tasks : (b : Bool) → TasksAgree (stepped_hub b hub i changed updates)
  took_tasks b j = elim (cases_eq j i) [
    | inl same ↦ subst (λ (k : ℕ). (worker_at (stepped_hub b hub i changed updates) k).task ≡ task_of (order_at (stepped_hub b hub i changed updates) k)) (sym same)
        (ap (λ (u : MemberState). u.task) (took_worker b) ∙ (task_done b ∙ ap task_of (sym (took_order b))))
    | inr apart ↦ ap (λ (u : MemberState). u.task) (worker_other b j apart) ∙ (ok.tasks j ∙ ap task_of (sym (took_other b j apart)))
  ]

  took_missing : (b : Bool) → MissingHaveNothing (stepped_hub b hub i changed updates)
  took_missing b j missing =
      let was : (worker_at hub j).live ≡ false = sym (took_live b j) ∙ missing in
      let apart : j ≢ i = (λ e. cc (subst (λ (k : ℕ). (worker_at hub k).live ≡ false) e was, asked_live)) in
      record {
        due = ap (λ (u : MemberState). u.due) (worker_other b j apart) ∙ (ok.missing j was).due;
        order = took_other b j apart ∙ (ok.missing j was).order;
        reported = (ok.missing j was).reported;
      }

  due_done : (b : Bool) → (stepped_worker b w changed).due ≡ true → (stepped_worker b w changed).changed ≡ false
  due_done true due = cc
  due_done false due = ok.unchanged i due

  took_unchanged : (b : Bool) → DueUnchanged (stepped_hub b hub i changed updates).members
  took_unchanged b j due = elim (cases_eq j i) [
    | inl same ↦ ap (λ (k : ℕ). (worker_at (stepped_hub b hub i changed updates) k).changed) same ∙ (ap (λ (u : MemberState). u.changed) (took_worker b)
        ∙ due_done b (sym (ap (λ (u : MemberState). u.due) (took_worker b)) ∙ (ap (λ (k : ℕ). (worker_at (stepped_hub b hub i changed updates) k).due) (sym same) ∙ due)))
    | inr apart ↦ ap (λ (u : MemberState). u.changed) (worker_other b j apart) ∙ ok.unchanged j (sym (ap (λ (u : MemberState). u.due) (worker_other b j apart)) ∙ due)
  ]

  took_epochs : (b : Bool) → EpochsFit (stepped_hub b hub i changed updates)
  took_epochs b =
      let sized : length (stepped_hub b hub i changed updates).members.members ≡ length hub.members.members = length-set hub.members.members i (stepped_worker b w changed) in
      record {
        some_epoch = ok.epochs.some_epoch;
        losses = ok.epochs.losses;
        loss_workers = λ k d within. rw sized (ok.epochs.loss_workers k d within);
        loss_limit = ok.epochs.loss_limit;
        room = rw (sized, took_count b) ok.epochs.room;
      }

  pub round_more : (b : Bool) → (stepped_worker b w changed).round ≡ w.round + 1
  round_more true = refl
  round_more false = refl

  -- one round more is within the room
  within_room : w.round + 1 ≤ join_count hub.members * hub.members.limits.rounds
  within_room = room_more (join_count hub.members) hub.members.limits.rounds hub.members.base w.round (omega (arith, some_counted (λ (u : MemberState). u.live) hub.members.members i opening_member room asked_live)) ok.rounds.base_room left

  took_rounds : (b : Bool) → RoundsFit (stepped_hub b hub i changed updates).members
  took_rounds b = record {
    most = λ j live. elim (cases_eq j i) [
      | inl same ↦ rw (same, took_worker b, round_more b) (omega (arith, left))
      | inr apart ↦ rw (worker_other b j apart) (ok.rounds.most j (sym (took_live b j) ∙ live))
    ];
    base_room = rw (took_count b) ok.rounds.base_room;
    room = λ j live. elim (cases_eq j i) [
      | inl same ↦ rw (same, took_worker b, round_more b, took_count b) within_room
      | inr apart ↦ rw (worker_other b j apart, took_count b) (ok.rounds.room j (sym (took_live b j) ∙ live))
    ];
  }

  took_left : (b : Bool) → RoundsLeft (stepped_hub b hub i changed updates)
  took_left b j e r us is = elim (cases_eq j i) [
    | inl same ↦ absurd (no_order (sym (took_order b) ∙ (ap (order_at (stepped_hub b hub i changed updates)) (sym same) ∙ is)))
    | inr apart ↦ rw (worker_other b j apart) (ok.rounds_left j e r us (sym (took_other b j apart) ∙ is))
  ]
    where
      no_order : None ≡ Some (Step e r us) → ⊥
      no_order h = cc h

  took_reports : (b : Bool) → ReportsFit (stepped_hub b hub i changed updates)
  took_reports b = record {
    idle = λ j known is. absurd (step_busy (ok.reports.quiet j known is));
    quiet = λ j known is. absurd (step_busy (ok.reports.quiet j known is));
    asked = λ j is. elim (cases_eq j i) [
      | inl same ↦ absurd (no_order (sym (took_order b) ∙ (ap (order_at (stepped_hub b hub i changed updates)) (sym same) ∙ is)))
      | inr apart ↦ absurd (step_busy (ok.reports.asked j (sym (took_other b j apart) ∙ is)))
    ];
    values = ok.reports.values;
  }
    where
      no_order : None ≡ Some (Report hub.members.epoch) → ⊥
      no_order h = cc h

  pub stepped_keeps : (b : Bool) → IsHubInStep (stepped_hub b hub i changed updates)
  stepped_keeps b = record {
    limits = ok.limits;
    places = record {
      members = length-set hub.members.members i (stepped_worker b w changed) ∙ (ok.places.members ∙ same_cuts b);
      boxes = took_boxes b ∙ (ok.places.boxes ∙ same_cuts b);
      orders = length-set hub.orders i None ∙ (ok.places.orders ∙ same_cuts b);
      reported = ok.places.reported ∙ same_cuts b;
    };
    inboxes = took_inboxes b;
    orders = took_orders b;
    tasks = took_tasks b;
    missing = took_missing b;
    unchanged = took_unchanged b;
    epochs = took_epochs b;
    rounds = took_rounds b;
    rounds_left = took_left b;
    reports = took_reports b;
  }
    where
      same_cuts : (b : Bool) → worker_count hub ≡ worker_count (stepped_hub b hub i changed updates)
      same_cuts true = refl
      same_cuts false = refl

-- ---- a Report is answered

-- the hub after it
abbrev pub reported_hub : Bool → HubState → ℕ → List ℕ → HubState
reported_hub current hub i values = record hub {
  members = re_tasked hub.members i task.Nothing;
  orders = set hub.orders i None;
  reported = if current then set hub.reported i (Some values) else hub.reported;
}

module _ (hub : HubState) (i epoch : ℕ) (values : List ℕ) (ok : IsHubInStep hub) (inside : i < worker_count hub) (had : order_at hub i ≡ Some (Report epoch)) (known : All IsValue values) where
  abbrev pub told : Bool → HubState
  told b = reported_hub b hub i values

  pub told_room : i < length hub.members.members
  told_room = omega (arith, inside, ok.places.members)

  told_asked_live : (worker_at hub i).live ≡ true
  told_asked_live = by_live (worker_at hub i).live refl
    where
      by_live : (b : Bool) → (worker_at hub i).live ≡ b → (worker_at hub i).live ≡ true
      by_live true is = is
      by_live false is = absurd (cc ((ok.missing i is).order, had))

  pub told_order : (b : Bool) → order_at (told b) i ≡ None
  told_order b = let there : i < length hub.orders = omega (arith, inside, ok.places.orders) in get_or-set_same hub.orders i None None there

  pub told_other : (b : Bool) (j : ℕ) → j ≢ i → order_at (told b) j ≡ order_at hub j
  told_other b j apart = get_or-set_other hub.orders i j None None apart

  no_more : (b : Bool) (j : ℕ) (order : Order) → order_at (told b) j ≡ Some order → j ≢ i
  no_more b j order is e = cc (told_order b, subst (λ (k : ℕ). order_at (told b) k ≡ Some order) e is)

  -- a report that is as before, or the one that was taken
  pub report_at : (b : Bool) (j : ℕ) (seen : List ℕ) → reported_at (told b) j ≡ Some seen → (reported_at hub j ≡ Some seen) ⊎ ((b ≡ true) × (j ≡ i) × (seen ≡ values))
  report_at false j seen is = inl is
  report_at true j seen is = elim (cases_eq j i) [
    | inl same ↦ (let there : i < length hub.reported = omega (arith, inside, ok.places.reported) in
        inr (refl, same, some_same seen values (sym is ∙ (ap (reported_at (told true)) same ∙ get_or-set_same hub.reported i (Some values) None there))))
    | inr apart ↦ inl (sym (get_or-set_other hub.reported i j (Some values) None apart) ∙ is)
  ]

  told_idle : is_idle (record (worker_at hub i) { task = task.Nothing }) ≡ is_idle (worker_at hub i)
  told_idle = by_task (worker_at hub i).task (ok.tasks i ∙ ap task_of had)
    where
      by_task : (t : Task) → t ≡ task.Report → is_idle (record (worker_at hub i) { task = task.Nothing }) ≡ is_idle (record (worker_at hub i) { task = t })
      by_task task.Nothing h = refl
      by_task task.Step h = absurd (cc h)
      by_task task.Report h = refl

  pub told_quiet : (b : Bool) → is_quiet_hub (told b) ≡ is_quiet_hub hub
  told_quiet b = ap (λ c. all_empty hub.inboxes && c) (all_by_map is_idle (set hub.members.members i (record (worker_at hub i) { task = task.Nothing })) hub.members.members
      (map-set_same is_idle hub.members.members i (record (worker_at hub i) { task = task.Nothing }) opening_member told_idle))

  told_reported_length : (b : Bool) → length (told b).reported ≡ length hub.reported
  told_reported_length true = length-set hub.reported i (Some values)
  told_reported_length false = refl

  -- current says that the answer is of this epoch
  pub told_reports : (b : Bool) → (b ≡ true → epoch ≡ hub.members.epoch) → ReportsFit (told b)
  told_reports b current = record {
    idle = λ j seen is. elim (report_at b j seen is) [
      | inl before ↦ elim (cases_eq j i) [ inl same ↦ ap (order_at (told b)) same ∙ told_order b | inr apart ↦ told_other b j apart ∙ ok.reports.idle j seen before ]
      | inr now ↦ ap (order_at (told b)) now.1 ∙ told_order b
    ];
    quiet = λ j seen is. elim (report_at b j seen is) [
      | inl before ↦ told_quiet b ∙ ok.reports.quiet j seen before
      | inr now ↦ told_quiet b ∙ ok.reports.asked i (had ∙ ap (λ (e : ℕ). Some (Report e)) (current now.0))
    ];
    asked = λ j is. let apart : j ≢ i = no_more b j (Report hub.members.epoch) is in told_quiet b ∙ ok.reports.asked j (sym (told_other b j apart) ∙ is);
    values = λ j seen is. elim (report_at b j seen is) [
      | inl before ↦ ok.reports.values j seen before
      | inr now ↦ rw now.2 known
    ];
  }

  told_missing : (b : Bool) → MissingHaveNothing (told b)
  told_missing b j missing =
      let was : (worker_at hub j).live ≡ false = sym (live_tasked hub.members i task.Nothing j) ∙ missing in
      let apart : j ≢ i = (λ e. cc (subst (λ (k : ℕ). (worker_at hub k).live ≡ false) e was, told_asked_live)) in
      record {
        due = due_tasked hub.members i task.Nothing j ∙ (ok.missing j was).due;
        order = told_other b j apart ∙ (ok.missing j was).order;
        reported = none_reported b j apart ∙ (ok.missing j was).reported;
      }
    where
      none_reported : (b : Bool) (j : ℕ) → j ≢ i → reported_at (told b) j ≡ reported_at hub j
      none_reported true j apart = get_or-set_other hub.reported i j (Some values) None apart
      none_reported false j apart = refl

  told_tasks : (b : Bool) → TasksAgree (told b)
  told_tasks b j = elim (cases_eq j i) [
    | inl same ↦ subst (λ (k : ℕ). (worker_at (told b) k).task ≡ task_of (order_at (told b) k)) (sym same)
        (ap (λ (u : MemberState). u.task) (member_same hub.members i (record (worker_at hub i) { task = task.Nothing }) told_room) ∙ ap task_of (sym (told_order b)))
    | inr apart ↦ ap (λ (u : MemberState). u.task) (member_other hub.members i j (record (worker_at hub i) { task = task.Nothing }) apart) ∙ (ok.tasks j ∙ ap task_of (sym (told_other b j apart)))
  ]

  pub reported_keeps : (b : Bool) → (b ≡ true → epoch ≡ hub.members.epoch) → IsHubInStep (told b)
  reported_keeps b current =
      let sized : length (told b).members.members ≡ length hub.members.members = length-set hub.members.members i (record (worker_at hub i) { task = task.Nothing }) in
      let counted : live_count (told b).members ≡ live_count hub.members = count_tasked hub.members i task.Nothing in
      record {
        limits = ok.limits;
        places = record {
          members = sized ∙ ok.places.members;
          boxes = ok.places.boxes;
          orders = length-set hub.orders i None ∙ ok.places.orders;
          reported = told_reported_length b ∙ ok.places.reported;
        };
        inboxes = ok.inboxes;
        orders = λ j order is. (let apart : j ≢ i = no_more b j order is in
            order_kept hub (told b) j order (round_tasked hub.members i task.Nothing j) (due_tasked hub.members i task.Nothing j) refl (λ mail. mail) (ok.orders j order (sym (told_other b j apart) ∙ is)));
        tasks = told_tasks b;
        missing = told_missing b;
        unchanged = λ j due. changed_tasked hub.members i task.Nothing j ∙ ok.unchanged j (sym (due_tasked hub.members i task.Nothing j) ∙ due);
        epochs = record {
          some_epoch = ok.epochs.some_epoch;
          losses = ok.epochs.losses;
          loss_workers = λ k d within. rw sized (ok.epochs.loss_workers k d within);
          loss_limit = ok.epochs.loss_limit;
          room = rw (sized, counted) ok.epochs.room;
        };
        rounds = rounds_tasked hub.members i task.Nothing ok.rounds;
        rounds_left = λ j e r us is. (let apart : j ≢ i = no_more b j (Step e r us) is in
            rw (round_tasked hub.members i task.Nothing j) (ok.rounds_left j e r us (sym (told_other b j apart) ∙ is)));
        reports = told_reports b current;
      }

-- ---- an answer is taken

-- the members after a Step are those of the hub after it, current or not
stepped_members : (m : MembersState) (i epoch : ℕ) (changed b : Bool) → (epoch == m.epoch) ≡ b → with_stepped m i epoch changed ≡ with_member m i (stepped_worker b (member_at m i) changed)
stepped_members m i epoch changed true is = rw is refl
stepped_members m i epoch changed false is = rw is refl

pub stepped_is : (hub : HubState) (i epoch round : ℕ) (changed : Bool) (updates : List Update) (b : Bool) → (epoch == hub.members.epoch) ≡ b →
    absorption hub i (Stepped epoch round changed updates) ≡ stepped_hub b hub i changed updates
stepped_is hub i epoch round changed updates b is = rw is refl

pub reported_is : (hub : HubState) (i epoch : ℕ) (values : List ℕ) (b : Bool) → (epoch == hub.members.epoch) ≡ b → absorption hub i (Reported epoch values) ≡ reported_hub b hub i values
reported_is hub i epoch values b is = rw is refl

pub took_in_step : (hub : HubState) (i : ℕ) (order : Order) (answer : Answer) → IsHubInStep hub → i < worker_count hub → order_at hub i ≡ Some order → foreign_of hub.inboxes i order answer ≡ None → AnswersValues answer →
    IsHubInStep (absorption hub i answer)
took_in_step hub i order (Stepped epoch round changed updates) ok inside had none values =
    let this = stepped_order order epoch round changed updates (right_answer hub.inboxes i order (Stepped epoch round changed updates) none).0 in
    rw (stepped_is hub i epoch round changed updates (epoch == hub.members.epoch) refl)
    (stepped_keeps hub i epoch round this.0 changed updates ok inside (had ∙ ap Some this.1) values (epoch == hub.members.epoch))
took_in_step hub i order (Reported epoch values) ok inside had none known =
    let this = reported_order order epoch values (right_answer hub.inboxes i order (Reported epoch values) none).0 in
    rw (reported_is hub i epoch values (epoch == hub.members.epoch) refl)
    (reported_keeps hub i epoch values ok inside (had ∙ ap Some this) known (epoch == hub.members.epoch) (λ same. eqb-true epoch hub.members.epoch same))
