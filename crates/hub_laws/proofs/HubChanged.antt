-- A loss, a join and a halt keep the book-keeping of the hub.
use Rattle.std.proofs.Common.{◌≡◌, ◌≢◌, ℕ, suc, ◌+◌, ◌-◌, ◌*◌, ◌<◌, ◌≤◌, Bool, true, false, cond, List, [], ◌∷◌, ◌++◌, Option, Some, None, length, map, get_or, arith, refl, sym, ap, subst, ◌∙◌, inl, inr}
use Rattle.std.specs.Prelude.{◌↔◌, IsTrue, is_none, nat_lt, if◌then◌else◌, filter}
use Rattle.std.proofs.lemmas.List.{get_or-set_same, get_or-set_other, length-set, length-map, length-replicate, length-append}
use Rattle.std.proofs.lemmas.List.Elements.{All-append, All-cons, All-nil}
use Rattle.std.proofs.lemmas.Bool.{cases_eq, cases_lt, ltb-true, ltb-false}
use Rattle.std.proofs.Math.ListN.{replicate}
use Rattle.std.proofs.Math.ListN as plain
use Rattle.std.proofs.Math.Nat.{suc-mul}
use Rattle.px_base.specs.declared.wire.Update.{Update}
use Rattle.px_base.specs.declared.wire.Order.{Order}
use Rattle.px_base.specs.declared.wire.Order.TheVariants.{Step, Report}
use Rattle.px_base.specs.declared.wire.Loss.{Loss}
use Rattle.px_base.specs.declared.wire.LossKind.{LossKind}
use Rattle.px_base.specs.Worlds.{updates_in}
use Rattle.px_base.proofs.Gathers.{least_below_start}
use Rattle.hub_terms.specs.declared.stops.Why.{Why}
use Rattle.hub_terms.specs.declared.stops.Why.TheVariants as why
use Rattle.hub_terms.specs.declared.stops.Halt.{Halt}
use Rattle.hub_terms.specs.declared.stops.Halt.TheVariants as halt
use Rattle.hub_terms.specs.declared.workers.MemberState.{MemberState}
use Rattle.hub_terms.specs.Members.{opening_member, live_count, live_rounds, due_member, missing_member, least_of}
use Rattle.hub_terms.specs.Inboxes.{inbox_at}
use Rattle.hub_terms.specs.Hubs.{HubState, worker_at, order_at, reported_at, worker_count, is_quiet_hub}
use Rattle.hub_terms.specs.HubEvents.{after_loss, after_join, after_halt, why_of}
use Rattle.hub_terms.specs.UnderWay.{task_of}
use Rattle.hub_terms.specs.HubInStep.{IsHubInStep, IsOrderOf, OrdersFit, TasksAgree, MissingHaveNothing, DueUnchanged, join_count, EpochsFit, RoundsFit, RoundsLeft}
use Rattle.list_laws.proofs.Lists.{at_set, at_replicate, counted_less, counted_more, counted_but_one, below_greatest, greatest_within}
use Rattle.hub_laws.proofs.Mail.{no_mail}
use Rattle.hub_laws.proofs.Workers.{mail_kept, stands_kept, order_kept, live_inside, idle_at}
use Rattle.hub_laws.proofs.HubGave.{stopped_in_step}

-- ---- a loss

map_count : (ms : List MemberState) → length (filter (λ (u : MemberState). u.live) (map due_member ms)) ≡ length (filter (λ (u : MemberState). u.live) ms)
map_count [] = refl
map_count (w ∷ ms) = by_first w.live (map_count ms)
  where
    by_first : (b : Bool) → length (filter (λ (u : MemberState). u.live) (map due_member ms)) ≡ length (filter (λ (u : MemberState). u.live) ms) →
        length (cond b (due_member w ∷ filter (λ (u : MemberState). u.live) (map due_member ms)) (filter (λ (u : MemberState). u.live) (map due_member ms)))
        ≡ length (cond b (w ∷ filter (λ (u : MemberState). u.live) ms) (filter (λ (u : MemberState). u.live) ms))
    by_first true h = ap suc h
    by_first false h = h

module _ (hub : HubState) (i : ℕ) (kind : LossKind) (ok : IsHubInStep hub) (inside : i < worker_count hub) (live : (worker_at hub i).live ≡ true) where
  abbrev lost : HubState
  lost = after_loss hub i kind

  lost_room : i < length (map due_member hub.members.members)
  lost_room = omega (arith, inside, ok.places.members, length-map hub.members.members due_member)

  due_at : (j : ℕ) → get_or (map due_member hub.members.members) j opening_member ≡ due_member (worker_at hub j)
  due_at j = plain.get_or-map due_member hub.members.members j opening_member

  pub lost_worker : worker_at lost i ≡ missing_member (worker_at hub i)
  lost_worker = get_or-set_same (map due_member hub.members.members) i (missing_member (worker_at hub i)) opening_member lost_room

  pub lost_other : (j : ℕ) → j ≢ i → worker_at lost j ≡ due_member (worker_at hub j)
  lost_other j apart = get_or-set_other (map due_member hub.members.members) i j (missing_member (worker_at hub i)) opening_member apart ∙ due_at j

  pub lost_order : order_at lost i ≡ None
  lost_order = let there : i < length hub.orders = omega (arith, inside, ok.places.orders) in get_or-set_same hub.orders i None None there

  pub lost_order_other : (j : ℕ) → j ≢ i → order_at lost j ≡ order_at hub j
  lost_order_other j apart = get_or-set_other hub.orders i j None None apart

  pub order_apart : (j : ℕ) (order : Order) → order_at lost j ≡ Some order → j ≢ i
  order_apart j order is e = cc (lost_order, subst (λ (k : ℕ). order_at lost k ≡ Some order) e is)

  pub lost_due : (j : ℕ) → (worker_at lost j).due ≡ true
  lost_due j = at_set (λ (j : ℕ) (u : MemberState). u.due ≡ true) (map due_member hub.members.members) i (missing_member (worker_at hub i)) opening_member lost_room refl (λ j apart. ap (λ (u : MemberState). u.due) (due_at j)) j

  lost_unchanged : (j : ℕ) → (worker_at lost j).changed ≡ false
  lost_unchanged j = at_set (λ (j : ℕ) (u : MemberState). u.changed ≡ false) (map due_member hub.members.members) i (missing_member (worker_at hub i)) opening_member lost_room refl (λ j apart. ap (λ (u : MemberState). u.changed) (due_at j)) j

  pub lost_round : (j : ℕ) → (worker_at lost j).round ≡ (worker_at hub j).round
  lost_round j = at_set (λ (j : ℕ) (u : MemberState). u.round ≡ (worker_at hub j).round) (map due_member hub.members.members) i (missing_member (worker_at hub i)) opening_member lost_room refl (λ j apart. ap (λ (u : MemberState). u.round) (due_at j)) j

  pub lost_live : (j : ℕ) → (worker_at lost j).live ≡ true → (j ≢ i) × ((worker_at hub j).live ≡ true)
  lost_live j is =
      let apart : j ≢ i = (λ e. cc (subst (λ (k : ℕ). (worker_at lost k).live ≡ true) e is, ap (λ (u : MemberState). u.live) lost_worker)) in
      (apart, sym (ap (λ (u : MemberState). u.live) (lost_other j apart)) ∙ is)

  pub lost_reported : (j : ℕ) → reported_at lost j ≡ None
  lost_reported j = at_replicate (length hub.reported) None j

  lost_count : live_count lost.members + 1 ≡ live_count hub.members
  lost_count = counted_less (λ (u : MemberState). u.live) (map due_member hub.members.members) i (missing_member (worker_at hub i)) opening_member lost_room (ap (λ (u : MemberState). u.live) (due_at i) ∙ live) refl
      ∙ map_count hub.members.members

  some_live : 1 ≤ live_count hub.members
  some_live = omega (arith, lost_count)

  joins_same : join_count lost.members ≡ join_count hub.members
  joins_same = omega (arith, lost_count, ok.epochs.some_epoch)

  lost_size : length lost.members.members ≡ length hub.members.members
  lost_size = length-set (map due_member hub.members.members) i (missing_member (worker_at hub i)) ∙ length-map hub.members.members due_member

  pub lost_orders : OrdersFit lost
  lost_orders j order is =
      let apart : j ≢ i = order_apart j order is in
      let old : IsOrderOf hub j order = ok.orders j order (sym (lost_order_other j apart) ∙ is) in
      record {
        stands = stands_kept (worker_at hub j) (worker_at lost j) order (lost_round j) old.stands;
        some_epoch = old.some_epoch;
        not_later = omega (arith, old.not_later);
        current = λ current. absurd (cc (current, lost_due j));
        mail = mail_kept hub.inboxes (replicate (length hub.inboxes.boxes) []) j (updates_in order) old.mail;
      }

  lost_tasks : TasksAgree lost
  lost_tasks j = elim (cases_eq j i) [
    | inl same ↦ subst (λ (k : ℕ). (worker_at lost k).task ≡ task_of (order_at lost k)) (sym same) (ap (λ (u : MemberState). u.task) lost_worker ∙ ap task_of (sym lost_order))
    | inr apart ↦ ap (λ (u : MemberState). u.task) (lost_other j apart) ∙ (ok.tasks j ∙ ap task_of (sym (lost_order_other j apart)))
  ]

  lost_missing : MissingHaveNothing lost
  lost_missing j missing = record {
    due = lost_due j;
    order = elim (cases_eq j i) [
      | inl same ↦ ap (order_at lost) same ∙ lost_order
      | inr apart ↦ lost_order_other j apart ∙ (ok.missing j (sym (ap (λ (u : MemberState). u.live) (lost_other j apart)) ∙ missing)).order
    ];
    reported = lost_reported j;
  }

  lost_left : RoundsLeft lost
  lost_left j epoch round updates is = rw (lost_round j) (ok.rounds_left j epoch round updates (sym (lost_order_other j (order_apart j (Step epoch round updates) is)) ∙ is))

  abbrev noted : List Loss → List Loss
  noted losses = losses ++ record { worker = i; epoch = hub.members.epoch; kind = kind } ∷ []

  lost_epochs : (h : Option Why) → hub.halt ≡ h → EpochsFit (record lost {
    halt = elim h [ Some reason ↦ Some reason | None ↦ if nat_lt hub.members.limits.losses (length hub.members.losses + 1) then Some why.TooManyLosses else None ];
    members = record lost.members { losses = if is_none h then noted hub.members.losses else hub.members.losses };
  })
  lost_epochs (Some reason) kept = record {
    some_epoch = omega arith;
    losses = λ none. absurd (cc none);
    loss_workers = λ k d within. rw lost_size (ok.epochs.loss_workers k d within);
    loss_limit = (λ over. sym kept ∙ ok.epochs.loss_limit.0 over, λ is. ok.epochs.loss_limit.1 (kept ∙ is));
    room = omega (arith, ok.epochs.room, lost_count, lost_size);
  }
  lost_epochs None kept = by_limit (nat_lt hub.members.limits.losses (length hub.members.losses + 1)) refl
    where
      sized : length (noted hub.members.losses) ≡ length hub.members.losses + 1
      sized = length-append hub.members.losses (record { worker = i; epoch = hub.members.epoch; kind = kind } ∷ [])

      by_limit : (b : Bool) → nat_lt hub.members.limits.losses (length hub.members.losses + 1) ≡ b →
          EpochsFit (record lost { halt = if b then Some why.TooManyLosses else None; members = record lost.members { losses = noted hub.members.losses } })
      by_limit b is = record {
        some_epoch = omega arith;
        losses = λ none. rw sized (ap (λ (e : ℕ). e + 1) (ok.epochs.losses kept));
        loss_workers = All-append (λ (loss : Loss). loss.worker < length lost.members.members) hub.members.losses (record { worker = i; epoch = hub.members.epoch; kind = kind } ∷ [])
            (λ k d within. rw lost_size (ok.epochs.loss_workers k d within))
            (All-cons (λ (loss : Loss). loss.worker < length lost.members.members) (record { worker = i; epoch = hub.members.epoch; kind = kind }) []
            (omega (arith, inside, ok.places.members, lost_size)) (All-nil (λ (loss : Loss). loss.worker < length lost.members.members)));
        loss_limit = by_over b is;
        room = omega (arith, ok.epochs.room, lost_count, lost_size);
      }
        where
          by_over : (b : Bool) → nat_lt hub.members.limits.losses (length hub.members.losses + 1) ≡ b → (hub.members.limits.losses < length (noted hub.members.losses)) ↔ ((if b then Some why.TooManyLosses else None) ≡ Some why.TooManyLosses)
          by_over true is = (λ over. refl, λ same. rw sized (ltb-true hub.members.limits.losses (length hub.members.losses + 1) is))
          by_over false is = (λ over. absurd (omega (arith, over, sized, ltb-false hub.members.limits.losses (length hub.members.losses + 1) is)), λ same. absurd (cc same))

  pub lost_in_step : IsHubInStep lost
  lost_in_step = record {
    limits = ok.limits;
    places = record {
      members = lost_size ∙ ok.places.members;
      boxes = length-replicate (length hub.inboxes.boxes) [] ∙ ok.places.boxes;
      orders = length-set hub.orders i None ∙ ok.places.orders;
      reported = length-replicate (length hub.reported) None ∙ ok.places.reported;
    };
    inboxes = λ j. mail_kept hub.inboxes (replicate (length hub.inboxes.boxes) []) j (inbox_at lost.inboxes j) (rw (at_replicate {X = List Update} (length hub.inboxes.boxes) [] j) (no_mail hub.inboxes j));
    orders = lost_orders;
    tasks = lost_tasks;
    missing = lost_missing;
    unchanged = λ j due. lost_unchanged j;
    epochs = lost_epochs hub.halt refl;
    rounds = record {
      most = λ j is. rw (lost_round j) (ok.rounds.most j (lost_live j is).1);
      base_room = rw joins_same ok.rounds.base_room;
      room = λ j is. rw (lost_round j, joins_same) (ok.rounds.room j (lost_live j is).1);
    };
    rounds_left = lost_left;
    reports = record {
      idle = λ j values is. absurd (cc (is, lost_reported j));
      quiet = λ j values is. absurd (cc (is, lost_reported j));
      asked = λ j is. absurd (too_old j is);
      values = λ j values is. absurd (cc (is, lost_reported j));
    };
  }
    where
      too_old : (j : ℕ) → order_at lost j ≡ Some (Report lost.members.epoch) → ⊥
      too_old j is =
          let apart : j ≢ i = order_apart j (Report lost.members.epoch) is in
          let old : lost.members.epoch ≤ hub.members.epoch = (ok.orders j (Report lost.members.epoch) (sym (lost_order_other j apart) ∙ is)).not_later in
          omega (arith, old)

-- ---- a join

least_within : (f : MemberState → ℕ) (p : MemberState → Bool) (most : ℕ) (ms : List MemberState) (d : MemberState) → ((j : ℕ) → j < length ms → p (get_or ms j d) ≡ true → f (get_or ms j d) ≤ most) →
    least_of (map f (filter p ms)) ≤ most
least_within f p most [] d each = omega arith
least_within f p most (w ∷ ms) d each = by_first (p w) refl (least_within f p most ms d (λ j within. each (suc j) (omega arith)))
  where
    by_first : (b : Bool) → p w ≡ b → least_of (map f (filter p ms)) ≤ most → least_of (map f (cond b (w ∷ filter p ms) (filter p ms))) ≤ most
    by_first true is rest = let low : f w ≤ most = each 0 (omega arith) is in omega (arith, low, least_below_start (f w) (map f (filter p ms)))
    by_first false is rest = rest

module _ (hub : HubState) (i : ℕ) (ok : IsHubInStep hub) (inside : i < worker_count hub) (missing : (worker_at hub i).live ≡ false) (free : hub.halt ≡ None) where
  abbrev joined : HubState
  joined = after_join hub i

  abbrev newcomer : MemberState
  newcomer = record (worker_at hub i) { live = true; due = true; round = least_of (live_rounds hub.members) }

  joined_room : i < length hub.members.members
  joined_room = omega (arith, inside, ok.places.members)

  pub joined_worker : worker_at joined i ≡ newcomer
  joined_worker = get_or-set_same hub.members.members i newcomer opening_member joined_room

  pub joined_other : (j : ℕ) → j ≢ i → worker_at joined j ≡ worker_at hub j
  joined_other j apart = get_or-set_other hub.members.members i j newcomer opening_member apart

  abbrev is_live : MemberState → Bool
  is_live u = u.live

  abbrev round_of : MemberState → ℕ
  round_of u = u.round

  joined_count : live_count joined.members ≡ live_count hub.members + 1
  joined_count = counted_more is_live hub.members.members i newcomer opening_member joined_room missing refl

  joined_size : length joined.members.members ≡ length hub.members.members
  joined_size = length-set hub.members.members i newcomer

  -- each live round is at most the base
  pub at_most_base : (j : ℕ) → (worker_at joined j).live ≡ true → (worker_at joined j).round ≤ joined.members.base
  at_most_base j live = (below_greatest is_live round_of joined.members.members 0 j opening_member (live_inside joined.members j live) live).1

  abbrev before : ℕ
  before = join_count hub.members * hub.members.limits.rounds

  newcomer_low : newcomer.round ≤ before
  newcomer_low = least_within round_of is_live before hub.members.members opening_member (λ j within live. ok.rounds.room j live)

  base_low : joined.members.base ≤ before
  base_low = greatest_within is_live round_of before joined.members.members 0 opening_member (omega arith) (λ j within live. elim (cases_eq j i) [
    | inl same ↦ rw (same, joined_worker) newcomer_low
    | inr apart ↦ rw (joined_other j apart) (ok.rounds.room j (sym (ap is_live (joined_other j apart)) ∙ live))
  ])

  joins_more : join_count joined.members ≡ join_count hub.members + 1
  joins_more = omega (arith, joined_count)

  more_room : before ≤ join_count joined.members * hub.members.limits.rounds
  more_room =
      let product : suc (join_count hub.members) * hub.members.limits.rounds ≡ before + hub.members.limits.rounds = suc-mul (join_count hub.members) hub.members.limits.rounds in
      let one : join_count joined.members ≡ suc (join_count hub.members) = omega (arith, joins_more) in
      rw (one, product) (omega arith)

  joined_rounds : RoundsFit joined.members
  joined_rounds = record {
    most = λ j live. omega (arith, at_most_base j live);
    base_room = (let one : join_count joined.members - 1 ≡ join_count hub.members = omega (arith, joins_more) in rw one base_low);
    room = λ j live. omega (arith, at_most_base j live, base_low, more_room);
  }

  -- a worker with an order was live, and isn't the newcomer
  pub ordered_apart : (j : ℕ) (order : Order) → order_at hub j ≡ Some order → (j ≢ i) × ((worker_at hub j).live ≡ true)
  ordered_apart j order is = (λ e. cc (subst (λ (k : ℕ). order_at hub k ≡ Some order) e is, (ok.missing i missing).order), by_live (worker_at hub j).live refl)
    where
      by_live : (b : Bool) → (worker_at hub j).live ≡ b → (worker_at hub j).live ≡ true
      by_live true live = live
      by_live false live = absurd (cc (is, (ok.missing j live).order))

  joined_left : RoundsLeft joined
  joined_left j epoch round updates is =
      let was = ordered_apart j (Step epoch round updates) is in
      omega (arith, at_most_base j (ap is_live (joined_other j was.0) ∙ was.1), ok.limits.rounds.0)

  joined_orders : OrdersFit joined
  joined_orders j order is =
      let same = joined_other j (ordered_apart j order is).0 in
      order_kept hub joined j order (ap round_of same) (ap (λ (u : MemberState). u.due) same) refl (λ mail. mail) (ok.orders j order is)

  joined_tasks : TasksAgree joined
  joined_tasks j = elim (cases_eq j i) [
    | inl same ↦ subst (λ (k : ℕ). (worker_at joined k).task ≡ task_of (order_at joined k)) (sym same) (ap (λ (u : MemberState). u.task) joined_worker ∙ ok.tasks i)
    | inr apart ↦ ap (λ (u : MemberState). u.task) (joined_other j apart) ∙ ok.tasks j
  ]

  joined_missing : MissingHaveNothing joined
  joined_missing j gone =
      let apart : j ≢ i = (λ e. cc (subst (λ (k : ℕ). (worker_at joined k).live ≡ false) e gone, ap is_live joined_worker)) in
      let old = ok.missing j (sym (ap is_live (joined_other j apart)) ∙ gone) in
      record { due = ap (λ (u : MemberState). u.due) (joined_other j apart) ∙ old.due; order = old.order; reported = old.reported }

  joined_unchanged : DueUnchanged joined.members
  joined_unchanged j due = elim (cases_eq j i) [
    | inl same ↦ subst (λ (k : ℕ). (worker_at joined k).changed ≡ false) (sym same) (ap (λ (u : MemberState). u.changed) joined_worker ∙ ok.unchanged i (ok.missing i missing).due)
    | inr apart ↦ ap (λ (u : MemberState). u.changed) (joined_other j apart) ∙ ok.unchanged j (sym (ap (λ (u : MemberState). u.due) (joined_other j apart)) ∙ due)
  ]

  few_losses : length hub.members.losses ≤ hub.members.limits.losses
  few_losses = elim (cases_lt hub.members.limits.losses (length hub.members.losses)) [
    | inl over ↦ absurd (none_over (ok.epochs.loss_limit.0 over))
    | inr few ↦ few
  ]
    where
      none_over : hub.halt ≡ Some why.TooManyLosses → ⊥
      none_over h = cc (h, free)

  not_quiet : IsTrue (is_quiet_hub hub) → ⊥
  not_quiet quiet = cc ((idle_at hub i quiet joined_room).live, missing)

  pub joined_in_step : IsHubInStep joined
  joined_in_step = record {
    limits = ok.limits;
    places = record { members = joined_size ∙ ok.places.members; boxes = ok.places.boxes; orders = ok.places.orders; reported = ok.places.reported };
    inboxes = ok.inboxes;
    orders = joined_orders;
    tasks = joined_tasks;
    missing = joined_missing;
    unchanged = joined_unchanged;
    epochs = record {
      some_epoch = ok.epochs.some_epoch;
      losses = ok.epochs.losses;
      loss_workers = λ k d within. rw joined_size (ok.epochs.loss_workers k d within);
      loss_limit = ok.epochs.loss_limit;
      room = omega (arith, joined_count, joined_size, few_losses, ok.epochs.losses free, counted_but_one is_live hub.members.members i opening_member joined_room missing);
    };
    rounds = joined_rounds;
    rounds_left = joined_left;
    reports = record {
      idle = ok.reports.idle;
      quiet = λ j values is. absurd (not_quiet (ok.reports.quiet j values is));
      asked = λ j is. absurd (not_quiet (ok.reports.asked j is));
      values = ok.reports.values;
    };
  }

-- ---- a halt

pub halted_in_step : (hub : HubState) (i : ℕ) (reason : Halt) → IsHubInStep hub → IsHubInStep (after_halt hub i reason)
halted_in_step hub i reason ok = by_halt hub.halt refl
  where
    other_reason : (reason : Halt) → why_of reason i ≢ why.TooManyLosses
    other_reason halt.NoReplacement e = cc e
    other_reason halt.Memory e = cc e

    by_halt : (h : Option Why) → hub.halt ≡ h → IsHubInStep (elim h [ Some first ↦ hub | None ↦ record hub { halt = Some (why_of reason i) } ])
    by_halt (Some first) kept = ok
    by_halt None free = stopped_in_step hub (why_of reason i) ok (inr (free, other_reason reason))
