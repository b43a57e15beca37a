-- Each turn that isn't to wait leaves less that may still happen.
use Rattle.std.proofs.Common.{◌≡◌, ℕ, suc, ◌+◌, ◌-◌, ◌*◌, ◌<◌, ◌≤◌, Bool, true, false, List, [], ◌∷◌, Option, Some, None, length, map, set, get_or, arith, refl, sym, ap, subst, ◌∙◌, eq-eqb}
use Rattle.std.specs.Prelude.{◌==◌, Ok, Result, sum_by, count_by, is_none, replicate, if◌then◌else◌}
use Rattle.std.proofs.lemmas.List.{length-set, length-map, length-replicate}
use Rattle.std.proofs.lemmas.List.Elements.{All-from_get_or}
use Rattle.std.proofs.lemmas.List.Sums.{sum_by-set, sum_by-cons, sum_by-le, count_by-le-length}
use Rattle.std.proofs.Math.ListN.{get_or-map}
use Rattle.std.proofs.Math.Seq.{map-set_same}
use Rattle.std.proofs.Math.Nat.{suc-mul, mul-le-mul_right}
use Rattle.px_base.specs.declared.wire.Answer.{Answer}
use Rattle.px_base.specs.declared.wire.Answer.TheVariants.{Stepped, Reported}
use Rattle.px_base.specs.declared.wire.Foreign.{Foreign}
use Rattle.px_base.specs.declared.wire.LossKind.{LossKind}
use Rattle.px_base.specs.declared.wire.Order.{Order}
use Rattle.px_base.specs.declared.wire.Order.TheVariants.{Step, Report}
use Rattle.px_base.specs.declared.wire.Update.{Update}
use Rattle.hub_terms.specs.declared.tasks.Task.{Task}
use Rattle.hub_terms.specs.declared.tasks.Task.TheVariants as task
use Rattle.hub_terms.specs.declared.workers.MemberState.{MemberState}
use Rattle.hub_terms.specs.Members.{MembersState, due_member, least_of, live_count, live_rounds, missing_member, opening_member, with_member}
use Rattle.hub_terms.specs.UnderWay.{order_epoch}
use Rattle.hub_terms.specs.Inboxes.{InboxesState, with_drained, with_updates}
use Rattle.hub_terms.specs.HubInStep.{IsHubInStep, join_count}
use Rattle.hub_terms.specs.Hubs.{HubState, after_turn, order_at, reported_at, work, worker_at, worker_count}
use Rattle.hub_terms.specs.HubEvents.{absorption, after_answer, after_join, after_loss, answer_taken, answer_to, foreign_of}
use Rattle.list_laws.proofs.Lists.{count_by_map, counted_less, counted_more}
use Rattle.hub_laws.proofs.HubTook.{reported_hub, reported_is, reported_order, right_answer, stepped_hub, stepped_is, stepped_order, stepped_worker}
use Rattle.driver_laws.specs.Turns.{joins_left, losses_left, most_joins, most_rounds, reports_left, rounds_left, rounds_of, work_left}

-- ---- numbers

less_rounds : (a a' b b' c c' d d' r r' p p' : ℕ) → a' ≡ a → b' ≡ b → c' ≡ c → d' ≡ d → r' + p' < r + p → a' * b' + c' * d' + r' + p' < a * b + c * d + r + p
less_rounds a a' b b' c c' d d' r r' p p' one two three four less = rw (one, two, three, four) (omega (arith, less))

same_all : (a a' b b' c c' d d' r r' p p' : ℕ) → a' ≡ a → b' ≡ b → c' ≡ c → d' ≡ d → r' ≡ r → p' ≡ p → a' * b' + c' * d' + r' + p' ≡ a * b + c * d + r + p
same_all a a' b b' c c' d d' r r' p p' one two three four five six = rw (one, two, three, four, five, six) refl

-- one loss fewer, and as many reports as there can be
less_losses : (a a' b b' c c' d d' r r' p p' : ℕ) → a' ≡ a → b' ≡ b → c ≡ suc c' → d' ≡ d → r' ≤ r → p' < d → a' * b' + c' * d' + r' + p' < a * b + c * d + r + p
less_losses a a' b b' c c' d d' r r' p p' one two three four fewer few = rw (one, two, three, four, suc-mul) (omega (arith, fewer, few))

-- one join fewer, and as many rounds as there can be
less_joins : (a a' b b' c c' d d' r r' p p' : ℕ) → a ≡ suc a' → b' ≡ b → c' ≡ c → d' ≡ d → r' < b → p' ≡ p → a' * b' + c' * d' + r' + p' < a * b + c * d + r + p
less_joins a a' b b' c c' d d' r r' p p' one two three four few same = rw (one, two, three, four, same, suc-mul) (omega (arith, few))

sum_mapped : {X Y : Type 0} (f : Y → ℕ) (g : X → Y) (xs : List X) → sum_by f (map g xs) ≡ sum_by (λ x. f (g x)) xs
sum_mapped f g [] = refl
sum_mapped f g (x ∷ xs) = omega (arith, sum_by-cons f (g x) (map g xs), sum_by-cons (λ x. f (g x)) x xs, sum_mapped f g xs)

map_twice : {X Y Z : Type 0} (f : Y → Z) (g : X → Y) (xs : List X) → map f (map g xs) ≡ map (λ x. f (g x)) xs
map_twice f g [] = refl
map_twice f g (x ∷ xs) = ap (λ (zs : List _). f (g x) ∷ zs) (map_twice f g xs)

-- ---- a worker is written that is as live as before

module _ (hub : HubState) (i : ℕ) (u : MemberState) (ok : IsHubInStep hub) (inside : i < worker_count hub) (live : u.live ≡ (worker_at hub i).live) where
  abbrev m : MembersState
  m = hub.members

  room : i < length m.members
  room = omega (arith, inside, ok.places.members)

  size_same : length (set m.members i u) ≡ length m.members
  size_same = length-set m.members i u

  count_same : live_count (with_member m i u) ≡ live_count m
  count_same = count_by_map (λ (w : MemberState). w.live) (set m.members i u) m.members (map-set_same (λ (w : MemberState). w.live) m.members i u opening_member live)

  abbrev written : InboxesState → List (Option Order) → List (Option (List ℕ)) → HubState
  written inboxes orders reports = record hub { members = with_member m i u; inboxes = inboxes; orders = orders; reported = reports }

  rounds_written : (inboxes : InboxesState) (orders : List (Option Order)) (reports : List (Option (List ℕ))) →
      rounds_left (written inboxes orders reports) + rounds_of m (worker_at hub i) ≡ rounds_left hub + rounds_of m u
  rounds_written inboxes orders reports = sum_by-set (rounds_of m) m.members i u opening_member room

  module _ (inboxes : InboxesState) (orders : List (Option Order)) (reports : List (Option (List ℕ))) where
    abbrev new : HubState
    new = written inboxes orders reports

    joins_same : joins_left new ≡ joins_left hub
    joins_same = rw (size_same, count_same) refl

    most_same : most_rounds new.members + 1 ≡ most_rounds m + 1
    most_same = rw size_same refl

    losses_same : losses_left new ≡ losses_left hub
    losses_same = rw size_same refl

    workers_same : length new.members.members + 1 ≡ length m.members + 1
    workers_same = rw size_same refl

    pub written_less : rounds_left new + reports_left new < rounds_left hub + reports_left hub → work_left new < work_left hub
    written_less less = less_rounds (joins_left hub) (joins_left new) (most_rounds m + 1) (most_rounds new.members + 1) (losses_left hub) (losses_left new) (length m.members + 1) (length new.members.members + 1)
        (rounds_left hub) (rounds_left new) (reports_left hub) (reports_left new) joins_same most_same losses_same workers_same less

    pub written_same : rounds_left new ≡ rounds_left hub → reports_left new ≡ reports_left hub → work_left new ≡ work_left hub
    written_same rounds reports' = same_all (joins_left hub) (joins_left new) (most_rounds m + 1) (most_rounds new.members + 1) (losses_left hub) (losses_left new) (length m.members + 1) (length new.members.members + 1)
        (rounds_left hub) (rounds_left new) (reports_left hub) (reports_left new) joins_same most_same losses_same workers_same rounds reports'

-- ---- an order

module _ (hub : HubState) (i : ℕ) (ok : IsHubInStep hub) (inside : i < worker_count hub) where
  abbrev asked : Task → MemberState
  asked t = record (worker_at hub i) { task = t }

  tasked_same : (t : Task) (inboxes : InboxesState) (orders : List (Option Order)) → work_left (written hub i (asked t) ok inside refl inboxes orders hub.reported) ≡ work_left hub
  tasked_same t inboxes orders = written_same hub i (asked t) ok inside refl inboxes orders hub.reported (omega (arith, rounds_written hub i (asked t) ok inside refl inboxes orders hub.reported)) refl

  -- an order that is given changes nothing of it
  pub order_same_work : (order : Order) → work_left (after_turn hub i (work order)) ≡ work_left hub
  order_same_work (Step epoch round updates) = tasked_same task.Step (with_drained hub.inboxes i) (set hub.orders i (Some (Step epoch round updates)))
  order_same_work (Report epoch) = tasked_same task.Report hub.inboxes (set hub.orders i (Some (Report epoch)))

-- ---- an answer

module _ (hub : HubState) (i : ℕ) (ok : IsHubInStep hub) (inside : i < worker_count hub) where
  -- a worker with an order is live
  asked_live : (order : Order) → order_at hub i ≡ Some order → (worker_at hub i).live ≡ true
  asked_live order had = by_live (worker_at hub i).live refl
    where
      by_live : (b : Bool) → (worker_at hub i).live ≡ b → (worker_at hub i).live ≡ true
      by_live true is = is
      by_live false is = absurd (cc ((ok.missing i is).order, had))

  abbrev w : MemberState
  w = worker_at hub i

  -- a Step that is answered takes one round
  stepped_less : (epoch round : ℕ) (sent : List Update) (changed : Bool) (updates : List Update) → order_at hub i ≡ Some (Step epoch round sent) → (b : Bool) → work_left (stepped_hub b hub i changed updates) < work_left hub
  stepped_less epoch round sent changed updates had b =
      let u : MemberState = stepped_worker b w changed in
      written_less hub i u ok inside (live_same b) (if b then with_updates hub.inboxes updates else hub.inboxes) (set hub.orders i None) hub.reported
      (omega (arith, rounds_written hub i u ok inside (live_same b) (if b then with_updates hub.inboxes updates else hub.inboxes) (set hub.orders i None) hub.reported, one_less b))
    where
      live_same : (c : Bool) → (stepped_worker c w changed).live ≡ w.live
      live_same true = refl
      live_same false = refl

      round_is : (c : Bool) → (stepped_worker c w changed).round ≡ w.round + 1
      round_is true = refl
      round_is false = refl

      left : w.round < hub.members.base + hub.members.limits.rounds
      left = ok.rounds_left i epoch round sent had

      one_less : (c : Bool) → rounds_of hub.members (stepped_worker c w changed) + 1 ≡ rounds_of hub.members w
      one_less c = rw (live_same c, round_is c, asked_live (Step epoch round sent) had) (omega (arith, left))

  -- a Report of this epoch that is answered is one that was missing
  told_less : (seen : List ℕ) (epoch : ℕ) → order_at hub i ≡ Some (Report epoch) → work_left (reported_hub true hub i seen) < work_left hub
  told_less seen epoch had = written_less hub i (asked hub i ok inside task.Nothing) ok inside refl hub.inboxes (set hub.orders i None) (set hub.reported i (Some seen))
      (omega (arith, rounds_written hub i (asked hub i ok inside task.Nothing) ok inside refl hub.inboxes (set hub.orders i None) (set hub.reported i (Some seen)), one_less))
    where
      unreported : reported_at hub i ≡ None
      unreported = by_report (reported_at hub i) refl
        where
          by_report : (o : Option (List ℕ)) → reported_at hub i ≡ o → reported_at hub i ≡ None
          by_report None none = none
          by_report (Some values) is = absurd (cc (ok.reports.idle i values is, had))

      one_less : count_by is_none (set hub.reported i (Some seen)) + 1 ≡ count_by is_none hub.reported
      one_less = omega (arith, rw unreported at (sum_by-set (λ (o : Option (List ℕ)). if is_none o then 1 else 0) hub.reported i (Some seen) None (omega (arith, inside, ok.places.reported))))

  absorbed_less : (order : Order) (answer : Answer) → order_at hub i ≡ Some order → order_epoch order ≡ hub.members.epoch → foreign_of hub.inboxes i order answer ≡ None → work_left (absorption hub i answer) < work_left hub
  absorbed_less order (Stepped epoch round changed updates) had now none =
      let this = stepped_order order epoch round changed updates (right_answer hub.inboxes i order (Stepped epoch round changed updates) none).0 in
      subst (λ (h : HubState). work_left h < work_left hub) (sym (stepped_is hub i epoch round changed updates (epoch == hub.members.epoch) refl)) (stepped_less epoch round this.0 changed updates (had ∙ ap Some this.1) (epoch == hub.members.epoch))
  absorbed_less order (Reported epoch seen) had now none =
      let this = reported_order order epoch seen (right_answer hub.inboxes i order (Reported epoch seen) none).0 in
      let current : epoch ≡ hub.members.epoch = sym (ap order_epoch this) ∙ now in
      subst (λ (h : HubState). work_left h < work_left hub) (sym (reported_is hub i epoch seen true (eq-eqb epoch hub.members.epoch current))) (told_less seen epoch (had ∙ ap Some this))

  ok_same : (r : Result HubState Foreign) (a b : HubState) → r ≡ Ok a → r ≡ Ok b → a ≡ b
  ok_same r a b one two = cc

  -- an answer to an order of this epoch leaves less
  pub taken_less : (order : Order) (answer : Answer) (new : HubState) → order_at hub i ≡ Some order → order_epoch order ≡ hub.members.epoch → after_answer hub i answer ≡ Ok new → work_left new < work_left hub
  taken_less order answer new had now taken = by_foreign (foreign_of hub.inboxes i order answer) refl (ap (answer_to hub i answer) (sym had) ∙ taken)
    where
      by_foreign : (f : Option Foreign) → foreign_of hub.inboxes i order answer ≡ f → answer_taken hub i answer f ≡ Ok new → work_left new < work_left hub
      by_foreign None none is = subst (λ (h : HubState). work_left h < work_left hub) (ok_same (answer_taken hub i answer None) (absorption hub i answer) new refl is) (absorbed_less order answer had now none)
      by_foreign (Some foreign) some is = absurd (cc is)

-- ---- a loss

module _ (hub : HubState) (i : ℕ) (kind : LossKind) (ok : IsHubInStep hub) (inside : i < worker_count hub) (live : (worker_at hub i).live ≡ true) (still : IsHubInStep (after_loss hub i kind)) where
  abbrev lost : HubState
  lost = after_loss hub i kind

  abbrev ms : List MemberState
  ms = map due_member hub.members.members

  lost_room : i < length ms
  lost_room = omega (arith, inside, ok.places.members, length-map hub.members.members due_member)

  lost_size : length lost.members.members ≡ length hub.members.members
  lost_size = length-set ms i (missing_member (worker_at hub i)) ∙ length-map hub.members.members due_member

  due_at : get_or ms i opening_member ≡ due_member (worker_at hub i)
  due_at = get_or-map due_member hub.members.members i opening_member

  lost_count : live_count lost.members + 1 ≡ live_count hub.members
  lost_count = counted_less (λ (u : MemberState). u.live) ms i (missing_member (worker_at hub i)) opening_member lost_room (ap (λ (u : MemberState). u.live) due_at ∙ live) refl
      ∙ count_by_map (λ (u : MemberState). u.live) ms hub.members.members (map_twice (λ (u : MemberState). u.live) due_member hub.members.members)

  rounds_lost : rounds_left lost ≤ rounds_left hub
  rounds_lost = omega (arith, sum_by-set (rounds_of hub.members) ms i (missing_member (worker_at hub i)) opening_member lost_room, sum_mapped (rounds_of hub.members) due_member hub.members.members)

  reports_lost : reports_left lost < length hub.members.members + 1
  reports_lost = omega (arith, count_by-le-length {X = Option (List ℕ)} is_none (replicate (length hub.reported) None), length-replicate {A = Option (List ℕ)} (length hub.reported) None, ok.places.reported, ok.places.members)

  joins_lost : joins_left lost ≡ joins_left hub
  joins_lost = rw lost_size (omega (arith, lost_count, ok.epochs.some_epoch))

  losses_lost : losses_left hub ≡ suc (losses_left lost)
  losses_lost = rw lost_size (omega (arith, still.epochs.room, lost_size))

  pub lost_less : work_left lost < work_left hub
  lost_less = less_losses (joins_left hub) (joins_left lost) (most_rounds hub.members + 1) (most_rounds lost.members + 1) (losses_left hub) (losses_left lost) (length hub.members.members + 1) (length lost.members.members + 1)
      (rounds_left hub) (rounds_left lost) (reports_left hub) (reports_left lost) joins_lost (rw lost_size refl) losses_lost (rw lost_size refl) rounds_lost reports_lost

-- ---- a join

module _ (hub : HubState) (i : ℕ) (ok : IsHubInStep hub) (inside : i < worker_count hub) (missing : (worker_at hub i).live ≡ false) (still : IsHubInStep (after_join hub i)) where
  abbrev joined : HubState
  joined = after_join hub i

  abbrev newcomer : MemberState
  newcomer = record (worker_at hub i) { live = true; due = true; round = least_of (live_rounds hub.members) }

  joined_room : i < length hub.members.members
  joined_room = omega (arith, inside, ok.places.members)

  joined_size : length joined.members.members ≡ length hub.members.members
  joined_size = length-set hub.members.members i newcomer

  joined_count : live_count joined.members ≡ live_count hub.members + 1
  joined_count = counted_more (λ (u : MemberState). u.live) hub.members.members i newcomer opening_member joined_room missing refl

  abbrev most : ℕ
  most = most_joins joined.members

  some_join : 1 ≤ join_count joined.members
  some_join = omega (arith, joined_count)

  joins_within : join_count joined.members ≤ most
  joins_within = omega (arith, still.epochs.room, still.epochs.some_epoch)

  rounds_within : joined.members.base + hub.members.limits.rounds ≤ most * hub.members.limits.rounds
  rounds_within =
      let product : suc (join_count joined.members - 1) * hub.members.limits.rounds ≡ (join_count joined.members - 1) * hub.members.limits.rounds + hub.members.limits.rounds = suc-mul (join_count joined.members - 1) hub.members.limits.rounds in
      let one : suc (join_count joined.members - 1) ≡ join_count joined.members = omega (arith, some_join) in
      let whole : join_count joined.members * hub.members.limits.rounds ≡ (join_count joined.members - 1) * hub.members.limits.rounds + hub.members.limits.rounds = rw one at product in
      omega (arith, still.rounds.base_room, whole, mul-le-mul_right hub.members.limits.rounds joins_within)

  each_within : (u : MemberState) → rounds_of joined.members u ≤ most * hub.members.limits.rounds
  each_within u = by_live u.live
    where
      by_live : (b : Bool) → (if b then (joined.members.base + joined.members.limits.rounds) - u.round else 0) ≤ most * hub.members.limits.rounds
      by_live true = omega (arith, rounds_within)
      by_live false = omega arith

  rounds_joined : rounds_left joined < most_rounds hub.members + 1
  rounds_joined = let within : rounds_left joined ≤ length joined.members.members * (most * hub.members.limits.rounds) =
      sum_by-le (rounds_of joined.members) (most * hub.members.limits.rounds) joined.members.members (All-from_get_or (λ (u : MemberState). rounds_of joined.members u ≤ most * hub.members.limits.rounds) joined.members.members opening_member (λ j room'. each_within (get_or joined.members.members j opening_member))) in
      omega (arith, rw joined_size at within)

  joins_joined : joins_left hub ≡ suc (joins_left joined)
  joins_joined = omega (arith, joined_count, joined_size, joins_within, ok.epochs.some_epoch)

  pub joined_less : work_left joined < work_left hub
  joined_less = less_joins (joins_left hub) (joins_left joined) (most_rounds hub.members + 1) (most_rounds joined.members + 1) (losses_left hub) (losses_left joined) (length hub.members.members + 1) (length joined.members.members + 1)
      (rounds_left hub) (rounds_left joined) (reports_left hub) (reports_left joined) joins_joined (rw joined_size refl) (rw joined_size refl) (rw joined_size refl) rounds_joined refl
