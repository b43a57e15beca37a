-- An answer that is taken and an order that is given keep all that the hub keeps, and what the calls below ask for.
use Rattle.std.proofs.Common.{◌≡◌, ℕ, suc, ◌-◌, ◌^◌, ◌<◌, ◌≤◌, Bool, true, false, List, [], ◌∷◌, map, Option, Some, None, length, set, get_or, eqb-true, arith, refl, sym, ap, subst, ◌∙◌}
use Rattle.std.specs.Prelude.{◌==◌, All, MatchOption, ⊤, not, find, is_some, if◌then◌else◌}
use Rattle.std.specs.List.Sorted.{IsStrictlyIncreasing}
use Rattle.std.proofs.lemmas.List.{length-map, map-set, get_or-map}
use Rattle.px_base.specs.declared.TheConstants.{MOST_VERTICES}
use Rattle.px_base.specs.declared.wire.Foreign.{Foreign}
use Rattle.px_base.specs.declared.wire.Foreign.TheVariants as fault
use Rattle.px_base.specs.Parts.{part_count, low_of, high_of}
use Rattle.px_base.proofs.Listed.{rises_from_zero}
use Rattle.partitioner.specs.Cuts.{vertex_count}
use Rattle.px_base.specs.declared.wire.Update.{Update}
use Rattle.px_base.specs.declared.wire.Order.{Order}
use Rattle.px_base.specs.declared.wire.Order.TheVariants.{Step, Report}
use Rattle.px_base.specs.declared.wire.Answer.{Answer}
use Rattle.px_base.specs.declared.wire.Answer.TheVariants.{Stepped, Reported}
use Rattle.px_base.specs.declared.wire.Header.{Header}
use Rattle.hub_terms.specs.declared.tasks.Task.TheVariants as task
use Rattle.hub_terms.specs.Inboxes.{InboxesState}
use Rattle.hub_terms.specs.Hubs.{HubState, Turn, work, worker_count, worker_at, order_at, waiting_at, turn_of, after_turn, with_order}
use Rattle.hub_terms.specs.HubEvents.{order_header, foreign_of, absorption, may_send, master_count}
use Rattle.hub_terms.specs.HubInStep.{IsHubInStep}
use Rattle.hub_terms.specs.Systems.{HasOrder, AnswersValues}
use Rattle.hub_laws.proofs.HubGave.{gave_in_step}
use Rattle.hub_laws.proofs.HubTook.{took_in_step, right_answer, stepped_order, reported_order}
use Rattle.recovery.specs.Givens.{IsGiven}
use Rattle.recovery.specs.Keeping.{IsHub, IsKept, IsCutGraph, AreInboxesOf, bare, fault_of, header_of, headers_of, flags_of}
use Rattle.recovery.specs.Reports.{HoldsReports, overwritten}
use Rattle.recovery.proofs.Reported.{one_held}
use Rattle.recovery.proofs.Sent.{all_pass, may_send_below, addressed_below}

by_flag : {X : Type 0} (P : X → Type 0) (b : Bool) (x y : X) → P x → P y → P (if b then x else y)
by_flag P true x y p q = p
by_flag P false x y p q = q

-- ---- one answer

-- an answer that is right, of a worker with an order
pub record IsAnswered (hub : HubState) (i : ℕ) (answer : Answer) : Type 0 where
  pub inside : i < worker_count hub
  pub order : Order
  pub had : order_at hub i ≡ Some order
  pub right : foreign_of hub.inboxes i order answer ≡ None
  pub values : AnswersValues answer

pub answered : (hub now : HubState) → hub ≡ now → (i : ℕ) (answer given : Answer) → answer ≡ given → i < worker_count now → HasOrder now i → AnswersValues answer →
    ((order : Order) → order_at now i ≡ Some order → foreign_of now.inboxes i order answer ≡ None) → IsAnswered hub i given
answered hub now same i answer given is inside asked values right =
    subst (λ (h : HubState). IsAnswered h i given) (sym same) (subst (λ (a : Answer). IsAnswered now i a) is (by_order (order_at now i) refl asked))
  where
    by_order : (o : Option Order) → order_at now i ≡ o → MatchOption o ⊥ (λ order. ⊤) → IsAnswered now i answer
    by_order None had asked = absurd asked
    by_order (Some order) had asked = record { inside = inside; order = order; had = had; right = right order had; values = values }

-- what is wrong with it doesn't depend on what waits
same_fault : (t : InboxesState) (i : ℕ) (order : Order) (answer : Answer) → fault_of (bare t.cuts t.routes t.counting) i (order_header order) answer ≡ foreign_of t i order answer
same_fault t i order (Stepped epoch round changed updates) = refl
same_fault t i order (Reported epoch values) = refl

-- updates by rising vertex are no more than there are vertices
few_pairs : (us : List Update) → IsStrictlyIncreasing (map (λ u. u.vertex) us) → All (λ u. u.vertex < MOST_VERTICES) us → length us ≤ MOST_VERTICES
few_pairs [] rising below = omega arith
few_pairs (u ∷ us) rising below =
    let vs : List ℕ = map (λ w. w.vertex) (u ∷ us) in
    let size : length vs ≡ suc (length us) = length-map (u ∷ us) (λ w. w.vertex) in
    let last : length us ≤ get_or vs (length us) 0 = rises_from_zero vs rising (length us) (omega (arith, size)) in
    let is : get_or vs (length us) 0 ≡ (get_or (u ∷ us) (length us) u).vertex = get_or-map (λ w. w.vertex) (u ∷ us) (length us) u 0 (omega arith) in
    omega (arith, last, is, below (length us) u (omega arith))

module _ (ends : List ℕ) (to : List (List ℕ)) (counts : Bool) (headers : List (Option Header)) (flags : List Bool) (values : List ℕ) (hub : HubState) (all : IsHub ends to counts headers flags values hub) where
  kept_like : (new : HubState) (hs : List (Option Header)) (fs : List Bool) (vs : List ℕ) → new.inboxes.cuts ≡ hub.inboxes.cuts → new.inboxes.routes ≡ hub.inboxes.routes → new.inboxes.counting ≡ hub.inboxes.counting →
      hs ≡ headers_of new.orders → fs ≡ flags_of new.reported → HoldsReports ends new.reported vs → IsKept ends to counts hs fs vs new
  kept_like new hs fs vs a b c h f held = record { cuts = a ∙ all.kept.cuts; routes = b ∙ all.kept.routes; counting = c ∙ all.kept.counting; graph = all.kept.graph; headed = h; flagged = f; held = held }

  headers_set : (i : ℕ) (o : Option Order) → set headers i (header_of o) ≡ headers_of (set hub.orders i o)
  headers_set i o = ap (λ hs. set hs i (header_of o)) all.kept.headed ∙ sym (map-set header_of hub.orders i o)

  -- ---- what an answer is asked for

  -- the header that is kept is that of the order
  pub header_at : (i : ℕ) (order : Order) → order_at hub i ≡ Some order → i < worker_count hub → get_or headers i None ≡ Some (order_header order)
  header_at i order had inside = ap (λ hs. get_or hs i None) all.kept.headed ∙ get_or-map header_of hub.orders i None None (omega (arith, inside, all.in_step.places.orders)) ∙ ap header_of had

  pub fault_is : (i : ℕ) (order : Order) (answer : Answer) → fault_of (bare ends to counts) i (order_header order) answer ≡ foreign_of hub.inboxes i order answer
  fault_is i order answer =
      rw (sym all.kept.cuts, sym all.kept.routes, sym all.kept.counting) (same_fault hub.inboxes i order answer)

  pub graph_is : IsCutGraph hub.inboxes.cuts hub.inboxes.routes
  graph_is = rw (all.kept.cuts, all.kept.routes) all.kept.graph

  pub inboxes_are : AreInboxesOf to counts hub.inboxes
  inboxes_are = record { graph = graph_is; routes = all.kept.routes; counting = all.kept.counting; size = all.in_step.places.boxes }

  -- a worker that answers a Step had one, and may send what it sends
  pub asked_step : (i epoch round : ℕ) (changed : Bool) (updates : List Update) → IsAnswered hub i (Stepped epoch round changed updates) → (worker_at hub i).task ≡ task.Step
  asked_step i epoch round changed updates this =
      let step = stepped_order this.order epoch round changed updates (right_answer hub.inboxes i this.order (Stepped epoch round changed updates) this.right).0 in
      rw (this.had, step.1) at (all.in_step.tasks i)

  pub sent_below : (i epoch round : ℕ) (changed : Bool) (updates : List Update) → IsAnswered hub i (Stepped epoch round changed updates) → All (λ u. u.vertex < vertex_count hub.inboxes.cuts) updates
  sent_below i epoch round changed updates this =
      let may = all_pass (λ (u : Update). may_send hub.inboxes i u.vertex) updates (none_found (find (λ (u : Update). not (may_send hub.inboxes i u.vertex)) updates)
      (right_answer hub.inboxes i this.order (Stepped epoch round changed updates) this.right).1) in
      λ k d below. may_send_below hub.inboxes i (get_or updates k d).vertex graph_is this.inside (may k d below)
    where
      none_found : (o : Option Update) → ◌≡◌ {A = Option Foreign} (elim o [ None ↦ None | Some u ↦ Some (fault.Vertex u.vertex) ]) None → o ≡ None
      none_found None h = refl
      none_found (Some u) h = cc

  -- a worker that answers a Report had one, and reports as many values as it has masters
  pub asked_report : (i epoch : ℕ) (xs : List ℕ) → IsAnswered hub i (Reported epoch xs) → (worker_at hub i).task ≡ task.Report
  asked_report i epoch xs this =
      let report = reported_order this.order epoch xs (right_answer hub.inboxes i this.order (Reported epoch xs) this.right).0 in
      rw (this.had, report) at (all.in_step.tasks i)

  pub reported_size : (i epoch : ℕ) (xs : List ℕ) → IsAnswered hub i (Reported epoch xs) → length xs ≡ high_of ends i - low_of ends i
  reported_size i epoch xs this = rw all.kept.cuts at (by_test (length xs == master_count hub.inboxes i) refl (right_answer hub.inboxes i this.order (Reported epoch xs) this.right).1)
    where
      by_test : (b : Bool) → (length xs == master_count hub.inboxes i) ≡ b → ◌≡◌ {A = Option Foreign} (if b then None else Some (fault.Short (master_count hub.inboxes i) (length xs))) None → length xs ≡ master_count hub.inboxes i
      by_test true is h = eqb-true (length xs) (master_count hub.inboxes i) is
      by_test false is h = cc

  -- ---- an answer is taken

  pub stepped_kept : (i epoch round : ℕ) (changed : Bool) (updates : List Update) → IsAnswered hub i (Stepped epoch round changed updates) →
      IsHub ends to counts (set headers i None) flags values (absorption hub i (Stepped epoch round changed updates))
  stepped_kept i epoch round changed updates this = let new = absorption hub i (Stepped epoch round changed updates) in record {
    kept = kept_like new (set headers i None) flags values
        (by_flag (λ (t : InboxesState). t.cuts ≡ hub.inboxes.cuts) (epoch == hub.members.epoch) _ _ refl refl)
        (by_flag (λ (t : InboxesState). t.routes ≡ hub.inboxes.routes) (epoch == hub.members.epoch) _ _ refl refl)
        (by_flag (λ (t : InboxesState). t.counting ≡ hub.inboxes.counting) (epoch == hub.members.epoch) _ _ refl refl)
        (headers_set i None) all.kept.flagged all.kept.held;
    in_step = took_in_step hub i this.order (Stepped epoch round changed updates) all.in_step this.inside this.had this.right this.values;
  }

  pub reported_kept : (i epoch : ℕ) (xs : List ℕ) → IsAnswered hub i (Reported epoch xs) →
      IsHub ends to counts (set headers i None) (if epoch == hub.members.epoch then set flags i true else flags)
      (if epoch == hub.members.epoch then overwritten values (low_of ends i) (high_of ends i) xs else values) (absorption hub i (Reported epoch xs))
  reported_kept i epoch xs this = record {
    kept = kept_like (absorption hub i (Reported epoch xs)) (set headers i None) (if epoch == hub.members.epoch then set flags i true else flags)
        (if epoch == hub.members.epoch then overwritten values (low_of ends i) (high_of ends i) xs else values)
        refl refl refl (headers_set i None) (by_epoch (epoch == hub.members.epoch)) (held_by (epoch == hub.members.epoch));
    in_step = took_in_step hub i this.order (Reported epoch xs) all.in_step this.inside this.had this.right this.values;
  }
    where
      by_epoch : (b : Bool) → (if b then set flags i true else flags) ≡ flags_of (if b then set hub.reported i (Some xs) else hub.reported)
      by_epoch true = ap (λ fs. set fs i true) all.kept.flagged ∙ sym (map-set is_some hub.reported i (Some xs))
      by_epoch false = all.kept.flagged

      parts : part_count hub.inboxes.cuts ≡ part_count ends
      parts = ap part_count all.kept.cuts

      held_by : (b : Bool) → HoldsReports ends (if b then set hub.reported i (Some xs) else hub.reported) (if b then overwritten values (low_of ends i) (high_of ends i) xs else values)
      held_by true = one_held ends (vertex_count ends) all.kept.graph.cut.cut values xs i (omega (arith, this.inside, parts)) all.kept.held.size (reported_size i epoch xs this) hub.reported
          (all.in_step.places.reported ∙ parts) refl all.kept.held
      held_by false = all.kept.held

  -- ---- an order is given

  pub given_kept : (i : ℕ) (order : Order) → turn_of hub i ≡ work order → i < worker_count hub → (worker_at hub i).live ≡ true → order_at hub i ≡ None →
      IsHub ends to counts (set headers i (Some (order_header order))) flags values (with_order hub i order)
  given_kept i order is inside live idle = record {
    kept = by_order order;
    in_step = with_order_in_step i order is inside live idle;
  }
    where
      by_order : (o : Order) → IsKept ends to counts (set headers i (Some (order_header o))) flags values (with_order hub i o)
      by_order (Step epoch round updates) = kept_like (with_order hub i (Step epoch round updates)) _ flags values refl refl refl (headers_set i (Some (Step epoch round updates))) all.kept.flagged all.kept.held
      by_order (Report epoch) = kept_like (with_order hub i (Report epoch)) _ flags values refl refl refl (headers_set i (Some (Report epoch))) all.kept.flagged all.kept.held

      with_order_in_step : (i : ℕ) (order : Order) → turn_of hub i ≡ work order → i < worker_count hub → (worker_at hub i).live ≡ true → order_at hub i ≡ None → IsHubInStep (with_order hub i order)
      with_order_in_step i order is inside live idle = subst (λ (turn : Turn). IsHubInStep (after_turn hub i turn)) is (gave_in_step hub i all.in_step inside live idle)

  -- a Step with the mail of a worker has a frame
  pub mail_given : (i epoch round : ℕ) → i < worker_count hub → epoch < 2 ^ 32 → round < 2 ^ 64 → IsGiven (Step epoch round (waiting_at hub i))
  mail_given i epoch round inside some few =
      let mail = all.in_step.inboxes i in
      let below : All (λ u. u.vertex < MOST_VERTICES) (waiting_at hub i) = λ k d low. omega (arith, addressed_below hub.inboxes i (get_or (waiting_at hub i) k d).vertex graph_is inside (mail.addressed k d low), graph_is.few) in
      (some, few, few_pairs (waiting_at hub i) mail.rising below, record { rising = mail.rising; each = λ k d low. (below k d low, mail.values k d low) })
