-- Every event keeps live workers near to each other.
use Rattle.std.proofs.Common.{◌≡◌, ◌≢◌, ℕ, zero, suc, ◌+◌, ◌-◌, ◌<◌, ◌≤◌, Bool, true, false, cond, List, [], ◌∷◌, Option, Some, None, length, map, get_or, set, arith, refl, sym, ap, subst, ◌∙◌, inl, inr}
use Rattle.std.specs.Prelude.{◌&&◌, ◌⊎◌, nat_le, nat_lt, filter}
use Rattle.std.specs.List.{list_all, AllByRecursion}
use Rattle.std.proofs.lemmas.List.{get_or-set_same, get_or-set_other}
use Rattle.std.proofs.lemmas.Bool.{cases_eq, leb-true}
use Rattle.px_base.specs.declared.wire.Update.{Update}
use Rattle.px_base.specs.declared.wire.Order.{Order}
use Rattle.px_base.specs.declared.wire.Order.TheVariants.{Step, Report}
use Rattle.px_base.specs.declared.wire.LossKind.{LossKind}
use Rattle.px_base.specs.Worlds.{CarriesValues}
use Rattle.px_base.proofs.Gathers.{least_below_start, least_below_each, below_least}
use Rattle.hub_terms.specs.declared.stops.Halt.{Halt}
use Rattle.hub_terms.specs.declared.stops.Why.{Why}
use Rattle.hub_terms.specs.declared.tasks.Task.TheVariants as task
use Rattle.hub_terms.specs.declared.workers.MemberState.{MemberState}
use Rattle.hub_terms.specs.Members.{MembersState, opening_member, member_at, live_rounds, least_of, may_step, is_no_task, has_work, keeps_pace}
use Rattle.hub_terms.specs.Hubs.{HubState, Turn, worker_count, worker_at, order_at, waiting_at, has_mail, turn_of, after_turn}
use Rattle.hub_terms.specs.HubEvents.{after_loss, after_join, after_halt, why_of}
use Rattle.hub_terms.specs.HubInStep.{IsHubInStep}
use Rattle.hub_laws.proofs.Workers.{live_inside, live_tasked, round_tasked}
use Rattle.hub_laws.proofs.HubGave as gave
use Rattle.hub_laws.proofs.HubTook.{stepped_hub, stepped_worker, reported_hub}
use Rattle.hub_laws.proofs.HubTook as took
use Rattle.hub_laws.proofs.HubChanged as changed
use Rattle.round_laws.specs.Rounds.{RoundsAreNear}

-- ---- the rounds of the live workers, one by one

abbrev rounds_of : List MemberState → List ℕ
rounds_of ms = map (λ (w : MemberState). w.round) (filter (λ (w : MemberState). w.live) ms)

-- what holds of each live round holds of the round of each live worker, and the other way round
pub at_live : (P : ℕ → Type 0) (ms : List MemberState) (j : ℕ) → AllByRecursion P (rounds_of ms) → j < length ms → (get_or ms j opening_member).live ≡ true → P (get_or ms j opening_member).round
at_live P [] j all inside live = absurd (omega arith)
at_live P (w ∷ ms) j all inside live = by_first w.live refl (at_live P ms) j all inside live
  where
    by_first : (b : Bool) → w.live ≡ b → ((k : ℕ) → AllByRecursion P (rounds_of ms) → k < length ms → (get_or ms k opening_member).live ≡ true → P (get_or ms k opening_member).round) →
        (j : ℕ) → AllByRecursion P (map (λ (w : MemberState). w.round) (cond b (w ∷ filter (λ (w : MemberState). w.live) ms) (filter (λ (w : MemberState). w.live) ms))) →
        j < length (w ∷ ms) → (get_or (w ∷ ms) j opening_member).live ≡ true → P (get_or (w ∷ ms) j opening_member).round
    by_first true is rest zero all inside live = all.0
    by_first true is rest (suc j) all inside live = rest j all.1 (omega (arith, inside)) live
    by_first false is rest zero all inside live = absurd (cc (is, live))
    by_first false is rest (suc j) all inside live = rest j all (omega (arith, inside)) live

pub from_live : (P : ℕ → Type 0) (ms : List MemberState) → ((j : ℕ) → j < length ms → (get_or ms j opening_member).live ≡ true → P (get_or ms j opening_member).round) → AllByRecursion P (rounds_of ms)
from_live P [] each = tt
from_live P (w ∷ ms) each = by_first w.live refl (from_live P ms (λ j inside live. each (suc j) (omega (arith, inside)) live))
  where
    by_first : (b : Bool) → w.live ≡ b → AllByRecursion P (rounds_of ms) → AllByRecursion P (map (λ (w : MemberState). w.round) (cond b (w ∷ filter (λ (w : MemberState). w.live) ms) (filter (λ (w : MemberState). w.live) ms)))
    by_first true is rest = (each zero (omega arith) is, rest)
    by_first false is rest = rest

pub tested : (p : ℕ → Bool) (xs : List ℕ) → list_all p xs ≡ true → AllByRecursion (λ x. p x ≡ true) xs
tested p [] all = tt
tested p (x ∷ xs) all = by_test (p x) refl (tested p xs) all
  where
    by_test : (b : Bool) → p x ≡ b → (list_all p xs ≡ true → AllByRecursion (λ x. p x ≡ true) xs) → (b && list_all p xs) ≡ true → (p x ≡ true) × AllByRecursion (λ x. p x ≡ true) xs
    by_test true is more rest = (is, more rest)
    by_test false is more rest = absurd (cc rest)

-- ---- a worker that may step

pub record MaySteps (m : MembersState) (i : ℕ) (waiting : Bool) : Type 0 where
  pub live : (member_at m i).live ≡ true
  pub work : has_work m (member_at m i) waiting ≡ true
  pub pace : keeps_pace m (member_at m i) ≡ true

pub may_steps : (m : MembersState) (i : ℕ) (waiting : Bool) → may_step m i waiting ≡ true → MaySteps m i waiting
may_steps m i waiting may =
    let all = each (member_at m i).live (is_no_task (member_at m i).task) (has_work m (member_at m i) waiting) (keeps_pace m (member_at m i)) (nat_lt (member_at m i).round (m.base + m.limits.rounds)) may in
    record { live = all.0; work = all.1; pace = all.2 }
  where
    each : (a b c d e : Bool) → (a && b && c && d && e) ≡ true → (a ≡ true) × (c ≡ true) × (d ≡ true)
    each true true true true e h = (refl, refl, refl)
    each true true true false e h = cc
    each true true false d e h = cc
    each true false c d e h = cc
    each false b c d e h = cc

-- it is at most lag rounds above each live worker
pub paced : (m : MembersState) (i j : ℕ) (waiting : Bool) → may_step m i waiting ≡ true → (member_at m j).live ≡ true → (member_at m i).round ≤ (member_at m j).round + m.limits.lag
paced m i j waiting may live = leb-true (member_at m i).round ((member_at m j).round + m.limits.lag)
    (at_live (λ r. nat_le (member_at m i).round (r + m.limits.lag) ≡ true) m.members j (tested (λ r. nat_le (member_at m i).round (r + m.limits.lag)) (live_rounds m) (may_steps m i waiting may).pace) (live_inside m j live) live)

-- ---- the least live round

-- it is at most each of them
pub least_low : (m : MembersState) (j : ℕ) → (member_at m j).live ≡ true → least_of (live_rounds m) ≤ (member_at m j).round
least_low m j live = at_live (λ r. least_of (live_rounds m) ≤ r) m.members j (by_list (live_rounds m)) (live_inside m j live) live
  where
    by_list : (rs : List ℕ) → AllByRecursion (λ r. least_of rs ≤ r) rs
    by_list [] = tt
    by_list (r ∷ rs) = (least_below_start r rs, least_below_each r rs)

-- and at least what each of them is, where there is one
pub least_high : (m : MembersState) (j low : ℕ) → (member_at m j).live ≡ true → ((l : ℕ) → (member_at m l).live ≡ true → low ≤ (member_at m l).round) → low ≤ least_of (live_rounds m)
least_high m j low live each = by_list (live_rounds m) (from_live (λ r. low ≤ r) m.members (λ l inside is. each l is)) (λ P all. at_live P m.members j all (live_inside m j live) live)
  where
    by_list : (rs : List ℕ) → AllByRecursion (λ r. low ≤ r) rs → ((P : ℕ → Type 0) → AllByRecursion P rs → P (member_at m j).round) → low ≤ least_of rs
    by_list [] all some = absurd (some (λ r. ⊥) tt)
    by_list (r ∷ rs) all some = below_least low r rs all.0 all.1

-- ---- hubs that are alike

-- Live workers and their rounds are as before, and each Step under way is an old one or keeps pace.
pub near_like : (hub new : HubState) → ((j : ℕ) → (worker_at new j).live ≡ true → (worker_at hub j).live ≡ true) → ((j : ℕ) → (worker_at new j).round ≡ (worker_at hub j).round) →
    new.members.limits.lag ≡ hub.members.limits.lag →
    ((i epoch round : ℕ) (updates : List Update) → order_at new i ≡ Some (Step epoch round updates) →
    (order_at hub i ≡ Some (Step epoch round updates)) ⊎ ((j : ℕ) → (worker_at hub j).live ≡ true → round ≤ (worker_at hub j).round + hub.members.limits.lag)) →
    RoundsAreNear hub → RoundsAreNear new
near_like hub new lives rounds lags orders old = record {
  near = λ i j here there. rw (rounds i, rounds j, lags) (old.near i j (lives i here) (lives j there));
  pace = λ i j epoch round updates is there. rw (rounds j, lags) (elim (orders i epoch round updates is) [
    | inl before ↦ old.pace i j epoch round updates before (lives j there)
    | inr now ↦ now j (lives j there)
  ]);
}

-- ---- a turn

pub gave_near : (hub : HubState) (i : ℕ) → IsHubInStep hub → i < worker_count hub → (worker_at hub i).live ≡ true → RoundsAreNear hub → RoundsAreNear (after_turn hub i (turn_of hub i))
gave_near hub i ok inside live old = gave.turn_by (λ (turn : Turn). RoundsAreNear (after_turn hub i turn)) hub i
    (λ reason is. record { near = old.near; pace = old.pace })
    (λ free quiet all. old)
    (λ free quiet none. near_like hub _ (λ j is. sym (live_tasked hub.members i task.Report j) ∙ is) (λ j. round_tasked hub.members i task.Report j) refl
    (λ j epoch round updates is. elim (cases_eq j i) [
      | inl same ↦ absurd (not_step (sym (gave.order_same hub hub i (Report hub.members.epoch) hub.inboxes.boxes ok inside live) ∙ (ap (λ (k : ℕ). order_at (gave.given hub hub i (Report hub.members.epoch) hub.inboxes.boxes ok inside live) k) (sym same) ∙ is)))
      | inr apart ↦ inl (sym (gave.order_other hub hub i (Report hub.members.epoch) hub.inboxes.boxes ok inside live j apart) ∙ is)
    ]) old)
    (λ free busy may. near_like hub _ (λ j is. sym (live_tasked hub.members i task.Step j) ∙ is) (λ j. round_tasked hub.members i task.Step j) refl
    (λ j epoch round updates is. elim (cases_eq j i) [
      | inl same ↦ inr (λ k there. rw (same_round (sym (gave.order_same hub hub i (given_step may) (set hub.inboxes.boxes i []) ok inside live) ∙ (ap (λ (k : ℕ). order_at (gave.given hub hub i (given_step may) (set hub.inboxes.boxes i []) ok inside live) k) (sym same) ∙ is)))
          (paced hub.members i k (has_mail hub i) may there))
      | inr apart ↦ inl (sym (gave.order_other hub hub i (given_step may) (set hub.inboxes.boxes i []) ok inside live j apart) ∙ is)
    ]) old)
    (λ free busy out. record { near = old.near; pace = old.pace })
    old
  where
    given_step : may_step hub.members i (has_mail hub i) ≡ true → Order
    given_step may = Step hub.members.epoch (worker_at hub i).round (waiting_at hub i)

    not_step : {epoch round : ℕ} {updates : List Update} → Some (Report hub.members.epoch) ≡ Some (Step epoch round updates) → ⊥
    not_step h = cc h

    same_round : {epoch round : ℕ} {updates : List Update} → Some (Step hub.members.epoch (worker_at hub i).round (waiting_at hub i)) ≡ Some (Step epoch round updates) → round ≡ (worker_at hub i).round
    same_round h = cc h

-- ---- an answer

pub stepped_near : (hub : HubState) (i epoch round : ℕ) (sent : List Update) (changed : Bool) (updates : List Update) (b : Bool) → IsHubInStep hub → i < worker_count hub → order_at hub i ≡ Some (Step epoch round sent) →
    CarriesValues updates → RoundsAreNear hub → RoundsAreNear (stepped_hub b hub i changed updates)
stepped_near hub i epoch round sent changed updates b ok inside had values old = record {
  near = λ j k here there. elim (cases_eq j i) [
    | inl same ↦ elim (cases_eq k i) [
      | inl also ↦ rw (same, also) (omega arith)
      | inr apart ↦ rw (same, round_here, other k apart) (omega (arith, at, old.pace i k epoch round sent had (was k there)))
    ]
    | inr apart ↦ elim (cases_eq k i) [
      | inl also ↦ rw (also, round_here, other j apart) (omega (arith, old.near j i (was j here) live))
      | inr away ↦ rw (other j apart, other k away) (old.near j k (was j here) (was k there))
    ]
  ];
  pace = λ j k e r us is there. elim (cases_eq j i) [
    | inl same ↦ absurd (cc (took.took_order hub i epoch round sent changed updates ok inside had values b, subst (λ (l : ℕ). order_at (stepped_hub b hub i changed updates) l ≡ Some (Step e r us)) same is))
    | inr apart ↦ elim (cases_eq k i) [
      | inl also ↦ rw (also, round_here) (omega (arith, old.pace j i e r us (before j apart is) live))
      | inr away ↦ rw (other k away) (old.pace j k e r us (before j apart is) (was k there))
    ]
  ];
}
  where
    live : (worker_at hub i).live ≡ true
    live = took.asked_live hub i epoch round sent changed updates ok inside had values

    at : round ≡ (worker_at hub i).round
    at = (ok.orders i (Step epoch round sent) had).stands

    was : (k : ℕ) → (worker_at (stepped_hub b hub i changed updates) k).live ≡ true → (worker_at hub k).live ≡ true
    was k is = sym (took.took_live hub i epoch round sent changed updates ok inside had values b k) ∙ is

    round_here : (worker_at (stepped_hub b hub i changed updates) i).round ≡ (worker_at hub i).round + 1
    round_here = ap (λ (u : MemberState). u.round) (took.took_worker hub i epoch round sent changed updates ok inside had values b) ∙ took.round_more hub i epoch round sent changed updates ok inside had values b

    other : (k : ℕ) → k ≢ i → (worker_at (stepped_hub b hub i changed updates) k).round ≡ (worker_at hub k).round
    other k apart = ap (λ (u : MemberState). u.round) (took.worker_other hub i epoch round sent changed updates ok inside had values b k apart)

    before : (j : ℕ) → j ≢ i → {e r : ℕ} {us : List Update} → order_at (stepped_hub b hub i changed updates) j ≡ Some (Step e r us) → order_at hub j ≡ Some (Step e r us)
    before j apart is = sym (took.took_other hub i epoch round sent changed updates ok inside had values b j apart) ∙ is

pub reported_near : (hub : HubState) (i epoch : ℕ) (values : List ℕ) (b : Bool) → IsHubInStep hub → i < worker_count hub → order_at hub i ≡ Some (Report epoch) → RoundsAreNear hub → RoundsAreNear (reported_hub b hub i values)
reported_near hub i epoch values b ok inside had old = near_like hub (reported_hub b hub i values) (λ j is. sym (live_tasked hub.members i task.Nothing j) ∙ is) (λ j. round_tasked hub.members i task.Nothing j) refl
    (λ j e r us is. elim (cases_eq j i) [
      | inl same ↦ absurd (cc (none_here, subst (λ (k : ℕ). order_at (reported_hub b hub i values) k ≡ Some (Step e r us)) same is))
      | inr apart ↦ inl (sym (get_or-set_other hub.orders i j None None apart) ∙ is)
    ]) old
  where
    none_here : order_at (reported_hub b hub i values) i ≡ None
    none_here = let there : i < length hub.orders = omega (arith, inside, ok.places.orders) in get_or-set_same hub.orders i None None there

-- ---- a loss, a join, a halt

pub lost_near : (hub : HubState) (i : ℕ) (kind : LossKind) → IsHubInStep hub → i < worker_count hub → (worker_at hub i).live ≡ true → RoundsAreNear hub → RoundsAreNear (after_loss hub i kind)
lost_near hub i kind ok inside live old = near_like hub (after_loss hub i kind) (λ j is. (changed.lost_live hub i kind ok inside live j is).1) (changed.lost_round hub i kind ok inside live) refl
    (λ j e r us is. inl (sym (changed.lost_order_other hub i kind ok inside live j (changed.order_apart hub i kind ok inside live j (Step e r us) is)) ∙ is)) old

pub joined_near : (hub : HubState) (i : ℕ) → IsHubInStep hub → i < worker_count hub → (worker_at hub i).live ≡ false → hub.halt ≡ None → RoundsAreNear hub → RoundsAreNear (after_join hub i)
joined_near hub i ok inside missing free old = record {
  near = λ j k here there. elim (cases_eq j i) [
    | inl same ↦ elim (cases_eq k i) [
      | inl also ↦ rw (same, also) (omega arith)
      | inr apart ↦ rw (same, round_here, other k apart) (omega (arith, least_low hub.members k (was k apart there)))
    ]
    | inr apart ↦ elim (cases_eq k i) [
      | inl also ↦ rw (also, round_here, other j apart) (omega (
        arith,
        least_high hub.members j ((worker_at hub j).round - (hub.members.limits.lag + 1)) (was j apart here)
            (λ l is. omega (arith, old.near j l (was j apart here) is)),
      ))
      | inr away ↦ rw (other j apart, other k away) (old.near j k (was j apart here) (was k away there))
    ]
  ];
  pace = λ j k e r us is there. elim (cases_eq k i) [
    | inl also ↦ rw (also, round_here) (omega (
      arith,
      least_high hub.members j (r - hub.members.limits.lag) (changed.ordered_apart hub i ok inside missing free j (Step e r us) is).1
          (λ l at. omega (arith, old.pace j l e r us is at)),
    ))
    | inr away ↦ rw (other k away) (old.pace j k e r us is (was k away there))
  ];
}
  where
    round_here : (worker_at (after_join hub i) i).round ≡ least_of (live_rounds hub.members)
    round_here = ap (λ (u : MemberState). u.round) (changed.joined_worker hub i ok inside missing free)

    other : (k : ℕ) → k ≢ i → (worker_at (after_join hub i) k).round ≡ (worker_at hub k).round
    other k apart = ap (λ (u : MemberState). u.round) (changed.joined_other hub i ok inside missing free k apart)

    was : (k : ℕ) → k ≢ i → (worker_at (after_join hub i) k).live ≡ true → (worker_at hub k).live ≡ true
    was k apart is = sym (ap (λ (u : MemberState). u.live) (changed.joined_other hub i ok inside missing free k apart)) ∙ is

pub halted_near : (hub : HubState) (i : ℕ) (reason : Halt) → RoundsAreNear hub → RoundsAreNear (after_halt hub i reason)
halted_near hub i reason old = by_halt hub.halt
  where
    by_halt : (h : Option Why) → RoundsAreNear (elim h [ Some first ↦ hub | None ↦ record hub { halt = Some (why_of reason i) } ])
    by_halt (Some first) = old
    by_halt None = record { near = old.near; pace = old.pace }
