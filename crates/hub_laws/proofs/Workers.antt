-- What is kept of each worker, after one of them changed.
use Rattle.std.proofs.Common.{◌≡◌, ◌≢◌, ℕ, ◌<◌, Bool, true, false, not, List, length, set, refl, sym, ap, ◌∙◌, inl, inr}
use Rattle.std.specs.Prelude.{◌&&◌}
use Rattle.std.specs.List.{list_all}
use Rattle.std.proofs.lemmas.List.{get_or-set_same, get_or-set_other, get_or_past}
use Rattle.std.proofs.lemmas.Bool.{cases_lt}
use Rattle.std.proofs.Math.Seq.{map-set_same}
use Rattle.px_base.specs.declared.wire.Update.{Update}
use Rattle.px_base.specs.declared.wire.Order.{Order}
use Rattle.px_base.specs.declared.wire.Order.TheVariants.{Step, Report}
use Rattle.px_base.specs.Worlds.{updates_in}
use Rattle.hub_terms.specs.declared.tasks.Task.{Task}
use Rattle.hub_terms.specs.declared.workers.MemberState.{MemberState}
use Rattle.hub_terms.specs.Members.{MembersState, opening_member, member_at, with_member, live_count, is_idle, is_step_task}
use Rattle.hub_terms.specs.Inboxes.{InboxesState, all_empty}
use Rattle.hub_terms.specs.Hubs.{HubState, worker_at, is_quiet_hub}
use Rattle.hub_terms.specs.HubInStep.{IsMailOf, IsOrderOf, StandsAt, RoundsFit}
use Rattle.list_laws.proofs.Lists.{field_kept, count_by_map, all_at}

-- ---- one member written

pub member_same : (m : MembersState) (i : ℕ) (w : MemberState) → i < length m.members → member_at (with_member m i w) i ≡ w
member_same m i w inside = get_or-set_same m.members i w opening_member inside

pub member_other : (m : MembersState) (i j : ℕ) (w : MemberState) → j ≢ i → member_at (with_member m i w) j ≡ member_at m j
member_other m i j w apart = get_or-set_other m.members i j w opening_member apart

-- a worker that has a place is one that isn't the opening one
pub live_inside : (m : MembersState) (i : ℕ) → (member_at m i).live ≡ true → i < length m.members
live_inside m i live = elim (cases_lt i (length m.members)) [
  | inl inside ↦ inside
  | inr past ↦ absurd (not_live (ap (λ (w : MemberState). w.live) (get_or_past m.members i opening_member past)))
]
  where
    not_live : (member_at m i).live ≡ false → ⊥
    not_live h = cc (live, h)

-- m with another task for worker i
abbrev pub re_tasked : MembersState → ℕ → Task → MembersState
re_tasked m i t = with_member m i (record (member_at m i) { task = t })

module _ (m : MembersState) (i : ℕ) (t : Task) where
  pub live_tasked : (j : ℕ) → (member_at (re_tasked m i t) j).live ≡ (member_at m j).live
  live_tasked j = field_kept (λ (w : MemberState). w.live) m.members i (record (member_at m i) { task = t }) opening_member refl j

  pub due_tasked : (j : ℕ) → (member_at (re_tasked m i t) j).due ≡ (member_at m j).due
  due_tasked j = field_kept (λ (w : MemberState). w.due) m.members i (record (member_at m i) { task = t }) opening_member refl j

  pub round_tasked : (j : ℕ) → (member_at (re_tasked m i t) j).round ≡ (member_at m j).round
  round_tasked j = field_kept (λ (w : MemberState). w.round) m.members i (record (member_at m i) { task = t }) opening_member refl j

  pub changed_tasked : (j : ℕ) → (member_at (re_tasked m i t) j).changed ≡ (member_at m j).changed
  changed_tasked j = field_kept (λ (w : MemberState). w.changed) m.members i (record (member_at m i) { task = t }) opening_member refl j

  pub count_tasked : live_count (re_tasked m i t) ≡ live_count m
  count_tasked = count_by_map (λ (w : MemberState). w.live) (set m.members i (record (member_at m i) { task = t })) m.members
      (map-set_same (λ (w : MemberState). w.live) m.members i (record (member_at m i) { task = t }) opening_member refl)

  pub rounds_tasked : RoundsFit m → RoundsFit (re_tasked m i t)
  rounds_tasked fit =
      let same : live_count (re_tasked m i t) ≡ live_count m = count_tasked in
      record {
        most = λ j live. rw (round_tasked j) (fit.most j (rw (live_tasked j) at live));
        base_room = rw same fit.base_room;
        room = λ j live. rw (round_tasked j, same) (fit.room j (rw (live_tasked j) at live));
      }

-- ---- mail and orders of the others

-- mail stays mail, whatever lies in the inboxes
pub mail_kept : (t : InboxesState) (boxes : List (List Update)) (j : ℕ) (us : List Update) → IsMailOf t j us → IsMailOf (record t { boxes = boxes }) j us
mail_kept t boxes j us mail = record { addressed = mail.addressed; rising = mail.rising; values = mail.values }

pub stands_kept : (w u : MemberState) (order : Order) → u.round ≡ w.round → StandsAt w order → StandsAt u order
stands_kept w u (Step epoch round updates) same stands = stands ∙ sym same
stands_kept w u (Report epoch) same stands = tt

pub order_kept : (hub new : HubState) (j : ℕ) (order : Order) → (worker_at new j).round ≡ (worker_at hub j).round → (worker_at new j).due ≡ (worker_at hub j).due →
    new.members.epoch ≡ hub.members.epoch → (IsMailOf hub.inboxes j (updates_in order) → IsMailOf new.inboxes j (updates_in order)) → IsOrderOf hub j order → IsOrderOf new j order
order_kept hub new j order rounds dues epochs mails old = record {
  stands = stands_kept (worker_at hub j) (worker_at new j) order rounds old.stands;
  some_epoch = old.some_epoch;
  not_later = rw epochs old.not_later;
  current = λ due. old.current (sym dues ∙ due) ∙ sym epochs;
  mail = mails old.mail;
}

-- ---- what is quiet

-- a quiet hub has no worker that is missing, is due, has a Step, or changed something
pub quiet_members : (hub : HubState) → is_quiet_hub hub ≡ true → list_all is_idle hub.members.members ≡ true
quiet_members hub quiet = second (all_empty hub.inboxes) (list_all is_idle hub.members.members) quiet
  where
    second : (a b : Bool) → (a && b) ≡ true → b ≡ true
    second true b h = h
    second false b h = cc

pub quiet_boxes : (hub : HubState) → is_quiet_hub hub ≡ true → all_empty hub.inboxes ≡ true
quiet_boxes hub quiet = first (all_empty hub.inboxes) (list_all is_idle hub.members.members) quiet
  where
    first : (a b : Bool) → (a && b) ≡ true → a ≡ true
    first true b h = refl
    first false b h = h

pub record IsIdle (w : MemberState) : Type 0 where
  pub live : w.live ≡ true
  pub due : w.due ≡ false
  pub no_step : is_step_task w.task ≡ false
  pub unchanged : w.changed ≡ false

idle_by : (a b c d : Bool) → (a && not b && not c && not d) ≡ true → (a ≡ true) × (b ≡ false) × (c ≡ false) × (d ≡ false)
idle_by true false false false h = (refl, refl, refl, refl)
idle_by true false false true h = cc
idle_by true false true d h = cc
idle_by true true c d h = cc
idle_by false b c d h = cc

pub idle_at : (hub : HubState) (i : ℕ) → is_quiet_hub hub ≡ true → i < length hub.members.members → IsIdle (worker_at hub i)
idle_at hub i quiet inside =
    let w : MemberState = worker_at hub i in
    let all = idle_by w.live w.due (is_step_task w.task) w.changed (all_at is_idle hub.members.members i opening_member (quiet_members hub quiet) inside) in
    record { live = all.0; due = all.1; no_step = all.2; unchanged = all.3 }
