-- Which workers are live, how far they have come, when a worker may step, and when all is quiet.
use Rattle.std.specs.Prelude.{ℕ, ◌+◌, Bool, true, false, not, ◌&&◌, ◌||◌, ◌==◌, nat_lt, nat_le, List, [], ◌∷◌, ◌++◌, length, map, filter, replicate, slice_index_or, slice_set, if◌then◌else◌}
use Rattle.std.specs.List.{list_any, list_all}
use Rattle.px_base.specs.declared.wire.Loss.{Loss}
use Rattle.px_base.specs.declared.wire.LossKind.{LossKind}
use Rattle.px_base.specs.Rules.{least, greatest}
use Rattle.hub_terms.specs.declared.tasks.Limits.{Limits}
use Rattle.hub_terms.specs.declared.workers.MemberState.{MemberState}
use Rattle.hub_terms.specs.declared.tasks.Task.{Task}
use Rattle.hub_terms.specs.declared.tasks.Task.TheVariants.{Nothing, Step, Report}

-- ---- what is kept

-- The limits, the epoch (1, and one more after each loss), the base (the greatest live round at the last join), the losses that
-- were noted, and the workers.
pub record MembersState : Type 0 where
  pub limits : Limits
  pub epoch : ℕ
  pub base : ℕ
  pub losses : List Loss
  pub members : List MemberState

-- a worker at the opening of the run: missing and due
abbrev pub opening_member : MemberState
opening_member = record { live = false; due = true; task = Nothing; round = 0; changed = false }

-- the members before the first event
abbrev pub opening_members : ℕ → Limits → MembersState
opening_members workers limits = record { limits = limits; epoch = 1; base = 0; losses = []; members = replicate workers opening_member }

-- worker i; past the last one there is an opening member
abbrev pub member_at : MembersState → ℕ → MemberState
member_at m i = slice_index_or m.members i opening_member

-- the members with w as worker i
abbrev pub with_member : MembersState → ℕ → MemberState → MembersState
with_member m i w = record m { members = slice_set m.members i w }

-- ---- may step, and quiet

-- the rounds of the live workers
abbrev pub live_rounds : MembersState → List ℕ
live_rounds m = map (λ w. w.round) (filter (λ w. w.live) m.members)

-- how many workers are live
abbrev pub live_count : MembersState → ℕ
live_count m = length (filter (λ w. w.live) m.members)

-- the worker has a Step to answer
abbrev pub is_step_task : Task → Bool
is_step_task Step = true
is_step_task Report = false
is_step_task Nothing = false

-- the worker has nothing to answer
abbrev pub is_no_task : Task → Bool
is_no_task Nothing = true
is_no_task Step = false
is_no_task Report = false

-- the worker has work: it is due, updates wait for it, its last Step changed something, or a live worker is ahead of it
abbrev pub has_work : MembersState → MemberState → Bool → Bool
has_work m w waiting = w.due || waiting || w.changed || list_any (λ r. nat_lt w.round r) (live_rounds m)

-- the worker is at most lag rounds ahead of each live one
abbrev pub keeps_pace : MembersState → MemberState → Bool
keeps_pace m w = list_all (λ r. nat_le w.round (r + m.limits.lag)) (live_rounds m)

-- A worker may step where it is live, has nothing to answer, has work, keeps pace, and has rounds left. waiting says that its
-- inbox isn't empty.
abbrev pub may_step : MembersState → ℕ → Bool → Bool
may_step m i waiting = let w = member_at m i in
    w.live && is_no_task w.task && has_work m w waiting && keeps_pace m w && nat_lt w.round (m.base + m.limits.rounds)

-- the worker has nothing to do, and no Step to answer
abbrev pub is_idle : MemberState → Bool
is_idle w = w.live && not w.due && not (is_step_task w.task) && not w.changed

-- all workers are idle, and all inboxes are empty
abbrev pub is_quiet : MembersState → Bool → Bool
is_quiet m all_empty = all_empty && list_all is_idle m.members

-- the rounds are spent: all workers are live, none has anything to answer, and none has a round left
abbrev pub is_spent : MembersState → Bool
is_spent m = list_all (λ w. w.live && is_no_task w.task && w.round == m.base + m.limits.rounds) m.members

-- ---- what the events leave

-- worker i is given a Step, or a Report
abbrev pub with_given : MembersState → ℕ → Bool → MembersState
with_given m i step = with_member m i (record (member_at m i) { task = if step then Step else Report })

-- Worker i has answered a Step, which counts as a round. In this epoch it is then no longer due.
abbrev pub with_stepped : MembersState → ℕ → ℕ → Bool → MembersState
with_stepped m i epoch changed = let w = member_at m i in with_member m i (if epoch == m.epoch
    then record w { task = Nothing; round = w.round + 1; due = false; changed = changed }
    else record w { task = Nothing; round = w.round + 1 })

-- worker i has answered a Report
abbrev pub with_reported : MembersState → ℕ → MembersState
with_reported m i = with_member m i (record (member_at m i) { task = Nothing })

-- a worker at the opening of an epoch: it has answered no Step of it
abbrev pub due_member : MemberState → MemberState
due_member w = record w { due = true; changed = false }

-- a worker that is lost
abbrev pub missing_member : MemberState → MemberState
missing_member w = record (due_member w) { live = false; task = Nothing }

-- Worker i is lost: it is missing, a new epoch opens, and every worker is due. The loss is noted, or not.
abbrev pub with_lost : MembersState → ℕ → LossKind → Bool → MembersState
with_lost m i kind noted = record m {
  epoch = m.epoch + 1;
  losses = if noted then m.losses ++ record { worker = i; epoch = m.epoch; kind = kind } ∷ [] else m.losses;
  members = slice_set (map due_member m.members) i (missing_member (member_at m i));
}

-- the least number of a list, or 0
abbrev pub least_of : List ℕ → ℕ
least_of [] = 0
least_of (x ∷ xs) = least x xs

-- Worker i joins: it stands at the least live round, and the base becomes the greatest one.
abbrev pub with_joined : MembersState → ℕ → MembersState
with_joined m i = let there = with_member m i (record (member_at m i) { live = true; due = true; round = least_of (live_rounds m) }) in
    record there { base = greatest 0 (live_rounds there) }
