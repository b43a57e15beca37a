-- With lag 0 a budget of some rounds more than settling takes is never spent.
use Rattle.std.proofs.Common.{◌≡◌, ◌≢◌, ℕ, ◌+◌, ◌<◌, ◌≤◌, Bool, true, false, List, Option, Some, None, length, arith, refl, sym, ap, ◌∙◌, eqb-true}
use Rattle.std.specs.Prelude.{◌&&◌, ◌==◌, is_none, nat_lt, MatchOption, if◌then◌else◌, ⊤}
use Rattle.px_base.specs.declared.wire.Update.{Update}
use Rattle.px_base.specs.declared.wire.Order.{Order}
use Rattle.px_base.specs.declared.wire.Order.TheVariants.{Step, Report}
use Rattle.px_base.specs.declared.wire.Answer.{Answer}
use Rattle.px_base.specs.declared.wire.Answer.TheVariants.{Stepped, Reported}
use Rattle.px_base.specs.declared.wire.Foreign.{Foreign}
use Rattle.px_base.specs.Parts.{IsWorkerCuts, part_count}
use Rattle.px_base.specs.Worlds.{World, CarriesValues}
use Rattle.hub_terms.specs.declared.tasks.Limits.{Limits}
use Rattle.hub_terms.specs.declared.stops.Halt.{Halt}
use Rattle.hub_terms.specs.declared.stops.Halt.TheVariants as halts
use Rattle.hub_terms.specs.declared.stops.Why.{Why}
use Rattle.hub_terms.specs.declared.stops.Why.TheVariants as why
use Rattle.hub_terms.specs.Jobs.{Job}
use Rattle.hub_terms.specs.declared.workers.MemberState.{MemberState}
use Rattle.hub_terms.specs.Members.{opening_member, is_spent, is_no_task}
use Rattle.hub_terms.specs.Hubs.{HubState, Turn, work, wait, done, stop, worker_count, worker_at, order_at, turn_of, after_turn}
use Rattle.hub_terms.specs.HubEvents.{why_of, foreign_of, absorption, answer_to, answer_taken}
use Rattle.hub_terms.specs.Systems.{SystemState, Event, give, took, lost, joined, halt, opening_system, world_at, with_world, world_after, IsHonestAnswer, AnswersValues, MayCome, state_after, state_taken}
use Rattle.hub_terms.specs.InStep.{IsInStep, LiveHaveWorlds}
use Rattle.list_laws.proofs.Lists.{all_at, at_replicate}
use Rattle.hub_laws.proofs.HubGave as gave
use Rattle.hub_laws.proofs.HubTook.{right_answer, stepped_order, reported_order, stepped_hub, stepped_worker, reported_hub, stepped_is, reported_is}
use Rattle.hub_laws.proofs.HubTook as hub_took
use Rattle.system_laws.proofs.Kept.{honest_step, world_stays}
use Rattle.round_laws.proofs.InTime.{Settles, InTime, gave_in_time, lost_in_time, joined_in_time, halted_in_time, reported_in_time, stepped_in_time}

-- ---- what no event changes

pub record IsOfRun (s t : SystemState) : Type 0 where
  pub job : t.job ≡ s.job
  pub told : t.told ≡ s.told
  pub limits : t.hub.members.limits ≡ s.hub.members.limits
  pub cuts : t.hub.inboxes.cuts ≡ s.hub.inboxes.cuts

-- the hub after an event
record IsOfHub (hub new : HubState) : Type 0 where
  limits : new.members.limits ≡ hub.members.limits
  cuts : new.inboxes.cuts ≡ hub.inboxes.cuts

turn_same : (hub : HubState) (i : ℕ) (turn : Turn) → IsOfHub hub (after_turn hub i turn)
turn_same hub i (work (Step epoch round updates)) = record { limits = refl; cuts = refl }
turn_same hub i (work (Report epoch)) = record { limits = refl; cuts = refl }
turn_same hub i (stop reason) = record { limits = refl; cuts = refl }
turn_same hub i wait = record { limits = refl; cuts = refl }
turn_same hub i done = record { limits = refl; cuts = refl }

absorbed_same : (hub : HubState) (i : ℕ) (answer : Answer) → IsOfHub hub (absorption hub i answer)
absorbed_same hub i (Stepped epoch round changed updates) = by_case (epoch == hub.members.epoch) refl
  where
    by_case : (b : Bool) → (epoch == hub.members.epoch) ≡ b → IsOfHub hub (absorption hub i (Stepped epoch round changed updates))
    by_case true is = rw (stepped_is hub i epoch round changed updates true is) (record { limits = refl; cuts = refl })
    by_case false is = rw (stepped_is hub i epoch round changed updates false is) (record { limits = refl; cuts = refl })
absorbed_same hub i (Reported epoch values) = record { limits = refl; cuts = refl }

pub same_run : (s : SystemState) (e : Event) → IsOfRun s (state_after s e)
same_run s (give i) = let same = turn_same s.hub i (turn_of s.hub i) in record { job = refl; told = refl; limits = same.limits; cuts = same.cuts }
same_run s (took i answer) = by_order (order_at s.hub i)
  where
    by_foreign : (f : Option Foreign) → IsOfRun s (state_taken s i (answer_taken s.hub i answer f))
    by_foreign None = let same = absorbed_same s.hub i answer in record { job = refl; told = refl; limits = same.limits; cuts = same.cuts }
    by_foreign (Some foreign) = record { job = refl; told = refl; limits = refl; cuts = refl }

    by_order : (o : Option Order) → IsOfRun s (state_taken s i (answer_to s.hub i answer o))
    by_order None = record { job = refl; told = refl; limits = refl; cuts = refl }
    by_order (Some order) = by_foreign (foreign_of s.hub.inboxes i order answer)
same_run s (lost i kind) = record { job = refl; told = refl; limits = refl; cuts = refl }
same_run s (joined i) = record { job = refl; told = refl; limits = refl; cuts = refl }
same_run s (halt i reason) = by_halt s.hub.halt
  where
    by_halt : (h : Option Why) → IsOfRun s (record s { hub = elim h [ Some first ↦ s.hub | None ↦ record s.hub { halt = Some (why_of reason i) } ] })
    by_halt (Some first) = record { job = refl; told = refl; limits = refl; cuts = refl }
    by_halt None = record { job = refl; told = refl; limits = refl; cuts = refl }

pub some_part : {n : ℕ} {cuts : List ℕ} → IsWorkerCuts n cuts → 0 < part_count cuts
some_part cut = omega (arith, cut.cut.some_part)

-- ---- a live worker has a world

pub world_of_live : (s : SystemState) (i : ℕ) → LiveHaveWorlds s → s.told ≡ true → (worker_at s.hub i).live ≡ true → (w : World) × (world_at s i ≡ Some w)
world_of_live s i have told live = by_world (world_at s i) refl
  where
    by_world : (o : Option World) → world_at s i ≡ o → (w : World) × (world_at s i ≡ Some w)
    by_world (Some w) is = (w, is)
    by_world None is = absurd (cc (ap is_none (sym is) ∙ have i, told, live))

module _ (IsSettledAt : Job → ℕ → World → Type 0) (ReadsSettled : Job → ℕ → World → Order → Type 0) (last : Job → ℕ) where
  abbrev On : SystemState → Type 0
  On s = InTime IsSettledAt ReadsSettled last s

  abbrev Gives : SystemState → Type 0
  Gives s = Settles IsSettledAt ReadsSettled last s

  -- ---- every event

  stepped_on : (s : SystemState) (i epoch round : ℕ) (sent : List Update) (changed : Bool) (updates : List Update) → IsInStep s → Gives s → s.hub.members.limits.lag ≡ 0 → s.told ≡ true → i < worker_count s.hub →
      order_at s.hub i ≡ Some (Step epoch round sent) → CarriesValues updates → IsHonestAnswer s i (Stepped epoch round changed updates) → On s →
      On (with_world s i (world_after s i) (stepped_hub (epoch == s.hub.members.epoch) s.hub i changed updates))
  stepped_on s i epoch round sent changed updates ok law even told inside had values honest old =
      let here = world_of_live s i ok.live_worlds told (hub_took.asked_live s.hub i epoch round sent changed updates ok.hub inside had values) in
      let step = honest_step s i (Step epoch round sent) (Stepped epoch round changed updates) ok had honest here.0 here.1 in
      rw step.0 (stepped_in_time IsSettledAt ReadsSettled last s i epoch round sent changed updates ok law even inside had values here.0 here.1 step.1 (epoch == s.hub.members.epoch) refl old)

  absorbed_on : (s : SystemState) (i : ℕ) (order : Order) (answer : Answer) → IsInStep s → Gives s → s.hub.members.limits.lag ≡ 0 → s.told ≡ true → i < worker_count s.hub → order_at s.hub i ≡ Some order →
      foreign_of s.hub.inboxes i order answer ≡ None → AnswersValues answer → IsHonestAnswer s i answer → On s → On (with_world s i (world_after s i) (absorption s.hub i answer))
  absorbed_on s i order (Stepped epoch round changed updates) ok law even told inside had none values honest old =
      let this = stepped_order order epoch round changed updates (right_answer s.hub.inboxes i order (Stepped epoch round changed updates) none).0 in
      rw (stepped_is s.hub i epoch round changed updates (epoch == s.hub.members.epoch) refl) (stepped_on s i epoch round this.0 changed updates ok law even told inside (had ∙ ap Some this.1) values honest old)
  absorbed_on s i order (Reported epoch seen) ok law even told inside had none known honest old =
      let this = reported_order order epoch seen (right_answer s.hub.inboxes i order (Reported epoch seen) none).0 in
      rw (reported_is s.hub i epoch seen (epoch == s.hub.members.epoch) refl)
      (reported_in_time IsSettledAt ReadsSettled last s i epoch seen (epoch == s.hub.members.epoch) (world_after s i) ok inside (had ∙ ap Some this) (world_stays s i epoch seen ok inside (had ∙ ap Some this) known honest) old)

  took_on : (s : SystemState) (i : ℕ) (answer : Answer) → IsInStep s → Gives s → s.hub.members.limits.lag ≡ 0 → s.told ≡ true → MayCome s (took i answer) → On s → On (state_after s (took i answer))
  took_on s i answer ok law even told may old = by_order (order_at s.hub i) refl may.1
    where
      by_foreign : (order : Order) → order_at s.hub i ≡ Some order → (f : Option Foreign) → foreign_of s.hub.inboxes i order answer ≡ f → On (state_taken s i (answer_taken s.hub i answer f))
      by_foreign order had None none = absorbed_on s i order answer ok law even told may.0 had none may.2 may.3 old
      by_foreign order had (Some foreign) some = old

      by_order : (o : Option Order) → order_at s.hub i ≡ o → MatchOption o ⊥ (λ order. ⊤) → On (state_taken s i (answer_to s.hub i answer o))
      by_order None none has = absurd has
      by_order (Some order) had has = by_foreign order had (foreign_of s.hub.inboxes i order answer) refl

  -- Every event keeps the facts on rounds.
  pub event_in_time : (s : SystemState) (e : Event) → IsInStep s → Gives s → s.hub.members.limits.lag ≡ 0 → s.told ≡ true → MayCome s e → On s → On (state_after s e)
  event_in_time s (give i) ok law even told may old = gave_in_time IsSettledAt ReadsSettled last s i ok law even may.0 may.1 may.2 old
  event_in_time s (took i answer) ok law even told may old = took_on s i answer ok law even told may old
  event_in_time s (lost i kind) ok law even told may old = lost_in_time IsSettledAt ReadsSettled last s i kind ok may.0 may.1 old
  event_in_time s (joined i) ok law even told may old = joined_in_time IsSettledAt ReadsSettled last s i ok may.0 may.1 may.2 old
  event_in_time s (halt i reason) ok law even told may old = halted_in_time IsSettledAt ReadsSettled last s i reason old

  -- ---- the budget

  spent_at : (w : MemberState) (most : ℕ) → (w.live && is_no_task w.task && w.round == most) ≡ true → (w.live ≡ true) × (w.round ≡ most)
  spent_at w most all = by_tests w.live (is_no_task w.task) (w.round == most) refl refl all
    where
      by_tests : (a b c : Bool) → w.live ≡ a → (w.round == most) ≡ c → (a && b && c) ≡ true → (w.live ≡ true) × (w.round ≡ most)
      by_tests true true true x y h = (x, eqb-true w.round most y)
      by_tests true true false x y h = cc
      by_tests true false c x y h = cc
      by_tests false b c x y h = cc

  -- where more rounds are allowed than settling takes, not all are ever used
  pub not_spent : (s : SystemState) → IsInStep s → 0 < worker_count s.hub → last s.job + 4 ≤ s.hub.members.limits.rounds → On s → is_spent s.hub.members ≡ true → ⊥
  not_spent s ok some enough old out =
      let first = spent 0 some in
      omega (arith, (old.busy (λ i inside. (spent i inside).0)).rounds 0 first.0, first.1, enough)
    where
      spent : (i : ℕ) → i < worker_count s.hub → ((worker_at s.hub i).live ≡ true) × ((worker_at s.hub i).round ≡ s.hub.members.base + s.hub.members.limits.rounds)
      spent i inside = spent_at (worker_at s.hub i) (s.hub.members.base + s.hub.members.limits.rounds)
          (all_at (λ (w : MemberState). w.live && is_no_task w.task && w.round == s.hub.members.base + s.hub.members.limits.rounds) s.hub.members.members i opening_member out (omega (arith, inside, ok.hub.places.members)))

  abbrev IsBudget : Option Why → Type 0
  IsBudget h = h ≡ Some why.Budget

  -- no event keeps Budget as the reason to stop
  pub event_in_budget : (s : SystemState) (e : Event) → IsInStep s → 0 < worker_count s.hub → last s.job + 4 ≤ s.hub.members.limits.rounds → On s → s.hub.halt ≢ Some why.Budget → (state_after s e).hub.halt ≢ Some why.Budget
  event_in_budget s (give i) ok some enough old free = gave.turn_by (λ (turn : Turn). (after_turn s.hub i turn).halt ≢ Some why.Budget) s.hub i
      (λ reason is h. free (is ∙ h)) (λ none quiet all. free) (λ none quiet none_seen. free) (λ none busy may. free) (λ none busy out h. not_spent s ok some enough old out) free
  event_in_budget s (took i answer) ok some enough old free = by_order (order_at s.hub i)
    where
      absorbed : (answer : Answer) → (absorption s.hub i answer).halt ≡ s.hub.halt
      absorbed (Stepped epoch round changed updates) = refl
      absorbed (Reported epoch values) = refl

      by_foreign : (f : Option Foreign) → (state_taken s i (answer_taken s.hub i answer f)).hub.halt ≢ Some why.Budget
      by_foreign None h = free (sym (absorbed answer) ∙ h)
      by_foreign (Some foreign) h = free h

      by_order : (o : Option Order) → (state_taken s i (answer_to s.hub i answer o)).hub.halt ≢ Some why.Budget
      by_order None = free
      by_order (Some order) = by_foreign (foreign_of s.hub.inboxes i order answer)
  event_in_budget s (lost i kind) ok some enough old free = by_halt s.hub.halt refl
    where
      by_limit : (b : Bool) → (if b then Some why.TooManyLosses else None) ≢ Some why.Budget
      by_limit true h = cc h
      by_limit false h = cc h

      by_halt : (o : Option Why) → s.hub.halt ≡ o → (elim o [ Some reason ↦ Some reason | None ↦ if nat_lt s.hub.members.limits.losses (length s.hub.members.losses + 1) then Some why.TooManyLosses else None ]) ≢ Some why.Budget
      by_halt (Some reason) is h = free (is ∙ h)
      by_halt None is h = by_limit (nat_lt s.hub.members.limits.losses (length s.hub.members.losses + 1)) h
  event_in_budget s (joined i) ok some enough old free = free
  event_in_budget s (halt i reason) ok some enough old free = by_halt s.hub.halt refl
    where
      other : (reason : Halt) → Some (why_of reason i) ≢ Some why.Budget
      other halts.NoReplacement h = cc h
      other halts.Memory h = cc h

      by_halt : (o : Option Why) → s.hub.halt ≡ o → (elim o as (λ (x : Option Why). HubState) [ Some first ↦ s.hub | None ↦ record s.hub { halt = Some (why_of reason i) } ]).halt ≢ Some why.Budget
      by_halt (Some first) is = free
      by_halt None is = other reason

  -- ---- from the opening

  pub opens_in_time : (cuts : List ℕ) (limits : Limits) (told : Bool) (job : Job) → 0 < part_count cuts → On (opening_system cuts limits told job)
  opens_in_time cuts limits told job some = record {
    near = record {
      near = λ i j here there. absurd (not_live i here);
      pace = λ i j e r us is live. absurd (not_live j live);
    };
    low = λ each. absurd (not_live 0 (each 0 some));
    settled = λ each. absurd (not_live 0 (each 0 some));
    busy = λ each. absurd (not_live 0 (each 0 some));
  }
    where
      not_live : (i : ℕ) → (worker_at (opening_system cuts limits told job).hub i).live ≡ true → ⊥
      not_live i live = cc (live, ap (λ (w : MemberState). w.live) (at_replicate (part_count cuts) opening_member i))
