-- Where a run stops since a worker has no replacement, it is one of the workers.
use Rattle.std.proofs.Common.{◌≡◌, ℕ, ◌+◌, ◌<◌, Bool, true, false, List, Option, Some, None, length, refl, sym, subst, ◌∙◌}
use Rattle.std.specs.Prelude.{nat_lt, if◌then◌else◌}
use Rattle.px_base.specs.declared.wire.Order.{Order}
use Rattle.px_base.specs.declared.wire.Answer.{Answer}
use Rattle.px_base.specs.declared.wire.Answer.TheVariants.{Stepped, Reported}
use Rattle.px_base.specs.declared.wire.Foreign.{Foreign}
use Rattle.px_base.specs.Parts.{part_count}
use Rattle.hub_terms.specs.declared.tasks.Limits.{Limits}
use Rattle.hub_terms.specs.declared.stops.Halt.{Halt}
use Rattle.hub_terms.specs.declared.stops.Halt.TheVariants as halts
use Rattle.hub_terms.specs.declared.stops.Why.{Why}
use Rattle.hub_terms.specs.declared.stops.Why.TheVariants as why
use Rattle.hub_terms.specs.Jobs.{Job}
use Rattle.hub_terms.specs.Hubs.{HubState, Turn, worker_count, order_at, after_turn}
use Rattle.hub_terms.specs.HubEvents.{why_of, foreign_of, absorption, answer_to, answer_taken}
use Rattle.hub_terms.specs.Systems.{SystemState, Event, give, took, lost, joined, halt, opening_system, MayCome, state_after, state_taken}
use Rattle.hub_laws.proofs.HubGave as gave
use Rattle.round_laws.proofs.Suffice.{same_run}
use Rattle.budget_laws.specs.KeptFacts.{NamesWorker}

pub opens_named : (cuts : List ℕ) (limits : Limits) (told : Bool) (job : Job) → NamesWorker (opening_system cuts limits told job)
opens_named cuts limits told job k h = absurd (cc h)

-- the worker that the reason names is one of those before the event
named_before : (s : SystemState) (e : Event) → NamesWorker s → MayCome s e → (k : ℕ) → (state_after s e).hub.halt ≡ Some (why.NoReplacement k) → k < worker_count s.hub
named_before s (give i) old may k = gave.turn_by (λ (turn : Turn). (after_turn s.hub i turn).halt ≡ Some (why.NoReplacement k) → k < worker_count s.hub) s.hub i
    (λ reason is h. old k (is ∙ h))
    (λ free quiet all h. old k h)
    (λ free quiet none h. old k h)
    (λ free busy steps h. old k h)
    (λ free busy out h. absurd (cc h))
    (λ h. old k h)
named_before s (took i answer) old may k = by_order (order_at s.hub i)
  where
    same_halt : (answer : Answer) → (absorption s.hub i answer).halt ≡ s.hub.halt
    same_halt (Stepped epoch round changed updates) = refl
    same_halt (Reported epoch values) = refl

    by_foreign : (f : Option Foreign) → (state_taken s i (answer_taken s.hub i answer f)).hub.halt ≡ Some (why.NoReplacement k) → k < worker_count s.hub
    by_foreign (Some foreign) h = old k h
    by_foreign None h = old k (sym (same_halt answer) ∙ h)

    by_order : (o : Option Order) → (state_taken s i (answer_to s.hub i answer o)).hub.halt ≡ Some (why.NoReplacement k) → k < worker_count s.hub
    by_order None h = old k h
    by_order (Some order) h = by_foreign (foreign_of s.hub.inboxes i order answer) h
named_before s (lost i kind) old may k = by_halt s.hub.halt refl
  where
    by_limit : (b : Bool) → (if b then Some why.TooManyLosses else None) ≡ Some (why.NoReplacement k) → ⊥
    by_limit true h = cc h
    by_limit false h = cc h

    by_halt : (o : Option Why) → s.hub.halt ≡ o → (elim o [ Some reason ↦ Some reason | None ↦ if nat_lt s.hub.members.limits.losses (length s.hub.members.losses + 1) then Some why.TooManyLosses else None ]) ≡ Some (why.NoReplacement k) →
        k < worker_count s.hub
    by_halt (Some reason) is h = old k (is ∙ h)
    by_halt None is h = absurd (by_limit (nat_lt s.hub.members.limits.losses (length s.hub.members.losses + 1)) h)
named_before s (joined i) old may k = old k
named_before s (halt i reason) old may k = by_halt s.hub.halt refl
  where
    by_reason : (reason : Halt) → Some (why_of reason i) ≡ Some (why.NoReplacement k) → k < worker_count s.hub
    by_reason halts.NoReplacement h = (let same : i ≡ k = cc h in subst (λ (w : ℕ). w < worker_count s.hub) same may)
    by_reason halts.Memory h = absurd (cc h)

    by_halt : (o : Option Why) → s.hub.halt ≡ o → (elim o as (λ (x : Option Why). HubState) [ Some first ↦ s.hub | None ↦ record s.hub { halt = Some (why_of reason i) } ]).halt ≡ Some (why.NoReplacement k) → k < worker_count s.hub
    by_halt (Some first) is h = old k h
    by_halt None is h = by_reason reason h

pub event_names_worker : (s : SystemState) (e : Event) → NamesWorker s → MayCome s e → NamesWorker (state_after s e)
event_names_worker s e old may k h = subst (λ (cuts : List ℕ). k < part_count cuts) (sym (same_run s e).cuts) (named_before s e old may k h)
