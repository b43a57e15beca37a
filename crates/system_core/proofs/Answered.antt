-- Where the links tell their peers, the hub finds nothing wrong with an answer that may come.
use Rattle.std.proofs.Common.{◌≡◌, ℕ, true, None, Option, Some, refl}
use Rattle.std.specs.Prelude.{Err, MatchOption, ⊤}
use Rattle.px_base.specs.declared.wire.Answer.{Answer}
use Rattle.px_base.specs.declared.wire.Foreign.{Foreign}
use Rattle.px_base.specs.declared.wire.Order.{Order}
use Rattle.px_base.specs.Worlds.{World}
use Rattle.hub_terms.specs.Hubs.{order_at}
use Rattle.hub_terms.specs.HubEvents.{after_answer, answer_to, foreign_of}
use Rattle.hub_terms.specs.InStep.{IsInStep}
use Rattle.hub_terms.specs.Systems.{SystemState, MayCome, step_of, took, world_at}
use Rattle.system_laws.proofs.Honest.{honest_taken}

module _ (s : SystemState) (i : ℕ) (answer : Answer) (ok : IsInStep s) (may : MayCome s (took i answer)) (tells : s.told ≡ true) where
  -- a worker with an honest answer has a world
  has_world : (w : World) × (world_at s i ≡ Some w)
  has_world = by_world (world_at s i) refl (may.3 tells)
    where
      by_world : (o : Option World) → world_at s i ≡ o → MatchOption (step_of o (order_at s.hub i)) ⊥ (λ outcome. outcome.answer ≡ answer) → (w : World) × (world_at s i ≡ Some w)
      by_world None none h = absurd h
      by_world (Some w) here h = (w, here)

  pub never_foreign : (foreign : Foreign) → after_answer s.hub i answer ≡ Err foreign → ⊥
  never_foreign foreign = by_order (order_at s.hub i) refl may.1
    where
      none_wrong : (order : Order) → order_at s.hub i ≡ Some order → foreign_of s.hub.inboxes i order answer ≡ None
      none_wrong order had = honest_taken s i order answer has_world.0 ok had has_world.1 may.3

      by_order : (o : Option Order) → order_at s.hub i ≡ o → MatchOption o ⊥ (λ order. ⊤) → answer_to s.hub i answer o ≡ Err foreign → ⊥
      by_order None none asked e = asked
      by_order (Some order) had asked e = cc (rw (none_wrong order had) at e)
