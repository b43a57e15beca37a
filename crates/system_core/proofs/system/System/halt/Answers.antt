use Rattle.std.proofs.Common.{subst, sym}
use Rattle.hub_terms.specs.Systems.{SystemState, MayCome, halt}
use Rattle.budget_laws.proofs.AllKept.{event_keeps_all}
use Rattle.system_core.proofs.Events.{others_stay}
use Rattle.system_core.proofs.system.System.halt.Goals as goal

pub invariant_of-self : goal.invariant_of-self
invariant_of-self c = rw c.halt.ensures (event_keeps_all _ (halt c.args.i c.args.reason) c.self.invariant (subst (λ (s : SystemState). MayCome s (halt c.args.i c.args.reason)) (sym c.self.view_is) c.requires))

pub returns-clause-others : goal.returns-clause-others
returns-clause-others c = rw (c.halt.ensures, ← c.self.view_is) (others_stay _ (halt c.args.i c.args.reason) c.self.invariant (subst (λ (s : SystemState). MayCome s (halt c.args.i c.args.reason)) (sym c.self.view_is) c.requires))
