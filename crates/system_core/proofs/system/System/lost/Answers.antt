use Rattle.std.proofs.Common.{subst, sym}
use Rattle.hub_terms.specs.Systems.{SystemState, MayCome, lost}
use Rattle.budget_laws.proofs.AllKept.{event_keeps_all}
use Rattle.system_core.proofs.Events.{others_stay}
use Rattle.system_core.proofs.system.System.lost.Goals as goal

pub invariant_of-self : goal.invariant_of-self
invariant_of-self c = rw (c.lost.ensures, c.worlds_without.ensures, ← c.self.view_is) (event_keeps_all _ (lost c.args.i c.args.kind) c.self.invariant (subst (λ (s : SystemState). MayCome s (lost c.args.i c.args.kind)) (sym c.self.view_is) c.requires))

pub returns-clause-others : goal.returns-clause-others
returns-clause-others c = rw (c.lost.ensures, c.worlds_without.ensures, ← c.self.view_is) (others_stay _ (lost c.args.i c.args.kind) c.self.invariant (subst (λ (s : SystemState). MayCome s (lost c.args.i c.args.kind)) (sym c.self.view_is) c.requires))
