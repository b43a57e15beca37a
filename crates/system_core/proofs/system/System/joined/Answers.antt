use Rattle.std.proofs.Common.{subst, sym}
use Rattle.hub_terms.specs.Systems.{SystemState, MayCome, joined}
use Rattle.budget_laws.proofs.AllKept.{event_keeps_all}
use Rattle.system_core.proofs.Events.{others_stay}
use Rattle.system_core.proofs.system.System.joined.Goals as goal

pub invariant_of-self : goal.invariant_of-self
invariant_of-self c = rw (c.joined.ensures, c.worlds_with_new.ensures, ← c.self.view_is) (event_keeps_all _ (joined c.args.i) c.self.invariant (subst (λ (s : SystemState). MayCome s (joined c.args.i)) (sym c.self.view_is) c.requires))

pub returns-clause-others : goal.returns-clause-others
returns-clause-others c = rw (c.joined.ensures, c.worlds_with_new.ensures, ← c.self.view_is) (others_stay _ (joined c.args.i) c.self.invariant (subst (λ (s : SystemState). MayCome s (joined c.args.i)) (sym c.self.view_is) c.requires))
