use Rattle.value_laws.proofs.NeverImproving.{never_lower, never_raise}
use Rattle.value_laws.proofs.edges.CoreProgramEdgeRule.never_improves.Goals as goal

pub returns-then-self : goal.returns-then-self
returns-then-self c = rw c.may_raise.ensures (never_raise c.args.self.now c.if-self.true)

pub returns-else-self : goal.returns-else-self
returns-else-self c = rw c.may_lower.ensures (never_lower c.args.self.now c.if-self.false)
