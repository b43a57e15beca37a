use Rattle.std.proofs.Common.{arith}
use Rattle.value_laws.proofs.laws.flip_turns_the_order.Goals as goal

pub returns-clause-turns : goal.returns-clause-turns
returns-clause-turns c = λ x y hx hy. (λ h. omega (arith, h), λ h. omega (arith, h, hx, hy))
