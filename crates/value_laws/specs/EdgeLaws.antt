-- The laws of core edge values, by cases on how a value goes along an edge.
use Rattle.std.proofs.Common.{ℕ, ◌-◌, ◌≤◌, Bool, true, false, arith}
use Rattle.px_base.specs.declared.TheConstants.{TOP}
use Rattle.px_base.specs.declared.program.Along.{Along}
use Rattle.px_base.specs.declared.program.Along.TheVariants.{Same, Plus, PlusWeight, FloorWeight, CapWeight, Minus}
use Rattle.px_base.specs.declared.program.Program.{Program}
use Rattle.px_base.specs.declared.program.CoreProgram.{CoreProgram}
use Rattle.px_base.specs.Values.{IsValue, IsWeight}
use Rattle.px_base.specs.Rules.{edge_value}
use Rattle.px_base.specs.Core.{core_edge_value}
use Rattle.px_base.specs.Laws.{IsMonotone}

-- the program in flipped values, or in its own
abbrev core_of : Program → Bool → CoreProgram
core_of q flipped = record { program = q; flipped = flipped }

-- ---- a value stays one

value_in_range : (along : Along) (x w : ℕ) → IsValue x → IsWeight w → IsValue (edge_value along x w)
value_in_range Same x w hx hw = hx
value_in_range (Plus n) x w hx hw = omega arith
value_in_range PlusWeight x w hx hw = omega arith
value_in_range FloorWeight x w hx hw = omega (arith, hx, hw)
value_in_range CapWeight x w hx hw = omega (arith, hx)
value_in_range (Minus n) x w hx hw = omega (arith, hx)

in_range_by : (q : Program) (flipped : Bool) (x w : ℕ) → IsValue x → IsWeight w → IsValue (core_edge_value (core_of q flipped) x w)
in_range_by q false x w hx hw = value_in_range q.along x w hx hw
in_range_by q true x w hx hw = omega arith

pub core_in_range : (core : CoreProgram) (x w : ℕ) → IsValue x → IsWeight w → IsValue (core_edge_value core x w)
core_in_range core = in_range_by core.program core.flipped

-- ---- a greater value stays the greater one

value_monotone : (along : Along) (a b w : ℕ) → a ≤ b → edge_value along a w ≤ edge_value along b w
value_monotone Same a b w h = h
value_monotone (Plus n) a b w h = omega (arith, h)
value_monotone PlusWeight a b w h = omega (arith, h)
value_monotone FloorWeight a b w h = omega (arith, h)
value_monotone CapWeight a b w h = omega (arith, h)
value_monotone (Minus n) a b w h = omega (arith, h)

monotone_by : (q : Program) (flipped : Bool) → IsMonotone (core_of q flipped)
monotone_by q false = λ a b w hb h. value_monotone q.along a b w h
monotone_by q true = λ a b w hb h. let turned : TOP - b ≤ TOP - a = omega (arith, h) in omega (arith, value_monotone q.along (TOP - b) (TOP - a) w turned)

pub core_monotone : (core : CoreProgram) → IsMonotone core
core_monotone core = monotone_by core.program core.flipped
