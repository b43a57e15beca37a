-- Where no core value becomes better on a read.
use Rattle.std.proofs.Common.{◌≡◌, ℕ, ◌-◌, ◌<◌, ◌≤◌, Bool, true, false, refl, sym, subst, arith, lit<, lit≤}
use Rattle.std.specs.Prelude.{IsTrue, not, nat_lt, ◌↔◌}
use Rattle.std.proofs.lemmas.Bool.Decides.{nat_tests}
use Rattle.px_base.specs.declared.TheConstants.{TOP}
use Rattle.px_base.specs.declared.program.Along.{Along}
use Rattle.px_base.specs.declared.program.Along.TheVariants.{Same, Plus, PlusWeight, FloorWeight, CapWeight, Minus}
use Rattle.px_base.specs.declared.program.Program.{Program}
use Rattle.px_base.specs.declared.program.CoreProgram.{CoreProgram}
use Rattle.px_base.specs.Values.{IsValue}
use Rattle.px_base.specs.Rules.{edge_value}
use Rattle.px_base.specs.Classes.{may_lower, may_raise}
use Rattle.px_base.specs.Laws.{NeverImproves}

abbrev core_of : Program → Bool → CoreProgram
core_of q flipped = record { program = q; flipped = flipped }

some : (n : ℕ) → nat_lt 0 n ≡ true → 0 < n
some n h = grind (arith, nat_tests)

none : (n : ℕ) → nat_lt 0 n ≡ false → n ≡ 0
none n h = grind (arith, nat_tests)

never_lowered : (along : Along) → may_lower along ≡ false → (x w : ℕ) → IsValue x → x ≤ edge_value along x w
never_lowered Same h x w hx = omega arith
never_lowered (Plus n) h x w hx = omega (arith, hx)
never_lowered PlusWeight h x w hx = omega (arith, hx)
never_lowered FloorWeight h x w hx = omega arith
never_lowered CapWeight h x w hx = cc
never_lowered (Minus n) h x w hx = omega (arith, none n h)

never_raised : (along : Along) → may_raise along ≡ false → (x w : ℕ) → IsValue x → edge_value along x w ≤ x
never_raised Same h x w hx = omega arith
never_raised (Plus n) h x w hx = omega (arith, none n h)
never_raised PlusWeight h x w hx = cc
never_raised FloorWeight h x w hx = cc
never_raised CapWeight h x w hx = omega arith
never_raised (Minus n) h x w hx = omega arith

one_lowered : (along : Along) → may_lower along ≡ true → edge_value along 1 0 ≡ 0
one_lowered Same h = cc
one_lowered (Plus n) h = cc
one_lowered PlusWeight h = cc
one_lowered FloorWeight h = cc
one_lowered CapWeight h = refl
one_lowered (Minus n) h = omega (arith, some n h)

zero_raised : (along : Along) → may_raise along ≡ true → 1 ≤ edge_value along 0 1
zero_raised Same h = cc
zero_raised (Plus n) h = omega (arith, some n h)
zero_raised PlusWeight h = lit≤ tt
zero_raised FloorWeight h = lit≤ tt
zero_raised CapWeight h = cc
zero_raised (Minus n) h = cc

lower_by : (q : Program) (b : Bool) → may_lower q.along ≡ b → IsTrue (not b) ↔ NeverImproves (core_of q false)
lower_by q true h = (λ t. cc, λ never. absurd (omega (arith, one_lowered q.along h, never 1 0 (lit≤ tt) (lit< tt))))
lower_by q false h = (λ t x w hx hw. never_lowered q.along h x w hx, λ never. refl)

raise_by : (q : Program) (b : Bool) → may_raise q.along ≡ b → IsTrue (not b) ↔ NeverImproves (core_of q true)
raise_by q true h = (λ t. cc, λ never. absurd (omega (arith, zero_raised q.along h, never TOP 1 (omega arith) (lit< tt))))
raise_by q false h = (λ t x w hx hw. (let below : edge_value q.along (TOP - x) w ≤ TOP - x = never_raised q.along h (TOP - x) w (omega arith) in omega (arith, below, hx)), λ never. refl)

-- in values that aren't flipped: where no value may be lowered
pub never_lower : (core : CoreProgram) → core.flipped ≡ false → IsTrue (not (may_lower core.program.along)) ↔ NeverImproves core
never_lower core plain = subst (λ flipped. IsTrue (not (may_lower core.program.along)) ↔ NeverImproves (core_of core.program flipped)) (sym plain) (lower_by core.program (may_lower core.program.along) refl)

-- in flipped values: where no value may be raised
pub never_raise : (core : CoreProgram) → core.flipped ≡ true → IsTrue (not (may_raise core.program.along)) ↔ NeverImproves core
never_raise core turned = subst (λ flipped. IsTrue (not (may_raise core.program.along)) ↔ NeverImproves (core_of core.program flipped)) (sym turned) (raise_by core.program (may_raise core.program.along) refl)
