-- A program may improve a value exactly where its class is refused for it.
use Rattle.std.proofs.Common.{◌≡◌, Bool, true, false, refl}
use Rattle.std.specs.Prelude.{IsTrue, not, ◌↔◌}
use Rattle.px_base.specs.declared.program.Program.{Program}
use Rattle.px_base.specs.declared.program.CoreProgram.{CoreProgram}
use Rattle.px_base.specs.Laws.{NeverImproves}
use Rattle.value_laws.proofs.NeverImproving.{never_lower, never_raise}
use Rattle.class_checker.specs.Gathering.{may_improve}

-- the test of a core program, by whether it is flipped
never_by : (q : Program) (flipped : Bool) → IsTrue (not (may_improve (record { program = q; flipped = flipped }))) ↔ NeverImproves (record { program = q; flipped = flipped })
never_by q true = never_raise (record { program = q; flipped = true }) refl
never_by q false = never_lower (record { program = q; flipped = false }) refl

never : (core : CoreProgram) → IsTrue (not (may_improve core)) ↔ NeverImproves core
never core = never_by core.program core.flipped

off : (b : Bool) → IsTrue (not b) → b ≡ false
off true h = cc
off false h = refl

on : (b : Bool) → (IsTrue (not b) → ⊥) → b ≡ true
on true h = refl
on false h = absurd (h refl)

pub improves_not : (core : CoreProgram) → NeverImproves core → may_improve core ≡ false
improves_not core h = off (may_improve core) ((never core).1 h)

pub improves : (core : CoreProgram) → (NeverImproves core → ⊥) → may_improve core ≡ true
improves core h = on (may_improve core) (λ t. h ((never core).0 t))
