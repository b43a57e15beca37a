use Rattle.std.proofs.Common.{◌≡◌, true, refl, sym, subst}
use Rattle.px_base.specs.Core.{core_form}
use Rattle.px_base.specs.Laws.{NeverImproves}
use Rattle.class_checker.proofs.Improving.{improves, improves_not}
use Rattle.class_checker.proofs.classes.unless_improved.Goals as goal

pub returns-then-never_improves : goal.returns-then-never_improves
returns-then-never_improves c =
    let never : NeverImproves (core_form c.args.program.now) = subst NeverImproves c.core_form.ensures (c.never_improves.ensures.0 c.if-never_improves.true) in
    rw (improves_not (core_form c.args.program.now) never) refl

pub returns-else-never_improves : goal.returns-else-never_improves
returns-else-never_improves c =
    let not_never : NeverImproves (core_form c.args.program.now) → ⊥ =
    λ never. (let told : c.never_improves.result ≡ true = c.never_improves.ensures.1 (subst NeverImproves (sym c.core_form.ensures) never) in cc) in
    rw (improves (core_form c.args.program.now) not_never) refl
