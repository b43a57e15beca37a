-- What is greatest in core values, turned back, is the program's answer.
use Rattle.std.proofs.Common.{◌≡◌, ℕ, true, false, List, length, map, refl, sym, subst}
use Rattle.std.specs.Prelude.{Ok}
use Rattle.px_base.specs.declared.graph.Read.{Read}
use Rattle.px_base.specs.declared.program.Program.{Program}
use Rattle.px_base.specs.declared.program.CoreProgram.{CoreProgram}
use Rattle.px_base.specs.declared.program.Class.TheVariants.{LocallyCorrecting}
use Rattle.px_base.specs.Values.{IsValueList}
use Rattle.px_base.specs.Graphs.{RowsFit}
use Rattle.px_base.specs.Classes.{class_of, counts_reads, is_mex, keeps}
use Rattle.px_base.specs.Core.{core_form, core_value}
use Rattle.px_base.specs.Answers.{IsGreatestConsistent}
use Rattle.px_base.specs.Starts.{core_starts_of}
use Rattle.consistent_solver.specs.CoreLists.{IsGreatestCoreConsistent}
use Rattle.consistent_solver.proofs.Turning.{greatest_from, keeps_own, no_count, no_mex}

-- the core form of a locally correcting program keeps the own value, and takes the least
pub core_keeps : (q : Program) (core : CoreProgram) → core ≡ core_form q → class_of q ≡ Ok LocallyCorrecting → keeps core.program.own ≡ true
core_keeps q core is class = let P : CoreProgram → Type 0 = λ k. keeps k.program.own ≡ true in subst P (sym is) (keeps_own q class)

pub core_no_mex : (q : Program) (core : CoreProgram) → core ≡ core_form q → class_of q ≡ Ok LocallyCorrecting → is_mex core.program.fold ≡ false
core_no_mex q core is class = let P : CoreProgram → Type 0 = λ k. is_mex k.program.fold ≡ false in subst P (sym is) (no_mex q class)

pub core_no_count : (q : Program) (core : CoreProgram) → core ≡ core_form q → class_of q ≡ Ok LocallyCorrecting → counts_reads core.program.fold ≡ false
core_no_count q core is class = let P : CoreProgram → Type 0 = λ k. counts_reads k.program.fold ≡ false in subst P (sym is) (no_count q class)

pub core_is_form : (q : Program) (core : CoreProgram) → core ≡ core_form q → core ≡ core_form core.program
core_is_form q core is = let P : CoreProgram → Type 0 = λ k. k ≡ core_form k.program in subst P (sym is) refl

pub answer_is : (n : ℕ) (q : Program) (rows : List (List Read)) (starts : List ℕ) (core : CoreProgram) (given values before after : List ℕ) → class_of q ≡ Ok LocallyCorrecting → RowsFit n rows → IsValueList n starts →
    core ≡ core_form q → given ≡ core_starts_of core starts → IsGreatestCoreConsistent core rows given values → before ≡ values → after ≡ map (core_value core) before → IsGreatestConsistent q rows starts after
answer_is n q rows starts core given values before after class fits valued core_is given_is greatest before_is after_is =
    let sized : n ≡ length rows = sym fits.one_each in
    let end : IsGreatestCoreConsistent (core_form q) rows (core_starts_of (core_form q) starts) values = rw (given_is, core_is) at greatest in
    rw (after_is, before_is, core_is) (greatest_from q rows starts values class (rw sized at fits) (rw sized at valued) end)
