-- A sound job has one answer in core values: that of the program, turned round where the program takes the greatest.
use Rattle.std.proofs.Common.{◌≡◌, ℕ, ◌≤◌, ◌∙◌, List, length, refl, sym, ap, subst, arith}
use Rattle.std.specs.Prelude.{Result, Ok, Err, IsOk, MatchResult}
use Rattle.std.proofs.lemmas.List.{length-map}
use Rattle.px_base.specs.declared.program.Program.{Program}
use Rattle.px_base.specs.declared.program.Class.{Class}
use Rattle.px_base.specs.declared.program.Class.TheVariants.{SelfStabilising, LocallyCorrecting, GloballyCorrecting}
use Rattle.px_base.specs.declared.program.Refused.{Refused}
use Rattle.px_base.specs.Values.{IsValue, IsValueList}
use Rattle.px_base.specs.Classes.{class_of}
use Rattle.px_base.specs.Core.{core_value}
use Rattle.px_base.specs.Answers.{AnswersAs, reads_needed}
use Rattle.px_base.proofs.OneFixed.{one_fixed}
use Rattle.px_base.proofs.Uniqueness.{one_consistent, one_core}
use Rattle.consistent_solver.proofs.Turning.{turned, turned_twice, turned_values, program_exists}
use Rattle.ordered_solver.proofs.Existence.{one_exists}
use Rattle.core_solver.proofs.CoreExists.{core_exists}
use Rattle.hub_terms.specs.Jobs.{Job, IsSound, RowsSuit}
use Rattle.hub_terms.specs.Valid.{IsCoreAnswer}

module _ (job : Job) where
  abbrev program : Program
  program = job.core.program

  abbrev starts : List ℕ
  starts = turned job.core job.starts

  -- x is the answer of the program where this is its class
  abbrev AnswersBy : Result Class Refused → List ℕ → Type 0
  AnswersBy r x = MatchResult r (λ class. AnswersAs class program job.rows starts x) (λ refused. ⊥)

  abbrev SuitsBy : Result Class Refused → Type 0
  SuitsBy r = MatchResult r (λ class. RowsSuit class job.rows) (λ refused. ⊥)

  small : (f : ℕ) → f ≤ 1 → IsValue f
  small f few = omega (arith, few)

  -- an answer has a value for each vertex
  answer_values : (r : Result Class Refused) (x : List ℕ) → AnswersBy r x → IsValueList (length job.rows) x
  answer_values (Ok SelfStabilising) x h = h.values
  answer_values (Ok LocallyCorrecting) x h = h.consistent.values
  answer_values (Ok GloballyCorrecting) x h = record { one_each = h.one_each; in_range = λ k d inside. small _ (h.flags k d inside) }
  answer_values (Err refused) x h = absurd h

  program_answer : IsSound job → (r : Result Class Refused) → class_of program ≡ r → IsOk r → SuitsBy r → (x : List ℕ) × AnswersBy r x
  program_answer sound (Ok LocallyCorrecting) class accepted suit = program_exists program job.rows starts class sound.rows (turned_values job.core (length job.rows) job.starts sound.starts)
  program_answer sound (Ok SelfStabilising) class accepted suit = one_exists program job.rows starts suit sound.rows (turned_values job.core (length job.rows) job.starts sound.starts) sound.reads
  program_answer sound (Ok GloballyCorrecting) class accepted suit = core_exists (reads_needed program.fold) job.rows
  program_answer sound (Err refused) class accepted suit = absurd suit

  one_answer : (r : Result Class Refused) → SuitsBy r → (x y : List ℕ) → AnswersBy r x → AnswersBy r y → x ≡ y
  one_answer (Ok LocallyCorrecting) suit x y h k = one_consistent program job.rows starts x y h k
  one_answer (Ok SelfStabilising) suit x y h k = one_fixed program job.rows starts x y suit h k
  one_answer (Ok GloballyCorrecting) suit x y h k = one_core (reads_needed program.fold) job.rows x y h k
  one_answer (Err refused) suit x y h k = absurd suit

  pub exists : IsSound job → (a : List ℕ) × IsCoreAnswer job a
  exists sound =
      let found = program_answer sound (class_of program) refl sound.class sound.suit in
      let values : IsValueList (length job.rows) found.0 = answer_values (class_of program) found.0 found.1 in
      let back : turned job.core (turned job.core found.0) ≡ found.0 = turned_twice job.core (length job.rows) found.0 values in
      (turned job.core found.0, record { values = (turned_values job.core (length job.rows) found.0 values).in_range; answer = subst (AnswersBy (class_of program)) (sym back) found.1 })

  core_values : (a : List ℕ) → IsCoreAnswer job a → IsValueList (length job.rows) a
  core_values a is = record { one_each = sym (length-map a (core_value job.core)) ∙ (answer_values (class_of program) (turned job.core a) is.answer).one_each; in_range = is.values }

  pub only : (a b : List ℕ) → IsSound job → IsCoreAnswer job a → IsCoreAnswer job b → a ≡ b
  only a b sound one other =
      let same : turned job.core a ≡ turned job.core b = one_answer (class_of program) sound.suit (turned job.core a) (turned job.core b) one.answer other.answer in
      sym (turned_twice job.core (length job.rows) a (core_values a one)) ∙ (ap (turned job.core) same ∙ turned_twice job.core (length job.rows) b (core_values b other))
