-- What is left to do once the words, the program, its class and the number of sources are looked at, in this order.
use Rattle.std.specs.Prelude.{ℕ, ◌≡◌, ⊤, Bool, true, false, not, ◌&&◌, ◌==◌, List, length, if◌then◌else◌, IsOk, Result, Ok, Err}
use Rattle.px_base.specs.declared.program.Program.{Program}
use Rattle.px_base.specs.declared.program.Class.{Class}
use Rattle.px_base.specs.declared.program.Class.TheVariants.{SelfStabilising, LocallyCorrecting, GloballyCorrecting}
use Rattle.px_base.specs.Classes.{class_of}
use Rattle.px_base.specs.RowTexts.{IsRowProgram}
use Rattle.px_base.specs.Starts.{needs_source, uses_weight}
use Rattle.command_words.specs.declared.command.ProgramFault.{ProgramFault}
use Rattle.command_words.specs.declared.command.RunCommand.{RunCommand}
use Rattle.command_words.specs.declared.command.SolveCommand.{SolveCommand}
use Rattle.command_words.specs.declared.command.PartsCommand.{PartsCommand}
use Rattle.command_words.specs.CommandFits.{IsWorkerCount}
use Rattle.command_ends.specs.declared.stop.Stop.{Stop}
use Rattle.command_ends.specs.declared.stop.Stop.TheVariants as stop
use Rattle.command_texts.specs.declared.job.Job.{Job}
use Rattle.command_texts.specs.declared.job.Job.TheVariants as job

-- the program corrects itself locally, and so `run` takes it
abbrev pub is_run_class : Class → Bool
is_run_class LocallyCorrecting = true
is_run_class SelfStabilising = false
is_run_class GloballyCorrecting = false

-- what comes next where there is no stop
abbrev pub unless_stopped : {X Y : Type 0} → Result X Stop → (X → Result Y Stop) → Result Y Stop
unless_stopped (Err why) next = Err why
unless_stopped (Ok x) next = next x

-- the program with its class
abbrev pub with_class : Result Program ProgramFault → Result (Program × Class) Stop
with_class (Err fault) = Err (stop.Program fault)
with_class (Ok program) = elim (class_of program) [ Err why ↦ Err (stop.Refused why) | Ok class ↦ Ok (program, class) ]

-- sources are given exactly where the program's start needs some
abbrev pub check_sources : Program → List ℕ → Result (Unit {0}) Stop
check_sources program sources =
    if needs_source program.start && length sources == 0 then Err stop.NeedsSource
    else if not (needs_source program.start) && not (length sources == 0) then Err stop.TakesNoSource
    else Ok tt

-- `run` takes the programs of one class
abbrev pub check_class : Class → Result (Unit {0}) Stop
check_class class = if is_run_class class then Ok tt else Err stop.ClassNotBuilt

-- what each command that writes a text leaves to do, or why it stops before that
abbrev pub run_job : RunCommand → Result Job Stop
run_job c = unless_stopped (with_class c.program) (λ it. unless_stopped (check_class it.1) (λ _. unless_stopped (check_sources it.0 c.sources) (λ _. Ok (job.Run it.0 c.sources c.workers))))

abbrev pub solve_job : SolveCommand → Result Job Stop
solve_job c = unless_stopped (with_class c.program) (λ it. unless_stopped (check_sources it.0 c.sources) (λ _. Ok (job.Solve it.0 c.sources c.unweighted)))

abbrev pub classify_job : Result Program ProgramFault → Result Job Stop
classify_job program = unless_stopped (with_class program) (λ it. Ok (job.Classify it.1))

abbrev pub parts_job : PartsCommand → Result Job Stop
parts_job c = unless_stopped (with_class c.program) (λ it. Ok (job.Parts it.0 c.workers c.unweighted))

-- the source is read
abbrev pub reads_source : Result Job Stop → Bool
reads_source (Err why) = false
reads_source (Ok (job.Run program sources workers)) = true
reads_source (Ok (job.Solve program sources unweighted)) = true
reads_source (Ok (job.Classify class)) = false
reads_source (Ok (job.Parts program workers unweighted)) = true

-- the weights of the input are read
abbrev pub reads_weights : Result Job Stop → Bool
reads_weights (Err why) = false
reads_weights (Ok (job.Run program sources workers)) = uses_weight program.along
reads_weights (Ok (job.Solve program sources unweighted)) = uses_weight program.along && not unweighted
reads_weights (Ok (job.Classify class)) = false
reads_weights (Ok (job.Parts program workers unweighted)) = uses_weight program.along && not unweighted

-- what a job keeps: its program has the class that it needs, and its numbers are within their ranges
abbrev pub JobFits : Job → Type 0
JobFits (job.Run program sources workers) = (class_of program ≡ Ok LocallyCorrecting) × IsRowProgram program × IsWorkerCount workers
JobFits (job.Solve program sources unweighted) = IsOk (class_of program) × IsRowProgram program
JobFits (job.Classify class) = ⊤
JobFits (job.Parts program workers unweighted) = IsRowProgram program × IsWorkerCount workers
