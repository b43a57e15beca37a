-- What the words leave to do: to write a text, or to serve a worker.
use Rattle.std.specs.Prelude.{⊤, Bool, true, false, Option, Some, None, Result, Ok, Err}
use Rattle.command_words.specs.declared.command.Command.{Command}
use Rattle.command_words.specs.declared.command.Command.TheVariants as command
use Rattle.command_ends.specs.declared.stop.Stop.{Stop}
use Rattle.command_ends.specs.declared.stop.Stop.TheVariants as stop
use Rattle.command_texts.specs.declared.job.Job.{Job}
use Rattle.command_texts.specs.declared.job.Plan.{Plan}
use Rattle.command_texts.specs.declared.job.Plan.TheVariants as plan
use Rattle.command_texts.specs.Jobs.{run_job, solve_job, classify_job, parts_job, reads_source, JobFits}

-- the text of the job is to be written
abbrev pub written : Result Job Stop → Result Plan Stop
written (Err why) = Err why
written (Ok this) = Ok (plan.Write this)

-- what the command leaves to do, or why it stops before that
abbrev pub plan_for : Command → Result Plan Stop
plan_for (command.Run c) = written (run_job c)
plan_for (command.Solve c) = written (solve_job c)
plan_for (command.Classify program) = written (classify_job program)
plan_for (command.Parts c) = written (parts_job c)
plan_for command.Worker = Ok plan.Serve

-- the same of words, which may ask for nothing
unfoldable pub plan_of : Option Command → Result Plan Stop
plan_of None = Err stop.BadWords
plan_of (Some command) = plan_for command

-- the source is read
abbrev pub plan_reads : Result Plan Stop → Bool
plan_reads (Err why) = false
plan_reads (Ok (plan.Write this)) = reads_source (Ok this)
plan_reads (Ok plan.Serve) = true

-- frames are read and written
abbrev pub serves_frames : Result Plan Stop → Bool
serves_frames (Err why) = false
serves_frames (Ok (plan.Write this)) = false
serves_frames (Ok plan.Serve) = true

-- what a plan keeps
abbrev pub PlanFits : Plan → Type 0
PlanFits (plan.Write this) = JobFits this
PlanFits plan.Serve = ⊤
