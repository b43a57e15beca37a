-- Why a step was refused.
use Rattle.std.specs.Prelude.{◌≡◌, Result, Err, IsOk}
use Rattle.px_base.specs.Worlds.{World, Refusal, wrong_epoch, foreign, StepOutcome}
use Rattle.px_base.specs.declared.wire.StepFault.{StepFault}
use Rattle.px_base.specs.declared.wire.StepFault.TheVariants as fault

-- The fault is the one that the definition gives. Memory comes last: an order that must be refused is never answered by
-- want of memory.
abbrev pub Refuses : StepFault → Result (StepOutcome World) Refusal → Type 0
Refuses (fault.WrongEpoch had got) step = step ≡ Err (wrong_epoch had got)
Refuses (fault.Foreign vertex) step = step ≡ Err (foreign vertex)
Refuses fault.Memory step = IsOk step
