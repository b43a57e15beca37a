-- The parts of the table of classes for programs that gather values.
use Rattle.std.specs.Prelude.{Bool, if◌then◌else◌, Result, Ok, Err}
use Rattle.px_base.specs.declared.program.Program.{Program}
use Rattle.px_base.specs.declared.program.CoreProgram.{CoreProgram}
use Rattle.px_base.specs.declared.program.Class.{Class}
use Rattle.px_base.specs.declared.program.Class.TheVariants.{SelfStabilising}
use Rattle.px_base.specs.declared.program.Refused.{Refused}
use Rattle.px_base.specs.declared.program.Refused.TheVariants.{Cyclic}
use Rattle.px_base.specs.Classes.{keeps, may_lower, may_raise, reads_all}

-- some core value becomes less, and so better, on a read
abbrev pub may_improve : CoreProgram → Bool
may_improve core = if core.flipped then may_raise core.program.along else may_lower core.program.along

-- the class of a program that gathers values, where kept is that of one that keeps its own value
abbrev pub gathering_class : Program → Result Class Refused → Result Class Refused
gathering_class p kept = if keeps p.own then kept else (if reads_all p.reads then Err Cyclic else Ok SelfStabilising)
