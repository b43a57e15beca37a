-- The contents that contracts alone see, before they are given one.
use Rattle.std.specs.Prelude.{[]}
use Rattle.px_base.specs.ProgramNames.{components}
use Rattle.px_base.specs.Core.{core_form}
use Rattle.hub_terms.specs.Jobs.{Job}

-- a job of no vertices
abbrev pub no_job : Job
no_job = record { rows = []; core = core_form components; starts = [] }
