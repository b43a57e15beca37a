-- The programs by name.
use Rattle.px_base.specs.declared.TheConstants.{TOP}
use Rattle.px_base.specs.declared.program.Form.TheVariants.{Given}
use Rattle.px_base.specs.declared.program.Reads.TheVariants as reads_kind
use Rattle.px_base.specs.declared.program.Start.TheVariants.{Source}
use Rattle.px_base.specs.declared.program.Along.TheVariants.{Plus}
use Rattle.px_base.specs.declared.program.Fold.TheVariants.{Least}
use Rattle.px_base.specs.declared.program.Own.TheVariants as own
use Rattle.px_base.specs.declared.program.Program.{Program}

-- Each vertex's distance from the nearest source, in edges: 0 at a source, and one more than at the nearest vertex read.
abbrev pub bfs : Program
bfs = record { form = Given; reads = reads_kind.All; start = Source 0 TOP; along = Plus 1; fold = Least; own = own.Keep }
