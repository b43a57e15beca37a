-- Starts whose values are values.
use Rattle.std.specs.Prelude.{⊤}
use Rattle.px_base.specs.declared.program.Start.{Start}
use Rattle.px_base.specs.declared.program.Start.TheVariants.{Source, Each, OwnId}
use Rattle.px_base.specs.Values.{IsValue}

-- the numbers that the start names are values
abbrev pub IsValueStart : Start → Type 0
IsValueStart (Source at_source elsewhere) = IsValue at_source × IsValue elsewhere
IsValueStart (Each x) = IsValue x
IsValueStart OwnId = ⊤
