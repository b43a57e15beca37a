-- The built-in programs and their names.
use Rattle.std.specs.Prelude.{ℕ, nat_le, List, [], ◌∷◌, length, take, drop, codes, bytes_eq, if◌then◌else◌, Option, Some, None}
use Rattle.px_base.specs.declared.TheConstants.{TOP}
use Rattle.px_base.specs.declared.program.Form.TheVariants.{Given, Simple}
use Rattle.px_base.specs.declared.program.Rank.TheVariants.{ById}
use Rattle.px_base.specs.declared.program.Reads.TheVariants as reads_kind
use Rattle.px_base.specs.declared.program.Start.TheVariants.{Source, Each, OwnId}
use Rattle.px_base.specs.declared.program.Along.TheVariants.{Same, Plus, PlusWeight, CapWeight}
use Rattle.px_base.specs.declared.program.Fold.TheVariants.{Least, Greatest, Mex, Count}
use Rattle.px_base.specs.declared.program.Own.TheVariants as own_kind
use Rattle.px_base.specs.declared.program.Program.{Program}
use Rattle.px_base.specs.Lines.{small_number}
use Rattle.px_base.specs.Programs.{bfs}

-- ---- the programs

-- the least sum of weights along a walk from a source
abbrev pub sssp : Program
sssp = record { form = Given; reads = reads_kind.All; start = Source 0 TOP; along = PlusWeight; fold = Least; own = own_kind.Keep }

-- the greatest least weight of a walk from a source
abbrev pub widest : Program
widest = record { form = Given; reads = reads_kind.All; start = Source TOP 0; along = CapWeight; fold = Greatest; own = own_kind.Keep }

-- the least id of those that a walk leads to
abbrev pub components : Program
components = record { form = Simple; reads = reads_kind.All; start = OwnId; along = Same; fold = Least; own = own_kind.Keep }

-- the least number that no earlier neighbour has
abbrev pub colour : Program
colour = record { form = Simple; reads = reads_kind.Earlier ById; start = Each 0; along = Same; fold = Mex; own = own_kind.Drop }

-- one more than the greatest number of the earlier neighbours
abbrev pub levels : Program
levels = record { form = Simple; reads = reads_kind.Earlier ById; start = Each 0; along = Plus 1; fold = Greatest; own = own_kind.Drop }

-- 1 at the vertices of the k-core
abbrev pub kcore : ℕ → Program
kcore k = record { form = Simple; reads = reads_kind.All; start = Each 1; along = Same; fold = Count k; own = own_kind.Keep }

-- ---- their names

-- a name and its program
abbrev pub Named : Type 0
Named = List ℕ × Program

-- the names without a number
abbrev pub plain_names : List Named
plain_names = (codes "bfs", bfs) ∷ (codes "sssp", sssp) ∷ (codes "widest", widest) ∷ (codes "components", components) ∷ (codes "colour", colour) ∷ (codes "levels", levels) ∷ []

-- the program of this name in the table
abbrev pub program_in : List Named → List ℕ → Option Program
program_in [] name = None
program_in ((this, program) ∷ more) name = let further = program_in more name in if bytes_eq name this then Some program else further

-- the number of a k-core's name: 1 to 10 digits that write a number below 2 ^ 32
abbrev pub core_number : List ℕ → Option ℕ
core_number digits = if nat_le (length digits) 10 then small_number digits else None

-- the program of a name `kcore:K`
abbrev pub core_named : List ℕ → Option Program
core_named name = if bytes_eq (take 6 name) (codes "kcore:") then elim (core_number (drop 6 name)) [ None ↦ None | Some k ↦ Some (kcore k) ] else None

-- the built-in program of this name
abbrev pub builtin_of : List ℕ → Option Program
builtin_of name = elim (program_in plain_names name) [ None ↦ core_named name | Some program ↦ Some program ]
