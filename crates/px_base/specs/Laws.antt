-- What edge values, classes and refusals promise, as facts of their own.
use Rattle.std.specs.Prelude.{◌≢◌, ℕ, ◌<◌, ◌≤◌, IsTrue, ⊤}
use Rattle.px_base.specs.declared.program.Program.{Program}
use Rattle.px_base.specs.declared.program.CoreProgram.{CoreProgram}
use Rattle.px_base.specs.declared.program.Reads.{Reads}
use Rattle.px_base.specs.declared.program.Reads.TheVariants as reads_kind
use Rattle.px_base.specs.declared.program.Class.{Class}
use Rattle.px_base.specs.declared.program.Class.TheVariants.{SelfStabilising, LocallyCorrecting, GloballyCorrecting}
use Rattle.px_base.specs.declared.program.Refused.{Refused}
use Rattle.px_base.specs.declared.program.Refused.TheVariants.{CountForm, MexKept, Cyclic, Improves}
use Rattle.px_base.specs.Values.{IsValue, IsWeight}
use Rattle.px_base.specs.Rules.{edge_value}
use Rattle.px_base.specs.Core.{core_form, core_edge_value}
use Rattle.px_base.specs.Classes.{is_core_form}
use Rattle.px_base.specs.Answers.{IsAsGoodAs}
use Rattle.px_base.specs.Graphs.{row_at}
use Rattle.px_base.specs.declared.graph.Read.{Read}
use Rattle.std.specs.Prelude.{List, All, length}

-- of two values that are read over the same weight the greater stays at least as great
abbrev pub IsMonotone : CoreProgram → Type 0
IsMonotone core = (a b w : ℕ) → IsValue b → a ≤ b → core_edge_value core a w ≤ core_edge_value core b w

-- no core value becomes less on a read, so none becomes better
abbrev pub NeverImproves : CoreProgram → Type 0
NeverImproves core = (x w : ℕ) → IsValue x → IsWeight w → x ≤ core_edge_value core x w

-- the edge value of x over the weight w is better than x: as good as it, and different
abbrev pub IsImprovement : Program → ℕ → ℕ → Type 0
IsImprovement p x w = IsValue x × IsWeight w × IsAsGoodAs p.fold (edge_value p.along x w) x × (edge_value p.along x w ≢ x)

-- the reads that are kept are of vertices that stand before the reader
abbrev pub ReadsEarlier : Reads → Type 0
ReadsEarlier reads_kind.All = ⊥
ReadsEarlier (reads_kind.Earlier rank) = ⊤

-- what a class promises of the program
abbrev pub ClassPromises : Class → Program → Type 0
ClassPromises SelfStabilising p = ReadsEarlier p.reads
ClassPromises LocallyCorrecting p = NeverImproves (core_form p)
ClassPromises GloballyCorrecting p = IsTrue (is_core_form p)

-- What a refusal shows of the program: a value and a weight that improve it. The others only say which line of the table
-- holds.
abbrev pub RefusalShows : Refused → Program → Type 0
RefusalShows (Improves x w) p = IsImprovement p x w
RefusalShows CountForm p = ⊤
RefusalShows MexKept p = ⊤
RefusalShows Cyclic p = ⊤

-- The vertices have places in some strict order, and each read is of a vertex that stands before its reader.
pub record IsOrdered (rows : List (List Read)) : Type 0 where
  pub place : ℕ → ℕ
  pub before : (v : ℕ) → All (λ r. (r.source < length rows) × (place r.source < place v)) (row_at rows v)
