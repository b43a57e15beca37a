-- What has settled in the world of a worker after so many rounds, and in what a Step of it reads from others.
use Rattle.std.specs.Prelude.{◌≡◌, ℕ, ◌+◌, ◌<◌, ◌≤◌, false, length, slice_index, IsTrue, ⊤, MatchResult}
use Rattle.px_base.specs.Graphs.{row_at, reads_passing}
use Rattle.px_base.specs.declared.wire.Order.{Order}
use Rattle.px_base.specs.declared.wire.Order.TheVariants.{Step, Report}
use Rattle.px_base.specs.Values.{is_listed, is_in, place_of}
use Rattle.px_base.specs.declared.program.Class.{Class}
use Rattle.px_base.specs.declared.program.Class.TheVariants.{SelfStabilising, LocallyCorrecting, GloballyCorrecting}
use Rattle.px_base.specs.Classes.{class_of}
use Rattle.px_base.specs.Worlds.{World, of_values, of_counts}
use Rattle.px_base.specs.ValueSteps.{updated_mirrors}
use Rattle.hub_terms.specs.Jobs.{Job}
use Rattle.hub_terms.specs.Valid.{counts_read}
use Rattle.settling_laws.specs.Settling.{IsLowBy, IsRightBy, is_above_layer}

-- ---- worlds of values

-- Each master of the world has a settled value, where HasSettled job k v x says that x is one for v once all that settles in k
-- rounds has settled. A world that counts has no values.
abbrev pub ValuesSettled : (Job → ℕ → ℕ → ℕ → Type 0) → Job → ℕ → World → Type 0
ValuesSettled HasSettled job k (of_values w) = (m : ℕ) → m < length w.masters → HasSettled job k (w.part.low + m) (slice_index w.masters m)
ValuesSettled HasSettled job k (of_counts w) = ⊤

-- each mirror of the world has a settled value, with the updates of the Step in place; nothing is claimed of a Report
abbrev pub ValuesRead : (Job → ℕ → ℕ → ℕ → Type 0) → Job → ℕ → World → Order → Type 0
ValuesRead HasSettled job k (of_values w) (Step epoch round updates) = (v : ℕ) → IsTrue (is_listed w.part.mirrors v) →
    HasSettled job k v (slice_index (updated_mirrors w.part.mirrors updates w.mirrors) (place_of w.part.mirrors v))
ValuesRead HasSettled job k (of_values w) (Report epoch) = ⊤
ValuesRead HasSettled job k (of_counts w) order = ⊤

-- ---- worlds that count

-- each master in the layer k or a lower one is dead
abbrev pub CountsSettled : Job → ℕ → World → Type 0
CountsSettled job k (of_values w) = ⊤
CountsSettled job k (of_counts w) = (m : ℕ) → m < length w.alive → is_above_layer job k (w.part.low + m) ≡ false → is_in w.alive m ≡ false

-- each count, as the Step reads it, is at most the number of reads of vertices above the layer k
abbrev pub CountsRead : Job → ℕ → World → Order → Type 0
CountsRead job k (of_values w) order = ⊤
CountsRead job k (of_counts w) (Report epoch) = ⊤
CountsRead job k (of_counts w) (Step epoch round updates) =
    (m : ℕ) → m < length w.alive → slice_index (counts_read w epoch round updates) m ≤ reads_passing (is_above_layer job k) (row_at job.rows (w.part.low + m))

-- ---- by class

-- In a world of a job of this class all that settles in k rounds has settled: by the depth of reads in the first class, by walks in
-- the second, by layers in the third.
abbrev pub SettledAs : Class → Job → ℕ → World → Type 0
SettledAs SelfStabilising job k w = ValuesSettled IsRightBy job k w
SettledAs LocallyCorrecting job k w = ValuesSettled IsLowBy job k w
SettledAs GloballyCorrecting job k w = CountsSettled job k w

-- the same of what a Step of the world reads from others
abbrev pub ReadAs : Class → Job → ℕ → World → Order → Type 0
ReadAs SelfStabilising job k w order = ValuesRead IsRightBy job k w order
ReadAs LocallyCorrecting job k w order = ValuesRead IsLowBy job k w order
ReadAs GloballyCorrecting job k w order = CountsRead job k w order

-- In this world of the job all that settles in k rounds has settled, by the class of the program. One without a class has no such
-- world.
abbrev pub IsSettledAt : Job → ℕ → World → Type 0
IsSettledAt job k w = MatchResult (class_of job.core.program) (λ class. SettledAs class job k w) (λ refused. ⊥)

-- the same of what a Step of the world reads from others, by the class of the program
abbrev pub ReadsSettled : Job → ℕ → World → Order → Type 0
ReadsSettled job k w order = MatchResult (class_of job.core.program) (λ class. ReadAs class job k w order) (λ refused. ⊥)
