-- What each world of this crate keeps.
use Rattle.std.specs.Prelude.{◌≤◌}
use Rattle.px_base.specs.declared.TheConstants.{MOST_READS}
use Rattle.px_base.specs.Graphs.{read_count}
use Rattle.count_world.specs.Kept.{KeepsCounts}
use Rattle.px_base.specs.Worlds.{World, of_values, of_counts, ValueWorld, ValueWorldFits}

-- There is a value for each master and mirror of a part that fits, with at most 2 ^ 25 reads.
pub record KeepsLimits (w : ValueWorld) : Type 0 where
  pub fits : ValueWorldFits w
  pub reads : read_count w.part.rows ≤ MOST_READS

-- the world is one of values, and keeps this
abbrev pub KeepsValues : World → Type 0
KeepsValues (of_values w) = KeepsLimits w
KeepsValues (of_counts w) = ⊥

-- what a world of either kind keeps
abbrev pub KeepsWorld : World → Type 0
KeepsWorld (of_values w) = KeepsLimits w
KeepsWorld (of_counts w) = KeepsCounts w
