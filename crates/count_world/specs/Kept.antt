-- What each world of counts keeps.
use Rattle.std.specs.Prelude.{◌≡◌, ◌-◌, ◌≤◌, All, length}
use Rattle.std.specs.Vec.{vec_capacity}
use Rattle.px_base.specs.declared.TheConstants.{MOST_READS}
use Rattle.px_base.specs.Graphs.{read_count}
use Rattle.px_base.specs.Parts.{PartFits}
use Rattle.px_base.specs.Worlds.{CountWorld}
use Rattle.px_base.specs.declared.graph.Part.{Part}
use Rattle.mirror_places.specs.Tables.{IsTableOf}
use Rattle.count_world.specs.declared.known.Known.{Known}
use Rattle.count_world.specs.Readers.{AreReaders}
use Rattle.count_world.specs.Census.{IsCensus}
use Rattle.count_world.specs.Tally.{IsClear}

-- There are a flag of 1 or 0 and a count for each master of a part that fits, with at most 2 ^ 25 reads.
pub record KeepsCounts (w : CountWorld) : Type 0 where
  pub fits : PartFits w.part
  pub reads : read_count w.part.rows ≤ MOST_READS
  pub alive : length w.alive ≡ w.part.high - w.part.low
  pub flags : All (λ flag. flag ≤ 1) w.alive
  pub counts : length w.counts ≡ w.part.high - w.part.low

-- The tables are those of the part, and the room is as large as it has to be.
pub record HasTables (part : Part) (known : Known) : Type 0 where
  pub alive : length known.census.alive.items ≡ part.high - part.low
  pub readers : AreReaders part known.readers
  pub places : IsTableOf part.mirrors known.places
  pub again : part.high - part.low ≤ vec_capacity known.again
  pub gone : part.high - part.low ≤ vec_capacity known.gone
  pub saved : length known.saved.items ≡ part.high - part.low
  pub times : length known.tally.times.items ≡ length part.mirrors

-- Between two steps those that are to die are listed, and nothing is told.
pub record IsReady (part : Part) (known : Known) : Type 0 where
  pub tables : HasTables part known
  pub census : IsCensus known.census
  pub tally : IsClear known.tally
