-- What a step notes, and what it leaves.
use Rattle.std.specs.Prelude.{◌≡◌, ℕ, ◌+◌, ◌-◌, ◌==◌, Bool, not, List, length, map, if◌then◌else◌}
use Rattle.px_base.specs.declared.graph.Part.{Part}
use Rattle.px_base.specs.declared.wire.Update.{Update}
use Rattle.px_base.specs.CountSteps.{counts_less}
use Rattle.count_world.specs.declared.known.Known.{Known}
use Rattle.reader_chains.specs.declared.readers.Readers.{Readers}
use Rattle.count_world.specs.Census.{KeepsCensus}
use Rattle.count_world.specs.Kept.{HasTables}
use Rattle.list_laws.specs.Sets.{IsListOf}
use Rattle.count_world.specs.Sets.{AreSaved, is_dying, is_told_again, counts_off, without}
use Rattle.count_world.specs.Tally.{IsTally}
use Rattle.count_world.specs.Told.{times_of, told_updates}

-- The counts that a step reads, with its updates taken off: those of before, or where it is fresh the lengths of the rows
-- less what they read of the dead.
abbrev pub counts_read : Part → Bool → List Update → Readers → List ℕ → List ℕ → List ℕ
counts_read part fresh updates readers again counts = counts_less part.low updates (counts_off readers again (if fresh then map length part.rows else counts))

-- how often each mirror is told of the members of both lists
abbrev pub times_both : Part → List ℕ → List ℕ → List ℕ
times_both part again dying = map (λ m. times_of part.rows again m + times_of part.rows dying m) part.mirrors

-- The counts are those that the step reads, and so the list has those that die in it. What they tell is counted, and what
-- may have to be put back is kept.
pub record IsNoted (part : Part) (fresh : Bool) (updates : List Update) (old new : Known) : Type 0 where
  pub tables : HasTables part new
  pub census : KeepsCensus old.census new.census
  pub again : IsListOf (part.high - part.low) (is_told_again fresh old.census.alive.items) new.again.items
  pub counts : new.census.counts.items ≡ counts_read part fresh updates new.readers new.again.items old.census.counts.items
  pub gone : new.gone.items ≡ old.census.dying.items
  pub saved : AreSaved fresh part.low updates old.census.counts.items new.saved.items
  pub tally : IsTally new.tally
  pub times : new.tally.times.items ≡ times_both part new.again.items new.census.dying.items

-- Those that died in the step are gone, and the counts have lost the reads of them.
pub record IsStepped (part : Part) (fresh : Bool) (updates : List Update) (old new : Known) (changed : Bool) (told : List Update) : Type 0 where
  pub again : IsListOf (part.high - part.low) (is_told_again fresh old.census.alive.items) new.again.items
  pub gone : IsListOf (part.high - part.low) (is_dying old.census.alive.items (counts_read part fresh updates new.readers new.again.items old.census.counts.items) old.census.needed) new.gone.items
  pub alive : new.census.alive.items ≡ without new.gone.items old.census.alive.items
  pub counts : new.census.counts.items ≡ counts_off new.readers new.gone.items (counts_read part fresh updates new.readers new.again.items old.census.counts.items)
  pub some : changed ≡ not (length new.gone.items == 0)
  pub tells : told ≡ told_updates part.mirrors (times_both part new.again.items new.gone.items)
