-- What masters gather by place, in one list of values: those of the masters stand first, in order, and then those of the mirrors.
use Rattle.std.specs.Prelude.{length, ℕ, List, map, slice_index, replicate, take, drop, if◌then◌else◌}
use Rattle.px_base.specs.declared.graph.Part.{Part}
use Rattle.px_base.specs.declared.graph.Read.{Read}
use Rattle.px_base.specs.declared.program.CoreProgram.{CoreProgram}
use Rattle.px_base.specs.Classes.{keeps}
use Rattle.px_base.specs.Core.{core_edge_value, core_gather}
use Rattle.px_base.specs.Graphs.{row_at}
use Rattle.px_base.specs.declared.wire.Update.{Update}
use Rattle.px_base.specs.ValueSteps.{updated_mirrors, renewed_value, renewed_masters}
use Rattle.placed_parts.specs.Places.{master_count, placed_row}

-- what the values become on the reads of a row by this rule, where the sources of the reads are places in the list
abbrev pub read_items : (ℕ → ℕ → ℕ) → List ℕ → List Read → List ℕ
read_items rule values row = map (λ r. rule (slice_index values r.source) r.weight) row

-- the core edge values of a row
abbrev pub placed_items : CoreProgram → List ℕ → List Read → List ℕ
placed_items core values row = read_items (core_edge_value core) values row

-- what the k-th master gathers, and its new value, where the list has the values of all masters and mirrors
abbrev pub pulled_at : Part → CoreProgram → List ℕ → ℕ → ℕ
pulled_at part core values k = core_gather core (slice_index part.starts k) (placed_items core values (placed_row part (row_at part.rows k)))

abbrev pub renewed_at : Part → CoreProgram → List ℕ → ℕ → ℕ
renewed_at part core values k = renewed_value core (slice_index values k) (pulled_at part core values k)

-- what each master or mirror has in a new world that has these start values
abbrev pub first_values : CoreProgram → List ℕ → List ℕ
first_values core starts = if keeps core.program.own then starts else replicate (length starts) 0

-- the values of the mirrors after the updates, and those of the masters after a renewal from them
abbrev pub mirrors_after : Part → List Update → List ℕ → List ℕ
mirrors_after part updates values = updated_mirrors part.mirrors updates (drop (master_count part) values)

abbrev pub masters_after : Part → CoreProgram → List Update → List ℕ → List ℕ
masters_after part core updates values = renewed_masters part core (take (master_count part) values) (mirrors_after part updates values)
