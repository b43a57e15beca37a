use Rattle.std.proofs.Common.{◌≡◌, ℕ, ◌<◌, length, take, get_or}
use Rattle.std.specs.Prelude.{if◌then◌else◌}
use Rattle.px_base.specs.Values.{is_listed}
use Rattle.program_table.proofs.start_values.put_sources.Given as goal

-- the sources so far have their value
abbrev pub invariant-loop-source : goal.invariant-loop-source
invariant-loop-source l = (v : ℕ) → v < length l.fn.values → get_or l.values v 0 ≡ (if is_listed (take l.source-index l.sources) v then l.at_source else get_or l.fn.values v 0)
