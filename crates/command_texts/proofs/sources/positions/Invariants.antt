use Rattle.std.proofs.Common.{◌≡◌, take}
use Rattle.px_base.specs.Starts.{positions_of}
use Rattle.command_texts.proofs.sources.positions.Given as goal

-- the positions of the sources so far
abbrev pub invariant-loop-id : goal.invariant-loop-id
invariant-loop-id l = l.found.items ≡ positions_of l.ids (take l.id-index l.sources)
