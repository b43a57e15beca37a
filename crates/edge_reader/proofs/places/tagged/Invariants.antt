use Rattle.std.proofs.Common.{◌≡◌}
use Rattle.px_base.specs.Values.{by_position}
use Rattle.edge_reader.specs.Places.{tag_at}
use Rattle.edge_reader.proofs.places.tagged.Given as goal

abbrev pub invariant-loop-number : goal.invariant-loop-number
invariant-loop-number l = l.tags.items ≡ by_position l.number (tag_at l.ends)
