use Rattle.std.proofs.Common.{◌≡◌}
use Rattle.px_base.specs.Values.{by_position}
use Rattle.edge_reader.specs.Places.{edge_at}
use Rattle.edge_reader.proofs.finish.joined.Given as goal

abbrev pub invariant-loop-k : goal.invariant-loop-k
invariant-loop-k l = l.edges.items ≡ by_position l.k (edge_at l.places l.weights)
