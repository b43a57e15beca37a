use Rattle.std.proofs.Common.{◌≡◌, ◌+◌, ◌<◌, ◌++◌, ◌∷◌, [], length, ap, arith, rules}
use Rattle.px_base.specs.declared.TheConstants.{MOST_READS}
use Rattle.px_base.specs.Graphs.{read_count}
use Rattle.px_base.specs.FlatRows.{OpenRows}
use Rattle.px_base.proofs.FlatGrowing.{read_more, reads_so_far}
use Rattle.px_base.proofs.rows_builder.RowsBuilder.push.Goals as goal

pub invariant_of-self-2 : goal.invariant_of-self-2
invariant_of-self-2 c =
    let starts = c.self.inside.starts.items in
    let sources = c.self.inside.sources.items in
    let weights = c.self.inside.weights.items in
    let few : length sources < MOST_READS = omega (arith, reads_so_far starts sources weights c.self.invariant, ap (λ (b : OpenRows). read_count b.done + length b.open_row) c.self.view_is, c.requires) in
    let one : c.push.new.self.items ≡ sources ++ c.args.source ∷ [] = search rules in
    let two : c.push_reserved.new.self.items ≡ weights ++ c.args.weight ∷ [] = search rules in
    rw (one, two) (read_more starts sources weights c.self.invariant c.args.source c.args.weight few)
