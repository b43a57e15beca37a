use Rattle.std.proofs.Common.{◌≡◌, ◌+◌, ◌∙◌, length, sym, ap, rules}
use Rattle.px_base.specs.Graphs.{read_count}
use Rattle.px_base.specs.FlatRows.{OpenRows}
use Rattle.px_base.proofs.FlatGrowing.{reads_so_far}
use Rattle.px_base.proofs.rows_builder.RowsBuilder.has_room.Goals as goal

pub returns : goal.returns
returns c =
    let count : read_count c.args.self.now.done + length c.args.self.now.open_row ≡ length c.self.inside.sources.items
    = ap (λ (b : OpenRows). read_count b.done + length b.open_row) (sym c.self.view_is) ∙ reads_so_far c.self.inside.starts.items c.self.inside.sources.items c.self.inside.weights.items c.self.invariant in
    rw count (search rules)
