use Rattle.std.proofs.Common.{◌≡◌, ◌∙◌, length, sym, ap, arith}
use Rattle.px_base.specs.Graphs.{read_count}
use Rattle.px_base.proofs.FlatRanges.{read_count-rows_in}
use Rattle.px_base.proofs.rows.Rows.joined.Goals as goal

pub joined_lists-requires-clause-room : goal.joined_lists-requires-clause-room
joined_lists-requires-clause-room c =
    let one : read_count c.args.self ≡ length c.into_flat-starts.result.sources.items =
    ap read_count c.into_flat-starts.ensures.rows ∙ read_count-rows_in c.into_flat-starts.result.starts.items c.into_flat-starts.result.sources.items c.into_flat-starts.result.weights.items c.into_flat-starts.ensures.flat in
    let two : read_count c.args.more.now ≡ length c.more.inside.sources.items =
    ap read_count (sym c.more.view_is) ∙ read_count-rows_in c.more.inside.starts.items c.more.inside.sources.items c.more.inside.weights.items c.more.invariant in
    omega (arith, one, two, c.requires, ap length c.deref-2.ensures.value)
