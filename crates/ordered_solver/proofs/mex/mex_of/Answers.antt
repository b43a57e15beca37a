use Rattle.std.proofs.Common.{ap, arith, sym, ◌∙◌}
use Rattle.std.specs.Prelude.{◌==◌, slice_index}
use Rattle.std.proofs.lemmas.List.{length-map}
use Rattle.px_base.specs.Rules.{edge_value, edge_values}
use Rattle.ordered_solver.proofs.Stamping.{first_is_mex}
use Rattle.ordered_solver.proofs.mex.mex_of.Goals as goal

pub returns-clause-value : goal.returns-clause-value
returns-clause-value c =
    let a = c.args in
    let stamps = c.stamp_row.new.stamps.items in
    let f = c.first_without.ensures in
    let same = c.as_slice.ensures.value in
    first_is_mex _ a.stamp c.first_without.result stamps (edge_values a.along a.values.now a.row.now)
    (length-map a.row.now (λ r. edge_value a.along (slice_index a.values.now r.source) r.weight)) c.stamp_row.ensures.marks (omega (arith, f.within, c.len.ensures))
    (λ k below. ap (λ s. slice_index s k == a.stamp) (sym same) ∙ f.before k below)
    (λ low. ap (λ s. slice_index s c.first_without.result == a.stamp) (sym same) ∙ f.here (omega (arith, low, c.len.ensures)))
