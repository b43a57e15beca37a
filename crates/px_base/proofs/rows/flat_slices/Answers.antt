use Rattle.std.proofs.Common.{◌<◌, ◌^◌, ℕ, get_or, rules}
use Rattle.px_base.proofs.FlatMaps.{have_weights}
use Rattle.px_base.proofs.rows.flat_slices.Goals as goal

pub returns-clause-limit : goal.returns-clause-limit
returns-clause-limit c =
    let small : (k : ℕ) → get_or c.args.weights.now k 0 < 2 ^ 32 = λ k. search (rules, c.type_inv.weights k) in
    have_weights c.args.starts.now c.args.sources.now c.args.weights.now c.requires small
