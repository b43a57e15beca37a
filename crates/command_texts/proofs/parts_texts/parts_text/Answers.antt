use Rattle.std.proofs.Common.{subst, sym}
use Rattle.px_base.specs.Graphs.{RowsFit}
use Rattle.px_base.specs.Parts.{IsWorkerCuts}
use Rattle.command_texts.proofs.parts_texts.parts_text.Goals as goal

pub parts_and_routes-requires-clause-rows : goal.parts_and_routes-requires-clause-rows
parts_and_routes-requires-clause-rows c = subst (λ n. RowsFit n c.args.graph.rows) (sym c.requires.rows.one_each) c.requires.rows

pub parts_and_routes-requires-clause-cuts : goal.parts_and_routes-requires-clause-cuts
parts_and_routes-requires-clause-cuts c = subst (λ n. IsWorkerCuts n c.in_ok-cuts.cuts.ends) (sym c.requires.rows.one_each) c.in_ok-cuts.ensures.cuts
