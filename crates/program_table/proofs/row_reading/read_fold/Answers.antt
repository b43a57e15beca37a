use Rattle.std.proofs.Common.{◌∙◌}
use Rattle.px_base.specs.Rows.{row_fields, words_at}
use Rattle.program_table.proofs.Shapes.{fold_like}
use Rattle.program_table.proofs.row_reading.read_fold.Goals as goal

pub returns-clause-said : goal.returns-clause-said
returns-clause-said c = c.fold_of.ensures.said ∙ fold_like c.field_words.result (words_at (row_fields c.args.row.now) 5) c.field_words.ensures
