use Rattle.std.proofs.Common.{◌∙◌}
use Rattle.px_base.specs.Rows.{row_fields, words_at}
use Rattle.program_table.proofs.Shapes.{start_like}
use Rattle.program_table.proofs.row_reading.read_start.Goals as goal

pub returns-clause-said : goal.returns-clause-said
returns-clause-said c = c.start_of.ensures.said ∙ start_like c.field_words.result (words_at (row_fields c.args.row.now) 3) c.field_words.ensures
