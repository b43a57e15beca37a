use Rattle.std.proofs.Common.{◌∙◌}
use Rattle.px_base.specs.Rows.{row_fields, words_at}
use Rattle.program_table.proofs.Shapes.{own_like}
use Rattle.program_table.proofs.row_reading.read_own.Goals as goal

pub returns : goal.returns
returns c = c.own_of.ensures ∙ own_like c.field_words.result (words_at (row_fields c.args.row.now) 6) c.field_words.ensures
