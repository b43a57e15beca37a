use Rattle.std.proofs.Common.{◌∙◌}
use Rattle.px_base.specs.Rows.{row_fields, words_at}
use Rattle.program_table.proofs.Shapes.{form_like}
use Rattle.program_table.proofs.row_reading.read_form.Goals as goal

pub returns : goal.returns
returns c = c.form_of.ensures ∙ form_like c.field_words.result (words_at (row_fields c.args.row.now) 1) c.field_words.ensures
