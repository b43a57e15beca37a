use Rattle.std.proofs.Common.{◌∙◌}
use Rattle.px_base.specs.Rows.{row_fields, words_at}
use Rattle.program_table.proofs.Shapes.{reads_like}
use Rattle.program_table.proofs.row_reading.read_reads.Goals as goal

pub returns : goal.returns
returns c = c.reads_of.ensures ∙ reads_like c.field_words.result (words_at (row_fields c.args.row.now) 2) c.field_words.ensures
