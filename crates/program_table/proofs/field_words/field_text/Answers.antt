use Rattle.std.proofs.Common.{ℕ, List, ◌∙◌, ap, lit<}
use Rattle.std.specs.Prelude.{◌==◌, slice_get}
use Rattle.std.proofs.lemmas.Iterator.Consumers.{nth_from_yields_List}
use Rattle.std.proofs.lemmas.Iterator.Splits.{YieldsList-from_str_split}
use Rattle.program_table.proofs.Pieces.{split_is}
use Rattle.program_table.proofs.field_words.field_text.Goals as goal

pub returns : goal.returns
returns c =
    nth_from_yields_List _ _ c.args.n c.nth.ensures.ran (YieldsList-from_str_split 59 c.args.row.now (lit< tt) c.split.ensures.text c.split.ensures.has_more c.split.ensures.pattern)
    ∙ ap (λ (ps : List (List ℕ)). slice_get ps c.args.n) (split_is (λ b. b == 59) c.args.row.now)
