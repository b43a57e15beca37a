use Rattle.std.proofs.Common.{ℕ, List, ◌∙◌, ap, lit<, rules}
use Rattle.std.specs.Prelude.{◌==◌, filter, slice_get}
use borrow.Author.Tests.{tests}
use Rattle.std.proofs.lemmas.Iterator.Consumers.{nth_from_yields_List, YieldsList-at, YieldsList-from_filter}
use Rattle.std.proofs.lemmas.Iterator.Splits.{YieldsList-from_str_split}
use Rattle.px_base.specs.Lines.{has_bytes}
use Rattle.program_table.proofs.Pieces.{split_is}
use Rattle.program_table.proofs.field_words.word.Goals as goal

pub returns : goal.returns
returns c =
    nth_from_yields_List _ _ c.args.n c.nth.ensures.ran
    (YieldsList-from_filter _ has_bytes
    (YieldsList-at c.filter.ensures.source (YieldsList-from_str_split 32 c.args.field.now (lit< tt) c.split.ensures.text c.split.ensures.has_more c.split.ensures.pattern))
    c.filter.ensures.closure (λ x r q k. search (rules, tests)))
    ∙ ap (λ (ps : List (List ℕ)). slice_get (filter has_bytes ps) c.args.n) (split_is (λ b. b == 32) c.args.field.now)
