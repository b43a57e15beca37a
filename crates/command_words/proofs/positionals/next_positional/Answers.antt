use Rattle.std.proofs.Common.{◌+◌, drop, get_or, true, false, [], ◌∷◌, ◌∙◌, sym, ap, subst, ◌≡◌, ℕ}
use Rattle.command_words.specs.CommandTable.{line_of}
use Rattle.command_words.specs.CommandWords.{items_of}
use Rattle.command_words.specs.Judging.{AreItems, item_length, is_positional_kind, positionals_from}
use Rattle.command_words.proofs.PositionalSteps.{leaves_word, leaves_none}
use Rattle.command_words.proofs.positionals.next_positional.Goals as goal

pub returns-then-is_positional-clause-items : goal.returns-then-is_positional-clause-items
returns-then-is_positional-clause-items c =
    let line = line_of c.args.command in
    let words = c.args.words.now in
    let at = c.loop-at.at in
    let word = get_or words at [] in
    let yes_it_is : is_positional_kind c.item_at-kind.result ≡ true = cc in
    let left = leaves_word word c.item_at-kind.result (items_of line (drop at words)) (items_of line (drop (at + item_length line word) words)) c.item_at-kind.ensures.item yes_it_is c.loop-at.invariant.items in
    subst (λ (k : ℕ). AreItems c.args.command words (at + k)) (c.item_at-kind.ensures.alone yes_it_is) left.items

pub returns-then-is_positional-clause-next : goal.returns-then-is_positional-clause-next
returns-then-is_positional-clause-next c =
    let line = line_of c.args.command in
    let words = c.args.words.now in
    let at = c.loop-at.at in
    let word = get_or words at [] in
    let yes_it_is : is_positional_kind c.item_at-kind.result ≡ true = cc in
    let left = leaves_word word c.item_at-kind.result (items_of line (drop at words)) (items_of line (drop (at + item_length line word) words)) c.item_at-kind.ensures.item yes_it_is c.loop-at.invariant.items in
    sym c.loop-at.invariant.same ∙ left.positionals ∙ ap (λ (k : ℕ). word ∷ positionals_from c.args.command words (at + k)) (c.item_at-kind.ensures.alone yes_it_is)

pub loop-at-preserved : goal.loop-at-preserved
loop-at-preserved c =
    let line = line_of c.args.command in
    let words = c.args.words.now in
    let at = c.loop-at.at in
    let word = get_or words at [] in
    let it_is_none : is_positional_kind c.item_at-kind.result ≡ false = cc in
    let left = leaves_none word c.item_at-kind.result (items_of line (drop at words)) (items_of line (drop (at + item_length line word) words)) c.item_at-kind.ensures.item it_is_none c.loop-at.invariant.items in
    let length = sym (c.item_length-at.ensures.length ∙ ap (item_length line) c.word.ensures) in
    record {
      items = subst (λ (k : ℕ). AreItems c.args.command words (at + k)) length left.items;
      same = ap (λ (k : ℕ). positionals_from c.args.command words (at + k)) (sym length) ∙ sym left.positionals ∙ c.loop-at.invariant.same;
    }
