use Rattle.std.proofs.Common.{arith, ap, ◌∙◌, sym, refl, ◌+◌, drop, get_or, []}
use Rattle.command_words.specs.declared.found.TheConstants.{NOTHING}
use Rattle.command_words.specs.CommandTable.{line_of}
use Rattle.command_words.specs.CommandWords.{items_of}
use Rattle.command_words.specs.Judging.{item_length, item_with, accept, accepted_from}
use Rattle.command_words.proofs.Accepting.{goes_on, refuses}
use Rattle.command_words.proofs.judging.all_accepted.Goals as goal

pub returns-in_err-found : goal.returns-in_err-found
returns-in_err-found c =
    let line = line_of c.args.command in
    let words = c.args.words.now in
    let word = get_or words c.loop-at.at [] in
    c.from_residual-in_err-found.ensures
    ∙ refuses line c.loop-at.found (item_with word c.in_ok-kind.kind) (items_of line (drop 1 words)) (items_of line (drop c.loop-at.at words))
    (items_of line (drop (c.loop-at.at + item_length line word) words)) NOTHING c.loop-at.invariant.so_far c.in_ok-kind.ensures.item
    (c.in_err-found.ensures.accept ∙ ap (λ w. accept line c.loop-at.found (item_with w c.in_ok-kind.kind)) c.word-word.ensures)

pub loop-at-preserved : goal.loop-at-preserved
loop-at-preserved c =
    let line = line_of c.args.command in
    let words = c.args.words.now in
    let word = get_or words c.loop-at.at [] in
    let length = c.item_length-at.ensures.length ∙ ap (item_length line) c.word-word.ensures in
    let at = c.loop-at.at in
    record {
      inside = let reach = c.in_ok-kind.ensures.within refl in omega (arith, reach, length);
      few = let more = c.in_ok-found.ensures.one_more in omega (arith, more);
      so_far = goes_on line c.loop-at.found c.in_ok-found.found (item_with word c.in_ok-kind.kind) (items_of line (drop 1 words)) (items_of line (drop at words))
          (items_of line (drop (at + item_length line word) words)) NOTHING c.loop-at.invariant.so_far c.in_ok-kind.ensures.item
          (c.in_ok-found.ensures.accept ∙ ap (λ w. accept line c.loop-at.found (item_with w c.in_ok-kind.kind)) c.word-word.ensures)
          ∙ ap (λ k. accepted_from line c.in_ok-found.found (items_of line (drop (at + k) words))) (sym length);
    }
