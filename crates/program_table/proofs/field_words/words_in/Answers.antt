use Rattle.px_base.specs.Rows.{words_of}
use Rattle.program_table.proofs.Shapes.{no_words, one_word, two_words, three_words, more_words}
use Rattle.program_table.proofs.field_words.words_in.Goals as goal

pub returns-in_default : goal.returns-in_default
returns-in_default c = no_words (words_of c.args.field.now) c.in_default.ensures

pub returns-in_default-word : goal.returns-in_default-word
returns-in_default-word c = one_word (words_of c.args.field.now) c.in-Some.first.now c.in-Some.ensures c.in_default-word.ensures

pub returns-in_default-word-2 : goal.returns-in_default-word-2
returns-in_default-word-2 c = two_words (words_of c.args.field.now) c.in-Some.first.now c.in-Some-word.second.now c.in-Some.ensures c.in-Some-word.ensures c.in_default-word-2.ensures

pub returns-in-None : goal.returns-in-None
returns-in-None c =
    three_words (words_of c.args.field.now) c.in-Some.first.now c.in-Some-word.second.now c.in-Some-word-2.third.now c.in-Some.ensures c.in-Some-word.ensures c.in-Some-word-2.ensures
    c.in-None.ensures

pub returns-in-Some-word-3 : goal.returns-in-Some-word-3
returns-in-Some-word-3 c = more_words (words_of c.args.field.now) c.in-Some-word-3.field-0.now c.in-Some-word-3.ensures
