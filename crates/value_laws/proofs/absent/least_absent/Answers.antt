use Rattle.std.proofs.Common.{arith, ◌∙◌, ◌≡◌}
use Rattle.std.specs.Int.{trailing_ones, w64}
use Rattle.value_laws.proofs.FirstAbsent.{full_word, full_word_within, first_zero_is_mex, first_zero_within}
use Rattle.value_laws.proofs.absent.least_absent.Goals as goal

pub overflow_add-low : goal.overflow_add-low
overflow_add-low c =
    let i = c.loop-word.invariant in
    omega (arith, full_word_within c.args.items.now c.loop-word.low c.loop-word.word c.loop-word-test.true i.listed i.marks)

pub loop-word-smaller : goal.loop-word-smaller
loop-word-smaller c =
    let i = c.loop-word.invariant in
    omega (arith, full_word_within c.args.items.now c.loop-word.low c.loop-word.word c.loop-word-test.true i.listed i.marks)

pub loop-word-preserved : goal.loop-word-preserved
loop-word-preserved c =
    let i = c.loop-word.invariant in
    record {
      listed = full_word c.args.items.now c.loop-word.low c.loop-word.word c.loop-word-test.true i.listed i.marks;
      marks = c.marks_from-word-in-loop-word.ensures;
      fits = c.marks_from-word-in-loop-word.type_inv;
    }

pub overflow_add-result : goal.overflow_add-result
overflow_add-result c =
    let i = c.loop-word.invariant in
    let within = first_zero_within c.args.items.now c.loop-word.low c.loop-word.word (omega arith) i.listed i.marks in
    omega (arith, within, c.from.ensures, c.trailing_ones.ensures)

pub returns : goal.returns
returns c =
    let i = c.loop-word.invariant in
    let ones : c.from.result ≡ trailing_ones w64 c.loop-word.word = c.from.ensures ∙ c.trailing_ones.ensures in
    rw ones (first_zero_is_mex c.args.items.now c.loop-word.low c.loop-word.word (omega arith) i.listed i.marks)
