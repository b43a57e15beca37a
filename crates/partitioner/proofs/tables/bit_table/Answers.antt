use Rattle.std.proofs.Common.{◌∙◌}
use Rattle.partitioner.proofs.Routed.{one_row_more, all_rows}
use Rattle.partitioner.proofs.tables.bit_table.Goals as goal

pub loop-word-preserved : goal.loop-word-preserved
loop-word-preserved c = λ most below.
    one_row_more c.args.words.now c.loop-word.word-index most c.loop-word.to.items c.push.new.self.items c.from_vec.result (c.loop-word.invariant most below)
    (c.from_vec.ensures ∙ c.in_ok-route.ensures most (below c.loop-word.word-index)) c.in_ok-push.ensures.items

pub returns : goal.returns
returns c = λ most below. c.from_vec-2.ensures ∙ all_rows c.args.words.now c.loop-word.word-index most c.loop-word.to.items c.loop-word.auto.word-index-end c.loop-word-test.false (c.loop-word.invariant most below)
