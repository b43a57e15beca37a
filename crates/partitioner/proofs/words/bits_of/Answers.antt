use Rattle.std.proofs.Common.{arith}
use Rattle.partitioner.proofs.LowestBits.{none_found, next_found, all_found}
use Rattle.partitioner.proofs.words.bits_of.Goals as goal

pub loop-rest-init : goal.loop-rest-init
loop-rest-init c = none_found c.args.word c.in_ok-found.found.items (omega arith) c.in_ok-found.ensures.items

pub loop-rest-preserved : goal.loop-rest-preserved
loop-rest-preserved c =
    next_found c.args.word c.loop-rest.rest c.without_lowest-rest.result c.loop-rest.found.items c.push.new.self.items (omega arith) (omega arith) c.without_lowest-rest.ensures.bits c.in_ok-push.ensures.items c.loop-rest.invariant

pub returns : goal.returns
returns c = λ most below. all_found c.args.word c.loop-rest.rest most c.loop-rest.found.items (omega arith) c.loop-rest.invariant below
