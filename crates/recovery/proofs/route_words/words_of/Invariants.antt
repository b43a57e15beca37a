-- The words of the routes so far.
use Rattle.recovery.proofs.Worded.{AreWordsBefore}
use Rattle.recovery.proofs.route_words.words_of.Given as goal

abbrev pub invariant-loop-route : goal.invariant-loop-route
invariant-loop-route l = AreWordsBefore l.routes l.words.items l.route-index
