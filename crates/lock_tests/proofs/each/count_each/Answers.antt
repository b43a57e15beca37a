use Rattle.std.proofs.Common.{arith}
use Rattle.std.proofs.lemmas.List.{length-map}
use Rattle.lock_tests.proofs.Counting.{all_out, all_counted}
use Rattle.lock_tests.specs.Tallies.{tally, tallies}
use Rattle.lock_tests.proofs.each.count_each.Goals as goal

pub close-requires-clause-all : goal.close-requires-clause-all
close-requires-clause-all g c κs = all_out c.in_ok-lock.lock.name (tallies c.args.board) c.args.times.now c.in_ok-lock.seats.items c.in_ok-seats.seats.items c.in_ok-lock.lock.seats (let seats = c.in_ok-lock.ensures.lock in let cells = length-map c.args.board.cells.items (tally c.args.board.job) in let long = c.requires.2 in omega arith) c.in_ok-lock.ensures.seats c.in_ok-seats.ensures.1

pub returns : goal.returns
returns g c = all_counted c.in_ok-lock.lock.name (tallies c.args.board) c.args.times.now c.in_ok-lock.seats.items c.in_ok-seats.seats.items (tallies c.close.result) c.in_ok-lock.ensures.seats c.in_ok-seats.ensures.1 c.close.ensures
