-- The measure of the loop that looks: how many pauses are left.
use Rattle.std.proofs.Common.{◌-◌}
use Rattle.seat_lock.proofs.lock.SeatLock.look.Given as goal

abbrev pub decreases-loop-pauses : goal.decreases-loop-pauses
decreases-loop-pauses g l = 2000 - l.pauses
