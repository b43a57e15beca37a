use Rattle.std.proofs.Common.{◌≡◌, ◌+◌, length, vec_capacity, Some}
use Rattle.std.specs.List.{slice_get}
use Rattle.seat_lock.specs.Views.{SeatView}
use Rattle.lock_tests.specs.declared.board.Tally.{Tally}
use Rattle.lock_tests.specs.declared.each.Child.{Child}
use Rattle.lock_tests.specs.Children.{will, IsCountedAt}
use Rattle.lock_tests.proofs.Rows.{From}
use Rattle.lock_tests.proofs.each.run.Given as goal

-- a thread has begun for each seat so far, and the rest of the seats are those behind them
abbrev pub invariant-loop-seat : goal.invariant-loop-seat
invariant-loop-seat g l = ((goal.iterator-loop-seat g).can_next l.seat-iterator × (goal.iterator-loop-seat g).is_finite l.seat-iterator)
    × (vec_capacity l.children ≡ vec_capacity l.initial.children)
    × From (λ (s : SeatView Tally) k. slice_get l.fn.seats.items k ≡ Some s) (length l.children.items) l.seat-iterator.rest.items
    × From (λ (c : Child) k. IsCountedAt l.fn.seats.items l.times (will c) k) 0 l.children.items
    × (length l.children.items + length l.seat-iterator.rest.items ≡ length l.times)

-- the threads so far gave up their seats, and the rest are those behind them
abbrev pub invariant-loop-child : goal.invariant-loop-child
invariant-loop-child g l = ((goal.iterator-loop-child g).can_next l.child-iterator × (goal.iterator-loop-child g).is_finite l.child-iterator)
    × (vec_capacity l.left ≡ vec_capacity l.initial.left)
    × From (λ (c : Child) k. IsCountedAt l.fn.seats.items l.times (will c) k) (length l.left.items) l.child-iterator.rest.items
    × From (λ (s : SeatView Tally) k. IsCountedAt l.fn.seats.items l.times s k) 0 l.left.items
    × (length l.left.items + length l.child-iterator.rest.items ≡ length l.times)
