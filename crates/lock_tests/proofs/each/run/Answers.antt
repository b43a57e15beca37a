use Rattle.std.proofs.Common.{arith, ◌≡◌, length, ap, ◌∙◌, Some}
use Rattle.std.specs.List.{slice_get}
use Rattle.seat_lock.specs.Views.{SeatView}
use Rattle.lock_tests.specs.declared.board.Tally.{Tally}
use Rattle.lock_tests.specs.declared.each.Child.{Child}
use Rattle.lock_tests.specs.Children.{will, IsCountedAt}
use Rattle.lock_tests.proofs.Rows.{first_is, rest_are, with_last, from_start, one_more}
use Rattle.lock_tests.proofs.Counting.{counts_at}
use Rattle.lock_tests.proofs.each.run.Goals as goal

pub loop-seat-preserved : goal.loop-seat-preserved
loop-seat-preserved g c = let stay = c.loop-seat.invariant in let step = c.in-Some.ensures.steps.0 in let n = length c.loop-seat.children.items in
    let at = first_is (λ (s : SeatView Tally) k. slice_get c.args.seats.items k ≡ Some s) n _ c.in-Some.seat _ step stay.2 in
    let more = one_more _ _ _ c.push_reserved.ensures.items in let ok = c.loop-seat.children.ok.0 in let len = c.len.ensures in
    let long = stay.4 in let some_left = ap length step in (
      (tt, tt),
      c.push_reserved.ensures.capacity ∙ stay.1,
      rest_are (λ (s : SeatView Tally) k. slice_get c.args.seats.items k ≡ Some s) n _ _ c.in-Some.seat _ step more stay.2,
      with_last (λ (d : Child) k. IsCountedAt c.args.seats.items c.args.times.now (will d) k) _ _ _ c.push_reserved.ensures.items stay.3 (counts_at c.args.seats.items c.args.times.now n c.len.result c.in-Some.seat (will c.start.result) at c.start.ensures (omega arith)),
      (omega arith),
    )

pub loop-child-preserved : goal.loop-child-preserved
loop-child-preserved g c = let stay = c.loop-child.invariant in let step = c.in-Some-child.ensures.steps.0 in let n = length c.loop-child.left.items in
    let at = first_is (λ (d : Child) k. IsCountedAt c.args.seats.items c.args.times.now (will d) k) n _ c.in-Some-child.child _ step stay.2 in
    let more = one_more _ _ _ c.push_reserved-in-loop-child.ensures.items in
    let long = stay.4 in let some_left = ap length step in (
      (tt, tt),
      c.push_reserved-in-loop-child.ensures.capacity ∙ stay.1,
      rest_are (λ (d : Child) k. IsCountedAt c.args.seats.items c.args.times.now (will d) k) n _ _ c.in-Some-child.child _ step more stay.2,
      with_last (λ (s : SeatView Tally) k. IsCountedAt c.args.seats.items c.args.times.now s k) _ _ _ c.push_reserved-in-loop-child.ensures.items stay.3 (λ s e. c.finish.ensures ∙ at s e),
      (omega arith),
    )

pub returns : goal.returns
returns g c = let stay = c.loop-child.invariant in let done = c.in-None-child.ensures.steps.0 in let len = c.loop-child.child-iterator.rest.ok.0 in let all = stay.4 in let seats = c.requires.0 in (
  (omega arith),
  from_start (λ (s : SeatView Tally) k. IsCountedAt c.args.seats.items c.args.times.now s k) c.loop-child.left.items stay.3,
)
