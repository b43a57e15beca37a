-- From the seats that are left to the board.
use Rattle.std.proofs.Common.{◌≡◌, ℕ, List, length, sym, ap, ◌∙◌, arith, Some, slice_index}
use Rattle.std.specs.List.{slice_get}
use Rattle.std.proofs.lemmas.Option.{slice_get_within}
use Rattle.atomic_table.specs.Seated.{TableId}
use Rattle.seat_lock.specs.Views.{SeatView, seat_at, AreSeats, AreAllSeats, IsLeft}
use Rattle.lock_tests.specs.declared.board.Tally.{Tally}
use Rattle.lock_tests.specs.Tallies.{IsCounted}
use Rattle.lock_tests.specs.Children.{AreCounted, IsCountedAt, counted}
use Rattle.lock_tests.proofs.Rows.{element}

module _ (name : TableId) (parts : List Tally) (times : List ℕ) (seats left : List (SeatView Tally)) where
  -- each seat that is left comes from one that was dealt
  left_from : AreSeats name parts seats → AreCounted seats times left → (k : ℕ) (l : SeatView Tally) → slice_get left k ≡ Some l → l ≡ counted (seat_at name parts k) (slice_index times k)
  left_from are each k l e = let s = element seats k (let long = each.0 in let under = slice_get_within left k l e in omega arith) in
      each.1 k l e s.0 s.1 ∙ ap (λ z. counted z (slice_index times k)) (are.1 k s.0 s.1)

  pub all_out : (n : ℕ) → n ≡ length parts → AreSeats name parts seats → AreCounted seats times left → AreAllSeats name n left
  all_out n long are each = (
    each.0 ∙ (are.0 ∙ sym long),
    λ k l e. let from = left_from are each k l e in (ap (λ z. z.lock) from, ap (λ z. z.number) from, ap (λ z. z.inside) from),
  )

  pub all_counted : (now : List Tally) → AreSeats name parts seats → AreCounted seats times left → IsLeft now left → IsCounted parts times now
  all_counted now are each is = (
    is.0 ∙ (each.0 ∙ are.0),
    λ k under. let l = element left k (let a = each.0 in let b = are.0 in omega arith) in is.1 k l.0 l.1 ∙ ap (λ z. z.part) (left_from are each k l.0 l.1),
  )

-- what a thread that was given seat k will have left
pub counts_at : (seats : List (SeatView Tally)) (times : List ℕ) (k i : ℕ) (s left : SeatView Tally) → slice_get seats k ≡ Some s → left ≡ counted s (slice_index times i) → i ≡ k → IsCountedAt seats times left k
counts_at seats times k i s left at is same z e = let one : s ≡ z = cc in is ∙ (λ j. counted (one j) (slice_index times (same j)))
