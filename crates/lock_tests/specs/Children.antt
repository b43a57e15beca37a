-- What the threads leave of the seats that they are given.
use Rattle.std.specs.Prelude.{◌≡◌, ℕ, List, length, slice_get, slice_index, Some}
use Rattle.seat_lock.specs.Views.{SeatView}
use Rattle.lock_tests.specs.declared.board.Tally.{Tally}
use Rattle.lock_tests.specs.declared.each.Child.{Child}
use Rattle.lock_tests.specs.declared.each.Child.TheVariants.{There, Here}
use Rattle.lock_tests.specs.Tallies.{raised_by}

-- a seat after it counted so many times
abbrev pub counted : SeatView Tally → ℕ → SeatView Tally
counted seat times = record { lock = seat.lock; number = seat.number; part = raised_by seat.part times; inside = seat.inside }

-- the seat that a thread gives up, or that is here
abbrev pub will : Child → SeatView Tally
will (There h) = counted h.promise.seat.value h.promise.times
will (Here seat) = seat

-- what seat k is after it counted
abbrev pub IsCountedAt : List (SeatView Tally) → List ℕ → SeatView Tally → ℕ → Type 0
IsCountedAt seats times left k = (s : SeatView Tally) → slice_get seats k ≡ Some s → left ≡ counted s (slice_index times k)

-- the seats, each after it counted
abbrev pub AreCounted : List (SeatView Tally) → List ℕ → List (SeatView Tally) → Type 0
AreCounted seats times left = (length left ≡ length seats) × ((k : ℕ) (l : SeatView Tally) → slice_get left k ≡ Some l → IsCountedAt seats times l k)
