-- What the cells of a board count.
use Rattle.std.specs.Prelude.{◌≡◌, ℕ, zero, suc, ◌+◌, ◌-◌, ◌^◌, ◌<◌, List, length, map, min, slice_get, slice_index, Option, Some, None}
use Rattle.lock_tests.specs.declared.board.Board.{Board}
use Rattle.lock_tests.specs.declared.board.Tally.{Tally}

-- the cell, with what the board is for
abbrev pub tally : ℕ → ℕ → Tally
tally job count = record { job = job; count = count }

-- the parts of a board
abbrev pub tallies : Board → List Tally
tallies board = map (tally board.job) board.cells.items

-- a cell that counts one more, and stops at the greatest number
abbrev pub raised : Option Tally → Option Tally
raised None = None
raised (Some t) = Some (tally t.job (min (t.count + 1) (2 ^ 64 - 1)))

-- a cell that counts so many times more
abbrev pub raised_by : Option Tally → ℕ → Option Tally
raised_by cell zero = cell
raised_by cell (suc times) = raised (raised_by cell times)

-- the cells, each after it counted so many times as its number says
abbrev pub IsCounted : List Tally → List ℕ → List Tally → Type 0
IsCounted before times after = (length after ≡ length before) × ((k : ℕ) → k < length before → slice_get after k ≡ raised_by (slice_get before k) (slice_index times k))
