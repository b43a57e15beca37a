-- Some seats, joined from the last one on.
use Rattle.std.specs.Prelude.{◌≡◌, ℕ, ◌+◌, List, [], length, slice_get, Option, Some, None}
use Rattle.atomic_table.specs.Table.{Me}
use Rattle.seat_lock.specs.declared.rule.View.{View}
use Rattle.seat_lock.specs.Views.{SeatView}

-- the second list begins with the first one
abbrev pub IsFront : {A : Type 0} → List A → List A → Type 0
IsFront {A} xs ys = (k : ℕ) (x : A) → slice_get xs k ≡ Some x → slice_get ys k ≡ Some x

-- a seat that has the parts of the seats from m on
abbrev pub IsGathered : {T P : Type 0} → ℕ → Me (Option T) (View P) → List (SeatView P) → Type 0
IsGathered {T} {P} m me seats =
    (me.0.number ≡ m) × (me.0.inside ≡ None) × (me.1 ≡ []) × (m + length me.0.held ≡ length seats)
    × ((k : ℕ) (s : SeatView P) → slice_get seats (m + k) ≡ Some s → slice_get me.0.held k ≡ s.part)
