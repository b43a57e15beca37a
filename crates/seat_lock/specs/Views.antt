-- What contracts see of a lock and of a seat.
use Rattle.std.specs.Prelude.{◌≡◌, ◌≢◌, ℕ, List, length, slice_get, Option, Some, None, refl}
use Rattle.std.specs.Coded.{Coded, code_by, coded×, coded_ℕ, coded_list, coded_option}
use Rattle.atomic_table.specs.Seated.{TableId, table_id_coded}

-- which lock it is, and its number of seats
pub record LockView : Type 0 where
  pub name : TableId
  pub seats : ℕ

-- that these are plain data
abbrev pub lock_code : Coded LockView
lock_code = code_by (TableId × ℕ) (coded× table_id_coded coded_ℕ) (λ v. (v.name, v.seats)) (λ p. record { name = p.0; seats = p.1 }) (λ _. refl)

-- the lock, the number, the part as it was last left, and while the seat is in the parts that it found
pub record SeatView (P : Type 0) : Type 0 where
  pub lock : TableId
  pub number : ℕ
  pub part : Option P
  pub inside : Option (List P)

-- that these are plain data, where a part is
abbrev pub seat_code : {P : Type 0} → Coded P → Coded (SeatView P)
seat_code {P} c = code_by (TableId × (ℕ × (Option P × Option (List P)))) (coded× table_id_coded (coded× coded_ℕ (coded× (coded_option c) (coded_option (coded_list c)))))
    (λ v. (v.lock, (v.number, (v.part, v.inside)))) (λ p. record { lock = p.0; number = p.1.0; part = p.1.1.0; inside = p.1.1.1 }) (λ _. refl)

-- there are as many parts as before, and all but this one are as before
abbrev pub OthersStay : {P : Type 0} → ℕ → List P → List P → Type 0
OthersStay number before after = (length after ≡ length before) × ((k : ℕ) → k ≢ number → slice_get after k ≡ slice_get before k)

-- the seat is in, and the parts are as it found them, but for its own
abbrev pub KeepsOthers : {P : Type 0} → ℕ → Option (List P) → List P → Type 0
KeepsOthers {P} number inside now = (found : List P) × (inside ≡ Some found) × OthersStay number found now

-- seat k of a new lock: it is out, and knows part k
abbrev pub seat_at : {P : Type 0} → TableId → List P → ℕ → SeatView P
seat_at name now k = record { lock = name; number = k; part = slice_get now k; inside = None }

-- the seats of a new lock, in the order of its parts
abbrev pub AreSeats : {P : Type 0} → TableId → List P → List (SeatView P) → Type 0
AreSeats {P} name now seats = (length seats ≡ length now) × ((k : ℕ) (s : SeatView P) → slice_get seats k ≡ Some s → s ≡ seat_at name now k)

-- all seats of the lock, in the order of their parts, and each is out
abbrev pub AreAllSeats : {P : Type 0} → TableId → ℕ → List (SeatView P) → Type 0
AreAllSeats {P} name count seats = (length seats ≡ count) × ((k : ℕ) (s : SeatView P) → slice_get seats k ≡ Some s → (s.lock ≡ name) × (s.number ≡ k) × (s.inside ≡ None))

-- each part is the one that its seat last left, and there are no others
abbrev pub IsLeft : {P : Type 0} → List P → List (SeatView P) → Type 0
IsLeft {P} now seats = (length now ≡ length seats) × ((k : ℕ) (s : SeatView P) → slice_get seats k ≡ Some s → slice_get now k ≡ s.part)
