-- The rule of the lock, and what each step tells.
use Rattle.std.specs.Prelude.{◌≡◌, ◌≢◌, ◌⊎◌, ℕ, ◌+◌, ◌<◌, List, [], ◌∷◌, ◌++◌, take, drop, length, slice_index, slice_get, Option, Some, None}
use mathlib.Core.Option.{some, none}
use mathlib.Core.Option as maybe
use lib.ListN.{get_elem?}
use Rattle.atomic_table.specs.Table.{State, Me, Step}
use Rattle.seat_lock.specs.declared.rule.View.{View}

-- the table's slots: which are at home, and what a slot at home holds
abbrev pub Homes : Type 0 → Type 0
Homes T = List (maybe.Option (Option T))

module _ {P : Type 0} where
  -- a view, field by field
  abbrev pub view : ℕ → List P → Option (List P) → View P
  view number held inside = record { number = number; held = held; inside = inside }

  -- the first seat begins with each part
  abbrev pub opening_view : List P → View P
  opening_view now = view 0 now None

  -- a seat that has no part left
  abbrev pub spent : View P
  spent = view 0 [] None

  -- the seat of the first part alone
  abbrev pub front : View P → View P
  front v = view v.number (take 1 v.held) None

  -- the seat of all parts but the first
  abbrev pub behind : View P → View P
  behind v = view (v.number + 1) (drop 1 v.held) v.inside

  -- the seat of the parts of two
  abbrev pub both : View P → View P → View P
  both v w = view v.number (v.held ++ w.held) v.inside

  -- each part that a seat has is its own, and is in the list as the seat knows it
  abbrev pub Fits : List P → (ℕ → ℕ) → ℕ → View P → Type 0
  Fits now owner id v = (k : ℕ) (p : P) → slice_get v.held k ≡ Some p → (owner (v.number + k) ≡ id) × (slice_get now (v.number + k) ≡ Some p)

  -- no seat is in
  abbrev pub AllOut : List (View P) → Type 0
  AllOut views = (id : ℕ) (v : View P) → get_elem? views id ≡ some v → v.inside ≡ None

-- The lock is free: the slot has the value, and no seat is in.
pub record Free {T P : Type 0} (parts : T → List P) (now : List P) (word : ℕ) (homes : Homes T) (views : List (View P)) : Type 0 where
  pub word_is : word ≡ 0
  pub value : T
  pub home : homes ≡ some (Some value) ∷ []
  pub is : parts value ≡ now
  pub out : AllOut views

-- One seat is in, and the slot is out with it. The word is one more than its number.
pub record Taken {T P : Type 0} (now : List P) (word : ℕ) (homes : Homes T) (views : List (View P)) : Type 0 where
  pub holder : ℕ
  pub who : View P
  pub there : get_elem? views holder ≡ some who
  pub found : who.inside ≡ Some now
  pub owns : 0 < length who.held
  pub word_is : word ≡ who.number + 1
  pub home : homes ≡ none ∷ []
  pub others : (id : ℕ) (v : View P) → id ≢ holder → get_elem? views id ≡ some v → v.inside ≡ None

-- The rule. `now` is the value's parts, each as its seat last left it, and `owner` says which seat has which part.
pub record Kept {T P : Type 0} (parts : T → List P) (n : ℕ) (s : State (Option T) (View P)) : Type 0 where
  pub now : List P
  pub owner : ℕ → ℕ
  pub wide : length s.words ≡ 1
  pub long : length now ≡ n
  pub each : (id : ℕ) (v : View P) → get_elem? s.views id ≡ some v → Fits now owner id v
  pub lies : Free parts now (slice_index s.words 0) s.homes s.views ⊎ Taken now (slice_index s.words 0) s.homes s.views

module _ {T P : Type 0} (parts : T → List P) where
  -- what a seat knows and holds
  abbrev Sat : Type 0
  Sat = Me (Option T) (View P)

  -- The word was 0, and the seat is in, with the value in hand, whose part is its own; or nothing changed.
  abbrev pub entered : Step (Option T) → Sat → ℕ → Sat → Type 0
  entered st m found m' =
      (found ≡ 0 → (x : T) × (m' ≡ (view m.0.number m.0.held (Some (parts x)), (0, Some x) ∷ m.1)) × ((k : ℕ) (p : P) → slice_get m.0.held k ≡ Some p → slice_get (parts x) (m.0.number + k) ≡ Some p))
      × (found ≢ 0 → m' ≡ m)

  -- The seat is out, and its part is that of the value which went back.
  abbrev pub left : Step (Option T) → Sat → ℕ → Sat → Type 0
  left st m found m' = (x : T) (c : List (ℕ × Option T)) → m.1 ≡ (0, Some x) ∷ c → (p : P) × (slice_get (parts x) m.0.number ≡ Some p) × (m' ≡ (view m.0.number (p ∷ []) None, c))
