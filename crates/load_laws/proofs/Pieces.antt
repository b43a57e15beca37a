-- A list in pieces: joined they are the list, and each piece keeps what the list has.
use Rattle.std.proofs.Common.{◌≡◌, ℕ, zero, suc, ◌+◌, ◌-◌, ◌*◌, ◌/◌, ◌<◌, ◌≤◌, Bool, List, [], ◌∷◌, ◌++◌, length, map, take, drop, get_or, refl, sym, ap, ◌∙◌, subst, inl, inr, arith}
use Rattle.std.specs.Prelude.{All, flat_map, ◌^◌}
use Rattle.std.specs.List.Sorted.{IsSortedBy, IsStrictlyIncreasing}
use Rattle.std.proofs.lemmas.Bool.{cases_lt}
use Rattle.std.proofs.lemmas.List.{append-nil, get_or-take, get_or-drop, length-take, length-drop, take-map, drop-map, take_all}
use Rattle.std.proofs.lemmas.List.Concat.{flat_map-append}
use Rattle.std.proofs.lemmas.List.Elements.{All-take, All-drop}
use Rattle.std.proofs.Math.Seq.{take-add}
use Rattle.std.proofs.Math.Nat.{lt-div-mul-add, suc-mul, div-lt_iff_lt-mul}
use Rattle.px_base.specs.Values.{by_position}
use Rattle.px_base.specs.FrameFits.{IsLoad}
use Rattle.px_base.proofs.Positions.{by_position_more, length_by_position, at_position}
use Rattle.load_laws.specs.PartFrames.{piece_count, piece_at, pieces_of}

-- ---- how many pieces

-- they are enough
covers : (most n : ℕ) → 1 ≤ most → n ≤ piece_count most n * most
covers most n some = let room : n + most - 1 < (n + most - 1) / most * most + most = lt-div-mul-add some in omega arith

-- none is past the end
begins_inside : (most n k : ℕ) → 1 ≤ most → k < piece_count most n → k * most < n
begins_inside most n k some inside = elim (cases_lt (k * most) n) [
  | inl less ↦ less
  | inr past ↦ (let next : suc k * most ≡ k * most + most = suc-mul k most in
      let few : n + most - 1 < suc k * most = omega arith in
      let end : (n + most - 1) / most < suc k = (div-lt_iff_lt-mul some).1 few in
      absurd (omega arith))
]

-- ---- the pieces joined

front : {X : Type 0} (most : ℕ) (items : List X) (n : ℕ) → flat_map (λ p. p) (by_position n (piece_at most items)) ≡ take (n * most) items
front most items zero = let none : 0 * most ≡ 0 = omega arith in sym (ap (λ m. take m items) none)
front {X} most items (suc n) =
    let one : suc n ≡ n + 1 = omega arith in
    let next : suc n * most ≡ n * most + most = suc-mul n most in
    let pieces : List (List X) = by_position n (piece_at most items) in
    ap (λ m. flat_map (λ (p : List X). p) (by_position m (piece_at most items))) one
    ∙ ap (flat_map (λ (p : List X). p)) (by_position_more n (piece_at most items))
    ∙ flat_map-append (λ (p : List X). p) pieces (piece_at most items n ∷ [])
    ∙ ap (λ l. flat_map (λ (p : List X). p) pieces ++ l) (append-nil (piece_at most items n))
    ∙ ap (λ l. l ++ piece_at most items n) (front most items n)
    ∙ sym (take-add (n * most) most items)
    ∙ ap (λ m. take m items) (sym next)

pub joined : {X : Type 0} (most : ℕ) (items : List X) → 1 ≤ most → flat_map (λ p. p) (pieces_of most items) ≡ items
joined most items some =
    front most items (piece_count most (length items))
    ∙ take_all (piece_count most (length items) * most) items (covers most (length items) some)

-- ---- what each piece keeps

pub each_piece : {X : Type 0} (Q : List X → Type 0) (most : ℕ) (items : List X) → ((k : ℕ) → k < piece_count most (length items) → Q (piece_at most items k)) → All Q (pieces_of most items)
each_piece {X} Q most items holds k d inside =
    let below : k < piece_count most (length items) = omega (arith, length_by_position (piece_count most (length items)) (piece_at most items)) in
    subst Q (sym (at_position (piece_count most (length items)) (piece_at most items) k d below)) (holds k below)

pub sizes : {X : Type 0} (most : ℕ) (items : List X) (k : ℕ) → 1 ≤ most → most ≤ 2 ^ 20 → k < piece_count most (length items) → IsLoad (length (piece_at most items k))
sizes most items k some few inside =
    let begun : k * most < length items = begins_inside most (length items) k some inside in
    let rest : length (drop (k * most) items) ≡ length items - k * most = length-drop (k * most) items in
    let long = length-take most (drop (k * most) items) in
    (omega arith, omega arith)

pub held : {X : Type 0} (P : X → Type 0) (most : ℕ) (items : List X) (k : ℕ) → All P items → All P (piece_at most items k)
held P most items k each = All-take P most (drop (k * most) items) (All-drop P (k * most) items each)

-- where an entry of a piece stands in the list
stands : {X : Type 0} (most from : ℕ) (items : List X) (j : ℕ) (d : X) → j < length (take most (drop from items)) → (get_or (take most (drop from items)) j d ≡ get_or items (from + j) d) × (from + j < length items)
stands most from items j d inside =
    let long = length-take most (drop from items) in
    let rest = length-drop from items in
    (get_or-take most (drop from items) j d (omega arith) ∙ rw get_or-drop refl, omega arith)

pub sorted : {X : Type 0} (lt : X → X → Bool) (most : ℕ) (items : List X) (k : ℕ) → IsSortedBy lt items → IsSortedBy lt (piece_at most items k)
sorted lt most items k order j d from inside =
    let here = stands most (k * most) items j d (omega arith) in
    let next = stands most (k * most) items (j + 1) d inside in
    let one : k * most + (j + 1) ≡ (k * most + j) + 1 = omega arith in
    rw (here.0, next.0, one) (order (k * most + j) d (omega arith) (omega (arith, next.1)))

pub rising : (most : ℕ) (items : List ℕ) (k : ℕ) → IsStrictlyIncreasing items → IsStrictlyIncreasing (piece_at most items k)
rising most items k order j inside =
    let here = stands most (k * most) items j 0 (omega arith) in
    let next = stands most (k * most) items (j + 1) 0 inside in
    let one : k * most + (j + 1) ≡ (k * most + j) + 1 = omega arith in
    rw (here.0, next.0, one) (order (k * most + j) (omega (arith, next.1)))

pub mapped : {X Y : Type 0} (f : X → Y) (most : ℕ) (items : List X) (k : ℕ) → map f (piece_at most items k) ≡ piece_at most (map f items) k
mapped f most items k = sym (ap (take most) (drop-map f (k * most) items) ∙ take-map f most (drop (k * most) items))
