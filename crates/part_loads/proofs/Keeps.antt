-- What a load keeps, from one frame to the next.
use Rattle.std.proofs.Common.{◌≡◌, ℕ, ◌+◌, ◌-◌, ◌<◌, ◌≤◌, true, false, List, [], ◌∷◌, ◌++◌, length, map, get_or, refl, sym, ap, ◌∙◌, subst, arith}
use Rattle.std.specs.Prelude.{IsTrue, flat_map}
use Rattle.std.specs.List.Sorted.{IsNonDecreasing}
use Rattle.std.proofs.lemmas.Bool.{false≢true}
use Rattle.std.proofs.lemmas.List.{map-append, length-map, length_push, get_or_push, get_or_append_left, get_or_default, append-nil}
use Rattle.std.proofs.lemmas.List.Concat.{flat_map-append}
use Rattle.std.proofs.lemmas.List.Elements.{All-nil, All-push}
use Rattle.std.proofs.lemmas.List.Sorted.{IsNonDecreasingBy-short, IsNonDecreasingBy-push}
use Rattle.px_base.specs.declared.frame.Setup.{Setup}
use Rattle.px_base.specs.declared.frame.Frame.{Frame}
use Rattle.px_base.specs.declared.frame.Frame.TheVariants as frame
use Rattle.px_base.specs.declared.wire.Order.TheVariants.{Step, Report}
use Rattle.px_base.specs.declared.wire.Answer.TheVariants.{Stepped, Reported}
use Rattle.px_base.specs.Frames.{kind_of}
use Rattle.px_base.specs.FrameFits.{FrameFits, SetupFits}
use Rattle.part_loads.specs.Loads.{AreInOrder, LoadData, begun_with, with_piece, is_piece, starts_in, mirrors_in, boundary_in, reads_in}
use Rattle.part_loads.specs.Keeping.{EntryLists, Keeps, entries_of, last_kind, no_entries, with_entries}

-- ---- a load begins

pub in_order_nothing : AreInOrder []
in_order_nothing = record { each = All-nil (λ f. IsTrue (is_piece f)); kinds = IsNonDecreasingBy-short (λ (n : ℕ). n) [] (omega arith) }

pub keeps_nothing : (setup : Setup) → SetupFits setup → Keeps (begun_with setup) setup 1 no_entries
keeps_nothing setup fits = record {
  given = refl;
  fits = fits;
  pieces_fit = All-nil FrameFits;
  order = in_order_nothing;
  kind = refl;
  joined = refl;
}

-- ---- one frame more

-- its entries follow the others
piece_joined : {X : Type 0} (f : Frame → List X) (pieces : List Frame) (piece : Frame) → flat_map f (pieces ++ piece ∷ []) ≡ flat_map f pieces ++ f piece
piece_joined {X} f pieces piece = flat_map-append f pieces (piece ∷ []) ∙ ap (λ (l : List X). flat_map f pieces ++ l) (append-nil (f piece))

pub entries_more : (load : LoadData) (piece : Frame) → with_entries (entries_of load) piece ≡ entries_of (with_piece load piece)
entries_more load piece =
    rw (piece_joined starts_in load.pieces piece, piece_joined mirrors_in load.pieces piece, piece_joined boundary_in load.pieces piece, piece_joined reads_in load.pieces piece) refl

kinds_pushed : (pieces : List Frame) (piece : Frame) → map kind_of (pieces ++ piece ∷ []) ≡ map kind_of pieces ++ kind_of piece ∷ []
kinds_pushed pieces piece = map-append kind_of pieces (piece ∷ [])

last_is : (pieces : List Frame) (piece : Frame) → last_kind (pieces ++ piece ∷ []) ≡ kind_of piece
last_is pieces piece =
    let at : length (pieces ++ piece ∷ []) - 1 ≡ length pieces = let e = length_push pieces piece in omega arith in
    rw (at, kinds_pushed pieces piece) (get_or_push (map kind_of pieces) (kind_of piece) 1 (length pieces) (length-map pieces kind_of))

pub in_order_more : (pieces : List Frame) (piece : Frame) → AreInOrder pieces → is_piece piece ≡ true → last_kind pieces ≤ kind_of piece → AreInOrder (pieces ++ piece ∷ [])
in_order_more pieces piece order is up =
    let long : length (map kind_of pieces) ≡ length pieces = length-map pieces kind_of in
    record {
      each = All-push (λ (f : Frame). IsTrue (is_piece f)) pieces piece order.each is;
      kinds = subst IsNonDecreasing (sym (kinds_pushed pieces piece))
          (IsNonDecreasingBy-push (λ (n : ℕ). n) (map kind_of pieces) (kind_of piece) order.kinds
          (λ d some. let inside : length pieces - 1 < length (map kind_of pieces) = omega arith in
          rw (long, get_or_default (map kind_of pieces) (length pieces - 1) d 1 inside) up));
    }

pub keeps_more : (load : LoadData) (setup : Setup) (last : ℕ) (entries : EntryLists) (piece : Frame) (kind : ℕ) → Keeps load setup last entries
    → FrameFits piece → is_piece piece ≡ true → kind ≡ kind_of piece → last ≤ kind
    → Keeps (with_piece load piece) setup kind (with_entries entries piece)
keeps_more load setup last entries piece kind h fits is same up =
    record {
      given = h.given;
      fits = h.fits;
      pieces_fit = All-push FrameFits load.pieces piece h.pieces_fit fits;
      order = in_order_more load.pieces piece h.order is (let k = h.kind in omega arith);
      kind = same ∙ sym (last_is load.pieces piece);
      joined = ap (λ (l : EntryLists). with_entries l piece) h.joined ∙ entries_more load piece;
    }

-- ---- a frame out of place

-- one that brings no entries
pub not_piece : (pieces : List Frame) (piece : Frame) → is_piece piece ≡ false → AreInOrder (pieces ++ piece ∷ []) → ⊥
not_piece pieces piece none order =
    let long = length_push pieces piece in
    let here : IsTrue (is_piece (get_or (pieces ++ piece ∷ []) (length pieces) piece)) = order.each (length pieces) piece (omega arith) in
    false≢true (sym (ap is_piece (get_or_push pieces piece piece (length pieces) refl) ∙ none) ∙ here)

-- one of an earlier kind
rises_last : (kinds : List ℕ) (kind : ℕ) → 0 < length kinds → IsNonDecreasing (kinds ++ kind ∷ []) → get_or kinds (length kinds - 1) 1 ≤ kind
rises_last kinds kind some up =
    let long : length (kinds ++ kind ∷ []) ≡ length kinds + 1 = length_push kinds kind in
    let here : get_or (kinds ++ kind ∷ []) (length kinds - 1) 1 ≡ get_or kinds (length kinds - 1) 1 = get_or_append_left kinds (kind ∷ []) 1 (length kinds - 1) (omega arith) in
    let last : get_or (kinds ++ kind ∷ []) (length kinds) 1 ≡ kind = get_or_push kinds kind 1 (length kinds) refl in
    let rise = up (length kinds - 1) (length kinds) 1 (omega arith) (omega arith) in
    omega arith

last_at_most : (pieces : List Frame) (piece : Frame) → 1 ≤ kind_of piece → IsNonDecreasing (map kind_of pieces ++ kind_of piece ∷ []) → last_kind pieces ≤ kind_of piece
last_at_most [] piece positive up = positive
last_at_most (first ∷ pieces) piece positive up =
    let long : length (map kind_of (first ∷ pieces)) ≡ length (first ∷ pieces) = length-map (first ∷ pieces) kind_of in
    subst (λ (n : ℕ). get_or (map kind_of (first ∷ pieces)) (n - 1) 1 ≤ kind_of piece) long
    (rises_last (map kind_of (first ∷ pieces)) (kind_of piece) (omega arith) up)

kind_positive : (piece : Frame) → 1 ≤ kind_of piece
kind_positive (frame.Setup s) = omega arith
kind_positive (frame.Starts values) = omega arith
kind_positive (frame.Mirrors pairs) = omega arith
kind_positive (frame.Boundary vertices) = omega arith
kind_positive (frame.Reads triples) = omega arith
kind_positive frame.Ready = omega arith
kind_positive (frame.Order (Step epoch round updates)) = omega arith
kind_positive (frame.Order (Report epoch)) = omega arith
kind_positive (frame.Answer (Stepped epoch round changed updates)) = omega arith
kind_positive (frame.Answer (Reported epoch values)) = omega arith

pub not_earlier : (pieces : List Frame) (piece : Frame) → kind_of piece < last_kind pieces → AreInOrder (pieces ++ piece ∷ []) → ⊥
not_earlier pieces piece less order =
    let up = last_at_most pieces piece (kind_positive piece) (subst IsNonDecreasing (kinds_pushed pieces piece) order.kinds) in
    omega arith
