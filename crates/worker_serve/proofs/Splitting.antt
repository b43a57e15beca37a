-- Where a list of frames ends its load, and what its last frame is.
use Rattle.std.proofs.Common.{◌≡◌, true, false, List, [], ◌∷◌, ◌++◌, length, map, refl, sym, ap, ◌∙◌, arith, length-append}
use Rattle.std.specs.Prelude.{All, IsTrue}
use Rattle.std.proofs.lemmas.List.Elements.{All-head, All-tail}
use Rattle.px_base.specs.declared.wire.Order.{Order}
use Rattle.px_base.specs.declared.frame.Frame.{Frame}
use Rattle.px_base.specs.declared.frame.Frame.TheVariants as frame
use Rattle.part_loads.specs.Loads.{is_piece}

-- the frame brings entries, and each of these frames does
abbrev IsPiece : Frame → Type 0
IsPiece f = IsTrue (is_piece f)

abbrev pub ArePieces : List Frame → Type 0
ArePieces pieces = All IsPiece pieces

head_same : (f g : Frame) (fs gs : List Frame) → f ∷ fs ≡ g ∷ gs → f ≡ g
head_same f g fs gs e = cc

tail_same : (f g : Frame) (fs gs : List Frame) → f ∷ fs ≡ g ∷ gs → fs ≡ gs
tail_same f g fs gs e = cc

not_ready : (f : Frame) → IsTrue (is_piece f) → f ≡ frame.Ready → ⊥
not_ready f piece e = let no : false ≡ true = rw e at piece in cc

-- a frame after some others is more than none
never_nil : (fs gs : List Frame) (f : Frame) → [] ≡ fs ++ f ∷ gs → ⊥
never_nil fs gs f e =
    let count : length (fs ++ f ∷ gs) ≡ 0 = ap length (sym e) in
    absurd (omega (arith, count, length-append fs (f ∷ gs)))

-- no frame that ends a load brings entries, so the load of a list of frames is one alone
pub one_split : (ps qs xs ys : List Frame) → ArePieces ps → ArePieces qs → ps ++ frame.Ready ∷ xs ≡ qs ++ frame.Ready ∷ ys → (ps ≡ qs) × (xs ≡ ys)
one_split [] [] xs ys hp hq e = (refl, tail_same _ _ xs ys e)
one_split [] (q ∷ qs) xs ys hp hq e = absurd (not_ready q (All-head IsPiece q qs hq) (sym (head_same _ _ _ _ e)))
one_split (p ∷ ps) [] xs ys hp hq e = absurd (not_ready p (All-head IsPiece p ps hp) (head_same _ _ _ _ e))
one_split (p ∷ ps) (q ∷ qs) xs ys hp hq e =
    let rest = one_split ps qs xs ys (All-tail IsPiece p ps hp) (All-tail IsPiece q qs hq) (tail_same _ _ _ _ e) in
    let first : p ≡ q = head_same _ _ _ _ e in
    (ap (λ f. f ∷ ps) first ∙ ap (λ fs. q ∷ fs) rest.0, rest.1)

-- Where a list has one frame after those with entries, and ends its load, it ends it by that frame.
pub ends_last : (ps qs ys : List Frame) (f : Frame) → ArePieces ps → ps ++ f ∷ [] ≡ qs ++ frame.Ready ∷ ys → (f ≡ frame.Ready) × (ps ≡ qs) × (ys ≡ [])
ends_last [] [] ys f hp e = (head_same _ _ _ _ e, refl, sym (tail_same _ _ _ _ e))
ends_last [] (q ∷ qs) ys f hp e = absurd (never_nil qs ys frame.Ready (tail_same _ _ _ _ e))
ends_last (p ∷ ps) [] ys f hp e = absurd (not_ready p (All-head IsPiece p ps hp) (head_same _ _ _ _ e))
ends_last (p ∷ ps) (q ∷ qs) ys f hp e =
    let rest = ends_last ps qs ys f (All-tail IsPiece p ps hp) (tail_same _ _ _ _ e) in
    let first : p ≡ q = head_same _ _ _ _ e in
    (rest.0, ap (λ f. f ∷ ps) first ∙ ap (λ fs. q ∷ fs) rest.1, rest.2)

-- frames that end a load are none that bring entries alone
pub not_all_pieces : (ps xs : List Frame) → ArePieces (ps ++ frame.Ready ∷ xs) → ⊥
not_all_pieces [] xs h = not_ready frame.Ready (All-head IsPiece frame.Ready xs h) refl
not_all_pieces (p ∷ ps) xs h = not_all_pieces ps xs (All-tail IsPiece p (ps ++ frame.Ready ∷ xs) h)

abbrev order_frame : Order → Frame
order_frame order = frame.Order order

same_order : (a b : Order) → order_frame a ≡ order_frame b → a ≡ b
same_order a b e = cc

-- what one order more is
pub record IsOrderMore (before now : List Order) (f : Frame) : Type 0 where
  pub order : Order
  pub is : f ≡ frame.Order order
  pub more : now ≡ before ++ order ∷ []

-- one frame after orders, where all are orders
pub order_more : (before now : List Order) (f : Frame) → map order_frame before ++ f ∷ [] ≡ map order_frame now → IsOrderMore before now f
order_more [] [] f e = absurd (never_nil [] [] f (sym e))
order_more [] (o ∷ []) f e = record { order = o; is = head_same _ _ _ _ e; more = refl }
order_more [] (o ∷ p ∷ now) f e = absurd (never_nil [] (map order_frame now) (order_frame p) (tail_same _ _ _ _ e))
order_more (b ∷ before) [] f e = absurd (never_nil [] (map order_frame before ++ f ∷ []) (order_frame b) (sym e))
order_more (b ∷ before) (o ∷ now) f e =
    let rest = order_more before now f (tail_same _ _ _ _ e) in
    let first : b ≡ o = same_order b o (head_same _ _ _ _ e) in
    record { order = rest.order; is = rest.is; more = ap (λ os. o ∷ os) rest.more ∙ ap (λ x. x ∷ before ++ rest.order ∷ []) (sym first) }
