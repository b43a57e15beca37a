-- A session over whole frames that it takes ends between them, or for want of something.
use Rattle.std.proofs.Common.{◌≡◌, ℕ, ◌+◌, ◌<◌, List, [], ◌∷◌, ◌++◌, length, length-append, map, take, drop, refl, sym, ap, ◌∙◌, subst, inl, inr, arith, append_assoc}
use Rattle.std.specs.Prelude.{◌⊎◌, All, IsTrue, flat_map, Option, Some, None}
use Rattle.std.specs.Io.KnownBytes.{Consumes, IsAtEnd}
use Rattle.std.specs.List.Sorted.{IsNonDecreasing}
use Rattle.std.proofs.lemmas.List.{append-nil, drop_at}
use Rattle.std.proofs.lemmas.List.Elements.{All-take, All-push, All-get_or}
use Rattle.std.proofs.lemmas.List.Sorted.{IsNonDecreasingBy-take}
use Rattle.std.proofs.Math.Seq.{get_or-append_seam}
use Rattle.px_base.specs.declared.wire.Order.{Order}
use Rattle.px_base.specs.declared.wire.Answer.{Answer}
use Rattle.px_base.specs.declared.frame.Setup.{Setup}
use Rattle.px_base.specs.declared.frame.Frame.{Frame}
use Rattle.px_base.specs.declared.frame.Frame.TheVariants as frame
use Rattle.px_base.specs.Frames.{spelling, kind_of}
use Rattle.px_base.specs.FrameFits.{FrameFits, AreFramesOf}
use Rattle.px_frames.proofs.Apart.{one_reading, longest}
use Rattle.px_frames.proofs.Headers.{none_if_torn, torn_more}
use Rattle.part_loads.specs.Loads.{LoadData, AreInOrder, is_piece}
use Rattle.worker_serve.specs.declared.end.ServeEnd.{ServeEnd}
use Rattle.worker_serve.specs.declared.end.ServeEnd.TheVariants as end
use Rattle.worker_serve.specs.Sessions.{Answered, answer_next, answer_all, before_orders, load_frames, IsBegun, AreServed, Takes}
use Rattle.worker_serve.specs.Talks.{IsTornAfter, IsRefusedAfter}
use Rattle.worker_serve.specs.Streams.{BYTES, EndsAs, IsServed, IsCutAfter}
use Rattle.worker_serve.proofs.Answering.{answer_more}
use Rattle.worker_serve.proofs.Reading.{spellings_more}

-- ---- the first frames of those that a session takes

none_left : (fs gs : List Frame) (f : Frame) → fs ++ f ∷ gs ≡ [] → ⊥
none_left fs gs f e =
    let count : length (fs ++ f ∷ gs) ≡ 0 = ap length e in
    absurd (omega (arith, count, length-append fs (f ∷ gs)))

tail_same : (f g : Frame) (fs gs : List Frame) → f ∷ fs ≡ g ∷ gs → fs ≡ gs
tail_same f g fs gs e = cc

-- lists with a last frame are the same before it
before_same : (xs ys : List Frame) (x y : Frame) → xs ++ x ∷ [] ≡ ys ++ y ∷ [] → xs ≡ ys
before_same [] [] x y e = refl
before_same [] (b ∷ ys) x y e = absurd (none_left ys [] y (sym (tail_same _ _ _ _ e)))
before_same (a ∷ xs) [] x y e = absurd (none_left xs [] x (tail_same _ _ _ _ e))
before_same (a ∷ xs) (b ∷ ys) x y e =
    let first : a ≡ b = cc in
    ap (λ f. f ∷ xs) first ∙ ap (λ fs. b ∷ fs) (before_same xs ys x y (tail_same _ _ _ _ e))

take_before : (xs : List Frame) (x : Frame) → take (length xs) (xs ++ x ∷ []) ≡ xs
take_before [] x = refl
take_before (y ∷ xs) x = ap (λ fs. y ∷ fs) (take_before xs x)

kinds_before : (xs : List Frame) (x : Frame) → take (length xs) (map kind_of (xs ++ x ∷ [])) ≡ map kind_of xs
kinds_before [] x = refl
kinds_before (y ∷ xs) x = ap (λ ks. kind_of y ∷ ks) (kinds_before xs x)

-- the pieces before the last one are in order
order_before : (ps : List Frame) (f : Frame) → AreInOrder (ps ++ f ∷ []) → AreInOrder ps
order_before ps f order = record {
  each = subst (λ fs. All (λ p. IsTrue (is_piece p)) fs) (take_before ps f) (All-take (λ p. IsTrue (is_piece p)) (length ps) (ps ++ f ∷ []) order.each);
  kinds = subst (λ ks. IsNonDecreasing ks) (kinds_before ps f) (IsNonDecreasingBy-take (λ k. k) (length ps) (map kind_of (ps ++ f ∷ [])) order.kinds);
}

abbrev load_with : Setup → List Frame → LoadData
load_with setup pieces = record { setup = setup; pieces = pieces }

loading_before : (setup : Setup) (fs : List Frame) (f : Frame) (pieces : List Frame) → IsBegun (load_with setup pieces) → fs ++ f ∷ [] ≡ frame.Setup setup ∷ pieces → (answers : List Answer) × Takes fs answers
loading_before setup [] f pieces begun e = ([], inl (refl, refl))
loading_before setup (g ∷ fs) f pieces begun e =
    let first : g ≡ frame.Setup setup = cc in
    let rest : fs ++ f ∷ [] ≡ pieces = tail_same _ _ _ _ e in (
      [],
      inr (inl (
        load_with setup fs,
        record {
          are = ap (λ x. x ∷ fs) first;
          begun = record { class = begun.class; order = order_before fs f (subst AreInOrder (sym rest) begun.order) };
        },
        refl,
      )),
    )

-- orders are none, or have a last one
data EndedOrders (os : List Order) : Type 0 where
  no_orders : os ≡ [] → EndedOrders os
  last_order : (before : List Order) (o : Order) → os ≡ before ++ o ∷ [] → EndedOrders os

ended_orders : (os : List Order) → EndedOrders os
ended_orders [] = no_orders refl
ended_orders (o ∷ os) = elim (ended_orders os) [
  | no_orders none ↦ last_order [] o (ap (λ xs. o ∷ xs) none)
  | last_order before p is ↦ last_order (o ∷ before) p (ap (λ xs. o ∷ xs) is)
]

abbrev order_frames : List Order → List Frame
order_frames orders = map (λ o. frame.Order o) orders

frames_last : (os : List Order) (o : Order) → order_frames (os ++ o ∷ []) ≡ order_frames os ++ frame.Order o ∷ []
frames_last [] o = refl
frames_last (x ∷ os) o = ap (λ fs. frame.Order x ∷ fs) (frames_last os o)

-- what was answered before the last order
answered_before : (start : Option Answered) (os : List Order) (o : Order) (now : Answered) → answer_all start (os ++ o ∷ []) ≡ Some now → (was : Answered) × (answer_all start os ≡ Some was)
answered_before start os o now e = by_case (answer_all start os) refl (sym (answer_more start os o) ∙ e)
  where
    by_case : (s : Option Answered) → answer_all start os ≡ s → answer_next s o ≡ Some now → (was : Answered) × (answer_all start os ≡ Some was)
    by_case None is next = cc
    by_case (Some was) is next = (was, is)

serving_before : (load : LoadData) (orders : List Order) (now : Answered) (fs : List Frame) (f : Frame) → AreServed load orders now (fs ++ f ∷ []) → EndedOrders orders → (answers : List Answer) × Takes fs answers
serving_before load orders now fs f served (no_orders none) =
    let all : fs ++ f ∷ [] ≡ load_frames load ++ frame.Ready ∷ [] = served.are ∙ ap (λ os. load_frames load ++ frame.Ready ∷ order_frames os) none in
    ([], inr (inl (load, record { are = before_same fs (load_frames load) f frame.Ready all; begun = served.begun }, refl)))
serving_before load orders now fs f served (last_order before o is) =
    let was = answered_before (Some (before_orders load)) before o now (subst (λ os. answer_all (Some (before_orders load)) os ≡ Some now) is served.answered) in
    let all : fs ++ f ∷ [] ≡ (load_frames load ++ frame.Ready ∷ order_frames before) ++ frame.Order o ∷ [] =
    served.are ∙ ap (λ os. load_frames load ++ frame.Ready ∷ order_frames os) is ∙ ap (λ gs. load_frames load ++ frame.Ready ∷ gs) (frames_last before o) ∙ sym (append_assoc (load_frames load) (frame.Ready ∷ order_frames before) (frame.Order o ∷ [])) in (
      was.0.answers,
      inr (inr (
        load,
        before,
        was.0,
        record {
          are = before_same fs (load_frames load ++ frame.Ready ∷ order_frames before) f (frame.Order o) all;
          begun = served.begun;
          whole = served.whole;
          answered = was.1;
        },
        refl,
      )),
    )

takes_before : (fs : List Frame) (f : Frame) (answers : List Answer) → Takes (fs ++ f ∷ []) answers → (some : List Answer) × Takes fs some
takes_before fs f answers (inl (e, _)) = absurd (none_left fs [] f e)
takes_before fs f answers (inr (inl (load, loading, _))) = loading_before load.setup fs f load.pieces loading.begun loading.are
takes_before fs f answers (inr (inr (load, orders, now, served, _))) = serving_before load orders now fs f served (ended_orders orders)

-- a session that takes some frames takes the first of them
takes_front : (fs gs : List Frame) (answers : List Answer) → Takes (fs ++ gs) answers → (some : List Answer) × Takes fs some
takes_front fs [] answers takes = (answers, subst (λ all. Takes all answers) (append-nil fs) takes)
takes_front fs (g ∷ gs) answers takes =
    let longer = takes_front (fs ++ g ∷ []) gs answers (subst (λ all. Takes all answers) (sym (append_assoc fs (g ∷ []) gs)) takes) in
    takes_before fs g longer.0 longer.1

-- ---- ends that whole frames don't come to

-- the whole input is what was taken, and what is left
split_of : (all taken : List ℕ) (rest : Option (List ℕ)) → Consumes (Some all) rest taken → (left : List ℕ) × (rest ≡ Some left) × (all ≡ taken ++ left)
split_of all taken None e = absurd e
split_of all taken (Some left) e = (left, refl, e)

never_refused : (all bytes told left : List ℕ) (at : ℕ) (frames : List Frame) (answers : List Answer) → all ≡ bytes ++ left → AreFramesOf all frames [] → Takes frames answers → IsRefusedAfter bytes told at → ⊥
never_refused all bytes told left at frames answers is are takes refused =
    let front : all ≡ flat_map spelling (refused.before ++ refused.this ∷ []) ++ (refused.more ++ left) =
    is ∙ ap (λ bs. bs ++ left) (refused.begins.front ∙ sym (append_assoc (flat_map spelling refused.before) (spelling refused.this) refused.more)
    ∙ ap (λ bs. bs ++ refused.more) (sym (spellings_more refused.before (refused.this ∷ []) ∙ ap (λ bs. flat_map spelling refused.before ++ bs) (append-nil (spelling refused.this)))))
    ∙ append_assoc (flat_map spelling (refused.before ++ refused.this ∷ [])) refused.more left in
    let fit : All FrameFits (refused.before ++ refused.this ∷ []) = All-push FrameFits refused.before refused.this refused.begins.fit refused.fits in
    let longer = longest all [] (refused.more ++ left) frames (refused.before ++ refused.this ∷ []) are fit front in
    let some = takes_front (refused.before ++ refused.this ∷ []) longer.0 answers (subst (λ fs. Takes fs answers) longer.1 takes) in
    refused.refused some.0 some.1

cancel : (xs ys zs : List ℕ) → xs ++ ys ≡ xs ++ zs → ys ≡ zs
cancel xs ys zs e = sym (drop_at xs ys (length xs) refl) ∙ ap (λ bs. drop (length xs) bs) e ∙ drop_at xs zs (length xs) refl

never_torn : (all bytes told left : List ℕ) (at : ℕ) (frames : List Frame) → all ≡ bytes ++ left → AreFramesOf all frames [] → IsTornAfter bytes told at → ⊥
never_torn all bytes told left at frames is are torn =
    let front : all ≡ flat_map spelling torn.all.frames ++ (torn.rest ++ left) =
    is ∙ ap (λ bs. bs ++ left) torn.all.begins.front ∙ append_assoc (flat_map spelling torn.all.frames) torn.rest left in
    let longer = longest all [] (torn.rest ++ left) frames torn.all.frames are torn.all.begins.fit front in
    by_others longer.0 longer.1 (cancel (flat_map spelling torn.all.frames) (torn.rest ++ left) (flat_map spelling longer.0)
    (sym front ∙ are.whole ∙ append-nil (flat_map spelling frames) ∙ ap (flat_map spelling) longer.1 ∙ spellings_more torn.all.frames longer.0))
  where
    by_others : (others : List Frame) → frames ≡ torn.all.frames ++ others → torn.rest ++ left ≡ flat_map spelling others → ⊥
    by_others [] same e =
        let none : length (torn.rest ++ left) ≡ 0 = ap length e in
        absurd (omega (arith, none, length-append torn.rest left, torn.torn.0))
    by_others (f ∷ others) same e =
        let fits : FrameFits f = subst FrameFits (get_or-append_seam torn.all.frames f others f)
        (All-get_or FrameFits (torn.all.frames ++ f ∷ others) (length torn.all.frames) f (omega (arith, length-append torn.all.frames (f ∷ others))) (subst (λ fs. All FrameFits fs) same are.fit)) in
        none_if_torn (torn.rest ++ left) (torn_more torn.rest left torn.torn) f (flat_map spelling others) fits e

never_cut : (all bytes told : List ℕ) (at : ℕ) (frames : List Frame) → all ≡ bytes ++ [] → AreFramesOf all frames [] → IsCutAfter bytes told at → ⊥
never_cut all bytes told at frames is are cut =
    let same : all ≡ bytes = is ∙ append-nil bytes in
    cut.some (one_reading bytes cut.rest [] cut.all.frames frames cut.all.all (subst (λ bs. AreFramesOf bs frames []) same are)).1

-- how whole frames may end
abbrev pub EndsWell : ServeEnd → Type 0
EndsWell why = (why ≡ end.End) ⊎ ((why ≡ end.ReadFault) ⊎ ((why ≡ end.WriteFault) ⊎ (why ≡ end.Memory)))

pub ends_well : (all : List ℕ) (frames : List Frame) (answers : List Answer) (left rest old new : Option (List ℕ)) (why : ServeEnd) → IsServed left rest old new why → left ≡ Some all →
    AreFramesOf all frames [] → Takes frames answers → length all < BYTES → EndsWell why
ends_well all frames answers left rest old new why served is are takes short =
    let split = split_of all served.bytes rest (subst (λ l. Consumes l rest served.bytes) is served.taken) in
    by_end why split.0 split.1 split.2 served.ends
  where
    by_end : (w : ServeEnd) (more : List ℕ) → rest ≡ Some more → all ≡ served.bytes ++ more → EndsAs w served.bytes served.told rest → EndsWell w
    by_end end.End more is_rest whole ends = inl refl
    by_end (end.Cut at) more is_rest whole ends =
        absurd (let none : more ≡ [] = subst IsAtEnd is_rest ends.1 in never_cut all served.bytes served.told at frames (whole ∙ ap (λ bs. served.bytes ++ bs) none) are ends.0)
    by_end (end.Torn at) more is_rest whole ends = absurd (never_torn all served.bytes served.told more at frames whole are ends)
    by_end (end.Refused at) more is_rest whole ends = absurd (never_refused all served.bytes served.told more at frames answers whole are takes ends)
    by_end end.TooLong more is_rest whole ends =
        let count : length all ≡ length served.bytes + length more = ap length whole ∙ length-append served.bytes more in
        absurd (omega (arith, count, ends.1, short))
    by_end end.ReadFault more is_rest whole ends = inr (inl refl)
    by_end end.WriteFault more is_rest whole ends = inr (inr (inl refl))
    by_end end.Memory more is_rest whole ends = inr (inr (inr refl))
