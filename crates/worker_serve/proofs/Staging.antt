-- Which frame leads to which stage, and which is refused.
use Rattle.std.proofs.Common.{◌≡◌, arith, true, false, List, [], ◌∷◌, ◌++◌, map, refl, sym, ap, ◌∙◌, inl, inr, append_assoc, subst}
use Rattle.std.specs.Prelude.{IsOk, Some, None, Ok, Err}
use Rattle.px_base.specs.declared.wire.Order.{Order}
use Rattle.px_base.specs.declared.wire.Order.TheVariants.{Step, Report}
use Rattle.std.proofs.lemmas.List.Elements.{All-weaker}
use Rattle.px_base.specs.declared.wire.Answer.{Answer}
use Rattle.px_base.specs.declared.frame.Setup.{Setup}
use Rattle.px_base.specs.declared.frame.Frame.{Frame}
use Rattle.px_base.specs.declared.frame.Frame.TheVariants as frame
use Rattle.px_base.specs.Classes.{class_of}
use Rattle.px_base.specs.Core.{core_form}
use Rattle.px_base.specs.Worlds.{World, new_world, Refusal, CarriesValues, updates_in}
use Rattle.px_base.specs.FrameFits.{FrameFits, IsVertex}
use Rattle.px_base.specs.Values.{IsValue}
use Rattle.px_base.specs.WorldSteps.{world_step}
use Rattle.px_base.specs.Steps.{Refuses as IsFaultOf}
use Rattle.px_base.specs.declared.wire.StepFault.{StepFault}
use Rattle.px_base.specs.declared.wire.StepFault.TheVariants as step_fault
use Rattle.worker_serve.specs.declared.stage.TakeFault.TheVariants as take_fault
use Rattle.part_loads.specs.Loads.{LoadData, AreInOrder, IsWhole, loaded_part, with_piece}
use Rattle.worker_serve.specs.Sessions.{Answered, answer_next, answer_all, before_orders, load_frames, AreLoading, AreServed, Takes, Refuses}
use Rattle.worker_serve.specs.Stages.{order_in, is_ready, fault_of_step}
use Rattle.worker_serve.proofs.Splitting.{one_split, ends_last, not_all_pieces, order_more}
use Rattle.worker_serve.proofs.Answering.{answer_more}

abbrev pub answered_so_far : World → List Answer → Answered
answered_so_far world answers = record { world = world; answers = answers }

setup_same : (s t : Setup) (ps qs : List Frame) → frame.Setup s ∷ ps ≡ frame.Setup t ∷ qs → (s ≡ t) × (ps ≡ qs)
setup_same s t ps qs e = (cc, cc)

abbrev loaded : Setup → List Frame → LoadData
loaded setup pieces = record { setup = setup; pieces = pieces }

load_same : (a b : LoadData) → a.setup ≡ b.setup → a.pieces ≡ b.pieces → a ≡ b
load_same a b s p = ap (λ x. loaded x a.pieces) s ∙ ap (λ ps. loaded b.setup ps) p

-- ---- a load

-- A frame after those of a load that doesn't end it and isn't in order.
refuse_piece_of : (load : LoadData) (f : Frame) → AreInOrder load.pieces → is_ready f ≡ false → (AreInOrder (load.pieces ++ f ∷ []) → ⊥) → Refuses (load_frames load ++ f ∷ [])
refuse_piece_of load f order not_end never answers (inl (e, _)) = cc
refuse_piece_of load f order not_end never answers (inr (inl (other, loading, _))) =
    let same = setup_same load.setup other.setup (load.pieces ++ f ∷ []) other.pieces loading.are in
    never (rw (same.1) loading.begun.order)
refuse_piece_of load f order not_end never answers (inr (inr (other, orders, now, served, _))) =
    let same = setup_same load.setup other.setup (load.pieces ++ f ∷ []) (other.pieces ++ frame.Ready ∷ map (λ o. frame.Order o) orders) served.are in
    let last = ends_last load.pieces other.pieces (map (λ o. frame.Order o) orders) f order.each same.1 in
    let end : is_ready f ≡ true = rw last.0 refl in
    cc

pub refuse_piece : (load : LoadData) (frames : List Frame) (f : Frame) → AreLoading load frames → is_ready f ≡ false → (AreInOrder (load.pieces ++ f ∷ []) → ⊥) → Refuses (frames ++ f ∷ [])
refuse_piece load frames f loading not_end never = rw loading.are (refuse_piece_of load f loading.begun.order not_end never)

-- The end of a load that isn't whole.
refuse_end_of : (load : LoadData) → AreInOrder load.pieces → (IsWhole load → ⊥) → Refuses (load_frames load ++ frame.Ready ∷ [])
refuse_end_of load order never answers (inl (e, _)) = cc
refuse_end_of load order never answers (inr (inl (other, loading, _))) =
    let same = setup_same load.setup other.setup (load.pieces ++ frame.Ready ∷ []) other.pieces loading.are in
    not_all_pieces load.pieces [] (rw (same.1) loading.begun.order.each)
refuse_end_of load order never answers (inr (inr (other, orders, now, served, _))) =
    let same = setup_same load.setup other.setup (load.pieces ++ frame.Ready ∷ []) (other.pieces ++ frame.Ready ∷ map (λ o. frame.Order o) orders) served.are in
    let last = ends_last load.pieces other.pieces (map (λ o. frame.Order o) orders) frame.Ready order.each same.1 in
    never (rw (load_same load other same.0 last.1) served.whole)

pub refuse_end : (load : LoadData) (frames : List Frame) → AreLoading load frames → (IsWhole load → ⊥) → Refuses (frames ++ frame.Ready ∷ [])
refuse_end load frames loading never = rw loading.are (refuse_end_of load loading.begun.order never)

-- a load that goes on, and one that ends
pub loads_on : (load next : LoadData) (frames : List Frame) (f : Frame) → AreLoading load frames → next ≡ with_piece load f → AreInOrder next.pieces → AreLoading next (frames ++ f ∷ [])
loads_on load next frames f loading is order = record {
  are = ap (λ fs. fs ++ f ∷ []) loading.are ∙ sym (ap load_frames is);
  begun = record { class = (let c : IsOk (class_of (with_piece load f).setup.program) = loading.begun.class in rw is c); order = order };
}

pub serves : (load : LoadData) (frames : List Frame) (world : World) → AreLoading load frames → IsWhole load → world ≡ new_world (loaded_part load) (core_form load.setup.program) →
    AreServed load [] (record { world = world; answers = [] }) (frames ++ frame.Ready ∷ [])
serves load frames world loading whole is = record {
  are = ap (λ fs. fs ++ frame.Ready ∷ []) loading.are;
  begun = loading.begun;
  whole = whole;
  answered = ap (λ w. Some (answered_so_far w [])) (sym is);
}

-- ---- orders

abbrev order_frames : List Order → List Frame
order_frames orders = map (λ o. frame.Order o) orders

-- the frames of a load that is whole, and orders, and one frame more
longer : (load : LoadData) (orders : List Order) (frames : List Frame) (f : Frame) → frames ≡ load_frames load ++ frame.Ready ∷ order_frames orders →
    frames ++ f ∷ [] ≡ frame.Setup load.setup ∷ (load.pieces ++ frame.Ready ∷ (order_frames orders ++ f ∷ []))
longer load orders frames f e = ap (λ fs. fs ++ f ∷ []) e ∙ append_assoc (load_frames load) (frame.Ready ∷ order_frames orders) (f ∷ [])

-- What a session takes after such frames is one order more, which is answered.
record IsAnswered (so_far : Answered) (f : Frame) : Type 0 where
  order : Order
  is : f ≡ frame.Order order
  now : Answered
  next : answer_next (Some so_far) order ≡ Some now

takes_order : (load : LoadData) (orders : List Order) (so_far : Answered) (frames : List Frame) (f : Frame) (answers : List Answer) → AreServed load orders so_far frames → Takes (frames ++ f ∷ []) answers → IsAnswered so_far f
takes_order load orders so_far frames f answers served (inl (e, _)) = absurd (let l = longer load orders frames f served.are in let none : frame.Setup load.setup ∷ (load.pieces ++ frame.Ready ∷ (order_frames orders ++ f ∷ [])) ≡ [] = sym l ∙ e in cc)
takes_order load orders so_far frames f answers served (inr (inl (other, loading, _))) =
    let same = setup_same load.setup other.setup (load.pieces ++ frame.Ready ∷ (order_frames orders ++ f ∷ [])) other.pieces (sym (longer load orders frames f served.are) ∙ loading.are) in
    absurd (not_all_pieces load.pieces (order_frames orders ++ f ∷ []) (rw (same.1) loading.begun.order.each))
takes_order load orders so_far frames f answers served (inr (inr (other, others, now, again, _))) =
    let same = setup_same load.setup other.setup (load.pieces ++ frame.Ready ∷ (order_frames orders ++ f ∷ [])) (other.pieces ++ frame.Ready ∷ order_frames others) (sym (longer load orders frames f served.are) ∙ again.are) in
    let split = one_split load.pieces other.pieces (order_frames orders ++ f ∷ []) (order_frames others) served.begun.order.each again.begun.order.each same.1 in
    let more = order_more orders others f split.1 in
    let loads : load ≡ other = load_same load other same.0 split.0 in
    record {
      order = more.order;
      is = more.is;
      now = now;
      next = sym (ap (λ s. answer_next s more.order) served.answered) ∙ sym (answer_more (Some (before_orders load)) orders more.order)
          ∙ sym (ap (λ os. answer_all (Some (before_orders load)) os) more.more) ∙ ap (λ l. answer_all (Some (before_orders l)) others) loads ∙ again.answered;
    }

-- A frame that is no order.
pub refuse_other : (load : LoadData) (orders : List Order) (so_far : Answered) (frames : List Frame) (f : Frame) → AreServed load orders so_far frames → order_in f ≡ None → Refuses (frames ++ f ∷ [])
refuse_other load orders so_far frames f served none answers takes =
    let it = takes_order load orders so_far frames f answers served takes in
    let there : order_in f ≡ Some it.order = ap order_in it.is in
    cc

-- An order that the world refuses.
pub refuse_order : (load : LoadData) (orders : List Order) (so_far : Answered) (frames : List Frame) (f : Frame) (order : Order) (why : Refusal) →
    AreServed load orders so_far frames → order_in f ≡ Some order → world_step so_far.world order ≡ Err why → Refuses (frames ++ f ∷ [])
refuse_order load orders so_far frames f order why served some refused answers takes =
    let it = takes_order load orders so_far frames f answers served takes in
    let this : order ≡ it.order = (let there : order_in f ≡ Some it.order = ap order_in it.is in cc) in
    let none : answer_next (Some so_far) it.order ≡ None = rw (← this) (rw (refused, answer_next) refl) in
    cc

-- an order that is answered
pub serves_on : (load : LoadData) (orders : List Order) (world then : World) (answers : List Answer) (answer : Answer) (frames : List Frame) (f : Frame) (order : Order) →
    AreServed load orders (record { world = world; answers = answers }) frames → order_in f ≡ Some order → world_step world order ≡ Ok (record { world = then; answer = answer }) →
    AreServed load (orders ++ order ∷ []) (record { world = then; answers = answers ++ answer ∷ [] }) (frames ++ f ∷ [])
serves_on load orders world then answers answer frames f order served some step = record {
  are = longer load orders frames f served.are ∙ ap (λ fs. frame.Setup load.setup ∷ (load.pieces ++ frame.Ready ∷ fs)) (by_frame f some ∙ sym (map_last orders order));
  begun = served.begun;
  whole = served.whole;
  answered = answer_more (Some (before_orders load)) orders order ∙ ap (λ s. answer_next s order) served.answered ∙ rw (step, answer_next) refl;
}
  where
    by_frame : (g : Frame) → order_in g ≡ Some order → order_frames orders ++ g ∷ [] ≡ order_frames orders ++ frame.Order order ∷ []
    by_frame (frame.Order o) e = (let same : o ≡ order = cc in rw same refl)
    by_frame (frame.Setup x) e = cc
    by_frame (frame.Starts x) e = cc
    by_frame (frame.Mirrors x) e = cc
    by_frame (frame.Boundary x) e = cc
    by_frame (frame.Reads x) e = cc
    by_frame frame.Ready e = cc
    by_frame (frame.Answer x) e = cc

    map_last : (os : List Order) (o : Order) → order_frames (os ++ o ∷ []) ≡ order_frames os ++ frame.Order o ∷ []
    map_last [] o = refl
    map_last (x ∷ os) o = ap (λ fs. frame.Order x ∷ fs) (map_last os o)

-- the frame that ends a load is one alone
pub ready_is : (f : Frame) → is_ready f ≡ true → f ≡ frame.Ready
ready_is frame.Ready e = refl
ready_is (frame.Setup x) e = cc
ready_is (frame.Starts x) e = cc
ready_is (frame.Mirrors x) e = cc
ready_is (frame.Boundary x) e = cc
ready_is (frame.Reads x) e = cc
ready_is (frame.Order x) e = cc
ready_is (frame.Answer x) e = cc

pub order_is : (f : Frame) (order : Order) → order_in f ≡ Some order → f ≡ frame.Order order
order_is (frame.Order o) order e = (let same : o ≡ order = cc in ap (λ x. frame.Order x) same)
order_is frame.Ready order e = cc
order_is (frame.Setup x) order e = cc
order_is (frame.Starts x) order e = cc
order_is (frame.Mirrors x) order e = cc
order_is (frame.Boundary x) order e = cc
order_is (frame.Reads x) order e = cc
order_is (frame.Answer x) order e = cc

-- an order fits where its frame does
pub order_fits : (f : Frame) (order : Order) → order_in f ≡ Some order → FrameFits f → FrameFits (frame.Order order)
order_fits f order e fits = subst FrameFits (order_is f order e) fits

-- the values that the order of a frame carries are values
pub order_carries : (order : Order) → FrameFits (frame.Order order) → CarriesValues (updates_in order)
order_carries (Step epoch round updates) fits = All-weaker (λ u. IsVertex u.vertex × IsValue u.value) (λ u. IsValue u.value) (λ u h. h.1) updates fits.3.each
order_carries (Report epoch) fits = λ k d below. absurd (omega (arith, below))

-- An order that the world answers by a fault that isn't want of memory.
pub refuse_fault : (load : LoadData) (orders : List Order) (so_far : Answered) (frames : List Frame) (f : Frame) (order : Order) (fault : StepFault) →
    AreServed load orders so_far frames → order_in f ≡ Some order → IsFaultOf fault (world_step so_far.world order) → fault_of_step fault ≡ take_fault.Refused → Refuses (frames ++ f ∷ [])
refuse_fault load orders so_far frames f order (step_fault.WrongEpoch had got) served some is refused = refuse_order load orders so_far frames f order _ served some is
refuse_fault load orders so_far frames f order (step_fault.Foreign vertex) served some is refused = refuse_order load orders so_far frames f order _ served some is
refuse_fault load orders so_far frames f order step_fault.Memory served some is refused = absurd (cc)
