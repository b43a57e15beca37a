-- Which frames a session takes, and what it answers.
use Rattle.std.specs.Prelude.{◌≡◌, IsOk, List, [], ◌∷◌, ◌++◌, map, ◌⊎◌, Option, Some, None, Ok, Err}
use Rattle.px_base.specs.declared.wire.Order.{Order}
use Rattle.px_base.specs.declared.wire.Answer.{Answer}
use Rattle.px_base.specs.declared.frame.Frame.{Frame}
use Rattle.px_base.specs.declared.frame.Frame.TheVariants as frame
use Rattle.px_base.specs.Classes.{class_of}
use Rattle.px_base.specs.Core.{core_form}
use Rattle.px_base.specs.Worlds.{World, new_world}
use Rattle.px_base.specs.WorldSteps.{world_step}
use Rattle.part_loads.specs.Loads.{LoadData, AreInOrder, IsWhole, loaded_part}

-- ---- orders, one after another

-- a world, and what it answered so far
pub record Answered : Type 0 where
  pub world : World
  pub answers : List Answer

-- one order more, unless it is refused
abbrev pub answer_next : Option Answered → Order → Option Answered
answer_next None order = None
answer_next (Some so_far) order = elim (world_step so_far.world order) [ Err why ↦ None | Ok out ↦ Some (record { world = out.world; answers = so_far.answers ++ out.answer ∷ [] }) ]

abbrev pub answer_all : Option Answered → List Order → Option Answered
answer_all so_far [] = so_far
answer_all so_far (order ∷ orders) = answer_all (answer_next so_far order) orders

-- the new world of the part that the load makes; it answered nothing yet
abbrev pub before_orders : LoadData → Answered
before_orders load = record { world = new_world (loaded_part load) (core_form load.setup.program); answers = [] }

-- ---- frames

-- the setup of a load and the frames with entries after it
abbrev pub load_frames : LoadData → List Frame
load_frames load = frame.Setup load.setup ∷ load.pieces

-- a load may begin so: the setup's program has a class, and the frames after it are in order
pub record IsBegun (load : LoadData) : Type 0 where
  pub class : IsOk (class_of load.setup.program)
  pub order : AreInOrder load.pieces

-- The frames are those of a load that isn't ended.
pub record AreLoading (load : LoadData) (frames : List Frame) : Type 0 where
  pub are : frames ≡ load_frames load
  pub begun : IsBegun load

-- The frames are those of a load that is whole, and then orders, which its new world answers, one after another.
pub record AreServed (load : LoadData) (orders : List Order) (now : Answered) (frames : List Frame) : Type 0 where
  pub are : frames ≡ load_frames load ++ frame.Ready ∷ map frame.Order orders
  pub begun : IsBegun load
  pub whole : IsWhole load
  pub answered : answer_all (Some (before_orders load)) orders ≡ Some now

-- A session takes these frames, and answers this: nothing to none and to those of a load, and to each order what the world
-- answers.
abbrev pub Takes : List Frame → List Answer → Type 0
Takes frames answers = ((frames ≡ []) × (answers ≡ []))
    ⊎ (((load : LoadData) × AreLoading load frames × (answers ≡ []))
    ⊎ ((load : LoadData) × (orders : List Order) × (now : Answered) × AreServed load orders now frames × (answers ≡ now.answers)))

-- whatever it would answer, a session doesn't take these frames
abbrev pub Refuses : List Frame → Type 0
Refuses frames = (answers : List Answer) → Takes frames answers → ⊥
