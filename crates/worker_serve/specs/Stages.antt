-- How far a session has come, and what its fields keep.
use Rattle.std.specs.Prelude.{◌≡◌, ℕ, ◌+◌, ◌≤◌, All, Bool, true, false, List, [], ◌∷◌, ◌++◌, length, flat_map, Option, Some, None, Result, Ok, Err}
use Rattle.px_base.specs.declared.wire.Answer.{Answer}
use Rattle.px_base.specs.declared.wire.Order.{Order}
use Rattle.px_base.specs.declared.wire.StepFault.{StepFault}
use Rattle.px_base.specs.declared.wire.StepFault.TheVariants as step_fault
use Rattle.px_base.specs.declared.frame.Setup.{Setup}
use Rattle.px_base.specs.declared.frame.Frame.{Frame}
use Rattle.px_base.specs.declared.frame.Frame.TheVariants as frame
use Rattle.px_base.specs.Frames.{spelling}
use Rattle.px_base.specs.FrameFits.{FrameFits}
use Rattle.px_frames.specs.Decodings.{Fed, counted_bytes}
use Rattle.part_loads.specs.Loads.{LoadData}
use Rattle.worker_serve.specs.declared.end.ServeEnd.{ServeEnd}
use Rattle.worker_serve.specs.declared.end.ServeEnd.TheVariants as end
use Rattle.worker_serve.specs.declared.stage.TakeFault.{TakeFault}
use Rattle.worker_serve.specs.declared.stage.TakeFault.TheVariants as take_fault
use Rattle.worker_serve.specs.declared.stage.Stage.{Stage}
use Rattle.worker_serve.specs.declared.stage.Stage.TheVariants as stage
use Rattle.worker_serve.specs.Sessions.{AreLoading, AreServed}
use Rattle.worker_serve.specs.Talks.{Talk, TakesAll, Says, answer_bytes}

-- The frames that were taken led to this stage, and were answered so.
abbrev pub IsStageAfter : List Frame → List Answer → Stage → Type 0
IsStageAfter frames answers stage.Waiting = (frames ≡ []) × (answers ≡ [])
IsStageAfter frames answers (stage.Loading load) = AreLoading load frames × (answers ≡ [])
IsStageAfter frames answers (stage.Serving world) = (load : LoadData) × (orders : List Order) × AreServed load orders (record { world = world; answers = answers }) frames

-- What a frame leads to that is taken after these frames and answers: some bytes are added, those of the answers to it.
pub record IsStageNext (frames : List Frame) (answers : List Answer) (this : Frame) (old new : List ℕ) (next : Stage) : Type 0 where
  pub more : List Answer
  pub added : new ≡ old ++ answer_bytes more
  pub stage : IsStageAfter (frames ++ this ∷ []) (answers ++ more) next

-- the setup of a frame that is one
abbrev pub setup_in : Frame → Option Setup
setup_in (frame.Setup setup) = Some setup
setup_in _ = None

-- the order of a frame that is one
abbrev pub order_in : Frame → Option Order
order_in (frame.Order order) = Some order
order_in _ = None

-- the frame ends a load
abbrev pub is_ready : Frame → Bool
is_ready frame.Ready = true
is_ready _ = false

-- The first frames of the bytes were taken, led to this stage, and were answered so; their bytes end there.
pub record IsUpTo (bytes told : List ℕ) (took at : ℕ) (now : Stage) : Type 0 where
  pub frames : List Frame
  pub rest : List ℕ
  pub fit : All FrameFits frames
  pub front : bytes ≡ flat_map spelling frames ++ rest
  pub count : took ≡ length frames
  pub place : at ≡ counted_bytes frames
  pub answers : List Answer
  pub told_is : told ≡ answer_bytes answers
  pub stage : IsStageAfter frames answers now

-- A session that goes on has its bytes in the decoder.
pub record GoesOn (talk : Talk) (decoder : Fed) (now : Stage) (at : ℕ) : Type 0 where
  pub bytes : decoder.bytes ≡ talk.bytes
  pub took : decoder.took ≡ talk.took
  pub up_to : IsUpTo talk.bytes talk.told talk.took at now

-- what the fields keep of what was said
pub record KeepsTalk (talk : Talk) (decoder : Fed) (now : Stage) (at : ℕ) (ended : Option ServeEnd) : Type 0 where
  pub end : ended ≡ talk.end
  pub goes_on : talk.end ≡ None → GoesOn talk decoder now at

-- ---- one frame

-- what is said of a frame that was taken, of none that waits, and of an end
abbrev pub StepSays : Talk → Talk → Result Bool ServeEnd → Type 0
StepSays old new (Ok true) = (new.end ≡ None) × (new.took ≡ old.took + 1) × (new.took ≤ length new.bytes)
StepSays old new (Ok false) = (new.end ≡ None) × ((rest : List ℕ) × TakesAll new.bytes new.told rest)
StepSays old new (Err why) = (new.end ≡ Some why) × Says new.bytes new.told (Err why)

-- A session looks for the next frame of the bytes that it was fed.
pub record IsStep (old new : Talk) (before now : List ℕ) (result : Result Bool ServeEnd) : Type 0 where
  pub more : List ℕ
  pub added : now ≡ before ++ more
  pub told : new.told ≡ old.told ++ more
  pub bytes : new.bytes ≡ old.bytes
  pub says : StepSays old new result

-- It takes all frames of the bytes that it was fed, or ends.
abbrev pub AllSays : Talk → Result (Unit {0}) ServeEnd → Type 0
AllSays new (Ok done) = (new.end ≡ None) × ((rest : List ℕ) × TakesAll new.bytes new.told rest)
AllSays new (Err why) = (new.end ≡ Some why) × Says new.bytes new.told (Err why)

pub record AreStepped (old new : Talk) (before now : List ℕ) (result : Result (Unit {0}) ServeEnd) : Type 0 where
  pub more : List ℕ
  pub added : now ≡ before ++ more
  pub told : new.told ≡ old.told ++ more
  pub bytes : new.bytes ≡ old.bytes
  pub says : AllSays new result

-- why an order isn't taken, by the fault of the world
abbrev pub fault_of_step : StepFault → TakeFault
fault_of_step (step_fault.WrongEpoch had got) = take_fault.Refused
fault_of_step (step_fault.Foreign vertex) = take_fault.Refused
fault_of_step step_fault.Memory = take_fault.Memory

-- how a session ends where it doesn't take the frame at this place
abbrev pub end_of_fault : TakeFault → ℕ → ServeEnd
end_of_fault take_fault.Refused at = end.Refused at
end_of_fault take_fault.Memory at = end.Memory

-- How a session ends whose bytes have these frames and this rest, where no more bytes come.
abbrev pub IsEndAt : List Frame → List ℕ → ServeEnd → Type 0
IsEndAt frames rest end.End = rest ≡ []
IsEndAt frames rest (end.Cut at) = (rest ≡ [] → ⊥) × (at ≡ counted_bytes frames)
IsEndAt frames rest _ = ⊥
