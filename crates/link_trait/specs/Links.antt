-- A link as contracts see it, and what a call of it leaves.
use Rattle.std.specs.Prelude.{◌≡◌, ℕ, ◌≤◌, Bool, true, false, All, Option, Some, is_some, Result, Ok, Err, IsOk, ⊤, MatchOption}
use Rattle.std.specs.List.Sorted.{IsSortedBy}
use Rattle.px_base.specs.declared.TheConstants.{MOST_READS}
use Rattle.px_base.specs.declared.graph.Part.{Part}
use Rattle.px_base.specs.declared.program.CoreProgram.{CoreProgram}
use Rattle.px_base.specs.declared.wire.Answer.{Answer}
use Rattle.px_base.specs.declared.wire.Broken.{Broken}
use Rattle.px_base.specs.declared.wire.Order.{Order}
use Rattle.px_base.specs.declared.wire.Order.TheVariants.{Step, Report}
use Rattle.px_base.specs.Classes.{class_of}
use Rattle.px_base.specs.Core.{core_form}
use Rattle.px_base.specs.Graphs.{HasWeights, is_lower_read, read_count}
use Rattle.px_base.specs.Parts.{PartFits}
use Rattle.px_base.specs.RowTexts.{IsRowProgram}
use Rattle.px_base.specs.Worlds.{World}
use Rattle.px_io.specs.Causes.{one_more}
use Rattle.hub_terms.specs.InStep.{IsAccepted}
use Rattle.hub_terms.specs.Systems.{AnswersValues, step_of, world_left}
use Rattle.link_trait.specs.Plans.{LinkMark}
use Rattle.link_trait.specs.declared.faults.LinkFault.{LinkFault}
use Rattle.link_trait.specs.declared.faults.LinkFault.TheVariants as fault

-- A link: its worker and its mark; the world of its peer, where it is told; how many calls it has answered, and how many of
-- these were Reports, where the peer is told; whether it is alive; its ends; and the fault of the frame that it has refused.
pub record LinkView : Type 0 where
  pub worker : ℕ
  pub mark : LinkMark
  pub peer : Option World
  pub calls : ℕ
  pub reports : ℕ
  pub alive : Bool
  pub ends : ℕ
  pub refused : Option Broken

-- the link tells its peer
abbrev pub is_told : LinkView → Bool
is_told link = is_some link.peer

-- the peer, where it is told, doesn't refuse the order
abbrev pub Accepts : Option World → Order → Type 0
Accepts peer order = MatchOption peer ⊤ (λ world. IsAccepted world order)

-- the answer is the one that the peer gives, where it is told
abbrev pub IsHonestTo : Option World → Order → Answer → Type 0
IsHonestTo peer order answer = MatchOption peer ⊤ (λ world. MatchOption (step_of (Some world) (Some order)) ⊥ (λ outcome. outcome.answer ≡ answer))

-- the peer after its step, where it is told
abbrev pub peer_after : Option World → Order → Option World
peer_after peer order = world_left (step_of peer (Some order))

-- how many Reports were answered, with this order
abbrev pub reports_with : ℕ → Order → ℕ
reports_with reports (Step epoch round updates) = reports
reports_with reports (Report epoch) = one_more reports

-- The link has answered: it is alive, and each value in the answer is one. Where the peer is told, answer and new peer are the
-- step of the old peer, and the call is counted.
pub record IsAnswered (old new : LinkView) (order : Order) (answer : Answer) : Type 0 where
  pub alive : new.alive ≡ true
  pub values : AnswersValues answer
  pub honest : IsHonestTo old.peer order answer
  pub peer : new.peer ≡ peer_after old.peer order
  pub calls : is_told old ≡ true → new.calls ≡ one_more old.calls
  pub reports : is_told old ≡ true → new.reports ≡ reports_with old.reports order

-- The link has not answered: it isn't alive, and no call is counted. Nothing is said of its peer.
pub record IsDead (old new : LinkView) : Type 0 where
  pub dead : new.alive ≡ false
  pub calls : new.calls ≡ old.calls
  pub reports : new.reports ≡ old.reports

-- the fault of the frame that the link has refused, after a call that was answered so
abbrev pub refused_after : Option Broken → Result Answer LinkFault → Option Broken
refused_after refused (Ok answer) = refused
refused_after refused (Err fault.Ended) = refused
refused_after refused (Err (fault.Broke broken)) = Some broken
refused_after refused (Err fault.Memory) = refused

-- What no call changes: whose link it is, and whether it tells. Its ends never fall.
pub record IsSameLink (old new : LinkView) : Type 0 where
  pub worker : new.worker ≡ old.worker
  pub mark : new.mark ≡ old.mark
  pub told : is_told new ≡ is_told old
  pub ends : old.ends ≤ new.ends

-- A link can be started on the part for the program: the part fits and is within the limits, its rows are in order, and the
-- program is accepted, in core form, and has numbers that a row can have.
pub record CanStart (part : Part) (core : CoreProgram) (chunks : ℕ) : Type 0 where
  pub fits : PartFits part
  pub weights : HasWeights part.rows
  pub ordered : All (λ row. IsSortedBy is_lower_read row) part.rows
  pub reads : read_count part.rows ≤ MOST_READS
  pub in_core_form : core ≡ core_form core.program
  pub accepted : IsOk (class_of core.program)
  pub numbers : IsRowProgram core.program
  pub some_chunks : 1 ≤ chunks
  pub few_chunks : chunks ≤ 64
