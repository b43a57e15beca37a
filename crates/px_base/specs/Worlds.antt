-- A worker's world: its part of the graph, how far it has come, and what it knows of its vertices.
use Rattle.std.specs.Prelude.{ℕ, ◌-◌, All, Bool, not, ◌==◌, nat_lt, List, [], length, map, find, replicate, if◌then◌else◌, Option, Some, None, option_map}
use Rattle.px_base.specs.declared.graph.Part.{Part}
use Rattle.px_base.specs.declared.wire.Update.{Update}
use Rattle.px_base.specs.declared.wire.Order.{Order}
use Rattle.px_base.specs.declared.wire.Order.TheVariants.{Step, Report}
use Rattle.px_base.specs.declared.wire.Answer.{Answer}
use Rattle.px_base.specs.declared.program.CoreProgram.{CoreProgram}
use Rattle.px_base.specs.Values.{IsValue, IsValueList, is_listed}
use Rattle.px_base.specs.Parts.{PartFits, is_within}
use Rattle.px_base.specs.Graphs.{HasWeights}
use Rattle.px_base.specs.Classes.{counts_reads, keeps}
use Rattle.px_base.specs.Answers.{reads_needed}

-- ---- the two kinds of world

-- A world of values: a core value for each master and each mirror. Epoch and round are those of its last Step.
pub record ValueWorld : Type 0 where
  pub part : Part
  pub core : CoreProgram
  pub epoch : ℕ
  pub round : ℕ
  pub masters : List ℕ
  pub mirrors : List ℕ

-- A world that counts: for each master 1 for alive or 0 for dead, and how many living neighbours it counts. Of its
-- program it keeps only how many of them a vertex needs.
pub record CountWorld : Type 0 where
  pub part : Part
  pub needed : ℕ
  pub epoch : ℕ
  pub round : ℕ
  pub alive : List ℕ
  pub counts : List ℕ

-- a world of either kind
pub data World : Type 0 where
  of_values : ValueWorld → World
  of_counts : CountWorld → World

-- What each world of values keeps: its part fits, and there is a value for each master and each mirror.
pub record ValueWorldFits (w : ValueWorld) : Type 0 where
  pub part : PartFits w.part
  pub weights : HasWeights w.part.rows
  pub masters : IsValueList (w.part.high - w.part.low) w.masters
  pub mirrors : IsValueList (length w.part.mirrors) w.mirrors

-- what a world reports of its masters: their core values, or 1 for alive and 0 for dead
abbrev pub masters_of : World → List ℕ
masters_of (of_values w) = w.masters
masters_of (of_counts w) = w.alive

-- the epoch of the world's last Step
abbrev pub epoch_of : World → ℕ
epoch_of (of_values w) = w.epoch
epoch_of (of_counts w) = w.epoch

-- the vertices of which a world takes updates: of values its mirrors, of counts its masters
abbrev pub takes_update : World → ℕ → Bool
takes_update (of_values w) v = is_listed w.part.mirrors v
takes_update (of_counts w) v = is_within w.part.low w.part.high v

-- ---- a new world

-- each master and mirror has its start value where the program keeps the own value, and else core value 0
abbrev pub new_value_world : Part → CoreProgram → ValueWorld
new_value_world part core = record {
  part = part;
  core = core;
  epoch = 0;
  round = 0;
  masters = if keeps core.program.own then part.starts else replicate (length part.starts) 0;
  mirrors = if keeps core.program.own then part.mirror_starts else replicate (length part.mirror_starts) 0;
}

-- all masters are alive, and each counts its whole row
abbrev pub new_count_world : Part → ℕ → CountWorld
new_count_world part needed = record {
  part = part;
  needed = needed;
  epoch = 0;
  round = 0;
  alive = replicate (length part.rows) 1;
  counts = map length part.rows;
}

-- the new world of a part for a program
abbrev pub new_world : Part → CoreProgram → World
new_world part core = if counts_reads core.program.fold
    then of_counts (new_count_world part (reads_needed core.program.fold))
    else of_values (new_value_world part core)

-- ---- which orders are refused

-- the updates that an order carries; a Report carries none
abbrev pub updates_in : Order → List Update
updates_in (Step epoch round updates) = updates
updates_in (Report epoch) = []

-- each value that the updates carry is one
abbrev pub CarriesValues : List Update → Type 0
CarriesValues updates = All (λ u. IsValue u.value) updates

-- why an order is refused: its epoch doesn't go with the world's, or an update is of a vertex that the world doesn't take
pub data Refusal : Type 0 where
  wrong_epoch : (had got : ℕ) → Refusal
  foreign : (vertex : ℕ) → Refusal

-- A Step is fresh where its epoch is later than the world's.
abbrev pub is_fresh : ℕ → ℕ → Bool
is_fresh had epoch = nat_lt had epoch

-- the first update of a vertex that isn't taken
abbrev pub first_foreign : (ℕ → Bool) → List Update → Option Refusal
first_foreign takes updates = option_map (λ u. foreign u.vertex) (find (λ u. not (takes u.vertex)) updates)

-- Why a world of the epoch had, which takes updates of the vertices that pass the test, refuses the order. A Step may
-- be of the same or a later epoch, a Report of the same alone.
abbrev pub refusal_of : ℕ → (ℕ → Bool) → Order → Option Refusal
refusal_of had takes (Step epoch round updates) = if nat_lt epoch had then Some (wrong_epoch had epoch) else first_foreign takes updates
refusal_of had takes (Report epoch) = if epoch == had then None else Some (wrong_epoch had epoch)

-- ---- what a step leaves

-- the world after it, of the kind W, and the answer
pub record StepOutcome (W : Type 0) : Type 0 where
  pub world : W
  pub answer : Answer
