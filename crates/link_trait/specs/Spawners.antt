-- A spawner as contracts see it, and what its calls leave.
use Rattle.std.specs.Prelude.{◌≡◌, ℕ, ◌+◌, Bool, true, List, [], ◌∷◌, ◌++◌, if◌then◌else◌, Option, Some, None}
use Rattle.px_base.specs.declared.graph.Part.{Part}
use Rattle.px_base.specs.declared.program.CoreProgram.{CoreProgram}
use Rattle.px_base.specs.Worlds.{World, new_world}
use Rattle.link_trait.specs.Counts.{more_by}
use Rattle.link_trait.specs.Plans.{Plan, LentAs, LinkMark}
use Rattle.link_trait.specs.Links.{LinkView}

-- A link that was retired: its worker and its mark, the world of its peer, and how many calls and Reports it had answered.
pub record Retired : Type 0 where
  pub worker : ℕ
  pub mark : LinkMark
  pub world : World
  pub calls : ℕ
  pub reports : ℕ

-- A spawner: its worker; how many starts there were; its faults; the ends of the links that came back; the retired links, where
-- peers are told; the mark of the lending that gave it; the mark of the link that is out, where one is; whether its links tell
-- their peers; and the plan.
pub record SpawnerView : Type 0 where
  pub worker : ℕ
  pub starts : ℕ
  pub faults : ℕ
  pub ends : ℕ
  pub retired : List Retired
  pub lent_as : LentAs
  pub out : Option LinkMark
  pub tells : Bool
  pub plan : Plan

-- the link is the one of this spawner that is out
pub record IsLinkOf (spawner : SpawnerView) (link : LinkView) : Type 0 where
  pub worker : link.worker ≡ spawner.worker
  pub mark : spawner.out ≡ Some link.mark

-- the new world of the part, where the peers are told
abbrev pub new_peer : Bool → Part → CoreProgram → Option World
new_peer told part core = if told then Some (new_world part core) else None

-- A link was started (its count of ends may be above 0 from what it is made of): it is the one of this spawner that is out, it is alive, and has answered and refused nothing yet. Where it tells
-- its peer, that is the new world of the part.
pub record IsStarted (old new : SpawnerView) (part : Part) (core : CoreProgram) (link : LinkView) : Type 0 where
  pub spawner : new ≡ record old { starts = old.starts + 1; faults = new.faults; out = Some link.mark }
  pub worker : link.worker ≡ old.worker
  pub alive : link.alive ≡ true
  pub peer : link.peer ≡ new_peer old.tells part core
  pub calls : link.calls ≡ 0
  pub reports : link.reports ≡ 0
  pub refused : link.refused ≡ None

-- after a start that gave no link, with this count of faults
abbrev pub not_started : SpawnerView → ℕ → SpawnerView
not_started spawner faults = record spawner { starts = spawner.starts + 1; faults = faults }

-- what is kept of a link when it is retired: its peer, where it is told
abbrev pub kept_of : LinkView → Option World → List Retired
kept_of link None = []
kept_of link (Some world) = record { worker = link.worker; mark = link.mark; world = world; calls = link.calls; reports = link.reports } ∷ []

-- after the link was taken back, and its peer forgotten
abbrev pub discarded : SpawnerView → LinkView → SpawnerView
discarded spawner link = record spawner { ends = more_by spawner.ends link.ends; out = None }

-- after the link was taken back, and its peer kept
abbrev pub retired : SpawnerView → LinkView → SpawnerView
retired spawner link = record (discarded spawner link) { retired = spawner.retired ++ kept_of link link.peer }
