-- A link that was just started is ready for its first Step.
use Rattle.std.proofs.Common.{◌≡◌, ◌∙◌, ℕ, Bool, true, false, Option, Some, None, sym, ap}
use Rattle.px_base.specs.declared.graph.Part.{Part}
use Rattle.px_base.specs.declared.program.CoreProgram.{CoreProgram}
use Rattle.px_base.specs.Worlds.{World, epoch_of, new_world}
use Rattle.link_trait.specs.Links.{LinkView}
use Rattle.link_trait.specs.Spawners.{SpawnerView, IsStarted, new_peer}
use Rattle.link_calls.specs.Asked.{IsReady}
use Rattle.step_laws.proofs.WorldSteps.{new_world_epoch}

-- the peer of a new link is of epoch 0, where it is told
new_peer_epoch : (told : Bool) (part : Part) (core : CoreProgram) (w : World) → new_peer told part core ≡ Some w → epoch_of w ≡ 0
new_peer_epoch true part core w is = let same : Some (new_world part core) ≡ Some w = is in let w_is : new_world part core ≡ w = cc in ap epoch_of (sym w_is) ∙ new_world_epoch part core
new_peer_epoch false part core w is = absurd (let no : None ≡ Some w = is in cc)

pub started_is_ready : (old new : SpawnerView) (part : Part) (core : CoreProgram) (link : LinkView) → IsStarted old new part core link → IsReady 0 link
started_is_ready old new part core link started = record {
  alive = started.alive;
  at = λ w is. new_peer_epoch old.tells part core w (sym started.peer ∙ is);
}
