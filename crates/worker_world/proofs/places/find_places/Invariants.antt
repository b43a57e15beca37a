use Rattle.std.proofs.Common.{◌≡◌, ℕ, ◌<◌, true, get_or, take}
use Rattle.px_base.specs.Values.{is_listed}
use Rattle.count_world.proofs.Foreign.{some_update}
use Rattle.worker_world.specs.Looked.{ArePlacesOf}
use Rattle.worker_world.proofs.places.find_places.Given as goal

-- the vertex of each update so far is a mirror, and where there was room its place is in the list
abbrev pub invariant-loop-update : goal.invariant-loop-update
invariant-loop-update l = record {
  taken : (k : ℕ) → k < l.update-index → is_listed l.mirrors (get_or l.updates k some_update).vertex ≡ true;
  places : l.room ≡ true → ArePlacesOf l.mirrors (take l.update-index l.updates) l.places.items;
}
