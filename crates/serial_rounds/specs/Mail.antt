-- What the workers send each other in a round.
use Rattle.std.specs.Prelude.{ℕ, Bool, not, ◌&&◌, ◌==◌, List, [], length, filter, slice_index_or}
use Rattle.std.specs.List.{flat_map}
use Rattle.px_base.specs.declared.wire.Update.{Update}
use Rattle.px_base.specs.Values.{is_listed}
use Rattle.serial_rounds.specs.declared.steps.Sent.{Sent}

-- those of the updates whose route names worker j
abbrev pub routed_to : List (List ℕ) → ℕ → List Update → List Update
routed_to routes j updates = filter (λ u. is_listed (slice_index_or routes u.vertex []) j) updates

-- what all workers sent to worker j, in the order of the workers
abbrev pub mail_for : List (List ℕ) → ℕ → List Sent → List Update
mail_for routes j sent = flat_map (λ s. routed_to routes j s.updates) sent

-- the worker changed nothing, and sends nothing
abbrev pub is_still : Sent → Bool
is_still s = not s.changed && length s.updates == 0
