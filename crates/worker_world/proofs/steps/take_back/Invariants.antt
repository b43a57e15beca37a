use Rattle.std.proofs.Common.{ℕ, ◌<◌, length, drop}
use Rattle.worker_world.proofs.Updates.{IsBackUntil}
use Rattle.worker_world.proofs.steps.take_back.Given as goal

-- what still differs has an update that is to come
abbrev pub invariant-loop-place : goal.invariant-loop-place
invariant-loop-place l = (k : ℕ) → k < length l.mirrors → IsBackUntil (drop l.place-index l.updates) l.mirrors l.before l.values k
