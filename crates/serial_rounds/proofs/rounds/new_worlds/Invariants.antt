use Rattle.std.proofs.Common.{◌≡◌, map}
use Rattle.px_base.specs.Worlds.{new_world}
use Rattle.serial_rounds.proofs.rounds.new_worlds.Given as goal

-- the worlds of the parts so far
abbrev pub invariant-loop-part : goal.invariant-loop-part
invariant-loop-part l = l.worlds.items ≡ map (λ part. new_world part l.core) l.yielded
