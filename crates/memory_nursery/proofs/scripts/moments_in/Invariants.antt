use Rattle.std.proofs.Common.{◌≡◌, ◌≤◌, ◌^◌, [], take}
use Rattle.memory_nursery.specs.Scripts.{moments_in}
use Rattle.memory_nursery.proofs.scripts.moments_in.Given as goal

-- those of the losses so far
abbrev pub invariant-loop-scripted : goal.invariant-loop-scripted
invariant-loop-scripted l = (l.moments.items ≡ moments_in (take l.scripted-index l.losses) l.number) × (2 ^ 32 ≤ l.number → l.moments.items ≡ [])
