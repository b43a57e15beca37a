use Rattle.std.proofs.Common.{◌≡◌, false, take}
use Rattle.px_base.specs.Values.{is_listed}
use Rattle.memory_nursery.proofs.scripts.is_refused.Given as goal

-- none so far is the one
abbrev pub invariant-loop-refused : goal.invariant-loop-refused
invariant-loop-refused l = is_listed (take l.refused-index l.starts) l.start ≡ false
