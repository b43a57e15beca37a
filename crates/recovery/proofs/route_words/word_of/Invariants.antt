-- The workers of the route so far have their bits.
use Rattle.std.proofs.Common.{◌≡◌, ℕ, take}
use Rattle.px_base.specs.Values.{is_listed}
use Rattle.partitioner.specs.Bits.{has_bit}
use Rattle.recovery.proofs.route_words.word_of.Given as goal

abbrev pub invariant-loop-j : goal.invariant-loop-j
invariant-loop-j l = (k : ℕ) → has_bit l.word k ≡ is_listed (take l.j-index l.route) k
