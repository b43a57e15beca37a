use Rattle.std.proofs.Common.{◌≡◌, ◌*◌, ◌/◌}
use Rattle.px_base.specs.Values.{by_position}
use Rattle.partitioner.proofs.cuts.cut.Given as goal

-- one end for each part so far
abbrev pub invariant-loop-k : goal.invariant-loop-k
invariant-loop-k l = l.ends.items ≡ by_position l.k (λ k. k * l.n / l.workers)
