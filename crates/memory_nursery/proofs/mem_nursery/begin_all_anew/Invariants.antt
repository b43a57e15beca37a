use Rattle.std.proofs.Common.{◌≡◌, ◌++◌, map, take, drop}
use Rattle.memory_nursery.specs.Tallies.{begun_anew}
use Rattle.memory_nursery.proofs.mem_nursery.begin_all_anew.Given as goal

abbrev pub invariant-loop-worker : goal.invariant-loop-worker
invariant-loop-worker l = l.counts ≡ map begun_anew (take l.worker-index l.initial.counts) ++ drop l.worker-index l.initial.counts
