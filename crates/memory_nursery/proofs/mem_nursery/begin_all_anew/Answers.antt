use Rattle.std.proofs.Common.{◌<◌, List, length, get_or, ap, arith}
use Rattle.std.proofs.lemmas.List.{get_or_default}
use Rattle.std.proofs.lemmas.List.Edits.{map_over_more}
use Rattle.memory_nursery.specs.Tallies.{begun_anew}
use Rattle.memory_nursery.specs.declared.counts.WorkerCounts.{WorkerCounts}
use Rattle.memory_nursery.proofs.Opening.{length_over}
use Rattle.memory_nursery.proofs.mem_nursery.begin_all_anew.Goals as goal

pub loop-worker-preserved : goal.loop-worker-preserved
loop-worker-preserved c =
    let none : WorkerCounts = record { starts = 0; faults = 0; ends = 0; starts_since = 0; links_since = 0 } in
    let inside : c.loop-worker.worker-index < length c.args.counts.now = omega arith in
    let there : c.loop-worker.worker-index < length c.loop-worker.counts = omega (arith, inside, ap (λ (cs : List WorkerCounts). length cs) c.loop-worker.invariant, length_over begun_anew c.loop-worker.worker-index c.args.counts.now) in
    rw c.begin_anew.ensures
    (map_over_more begun_anew c.args.counts.now c.loop-worker.counts c.loop-worker.worker-index (get_or c.loop-worker.counts c.loop-worker.worker-index none) inside c.loop-worker.invariant (get_or_default _ _ _ _ there))
