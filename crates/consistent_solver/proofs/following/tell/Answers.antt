use Rattle.std.proofs.Common.{◌≡◌, ◌<◌, arith, length}
use Rattle.px_base.specs.Core.{core_edge_value}
use Rattle.consistent_solver.specs.Readers.{entry_at, reader_of}
use Rattle.consistent_solver.proofs.Telling.{sum_lower, told_lower, told_same}
use Rattle.consistent_solver.proofs.following.tell.Goals as goal
use Rattle.consistent_solver.proofs.following.tell.Goals.{then-offered-values+in_ok-put, else-offered-values}

pub loop-k-preserved : goal.loop-k-preserved
loop-k-preserved c =
    let core = c.args.core.now in
    let k = c.loop-k.k in
    let now = c.loop-k.values in
    let marks = c.loop-k.waiting.marks.items in
    let offered = c.value-offered.result in
    let entries = c.args.readers.now in
    let same : c.read-entry.result ≡ entry_at entries k = c.read-entry.ensures.read in
    let is : offered ≡ core_edge_value core c.args.value (entry_at entries k).weight = cc in
    let within : (entry_at entries k).source < length now = omega (arith, c.requires.readers k (reader_of 0 0) (let inside : k < length entries = omega (arith, c.len-k-end.ensures) in inside), c.loop-k.auto.values) in
    elim c.if-offered-values.branch [
      | then-offered-values+in_ok-put w ↦
          (let less = rw same at w.if-offered-values.true in
          rw (w.values-is, w.waiting-is, same) (record {
            told = rw (rw same at w.in_ok-put.ensures.marks) (told_lower core c.args.value entries k c.args.values.now now c.args.waiting.now.marks.items marks offered within (omega (arith, within, c.loop-k.auto.values, c.loop-k.invariant.list.one_each)) c.loop-k.invariant.told is less);
            list = rw c.loop-k.invariant.list.one_each at w.in_ok-put.ensures.list;
            falls = omega (arith, sum_lower now (entry_at entries k).source offered within less, w.in_ok-put.ensures.longer, c.loop-k.invariant.falls);
          }))
      | else-offered-values w ↦ rw (w.values-is, w.waiting-is) (record {
        told = told_same core c.args.value entries k c.args.values.now now c.args.waiting.now.marks.items marks offered c.loop-k.invariant.told is (rw same at w.if-offered-values.false);
        list = c.loop-k.invariant.list;
        falls = c.loop-k.invariant.falls;
      })
    ]
