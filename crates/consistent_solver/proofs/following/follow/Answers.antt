use Rattle.std.proofs.Common.{rules, ◌≡◌, ◌<◌, ◌∙◌, ap, arith, false, length, refl, set, []}
use Rattle.std.specs.Prelude.{slice_index}
use Rattle.px_base.specs.Graphs.{row_at}
use Rattle.px_base.proofs.Positions.{at_position, length_by_position}
use Rattle.row_blocks.specs.Telling.{readers_of}
use Rattle.consistent_solver.specs.Sweeps.{HasTold}
use Rattle.consistent_solver.proofs.Sweeping.{lowered_more}
use Rattle.consistent_solver.proofs.Telling.{nobody_waits, readers_inside, told_lowered, told_more}
use Rattle.consistent_solver.proofs.following.follow.Goals as goal

pub loop-v-preserved : goal.loop-v-preserved
loop-v-preserved c =
    let core = c.args.core.now in
    let rows = c.args.rows.now in
    let v = c.in-Some.v in
    let now = c.loop-v.values in
    let after = c.tell.new.values in
    let marks = c.loop-v.waiting.marks.items in
    let marks_after = c.tell.new.waiting.marks.items in
    let inside : v < length rows = omega (arith, c.in-Some.ensures.none, c.loop-v.invariant.list.one_each) in
    let row : c.row.result ≡ readers_of rows v = c.row.ensures.row ∙ ap (λ r. row_at r v) c.in_ok-readers.ensures ∙ at_position c.args.n (readers_of rows) v [] (omega (arith, inside, c.requires.size)) in
    let told : HasTold core (slice_index now v) (readers_of rows v) (length (readers_of rows v)) now after (set marks v false) marks_after =
    rw (row, c.in-Some.ensures.marks) at c.in_ok-tell.ensures.told in
    record {
      lowered = lowered_more core rows c.args.values.now now after c.loop-v.invariant.lowered
          (told_lowered core rows v (slice_index now v) now after (set marks v false) marks_after c.requires.fold inside c.loop-v.invariant.lowered.values refl told);
      list = rw c.loop-v.invariant.lowered.values.one_each at c.in_ok-tell.ensures.list;
      told = told_more core rows v (slice_index now v) now after marks marks_after inside refl c.loop-v.invariant.told told;
    }

pub tell-requires-clause-readers : goal.tell-requires-clause-readers
tell-requires-clause-readers c =
    let inside : c.in-Some.v < length c.args.rows.now = omega (arith, c.in-Some.ensures.none, c.loop-v.invariant.list.one_each) in
    let row : c.row.result ≡ readers_of c.args.rows.now c.in-Some.v =
    c.row.ensures.row ∙ ap (λ r. row_at r c.in-Some.v) c.in_ok-readers.ensures ∙ at_position c.args.n (readers_of c.args.rows.now) c.in-Some.v [] (omega (arith, inside, c.requires.size)) in
    rw row (λ k d low. omega (arith, readers_inside c.args.rows.now c.in-Some.v k d low, c.loop-v.invariant.lowered.values.one_each))

pub returns : goal.returns
returns c =
    let none : c.loop-v.waiting.queue.items ≡ [] = search rules in
    nobody_waits c.args.core.now c.args.rows.now c.args.values.now c.loop-v.values c.loop-v.waiting c.loop-v.invariant.lowered c.loop-v.invariant.list c.loop-v.invariant.told none

pub row-requires : goal.row-requires
row-requires c =
    omega (arith, ap length c.in_ok-readers.ensures, length_by_position c.args.n (readers_of c.args.rows.now), c.in-Some.ensures.none, c.loop-v.invariant.list.one_each, c.requires.size)
