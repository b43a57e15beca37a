use Rattle.std.proofs.Common.{◌≡◌, ◌∙◌, ◌+◌, ◌-◌, true, false, [], replicate, ap, arith}
use Rattle.std.specs.Prelude.{nat_lt, ◌==◌, if◌then◌else◌}
use Rattle.std.proofs.lemmas.Bool.Decides.{nat_tests}
use Rattle.px_base.specs.Graphs.{row_at, reads_passing}
use Rattle.count_world.specs.Readers.{times_in_row, times_listed}
use Rattle.count_world.proofs.Gathered.{none_yet, never_yet, rows_grow}
use Rattle.count_world.proofs.readers.gather_readers.Goals as goal

pub loop-j-init : goal.loop-j-init
loop-j-init c =
    let part = c.args.part.now in
    let none : c.in_ok-readers.readers ≡ replicate (part.high - part.low) [] = c.in_ok-readers.ensures ∙ ap (λ n. replicate n []) c.master_count.ensures in
    record {
      masters = none_yet (part.high - part.low) c.in_ok-readers.readers none;
      times = λ k i below.
          (let before : nat_lt i 0 ≡ false = grind (arith, nat_tests) in
          rw before (never_yet (part.high - part.low) k i c.in_ok-readers.readers none));
    }

pub loop-j-preserved : goal.loop-j-preserved
loop-j-preserved c =
    let part = c.args.part.now in
    let grown = c.in_ok-add_row.ensures in
    let row : c.row.result ≡ row_at part.rows c.loop-j.j = c.row.ensures.row in
    record {
      masters = grown.still;
      times = λ k i below. rows_grow part c.loop-j.readers c.add_row.new.readers c.loop-j.j k i (c.loop-j.invariant.times k i below)
          (grown.times k i below ∙ ap (λ reads. times_listed c.loop-j.readers k i + (if c.loop-j.j == i then reads_passing (λ u. u == part.low + k) reads else 0)) row);
    }

pub returns : goal.returns
returns c =
    let part = c.args.part.now in
    record {
      masters = c.loop-j.invariant.masters;
      times = λ k j below inside.
          (let low : nat_lt j c.loop-j.j ≡ true = grind (arith, nat_tests, inside, c.loop-j-test.false, c.row_count-j-end.ensures, c.requires.fits.rows) in
          c.loop-j.invariant.times k j below ∙ ap (λ b. if b then times_in_row part k j else 0) low);
    }
