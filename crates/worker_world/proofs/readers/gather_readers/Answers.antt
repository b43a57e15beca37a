use Rattle.std.proofs.Common.{◌≡◌, ◌+◌, ◌<◌, ◌∙◌, [], List, ℕ, length, get_or, subst, arith, below_more, ap, replicate}
use Rattle.std.proofs.lemmas.List.{length-replicate}
use Rattle.px_base.specs.Graphs.{row_at}
use Rattle.placed_parts.specs.Places.{master_count, placed_row}
use Rattle.worker_world.specs.Readers.{ReadsRow}
use Rattle.worker_world.proofs.Gathered.{none_yet}
use Rattle.worker_world.proofs.Placing.{row_places_within}
use Rattle.worker_world.proofs.readers.gather_readers.Goals as goal

pub add_row-requires : goal.add_row-requires
add_row-requires c =
    let part = c.args.part.now in
    let inside : c.loop-k.k < length part.rows = omega (arith, c.loop-k-test.true, c.requires.rows, c.master_count-count.ensures) in
    let row : c.row.result ≡ placed_row part (row_at part.rows c.loop-k.k) = c.row.ensures.row in
    record { row = rw c.loop-k.invariant.size (row_places_within part c.loop-k.k c.row.result c.requires inside row) }

pub loop-k-init : goal.loop-k-init
loop-k-init c =
    let part = c.args.part.now in
    let places = master_count part + length part.mirrors in
    let count : c.master_count-count.result + length c.mirrors.result.now ≡ places = omega (arith, c.master_count-count.ensures, ap length c.mirrors.ensures) in
    let none : c.in_ok-readers.readers ≡ replicate places [] = c.in_ok-readers.ensures ∙ ap (λ n. replicate n []) count in
    record {
      size = ap length none ∙ length-replicate {A = List ℕ} places [];
      masters = none_yet places (master_count part) c.in_ok-readers.readers none;
      each = λ j below. absurd (omega (arith, below));
    }

pub loop-k-preserved : goal.loop-k-preserved
loop-k-preserved c =
    let part = c.args.part.now in
    let inside : c.loop-k.k < length part.rows = omega (arith, c.loop-k-test.true, c.requires.rows, c.master_count-count.ensures) in
    let row : c.row.result ≡ placed_row part (row_at part.rows c.loop-k.k) = c.row.ensures.row in
    let grown = c.in_ok-add_row.ensures.grown in
    record {
      size = grown.size ∙ c.loop-k.invariant.size;
      masters = grown.masters (master_count part) (omega (arith, inside, c.requires.rows)) c.loop-k.invariant.masters;
      each = below_more _ _
          (λ j h i d below. grown.kept (get_or (placed_row part (row_at part.rows j)) i d).source j (c.loop-k.invariant.each j h i d below))
          (subst (λ reads. ReadsRow c.add_row.new.readers c.loop-k.k reads) row c.in_ok-add_row.ensures.reads);
    }
