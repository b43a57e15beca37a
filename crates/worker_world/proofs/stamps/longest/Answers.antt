use Rattle.std.proofs.Common.{◌≡◌, ◌≤◌, ◌<◌, ◌∙◌, [], length, get_or, map, take, arith, ap}
use Rattle.std.specs.Prelude.{All}
use Rattle.std.proofs.lemmas.List.{take_all, length-map}
use Rattle.std.proofs.lemmas.List.Elements.{All-more}
use Rattle.px_base.specs.FlatRows.{with_source}
use Rattle.px_base.specs.Graphs.{row_at}
use Rattle.placed_parts.specs.Places.{place_in, placed_read}
use Rattle.worker_world.proofs.stamps.longest.Goals as goal

pub loop-k-preserved : goal.loop-k-preserved
loop-k-preserved c =
    let part = c.args.part.now in
    let rows = part.rows in
    let k = c.loop-k.k in
    let count : c.row_count-k-end.result ≡ length rows = c.row_count-k-end.ensures ∙ ap length c.rows.ensures ∙ length-map rows (λ row. map (with_source (place_in part)) row) in
    let inside : k < length rows = omega (arith, c.loop-k-test.true, count) in
    let before : All (λ row. length row ≤ c.max-most.result) (take k rows) = λ j d below. omega (arith, c.loop-k.invariant j d below) in
    let this : length (get_or rows k []) ≤ c.max-most.result = omega (arith, c.len.ensures, ap length c.row.ensures.row, length-map (row_at rows k) (placed_read part)) in
    All-more (λ row. length row ≤ c.max-most.result) rows k [] inside before this

pub returns : goal.returns
returns c =
    let part = c.args.part.now in
    let count : c.row_count-k-end.result ≡ length part.rows = c.row_count-k-end.ensures ∙ ap length c.rows.ensures ∙ length-map part.rows (λ row. map (with_source (place_in part)) row) in
    let all : take c.loop-k.k part.rows ≡ part.rows = take_all c.loop-k.k part.rows (omega (arith, c.loop-k-test.false, count)) in
    rw all at c.loop-k.invariant
