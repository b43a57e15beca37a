-- The lines of parts that were cut by blocks.
use Rattle.std.proofs.Common.{◌≡◌, ℕ, ◌+◌, ◌*◌, ◌/◌, List, length, ap, arith}
use Rattle.std.specs.Prelude.{flat_map}
use Rattle.std.proofs.lemmas.List.Folds.{flat_map-map}
use Rattle.px_base.specs.declared.graph.Read.{Read}
use Rattle.px_base.specs.declared.graph.Part.{Part}
use Rattle.px_base.specs.Values.{by_position, positions_below}
use Rattle.px_base.specs.Parts.{block_cuts, part_count, part_of}
use Rattle.px_base.proofs.Positions.{length_by_position}
use Rattle.command_texts.specs.Texts.{line_of, parts_text}

-- the lines of all parts are those of the text
pub all_lines : (rows : List (List Read)) (starts : List ℕ) (n workers : ℕ) (parts : List Part) → n ≡ length rows →
    parts ≡ by_position (part_count (block_cuts n workers)) (part_of rows starts (block_cuts n workers)) → flat_map line_of parts ≡ parts_text rows workers
all_lines rows starts n workers parts size is =
    let count : part_count (block_cuts n workers) ≡ workers = omega (arith, length_by_position (workers + 1) (λ k. k * n / workers)) in
    let by_rows : block_cuts n workers ≡ block_cuts (length rows) workers = ap (λ m. block_cuts m workers) size in
    rw (is, count, by_rows) (flat_map-map line_of (part_of rows starts (block_cuts (length rows) workers)) (positions_below workers))
