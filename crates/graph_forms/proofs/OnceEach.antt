-- Rows that read each neighbour once.
use Rattle.std.proofs.Common.{ℕ, ◌≤◌, List, [], ◌∷◌, ◌++◌, length, map, refl, arith}
use Rattle.std.proofs.lemmas.List.{length-map}
use Rattle.std.proofs.lemmas.List.Sums.{sum_by-cons}
use Rattle.std.proofs.lemmas.Slice.Zip.{all_zipped_more}
use Rattle.px_base.specs.declared.graph.Read.{Read}
use Rattle.px_base.specs.Graphs.{read_count, unit_read}
use Rattle.graph_forms.specs.Neighbours.{IsSetOf}
use Rattle.graph_forms.specs.Ordering.{AreOnce, ReadsOnce}

-- such rows have no more reads
pub fewer_count : (reads rows : List (List Read)) → AreOnce reads rows → read_count rows ≤ read_count reads
fewer_count [] [] are = omega arith
fewer_count [] (row ∷ rows) are = absurd are
fewer_count (r ∷ reads) [] are = absurd are
fewer_count (r ∷ reads) (row ∷ rows) are =
    let one : length row ≤ length r = are.0.fewer in
    omega (arith, sum_by-cons (λ (x : List Read). length x) r reads, sum_by-cons (λ (x : List Read). length x) row rows, one, fewer_count reads rows are.1)

-- one row more
pub once_more : (before done : List (List Read)) (reads : List Read) (members : List ℕ) → AreOnce before done → IsSetOf (map (λ (r : Read). r.source) reads) members → length members ≤ length reads →
    AreOnce (before ++ reads ∷ []) (done ++ map unit_read members ∷ [])
once_more before done reads members are set fewer =
    all_zipped_more ReadsOnce before done reads (map unit_read members) are
    (record { members = record { members = members; set = set; reads = refl }; fewer = omega (arith, length-map members unit_read, fewer) })
