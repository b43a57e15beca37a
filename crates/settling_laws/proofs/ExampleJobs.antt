-- Three small jobs, one of each class, and that they are sound.
use Rattle.std.proofs.Common.{◌≡◌, ℕ, zero, suc, ◌<◌, ◌≤◌, List, [], ◌∷◌, refl, arith, inl, inr, lit<, lit≤}
use Rattle.std.specs.Prelude.{All, ◌==◌, false}
use Rattle.std.specs.List.Sorted.{IsSortedBy}
use Rattle.std.proofs.lemmas.Bool.{ne_eqb}
use Rattle.std.proofs.lemmas.List.Elements.{All-from_recursion, All-nil, All-cons}
use Rattle.px_base.specs.declared.TheConstants.{TOP}
use Rattle.px_base.specs.declared.graph.Read.{Read}
use Rattle.px_base.specs.declared.program.Class.TheVariants.{SelfStabilising, LocallyCorrecting, GloballyCorrecting}
use Rattle.px_base.specs.Values.{IsValue, IsWeight}
use Rattle.px_base.specs.Graphs.{RowsFit, row_at, is_lower_read}
use Rattle.px_base.specs.Core.{core_form}
use Rattle.px_base.specs.Laws.{IsOrdered}
use Rattle.px_base.proofs.GraphA.{from, sssp, levels, kcore}
use Rattle.core_solver.specs.Mutual.{times_in_row}
use Rattle.hub_terms.specs.Jobs.{Job, IsSymmetric}
use Rattle.settling_laws.specs.Settling.{IsSoundAs}

-- ---- four vertices in a line, each of which reads the one before

abbrev pub line_rows : List (List Read)
line_rows = [] ∷ (from 0 1 ∷ []) ∷ (from 1 1 ∷ []) ∷ (from 2 1 ∷ []) ∷ []

-- the lengths of shortest paths from the first
abbrev pub paths : Job
paths = record { rows = line_rows; core = core_form sssp; starts = 0 ∷ TOP ∷ TOP ∷ TOP ∷ [] }

-- the levels of vertices; the greatest counts, so in core values the start value 0 is TOP
abbrev pub heights : Job
heights = record { rows = line_rows; core = core_form levels; starts = TOP ∷ TOP ∷ TOP ∷ TOP ∷ [] }

one_read : (P : Read → Type 0) (r : Read) → P r → All P (r ∷ [])
one_read P r holds = All-cons P r [] holds (All-nil P)

no_read_sorted : IsSortedBy is_lower_read []
no_read_sorted k d low high = absurd (omega (arith, high))

one_read_sorted : (r : Read) → IsSortedBy is_lower_read (r ∷ [])
one_read_sorted r k d low high = absurd (omega (arith, high))

line_fits : RowsFit 4 line_rows
line_fits = record {
  one_each = refl;
  sources = All-from_recursion (λ row. All (λ r. r.source < 4) row) line_rows (All-nil below, (one_read below (from 0 1) (lit< tt), (one_read below (from 1 1) (lit< tt), (one_read below (from 2 1) (lit< tt), tt))));
  weights = All-from_recursion (λ row. All (λ r. IsWeight r.weight) row) line_rows (All-nil weighs, (one_read weighs (from 0 1) (lit< tt), (one_read weighs (from 1 1) (lit< tt), (one_read weighs (from 2 1) (lit< tt), tt))));
}
  where
    below : Read → Type 0
    below r = r.source < 4

    weighs : Read → Type 0
    weighs r = IsWeight r.weight

line_sorted : All (λ row. IsSortedBy is_lower_read row) line_rows
line_sorted = All-from_recursion (λ row. IsSortedBy is_lower_read row) line_rows (no_read_sorted, (one_read_sorted (from 0 1), (one_read_sorted (from 1 1), (one_read_sorted (from 2 1), tt))))

line_ordered : IsOrdered line_rows
line_ordered = record { place = λ v. v; before = before }
  where
    before : (v : ℕ) → All (λ r. (r.source < 4) × (r.source < v)) (row_at line_rows v)
    before zero = All-nil (λ r. (r.source < 4) × (r.source < 0))
    before (suc zero) = one_read (λ r. (r.source < 4) × (r.source < 1)) (from 0 1) (lit< tt, lit< tt)
    before (suc (suc zero)) = one_read (λ r. (r.source < 4) × (r.source < 2)) (from 1 1) (lit< tt, lit< tt)
    before (suc (suc (suc zero))) = one_read (λ r. (r.source < 4) × (r.source < 3)) (from 2 1) (lit< tt, lit< tt)
    before (suc (suc (suc (suc v)))) = All-nil (λ r. (r.source < 4) × (r.source < suc (suc (suc (suc v)))))

pub paths_sound : IsSoundAs LocallyCorrecting paths
paths_sound = record {
  sound = record {
    core = refl;
    class = refl;
    numbers = record { start = (inl (lit< tt), inr refl); along = tt; fold = tt };
    rows = line_fits;
    vertices = lit≤ tt;
    reads = lit≤ tt;
    ordered = line_sorted;
    starts = record { one_each = refl; in_range = All-from_recursion IsValue (0 ∷ TOP ∷ TOP ∷ TOP ∷ []) (lit≤ tt, (lit≤ tt, (lit≤ tt, (lit≤ tt, tt)))) };
    suit = tt;
  };
  of_class = refl;
}

pub heights_sound : IsSoundAs SelfStabilising heights
heights_sound = record {
  sound = record {
    core = refl;
    class = refl;
    numbers = record { start = inl (lit< tt); along = lit< tt; fold = tt };
    rows = line_fits;
    vertices = lit≤ tt;
    reads = lit≤ tt;
    ordered = line_sorted;
    starts = record { one_each = refl; in_range = All-from_recursion IsValue (TOP ∷ TOP ∷ TOP ∷ TOP ∷ []) (lit≤ tt, (lit≤ tt, (lit≤ tt, (lit≤ tt, tt)))) };
    suit = line_ordered;
  };
  of_class = refl;
}

-- ---- two vertices that read each other

abbrev pub pair_rows : List (List Read)
pair_rows = (from 1 1 ∷ []) ∷ (from 0 1 ∷ []) ∷ []

-- who has a neighbour that has one, and so on: both
abbrev pub pair : Job
pair = record { rows = pair_rows; core = core_form (kcore 1); starts = 1 ∷ 1 ∷ [] }

pair_symmetric : IsSymmetric pair_rows
pair_symmetric = record { both_ways = both_ways; once = once; no_loop = no_loop }
  where
    -- neither vertex is a later one
    other : (w v : ℕ) → w < 2 → (w == suc (suc v)) ≡ false
    other w v low = ne_eqb w (suc (suc v)) (λ same. omega (arith, low, same))

    both_ways : (u v : ℕ) → times_in_row (row_at pair_rows v) u ≡ times_in_row (row_at pair_rows u) v
    both_ways zero zero = refl
    both_ways zero (suc zero) = refl
    both_ways zero (suc (suc v)) = rw (other 1 v (lit< tt)) refl
    both_ways (suc zero) zero = refl
    both_ways (suc zero) (suc zero) = refl
    both_ways (suc zero) (suc (suc v)) = rw (other 0 v (lit< tt)) refl
    both_ways (suc (suc u)) zero = rw (other 1 u (lit< tt)) refl
    both_ways (suc (suc u)) (suc zero) = rw (other 0 u (lit< tt)) refl
    both_ways (suc (suc u)) (suc (suc v)) = refl

    once : (u v : ℕ) → times_in_row (row_at pair_rows v) u ≤ 1
    once zero zero = lit≤ tt
    once zero (suc zero) = lit≤ tt
    once zero (suc (suc v)) = lit≤ tt
    once (suc zero) zero = lit≤ tt
    once (suc zero) (suc zero) = lit≤ tt
    once (suc zero) (suc (suc v)) = lit≤ tt
    once (suc (suc u)) zero = rw (other 1 u (lit< tt)) (lit≤ tt)
    once (suc (suc u)) (suc zero) = rw (other 0 u (lit< tt)) (lit≤ tt)
    once (suc (suc u)) (suc (suc v)) = lit≤ tt

    no_loop : (v : ℕ) → times_in_row (row_at pair_rows v) v ≡ 0
    no_loop zero = refl
    no_loop (suc zero) = refl
    no_loop (suc (suc v)) = refl

pub pair_sound : IsSoundAs GloballyCorrecting pair
pair_sound = record {
  sound = record {
    core = refl;
    class = refl;
    numbers = record { start = inl (lit< tt); along = tt; fold = lit< tt };
    rows = record {
      one_each = refl;
      sources = All-from_recursion (λ row. All (λ r. r.source < 2) row) pair_rows (one_read (λ r. r.source < 2) (from 1 1) (lit< tt), (one_read (λ r. r.source < 2) (from 0 1) (lit< tt), tt));
      weights = All-from_recursion (λ row. All (λ r. IsWeight r.weight) row) pair_rows (one_read (λ r. IsWeight r.weight) (from 1 1) (lit< tt), (one_read (λ r. IsWeight r.weight) (from 0 1) (lit< tt), tt));
    };
    vertices = lit≤ tt;
    reads = lit≤ tt;
    ordered = All-from_recursion (λ row. IsSortedBy is_lower_read row) pair_rows (one_read_sorted (from 1 1), (one_read_sorted (from 0 1), tt));
    starts = record { one_each = refl; in_range = All-from_recursion IsValue (1 ∷ 1 ∷ []) (lit≤ tt, (lit≤ tt, tt)) };
    suit = pair_symmetric;
  };
  of_class = refl;
}
