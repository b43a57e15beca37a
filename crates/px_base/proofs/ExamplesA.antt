-- The stated answers on the graph of four lines meet the definitions.
use Rattle.std.proofs.Common.{◌≡◌, ℕ, zero, suc, ◌+◌, ◌<◌, ◌≤◌, Bool, true, false, cond, List, [], ◌∷◌, refl, arith, lit<, lit≤}
use Rattle.std.proofs.lemmas.List.Elements.{All-from_recursion}
use Rattle.std.specs.List.{enumerate_from}
use Rattle.px_base.specs.declared.program.Reads.{Reads}
use Rattle.std.specs.Fmt.{digits}
use Rattle.std.specs.Prelude.{slice_index, map, codes, IsTrue, Ok}
use Rattle.px_base.specs.declared.TheConstants.{TOP}
use Rattle.px_base.specs.declared.graph.Read.{Read}
use Rattle.px_base.specs.declared.program.Form.TheVariants.{Given, Simple}
use Rattle.px_base.specs.declared.program.Rank.TheVariants.{ByDegree}
use Rattle.px_base.specs.declared.program.Class.TheVariants.{SelfStabilising, LocallyCorrecting, GloballyCorrecting}
use Rattle.px_base.specs.Values.{by_position, IsValue, IsValueList, is_in}
use Rattle.px_base.specs.Graphs.{reads_of, degrees_of, kept_reads, stands_before}
use Rattle.px_base.specs.Rules.{pull}
use Rattle.px_base.specs.Answers.{IsConsistent, IsGreatestConsistent, IsFixedPoint, SupportsItself, IsKCore}
use Rattle.px_base.specs.Classes.{class_of}
use Rattle.px_base.specs.Text.{answer_text}
use Rattle.px_base.proofs.GraphA.{from, edges, ids, given_rows, simple_rows, sssp, widest, colour, colour_by_degree, levels, kcore, path_starts, width_starts}
use Rattle.px_base.proofs.Checks.{agree_below}

-- ---- the reads

given_reads : by_position 4 (reads_of Given 4 edges) ≡ given_rows
given_reads = refl

simple_reads : by_position 4 (reads_of Simple 4 edges) ≡ simple_rows
simple_reads = refl

degrees : degrees_of Simple 4 edges ≡ 2 ∷ 3 ∷ 2 ∷ 1 ∷ []
degrees = refl

-- by degree the order is 2, 1, 3, 4
rank : map (λ a. map (λ b. stands_before ByDegree (2 ∷ 3 ∷ 2 ∷ 1 ∷ []) a b) (1 ∷ 0 ∷ 2 ∷ 3 ∷ [])) (1 ∷ 0 ∷ 2 ∷ 3 ∷ [])
    ≡ (false ∷ true ∷ true ∷ true ∷ []) ∷ (false ∷ false ∷ true ∷ true ∷ []) ∷ (false ∷ false ∷ false ∷ true ∷ []) ∷ (false ∷ false ∷ false ∷ false ∷ []) ∷ []
rank = refl

-- ---- classes

class_of_sssp : class_of sssp ≡ Ok LocallyCorrecting
class_of_sssp = refl

class_of_kcore : (k : ℕ) → class_of (kcore k) ≡ Ok GloballyCorrecting
class_of_kcore k = refl

class_of_colour : class_of colour ≡ Ok SelfStabilising
class_of_colour = refl

-- ---- sssp from 1: `0 3 1 8`

abbrev distances : List ℕ
distances = 0 ∷ 3 ∷ 1 ∷ 8 ∷ []

distances_are_pulled : by_position 4 (pull sssp given_rows path_starts distances) ≡ distances
distances_are_pulled = refl

text : answer_text ids distances ≡ codes "1 0\n2 3\n3 1\n4 8\n"
unfolding digits
text = refl

values : IsValueList 4 distances
values = record { one_each = refl; in_range = All-from_recursion IsValue distances (lit≤ tt, (lit≤ tt, (lit≤ tt, (lit≤ tt, tt)))) }

-- none can be greater: each bound comes from a read of a bound that stands
sssp_outermost : (y : List ℕ) → IsConsistent sssp given_rows path_starts y → (v : ℕ) → v < 4 → slice_index y v ≤ slice_index distances v
sssp_outermost y c zero below = c.each 0 (lit< tt)
sssp_outermost y c (suc zero) below = omega (arith, c.each 0 (lit< tt), c.each 2 (lit< tt), c.each 1 (lit< tt))
sssp_outermost y c (suc (suc zero)) below = omega (arith, c.each 0 (lit< tt), c.each 2 (lit< tt))
sssp_outermost y c (suc (suc (suc zero))) below = omega (arith, c.each 0 (lit< tt), c.each 1 (lit< tt), c.each 2 (lit< tt), c.each 3 (lit< tt))
sssp_outermost y c (suc (suc (suc (suc v)))) below = absurd (omega arith)

sssp_answer : IsGreatestConsistent sssp given_rows path_starts distances
sssp_answer = record {
  consistent = record { values = values; each = λ v below. omega (arith, agree_below 4 (slice_index distances) (pull sssp given_rows path_starts distances) refl v below) };
  greatest = sssp_outermost;
}

-- ---- widest from 1: `inf 4 1 4`, by the greatest, so the least consistent list

abbrev widths : List ℕ
widths = TOP ∷ 4 ∷ 1 ∷ 4 ∷ []

widths_are_pulled : by_position 4 (pull widest given_rows width_starts widths) ≡ widths
widths_are_pulled = refl

widest_outermost : (y : List ℕ) → IsConsistent widest given_rows width_starts y → (v : ℕ) → v < 4 → slice_index widths v ≤ slice_index y v
widest_outermost y c zero below = omega (arith, c.each 0 (lit< tt))
widest_outermost y c (suc zero) below = omega (arith, c.each 0 (lit< tt), c.each 2 (lit< tt), c.each 1 (lit< tt))
widest_outermost y c (suc (suc zero)) below = omega (arith, c.each 0 (lit< tt), c.each 2 (lit< tt))
widest_outermost y c (suc (suc (suc zero))) below = omega (arith, c.each 0 (lit< tt), c.each 1 (lit< tt), c.each 2 (lit< tt), c.each 3 (lit< tt))
widest_outermost y c (suc (suc (suc (suc v)))) below = absurd (omega arith)

width_values : IsValueList 4 widths
width_values = record { one_each = refl; in_range = All-from_recursion IsValue widths (lit≤ tt, (lit≤ tt, (lit≤ tt, (lit≤ tt, tt)))) }

widest_answer : IsGreatestConsistent widest given_rows width_starts widths
widest_answer = record {
  consistent = record {
    values = width_values;
    each = λ v below. omega (arith, agree_below 4 (slice_index widths) (pull widest given_rows width_starts widths) refl v below);
  };
  greatest = widest_outermost;
}

-- ---- `1 2 0`, `2 1 0`, `3 1 7`, sssp from 3: the cycle of weight 0 has the distance from outside, and not 0 or inf

abbrev cycle_rows : List (List Read)
cycle_rows = (from 1 0 ∷ from 2 7 ∷ []) ∷ (from 0 0 ∷ []) ∷ [] ∷ []

abbrev cycle_starts : List ℕ
cycle_starts = TOP ∷ TOP ∷ 0 ∷ []

abbrev sevens : List ℕ
sevens = 7 ∷ 7 ∷ 0 ∷ []

cycle_outermost : (y : List ℕ) → IsConsistent sssp cycle_rows cycle_starts y → (v : ℕ) → v < 3 → slice_index y v ≤ slice_index sevens v
cycle_outermost y c zero below = omega (arith, c.each 2 (lit< tt), c.each 0 (lit< tt))
cycle_outermost y c (suc zero) below = omega (arith, c.each 2 (lit< tt), c.each 0 (lit< tt), c.each 1 (lit< tt))
cycle_outermost y c (suc (suc zero)) below = c.each 2 (lit< tt)
cycle_outermost y c (suc (suc (suc v))) below = absurd (omega arith)

cycle_answer : IsGreatestConsistent sssp cycle_rows cycle_starts sevens
cycle_answer = record {
  consistent = record {
    values = record { one_each = refl; in_range = All-from_recursion IsValue sevens (lit≤ tt, (lit≤ tt, (lit≤ tt, tt))) };
    each = λ v below. omega (arith, agree_below 3 (slice_index sevens) (pull sssp cycle_rows cycle_starts sevens) refl v below);
  };
  greatest = cycle_outermost;
}

-- ---- rows 3: colours, levels, colours by degree

abbrev rows_of : Reads → List ℕ → List (List Read) → List (List Read)
rows_of reads degrees rows = map (λ p. kept_reads reads degrees p.0 p.1) (enumerate_from 0 rows)

abbrev zeros : List ℕ
zeros = 0 ∷ 0 ∷ 0 ∷ 0 ∷ []

abbrev ds : List ℕ
ds = 2 ∷ 3 ∷ 2 ∷ 1 ∷ []

colours : by_position 4 (pull colour (rows_of colour.reads ds simple_rows) zeros (0 ∷ 1 ∷ 2 ∷ 0 ∷ [])) ≡ 0 ∷ 1 ∷ 2 ∷ 0 ∷ []
colours = refl

level_values : by_position 4 (pull levels (rows_of levels.reads ds simple_rows) zeros (0 ∷ 1 ∷ 2 ∷ 2 ∷ [])) ≡ 0 ∷ 1 ∷ 2 ∷ 2 ∷ []
level_values = refl

colours_by_degree : by_position 4 (pull colour_by_degree (rows_of colour_by_degree.reads ds simple_rows) zeros (1 ∷ 0 ∷ 2 ∷ 1 ∷ [])) ≡ 1 ∷ 0 ∷ 2 ∷ 1 ∷ []
colours_by_degree = refl

colour_answer : IsFixedPoint colour (rows_of colour.reads ds simple_rows) zeros (0 ∷ 1 ∷ 2 ∷ 0 ∷ [])
colour_answer = record {
  values = record { one_each = refl; in_range = All-from_recursion IsValue (0 ∷ 1 ∷ 2 ∷ 0 ∷ []) (lit≤ tt, (lit≤ tt, (lit≤ tt, (lit≤ tt, tt)))) };
  each = agree_below 4 (slice_index (0 ∷ 1 ∷ 2 ∷ 0 ∷ [])) (pull colour (rows_of colour.reads ds simple_rows) zeros (0 ∷ 1 ∷ 2 ∷ 0 ∷ [])) refl;
}

-- ---- the 2-core is 1, 2, 3

abbrev core_set : List ℕ
core_set = 1 ∷ 1 ∷ 1 ∷ 0 ∷ []

core_supported : SupportsItself 2 simple_rows core_set
core_supported zero member = (lit< tt, lit≤ tt)
core_supported (suc zero) member = (lit< tt, lit≤ tt)
core_supported (suc (suc zero)) member = (lit< tt, lit≤ tt)
core_supported (suc (suc (suc zero))) member = cc
core_supported (suc (suc (suc (suc v)))) member = cc

at_most_one : (b : Bool) → 2 ≤ 0 + cond b 1 0 → ⊥
at_most_one true h = omega arith
at_most_one false h = omega arith

-- vertex 4 has one neighbour, so no such set has it
core_greatest : (other : List ℕ) → SupportsItself 2 simple_rows other → (v : ℕ) → IsTrue (is_in other v) → IsTrue (is_in core_set v)
core_greatest other s zero member = refl
core_greatest other s (suc zero) member = refl
core_greatest other s (suc (suc zero)) member = refl
core_greatest other s (suc (suc (suc zero))) member = absurd (at_most_one (is_in other 1) (s 3 member).1)
core_greatest other s (suc (suc (suc (suc v)))) member = absurd (omega (arith, (s (suc (suc (suc (suc v)))) member).0))

core : IsKCore 2 simple_rows core_set
core = record { one_each = refl; flags = All-from_recursion (λ f. f ≤ 1) core_set (lit≤ tt, (lit≤ tt, (lit≤ tt, (lit≤ tt, tt)))); supported = core_supported; greatest = core_greatest }
