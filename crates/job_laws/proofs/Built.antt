-- What is built for an accepted program is a sound job: the rows suit its class.
use Rattle.std.proofs.Common.{◌≡◌, ℕ, ◌+◌, ◌-◌, ◌<◌, ◌≤◌, ◌∙◌, Bool, true, false, not, List, [], refl, sym, ap, subst, arith, inl, inr}
use Rattle.std.specs.Prelude.{All, ◌==◌, ◌&&◌, filter, sum_by, Result, Ok, Err, IsOk, MatchResult}
use Rattle.std.specs.List.{list_any}
use Rattle.std.specs.List.Sorted.{IsSortedBy}
use Rattle.std.proofs.lemmas.Bool.{cases_lt}
use Rattle.std.proofs.lemmas.Bool.Decides.{nat_tests}
use Rattle.std.proofs.lemmas.List.{get_or_past, get_or_default}
use Rattle.std.proofs.lemmas.List.Folds.{fold-map}
use Rattle.std.proofs.lemmas.List.Sorted.{sum_by-IsPermutation}
use Rattle.px_base.specs.declared.TheConstants.{MOST_READS, MOST_VERTICES}
use Rattle.px_base.specs.declared.graph.Edge.{Edge}
use Rattle.px_base.specs.declared.graph.Read.{Read}
use Rattle.px_base.specs.declared.graph.ReadGraph.{ReadGraph}
use Rattle.px_base.specs.declared.program.Form.{Form}
use Rattle.px_base.specs.declared.program.Form.TheVariants.{Given, Back, Simple}
use Rattle.px_base.specs.declared.program.Program.{Program}
use Rattle.px_base.specs.declared.program.Reads.{Reads}
use Rattle.px_base.specs.declared.program.Reads.TheVariants as reads_kind
use Rattle.px_base.specs.declared.program.Class.{Class}
use Rattle.px_base.specs.declared.program.Class.TheVariants.{SelfStabilising, LocallyCorrecting, GloballyCorrecting}
use Rattle.px_base.specs.declared.program.Refused.{Refused}
use Rattle.px_base.specs.Values.{IsValueList, one_if, positions_below}
use Rattle.px_base.specs.Classes.{class_of, counts_reads, is_same, is_simple, keeps, reads_all, starts_each_at_one}
use Rattle.px_base.specs.Core.{core_form}
use Rattle.px_base.specs.Graphs.{IsGraphOf, RowsFit, is_lower_read, is_neighbour, joins, read_count, reads_of, row_at, unit_read}
use Rattle.px_base.specs.Laws.{IsOrdered, ReadsEarlier}
use Rattle.px_base.specs.Parts.{is_within}
use Rattle.px_base.specs.RowTexts.{IsRowProgram}
use Rattle.class_checker.proofs.Kept.{promise_kept}
use Rattle.ordered_solver.proofs.Ranks.{are_ordered}
use Rattle.core_solver.specs.Mutual.{times_in_row}
use Rattle.core_solver.proofs.MutualReads.{simple_is_mutual}
use Rattle.answers.specs.Built.{IsBuilt}
use Rattle.hub_terms.specs.Jobs.{IsSound, IsSymmetric, RowsSuit, job_of}
use Rattle.list_laws.proofs.Sums.{sum_same, one_at}

-- ---- each row is in order

rows_in_order : (form : Form) (reads : Reads) (n : ℕ) (edges : List Edge) (graph : ReadGraph) → IsGraphOf form reads n edges graph → All (λ row. IsSortedBy is_lower_read row) graph.rows
rows_in_order form reads n edges graph is = λ v d inside. subst (λ (row : List Read). IsSortedBy is_lower_read row) (get_or_default graph.rows v [] d inside) (is.rows v (omega (arith, inside, is.one_each))).ordered

-- ---- a self-stabilising program reads earlier vertices alone

ordered_by : (form : Form) (reads : Reads) (n : ℕ) (edges : List Edge) (graph : ReadGraph) → ReadsEarlier reads → All (λ e. (e.source < n) × (e.target < n)) edges → IsGraphOf form reads n edges graph → IsOrdered graph.rows
ordered_by form reads_kind.All n edges graph promise ends is = absurd promise
ordered_by form (reads_kind.Earlier rank) n edges graph promise ends is = are_ordered form rank n edges graph ends is

-- ---- in the simple form reading is symmetric

same_number : (u k : ℕ) → (k == u) ≡ (u == 0 + k)
same_number u k = grind (arith, nat_tests)

at_most_one : (b : Bool) → one_if b ≤ 1
at_most_one true = omega arith
at_most_one false = omega arith

module _ (n : ℕ) (edges : List Edge) (graph : ReadGraph) (is : IsGraphOf Simple reads_kind.All n edges graph) where
  -- each neighbour is read once
  times_here : (v u : ℕ) → v < n → times_in_row (row_at graph.rows v) u ≡ one_if (is_within 0 (0 + n) u && is_neighbour edges v (u - 0))
  times_here v u inside =
      sum_by-IsPermutation (λ (r : Read). one_if (r.source == u)) (reads_of Simple n edges v) (row_at graph.rows v) (is.rows v inside).same
      ∙ (fold-map (λ (a : ℕ) (r : Read). a + one_if (r.source == u)) unit_read 0 (filter (is_neighbour edges v) (positions_below n))
      ∙ (sum_same (λ (k : ℕ). one_if (k == u)) (λ (k : ℕ). one_if (u == 0 + k)) (λ k. ap one_if (same_number u k)) (filter (is_neighbour edges v) (positions_below n))
      ∙ one_at (is_neighbour edges v) 0 n u))

  times_past : (v u : ℕ) → n ≤ v → times_in_row (row_at graph.rows v) u ≡ 0
  times_past v u past = ap (λ (row : List Read). sum_by (λ (r : Read). one_if (r.source == u)) row) (get_or_past graph.rows v [] (omega (arith, past, is.one_each)))

  itself : (v : ℕ) → is_neighbour edges v (v - 0) ≡ false
  itself v = by_test ((v - 0) == v) (grind (arith, nat_tests))
    where
      by_test : (b : Bool) → b ≡ true → (not b && list_any (joins (v - 0) v) edges) ≡ false
      by_test true h = refl
      by_test false h = cc

  and_false : (a b : Bool) → b ≡ false → one_if (a && b) ≡ 0
  and_false true b none = rw none refl
  and_false false b none = refl

  pub is_symmetric : IsSymmetric graph.rows
  is_symmetric = record {
    both_ways = λ u v. simple_is_mutual n edges graph is u v;
    once = λ u v. elim (cases_lt v n) [
      | inl inside ↦ omega (arith, times_here v u inside, at_most_one (is_within 0 (0 + n) u && is_neighbour edges v (u - 0)))
      | inr past ↦ omega (arith, times_past v u past)
    ];
    no_loop = λ v. elim (cases_lt v n) [
      | inl inside ↦ times_here v v inside ∙ and_false (is_within 0 (0 + n) v) (is_neighbour edges v (v - 0)) (itself v)
      | inr past ↦ times_past v v past
    ];
  }

symmetric_by : (form : Form) (reads : Reads) (n : ℕ) (edges : List Edge) (graph : ReadGraph) → is_simple form ≡ true → reads_all reads ≡ true → IsGraphOf form reads n edges graph → IsSymmetric graph.rows
symmetric_by Simple reads_kind.All n edges graph simple all is = is_symmetric n edges graph is
symmetric_by Simple (reads_kind.Earlier rank) n edges graph simple all is = cc
symmetric_by Given reads n edges graph simple all is = cc
symmetric_by Back reads n edges graph simple all is = cc

core_parts : (a b c d e f : Bool) → (a && b && c && d && e && f) ≡ true → (b ≡ true) × (c ≡ true)
core_parts true true true d e f h = (refl, refl)
core_parts true true false d e f h = cc
core_parts true false c d e f h = cc
core_parts false b c d e f h = cc

-- ---- all together

suits : (p : Program) (graph : ReadGraph) → IsBuilt p graph → (r : Result Class Refused) → class_of p ≡ r → IsOk r → MatchResult r (λ class. RowsSuit class graph.rows) (λ refused. ⊥)
suits p graph built (Ok LocallyCorrecting) class accepted = tt
suits p graph built (Ok SelfStabilising) class accepted = ordered_by p.form p.reads graph.n built.edges graph (promise_kept p SelfStabilising class) built.ends built.graph
suits p graph built (Ok GloballyCorrecting) class accepted =
    let parts = core_parts (counts_reads p.fold) (is_simple p.form) (reads_all p.reads) (starts_each_at_one p.start) (is_same p.along) (keeps p.own) (promise_kept p GloballyCorrecting class) in
    symmetric_by p.form p.reads graph.n built.edges graph parts.0 parts.1 built.graph
suits p graph built (Err refused) class accepted = absurd (cc accepted)

pub built_is_sound : (p : Program) (graph : ReadGraph) (starts : List ℕ) → IsOk (class_of p) → IsRowProgram p → IsBuilt p graph → RowsFit graph.n graph.rows → graph.n ≤ MOST_VERTICES → read_count graph.rows ≤ MOST_READS →
    IsValueList graph.n starts → IsSound (job_of graph (core_form p) starts)
built_is_sound p graph starts accepted numbers built fits small few values = record {
  core = refl;
  class = accepted;
  numbers = numbers;
  rows = subst (λ (n : ℕ). RowsFit n graph.rows) (sym fits.one_each) fits;
  vertices = omega (arith, fits.one_each, small);
  reads = few;
  ordered = rows_in_order p.form p.reads graph.n built.edges graph built.graph;
  starts = subst (λ (n : ℕ). IsValueList n starts) (sym fits.one_each) values;
  suit = suits p graph built (class_of p) refl accepted;
}
