-- The answer of a program, class by class.
use Rattle.std.proofs.Common.{◌≡◌, ℕ, ◌<◌, ◌≤◌, false, true, List, length, refl, sym, subst}
use Rattle.std.specs.Prelude.{All, Result, Ok, Err, IsOk, MatchResult}
use Rattle.px_base.specs.declared.TheConstants.{MOST_READS}
use Rattle.px_base.specs.declared.graph.Edge.{Edge}
use Rattle.px_base.specs.declared.graph.Read.{Read}
use Rattle.px_base.specs.declared.graph.ReadGraph.{ReadGraph}
use Rattle.px_base.specs.declared.program.Form.{Form}
use Rattle.px_base.specs.declared.program.Reads.{Reads}
use Rattle.px_base.specs.declared.program.Reads.TheVariants as reads_kind
use Rattle.px_base.specs.declared.program.Program.{Program}
use Rattle.px_base.specs.declared.program.Class.{Class}
use Rattle.px_base.specs.declared.program.Class.TheVariants.{SelfStabilising, LocallyCorrecting, GloballyCorrecting}
use Rattle.px_base.specs.declared.program.Refused.{Refused}
use Rattle.px_base.specs.Values.{IsValueList}
use Rattle.px_base.specs.Graphs.{IsGraphOf, RowsFit, read_count}
use Rattle.px_base.specs.Classes.{class_of}
use Rattle.px_base.specs.Laws.{IsOrdered, ReadsEarlier}
use Rattle.px_base.specs.Answers.{AnswersAs, IsAnswer, reads_needed}
use Rattle.px_base.proofs.OneFixed.{one_fixed}
use Rattle.px_base.proofs.Uniqueness.{one_consistent, one_core}
use Rattle.consistent_solver.proofs.Turning.{program_exists}
use Rattle.class_checker.proofs.Kept.{promise_kept}
use Rattle.ordered_solver.specs.Orders.{AreEarlier}
use Rattle.ordered_solver.proofs.Existence.{one_exists}
use Rattle.ordered_solver.proofs.Ranks.{are_ordered, promised_earlier}
use Rattle.core_solver.specs.Mutual.{AreMutual}
use Rattle.core_solver.proofs.CoreExists.{core_exists}
use Rattle.core_solver.proofs.MutualReads.{core_form_is_mutual}
use Rattle.answers.specs.Built.{IsBuilt}

-- a self-stabilising program's graph has reads of earlier vertices alone
pub earlier : (p : Program) (graph : ReadGraph) → class_of p ≡ Ok SelfStabilising → IsBuilt p graph → AreEarlier p.reads graph
earlier p graph is built = promised_earlier p.form p.reads graph.n built.edges graph (promise_kept p SelfStabilising is) built.graph

-- in a globally correcting program's graph reading is mutual
pub mutual_reads : (p : Program) (graph : ReadGraph) → class_of p ≡ Ok GloballyCorrecting → IsBuilt p graph → AreMutual graph.rows
mutual_reads p graph is built = core_form_is_mutual p graph.n built.edges graph (promise_kept p GloballyCorrecting is) built.graph

-- the answer of its class is its answer
pub answered : (p : Program) (class : Class) (rows : List (List Read)) (starts x : List ℕ) → class_of p ≡ Ok class → AnswersAs class p rows starts x → IsAnswer p rows starts x
answered p class rows starts x is answers = subst (λ c. MatchResult c (λ class. AnswersAs class p rows starts x) (λ refused. ⊥)) (sym is) answers

-- ---- there is one answer, and no other

ordered_by : (form : Form) (reads : Reads) (n : ℕ) (edges : List Edge) (graph : ReadGraph) → ReadsEarlier reads → All (λ e. (e.source < n) × (e.target < n)) edges → IsGraphOf form reads n edges graph → IsOrdered graph.rows
ordered_by form reads_kind.All n edges graph promise ends is = absurd promise
ordered_by form (reads_kind.Earlier rank) n edges graph promise ends is = are_ordered form rank n edges graph ends is

ordered : (p : Program) (graph : ReadGraph) → class_of p ≡ Ok SelfStabilising → IsBuilt p graph → IsOrdered graph.rows
ordered p graph is built = ordered_by p.form p.reads graph.n built.edges graph (promise_kept p SelfStabilising is) built.ends built.graph

exists_as : (p : Program) (graph : ReadGraph) (starts : List ℕ) (class : Class) → class_of p ≡ Ok class → IsBuilt p graph → RowsFit (length graph.rows) graph.rows → read_count graph.rows ≤ MOST_READS → IsValueList (length graph.rows) starts →
    (x : List ℕ) × AnswersAs class p graph.rows starts x
exists_as p graph starts LocallyCorrecting is built fits few values = program_exists p graph.rows starts is fits values
exists_as p graph starts SelfStabilising is built fits few values = one_exists p graph.rows starts (ordered p graph is built) fits values few
exists_as p graph starts GloballyCorrecting is built fits few values = core_exists (reads_needed p.fold) graph.rows

only_as : (p : Program) (graph : ReadGraph) (starts x y : List ℕ) (class : Class) → class_of p ≡ Ok class → IsBuilt p graph →
    AnswersAs class p graph.rows starts x → AnswersAs class p graph.rows starts y → x ≡ y
only_as p graph starts x y LocallyCorrecting is built h k = one_consistent p graph.rows starts x y h k
only_as p graph starts x y SelfStabilising is built h k = one_fixed p graph.rows starts x y (ordered p graph is built) h k
only_as p graph starts x y GloballyCorrecting is built h k = one_core (reads_needed p.fold) graph.rows x y h k

pub exists : (p : Program) (graph : ReadGraph) (starts : List ℕ) → IsOk (class_of p) → IsBuilt p graph → RowsFit graph.n graph.rows → read_count graph.rows ≤ MOST_READS → IsValueList graph.n starts →
    (x : List ℕ) × IsAnswer p graph.rows starts x
exists p graph starts accepted built fits few values = by_class (class_of p) refl accepted
  where
    by_class : (c : Result Class Refused) → class_of p ≡ c → IsOk c → (x : List ℕ) × IsAnswer p graph.rows starts x
    by_class (Err why) is ok = absurd (let no : false ≡ true = ok in cc)
    by_class (Ok class) is ok =
        let found = exists_as p graph starts class is built (rw (← fits.one_each) at fits) few (rw (← fits.one_each) at values) in
        (found.0, answered p class graph.rows starts found.0 is found.1)

pub only : (p : Program) (graph : ReadGraph) (starts x y : List ℕ) → IsBuilt p graph → IsAnswer p graph.rows starts x → IsAnswer p graph.rows starts y → x ≡ y
only p graph starts x y built h k = by_class (class_of p) refl h k
  where
    by_class : (c : Result Class Refused) → class_of p ≡ c → MatchResult c (λ class. AnswersAs class p graph.rows starts x) (λ refused. ⊥) →
        MatchResult c (λ class. AnswersAs class p graph.rows starts y) (λ refused. ⊥) → x ≡ y
    by_class (Err why) is h k = absurd h
    by_class (Ok class) is h k = only_as p graph starts x y class is built h k
