-- An ending that is no stop has a text, and no second one.
use Rattle.std.proofs.Common.{◌≡◌, ℕ, List, length, arith, refl, sym, ap, ◌∙◌, subst}
use Rattle.std.specs.Prelude.{◌≢◌, IsOk, Option, Some, None, Result, Ok, Err}
use Rattle.px_base.specs.declared.graph.EdgeList.{EdgeList}
use Rattle.px_base.specs.declared.graph.ReadGraph.{ReadGraph}
use Rattle.px_base.specs.declared.program.Program.{Program}
use Rattle.px_base.specs.Classes.{class_of}
use Rattle.px_base.specs.Graphs.{IsGraphOf, RowsFit}
use Rattle.px_base.specs.Lines.{EdgeListFits, IdEdge, ends_of}
use Rattle.px_base.specs.Inputs.{InputFault, input_limits, input_of}
use Rattle.px_base.specs.AnswerTexts.{IsAnswerText}
use Rattle.px_base.specs.Answers.{IsAnswer}
use Rattle.px_base.specs.RowTexts.{IsRowProgram}
use Rattle.px_base.specs.Starts.{first_unknown, positions_of, starts_of}
use Rattle.px_base.specs.Text.{answer_text}
use Rattle.edge_reader.proofs.InputFits.{ends_below, input_fits}
use Rattle.graph_forms.proofs.Made.{rows_fit}
use Rattle.program_table.proofs.StartLists.{row_start_is_value, starts_are_values}
use Rattle.answers.proofs.ByClass.{exists}
use Rattle.command_ends.specs.declared.stop.Stop.{Stop}
use Rattle.command_ends.specs.declared.stop.Stop.TheVariants as stop
use Rattle.command_texts.specs.declared.job.Job.{Job}
use Rattle.command_texts.specs.declared.job.Job.TheVariants as job
use Rattle.command_texts.specs.Jobs.{JobFits, reads_weights}
use Rattle.command_texts.specs.Texts.{class_text, parts_text, IsPartsText}
use Rattle.command_texts.specs.Endings.{Ending, stopped, answered, classified, parted, after_edges, after_input, after_lookup, edge_fault, ending_of, IsEndingText}
use Rattle.command_texts.proofs.Solved.{by_input}
use Rattle.one_text.proofs.Building.{graph_of, has_graph}
use Rattle.graph_forms.proofs.Counting.{few_reads}
use Rattle.one_text.proofs.Ids.{one_list}
use Rattle.one_text.proofs.Listing.{list_of, has_list}
use Rattle.one_text.proofs.Rows.{one_graph}
use Rattle.one_text.proofs.Texts.{built_on, one_text}

-- ---- no second text

one_parts_text : (p : Program) (workers : ℕ) (edges : List IdEdge) (s t : List ℕ) → IsPartsText p workers edges s → IsPartsText p workers edges t → s ≡ t
one_parts_text p workers edges s t a b =
    let list : b.list ≡ a.list = one_list edges b.list a.list b.listed a.listed in
    let built : IsGraphOf p.form p.reads (length a.list.ids) a.list.edges b.graph = subst (λ (l : EdgeList). IsGraphOf p.form p.reads (length l.ids) l.edges b.graph) list b.built in
    let graph : a.graph ≡ b.graph = one_graph p.form p.reads (length a.list.ids) a.list.edges a.graph b.graph a.built built in
    a.written ∙ ap (λ (g : ReadGraph). parts_text g.rows workers) graph ∙ sym b.written

pub one_ending_text : (e : Ending) (s t : List ℕ) → IsEndingText e s → IsEndingText e t → s ≡ t
one_ending_text (stopped why) s t a b = absurd a
one_ending_text (answered p sources edges) s t a b = one_text p sources edges s t a b
one_ending_text (classified class) s t a b = a ∙ sym b
one_ending_text (parted p workers edges) s t a b = one_parts_text p workers edges s t a b

-- ---- a text

abbrev HasAnswerText : Program → List ℕ → List IdEdge → Type 0
HasAnswerText p sources edges = (text : List ℕ) × IsAnswerText p sources edges text

has_answer_text : (p : Program) (sources : List ℕ) (edges : List IdEdge) → IsOk (class_of p) → IsRowProgram p → EdgeListFits (list_of edges) → HasAnswerText p sources edges
has_answer_text p sources edges accepted fits within =
    let list : EdgeList = list_of edges in
    let n : ℕ = length list.ids in
    let graph : ReadGraph = graph_of p.form p.reads n list.edges in
    let built : IsGraphOf p.form p.reads n list.edges graph = has_graph p.form p.reads n list.edges in
    let starts : List ℕ = starts_of p.start list.ids (positions_of list.ids sources) in
    let rows : RowsFit n graph.rows = rows_fit p.form p.reads n list.edges graph within.ends built in
    let values : (x : List ℕ) × IsAnswer p graph.rows starts x =
    exists p graph starts accepted (built_on p list graph (ends_below edges list (has_list edges)) built) rows
    (omega (arith, few_reads p.form p.reads n list.edges graph built, within.lines))
    (starts_are_values p.start list.ids (positions_of list.ids sources) (row_start_is_value p.start fits.start) (λ k d below. omega (arith, within.ids k d below))) in (
      answer_text list.ids values.0,
      record {
        list = list;
        listed = has_list edges;
        answered = record { graph = graph; built = built; values = values.0; is_answer = values.1; written = refl };
      },
    )

has_parts_text : (p : Program) (workers : ℕ) (edges : List IdEdge) → (text : List ℕ) × IsPartsText p workers edges text
has_parts_text p workers edges =
    let list : EdgeList = list_of edges in
    let graph : ReadGraph = graph_of p.form p.reads (length list.ids) list.edges in
    (parts_text graph.rows workers, record { list = list; listed = has_list edges; graph = graph; built = has_graph p.form p.reads (length list.ids) list.edges; written = refl })

abbrev HasText : Ending → Type 0
HasText e = ((why : Stop) → e ≢ stopped why) → (text : List ℕ) × IsEndingText e text

looked_up : (p : Program) (sources : List ℕ) (edges : List IdEdge) (unknown : Option ℕ) → HasAnswerText p sources edges → HasText (after_lookup p sources edges unknown)
looked_up p sources edges (Some id) has = λ goes_on. absurd (goes_on (stop.UnknownSource id) refl)
looked_up p sources edges None has = λ goes_on. has

edges_read : (this : Job) (edges : List IdEdge) → JobFits this → EdgeListFits (list_of edges) → HasText (after_edges this edges)
edges_read (job.Run p sources workers) edges fits within = looked_up p sources edges (first_unknown (ends_of edges) sources) (has_answer_text p sources edges (rw fits.0 refl) fits.1 within)
edges_read (job.Solve p sources unweighted) edges fits within = looked_up p sources edges (first_unknown (ends_of edges) sources) (has_answer_text p sources edges fits.0 fits.1 within)
edges_read (job.Classify class) edges fits within = λ goes_on. (class_text class, refl)
edges_read (job.Parts p workers unweighted) edges fits within = λ goes_on. has_parts_text p workers edges

input_read : (this : Job) (bytes : List ℕ) → JobFits this → HasText (after_input this (input_of input_limits (reads_weights (Ok this)) bytes))
input_read this bytes fits = by_result (input_of input_limits (reads_weights (Ok this)) bytes) refl
  where
    by_result : (r : Result (List IdEdge) InputFault) → input_of input_limits (reads_weights (Ok this)) bytes ≡ r → HasText (after_input this r)
    by_result (Err what) told = λ goes_on. absurd (goes_on (stop.Input (edge_fault what)) refl)
    by_result (Ok edges) told = edges_read this edges fits (input_fits (reads_weights (Ok this)) bytes edges (list_of edges) told (has_list edges))

pub has_ending_text : (this : Job) (bytes : List ℕ) → JobFits this → HasText (ending_of (Ok this) bytes)
unfolding ending_of
has_ending_text (job.Run p sources workers) bytes fits = subst HasText (sym (by_input (job.Run p sources workers) refl bytes)) (input_read (job.Run p sources workers) bytes fits)
has_ending_text (job.Solve p sources unweighted) bytes fits = subst HasText (sym (by_input (job.Solve p sources unweighted) refl bytes)) (input_read (job.Solve p sources unweighted) bytes fits)
has_ending_text (job.Classify class) bytes fits = λ goes_on. (class_text class, refl)
has_ending_text (job.Parts p workers unweighted) bytes fits = subst HasText (sym (by_input (job.Parts p workers unweighted) refl bytes)) (input_read (job.Parts p workers unweighted) bytes fits)
