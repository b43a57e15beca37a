-- A program's answer on edges has no text but one.
use Rattle.std.proofs.Common.{◌≡◌, ℕ, List, length, ap, sym, ◌∙◌, subst}
use Rattle.std.specs.Prelude.{All}
use Rattle.px_base.specs.declared.graph.EdgeList.{EdgeList}
use Rattle.px_base.specs.declared.graph.ReadGraph.{ReadGraph}
use Rattle.px_base.specs.declared.program.Program.{Program}
use Rattle.px_base.specs.Graphs.{IsGraphOf}
use Rattle.px_base.specs.Lines.{IdEdge}
use Rattle.px_base.specs.Answers.{IsAnswer}
use Rattle.px_base.specs.Starts.{starts_of, positions_of}
use Rattle.px_base.specs.Text.{answer_text}
use Rattle.px_base.specs.AnswerTexts.{IsAnswerOn, IsAnswerText}
use Rattle.answers.specs.Built.{IsBuilt}
use Rattle.answers.proofs.ByClass.{only}
use Rattle.edge_reader.proofs.InputFits.{IsBetween, ends_below}
use Rattle.one_text.proofs.Ids.{one_list}
use Rattle.one_text.proofs.Rows.{one_graph}

pub built_on : (p : Program) (list : EdgeList) (graph : ReadGraph) → All (IsBetween (length list.ids)) list.edges → IsGraphOf p.form p.reads (length list.ids) list.edges graph → IsBuilt p graph
built_on p list graph ends built = record {
  edges = list.edges;
  ends = subst (λ (n : ℕ). All (IsBetween n) list.edges) (sym built.size) ends;
  graph = subst (λ (n : ℕ). IsGraphOf p.form p.reads n list.edges graph) (sym built.size) built;
}

-- the answer on a list has no text but one
text_on : (p : Program) (sources : List ℕ) (list : EdgeList) (s t : List ℕ) → All (IsBetween (length list.ids)) list.edges → IsAnswerOn p sources list s → IsAnswerOn p sources list t → s ≡ t
text_on p sources list s t ends a b =
    let starts : List ℕ = starts_of p.start list.ids sources in
    let same : b.graph ≡ a.graph = one_graph p.form p.reads (length list.ids) list.edges b.graph a.graph b.built a.built in
    let other : IsAnswer p a.graph.rows starts b.values = subst (λ (g : ReadGraph). IsAnswer p g.rows starts b.values) same b.is_answer in
    let values : a.values ≡ b.values = only p a.graph starts a.values b.values (built_on p list a.graph ends a.built) a.is_answer other in
    a.written ∙ ap (answer_text list.ids) values ∙ sym b.written

-- the answer on edges has no text but one
pub one_text : (p : Program) (sources : List ℕ) (edges : List IdEdge) (s t : List ℕ) → IsAnswerText p sources edges s → IsAnswerText p sources edges t → s ≡ t
one_text p sources edges s t a b =
    let same : b.list ≡ a.list = one_list edges b.list a.list b.listed a.listed in
    let other : IsAnswerOn p (positions_of a.list.ids sources) a.list t = subst (λ (l : EdgeList). IsAnswerOn p (positions_of l.ids sources) l t) same b.answered in
    text_on p (positions_of a.list.ids sources) a.list s t (ends_below edges a.list a.listed) a.answered other
