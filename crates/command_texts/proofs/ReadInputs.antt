-- How an input that was read ends.
use Rattle.std.proofs.Common.{◌≡◌, ℕ, suc, Bool, true, false, List, [], ◌∷◌, get_or, refl, sym, subst, ap, ◌∙◌, arith, eqb-true, eq-eqb, ◌||◌}
use Rattle.std.specs.Prelude.{◌==◌, Some, None, Contains}
use Rattle.std.proofs.lemmas.List.Folds.{list_any_at}
use Rattle.px_base.specs.declared.graph.EdgeList.{EdgeList}
use Rattle.px_base.specs.declared.program.Program.{Program}
use Rattle.px_base.specs.Values.{is_listed}
use Rattle.px_base.specs.Lines.{IdEdge, ends_of, IsEdgeListOf}
use Rattle.px_base.specs.Starts.{first_unknown, positions_of}
use Rattle.px_base.specs.AnswerTexts.{IsAnswerOn}
use Rattle.command_ends.specs.declared.stop.Stop.TheVariants as stop
use Rattle.command_texts.specs.Endings.{stopped, answered, after_lookup, after_sources, IsEndingText}

-- ---- the ids of a list

listed_once : (xs : List ℕ) (x : ℕ) → is_listed xs x ≡ true → Contains xs x
listed_once [] x listed = cc
listed_once (y ∷ ys) x listed = at_head (y == x) refl listed (listed_once ys x)
  where
    at_head : (b : Bool) → (y == x) ≡ b → (b || is_listed ys x) ≡ true → (is_listed ys x ≡ true → Contains ys x) → Contains (y ∷ ys) x
    at_head true same h later = (0, omega arith, eqb-true y x same)
    at_head false apart h later = let found : Contains ys x = later h in (suc found.0, omega (arith, found.1), found.2)

contained : (xs : List ℕ) (x : ℕ) → Contains xs x → is_listed xs x ≡ true
contained xs x found = list_any_at (λ item. item == x) xs found.0 x found.1 (eq-eqb (get_or xs found.0 x) x found.2)

both_or_neither : (a b : Bool) → (a ≡ true → b ≡ true) → (b ≡ true → a ≡ true) → a ≡ b
both_or_neither true true h k = refl
both_or_neither true false h k = sym (h refl)
both_or_neither false true h k = k refl
both_or_neither false false h k = refl

-- an id is in the list exactly where it is an end of an edge
listed_ends : (edges : List IdEdge) (list : EdgeList) (id : ℕ) → IsEdgeListOf edges list → is_listed list.ids id ≡ is_listed (ends_of edges) id
listed_ends edges list id of = both_or_neither (is_listed list.ids id) (is_listed (ends_of edges) id)
    (λ h. contained (ends_of edges) id ((of.members id).0 (listed_once list.ids id h)))
    (λ h. contained list.ids id ((of.members id).1 (listed_once (ends_of edges) id h)))

-- so the same sources are unknown to both
unknown_ends : (edges : List IdEdge) (list : EdgeList) (sources : List ℕ) → IsEdgeListOf edges list → first_unknown list.ids sources ≡ first_unknown (ends_of edges) sources
unknown_ends edges list [] of = refl
unknown_ends edges list (s ∷ ss) of = rw (listed_ends edges list s of, unknown_ends edges list ss of) refl

-- ---- sources

-- a source is in no edge
pub unknown_stops : (program : Program) (sources : List ℕ) (edges : List IdEdge) (list : EdgeList) (id : ℕ) → IsEdgeListOf edges list → first_unknown list.ids sources ≡ Some id →
    after_sources program sources edges ≡ stopped (stop.UnknownSource id)
unknown_stops program sources edges list id of found =
    let same : first_unknown (ends_of edges) sources ≡ Some id = sym (unknown_ends edges list sources of) ∙ found in
    ap (after_lookup program sources edges) same

-- the answer on the list is the answer on its edges
pub answer_ends : (program : Program) (sources : List ℕ) (edges : List IdEdge) (list : EdgeList) (text : List ℕ) → IsEdgeListOf edges list → first_unknown list.ids sources ≡ None →
    IsAnswerOn program (positions_of list.ids sources) list text → IsEndingText (after_sources program sources edges) text
answer_ends program sources edges list text of none answer =
    let same : first_unknown (ends_of edges) sources ≡ None = sym (unknown_ends edges list sources of) ∙ none in
    let is : IsEndingText (answered program sources edges) text = record { list = list; listed = of; answered = answer } in
    subst (λ e. IsEndingText e text) (sym (ap (after_lookup program sources edges) same)) is
