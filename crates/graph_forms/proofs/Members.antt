-- The members of a row, one edge after another, and once each.
use Rattle.std.proofs.Common.{◌≡◌, ℕ, ◌+◌, ◌<◌, ◌≢◌, Bool, true, false, eqb, List, [], ◌∷◌, ◌++◌, length, get_or, take, arith, inl, inr, refl, ap, sym, ◌∙◌, subst}
use Rattle.std.specs.Prelude.{◌==◌, ◌&&◌, ◌||◌, ◌⊎◌, not, Contains, IsPermutation}
use Rattle.std.specs.List.{list_any, dedup}
use Rattle.std.specs.List.Retain.{IsFiltered, DiffersFromLast}
use Rattle.std.specs.List.Sorted.{IsSorted}
use Rattle.std.specs.Ordering.{nat_cmp}
use Rattle.std.proofs.Math.Bool.{or-true, or-false, and-false}
use Rattle.std.proofs.lemmas.Bool.{eq-eqb, eqb-true}
use Rattle.std.proofs.lemmas.Bool.Decides.{eqb_tells, nat_tests}
use Rattle.std.proofs.lemmas.List.{append-nil}
use Rattle.std.proofs.lemmas.List.Elements.{All-push, All-weaker, Contains-append_left, Contains-push}
use Rattle.std.proofs.lemmas.List.Filters.{dedup_is}
use Rattle.std.proofs.lemmas.List.Folds.{list_any_more}
use Rattle.std.proofs.lemmas.List.Kept.{Contains-dedup_nat, Contains-from_dedup}
use Rattle.std.proofs.lemmas.List.Sorted.{Contains-permutation, IsPermutation-sym}
use Rattle.std.proofs.lemmas.Map.Keys.{IsStrictlyIncreasing-dedup}
use Rattle.px_base.specs.declared.graph.Edge.{Edge}
use Rattle.px_base.specs.Graphs.{is_neighbour, joins}
use Rattle.graph_forms.specs.Neighbours.{HasMembers, IsSetOf, other_end}

-- ---- tests

either : (a b c : Bool) → (a && (b || c)) ≡ ((a && b) || (a && c))
either true b c = refl
either false b c = refl

true_or_false : (b : Bool) → (b ≡ true) ⊎ (b ≡ false)
true_or_false true = inl refl
true_or_false false = inr refl

-- ---- one edge more

-- whether the edge alone makes u a neighbour of v
abbrev is_joined : Edge → ℕ → ℕ → Bool
is_joined e v u = not (u == v) && joins u v e

neighbour_more : (edges : List Edge) (i : ℕ) (d : Edge) (v u : ℕ) → i < length edges →
    is_neighbour (take (i + 1) edges) v u ≡ (is_neighbour (take i edges) v u || is_joined (get_or edges i d) v u)
neighbour_more edges i d v u below =
    ap (λ b. not (u == v) && b) (list_any_more (joins u v) edges i d below)
    ∙ either (not (u == v)) (list_any (joins u v) (take i edges)) (joins u v (get_or edges i d))

-- the members that one item more brings
with_item : (test more : ℕ → Bool) (row : List ℕ) (x : ℕ) → ((u : ℕ) → more u ≡ (test u || (x == u))) → HasMembers test row → HasMembers more (row ++ x ∷ [])
with_item test more row x is h = record {
  within = All-push (λ u. more u ≡ true) row x
      (All-weaker (λ u. test u ≡ true) (λ u. more u ≡ true) (λ u passing. is u ∙ ap (λ b. b || (x == u)) passing) row h.within)
      (is x ∙ ap (λ b. test x || b) (eq-eqb x x refl) ∙ or-true (test x));
  each = λ u passing. elim (true_or_false (test u)) [
    | inl passes ↦ Contains-append_left row (x ∷ []) u (h.each u passes)
    | inr fails ↦ (let same : x ≡ u = eqb-true x u (sym (ap (λ b. b || (x == u)) fails) ∙ sym (is u) ∙ passing) in
        subst (λ (y : ℕ). Contains (row ++ x ∷ []) y) same (Contains-push row x))
  ];
}

with_none : (test more : ℕ → Bool) (row : List ℕ) → ((u : ℕ) → more u ≡ test u) → HasMembers test row → HasMembers more row
with_none test more row is h = record {
  within = All-weaker (λ u. test u ≡ true) (λ u. more u ≡ true) (λ u passing. is u ∙ passing) row h.within;
  each = λ u passing. h.each u (sym (is u) ∙ passing);
}

-- what an edge joins to v is its other end
joined_loop : (e : Edge) (v u : ℕ) → e.source ≡ e.target → is_joined e v u ≡ false
joined_loop e v u same = grind (arith, nat_tests)

joined_target : (e : Edge) (v u : ℕ) → e.source ≢ e.target → e.target ≡ v → is_joined e v u ≡ (e.source == u)
joined_target e v u apart is = grind (arith, nat_tests)

joined_source : (e : Edge) (v u : ℕ) → e.source ≢ e.target → e.source ≡ v → is_joined e v u ≡ (e.target == u)
joined_source e v u apart is = grind (arith, nat_tests)

joined_none : (e : Edge) (v u : ℕ) → e.target ≢ v → e.source ≢ v → is_joined e v u ≡ false
joined_none e v u apart other = grind (arith, nat_tests)

grown : (e : Edge) (test more : ℕ → Bool) (v : ℕ) (row : List ℕ) → ((u : ℕ) → more u ≡ (test u || is_joined e v u)) → HasMembers test row → HasMembers more (row ++ other_end e v)
grown e test more v row is h = elim (eqb_tells e.source e.target) [
  | inl (loop, same) ↦ rw (loop, append-nil) (with_none test more row (λ u. is u ∙ ap (λ b. test u || b) (joined_loop e v u same) ∙ or-false (test u)) h)
  | inr (two, apart) ↦ elim (eqb_tells e.target v) [
    | inl (passing, here) ↦ rw (two, passing) (with_item test more row e.source (λ u. is u ∙ ap (λ b. test u || b) (joined_target e v u apart here)) h)
    | inr (other, elsewhere) ↦ elim (eqb_tells e.source v) [
      | inl (passing, here) ↦ rw (two, other, passing) (with_item test more row e.target (λ u. is u ∙ ap (λ b. test u || b) (joined_source e v u apart here)) h)
      | inr (none, nowhere) ↦ rw (two, other, none, append-nil) (with_none test more row (λ u. is u ∙ ap (λ b. test u || b) (joined_none e v u elsewhere nowhere) ∙ or-false (test u)) h)
    ]
  ]
]

-- the loop's step
pub members_more : (edges : List Edge) (i : ℕ) (d : Edge) (v : ℕ) (row : List ℕ) → i < length edges → HasMembers (is_neighbour (take i edges) v) row →
    HasMembers (is_neighbour (take (i + 1) edges) v) (row ++ other_end (get_or edges i d) v)
members_more edges i d v row below h = grown (get_or edges i d) (is_neighbour (take i edges) v) (is_neighbour (take (i + 1) edges) v) v row (λ u. neighbour_more edges i d v u below) h

-- the loop's start
pub no_members : (v : ℕ) → HasMembers (is_neighbour [] v) []
no_members v = record {
  within = λ k d below. absurd (omega arith);
  each = λ u passing. absurd (let never : false ≡ true = sym (and-false (not (u == v))) ∙ passing in cc);
}

-- ---- each member once

pub set_of_sorted : (items sorted set : List ℕ) → IsPermutation items sorted → IsSorted nat_cmp sorted → IsFiltered (DiffersFromLast eqb) [] sorted set → IsSetOf items set
set_of_sorted items sorted set same order kept =
    let is : set ≡ dedup eqb sorted = dedup_is eqb sorted set kept in
    subst (λ (s : List ℕ). IsSetOf items s) (sym is)
    (record {
      rising = IsStrictlyIncreasing-dedup sorted order;
      within = λ u h. Contains-permutation sorted items u (IsPermutation-sym items sorted same) (Contains-from_dedup eqb sorted u h);
      each = λ u h. Contains-dedup_nat sorted u (Contains-permutation items sorted u same h);
    })
