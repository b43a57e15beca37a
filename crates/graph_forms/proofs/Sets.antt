-- The rows of the simple form.
use Rattle.std.proofs.Common.{◌≡◌, ℕ, ◌<◌, Bool, true, false, List, [], ◌∷◌, map, arith, inl, inr, refl, ap, ◌∙◌}
use Rattle.std.specs.Prelude.{◌==◌, ◌&&◌, ◌||◌, ◌⊎◌, not, All, filter}
use Rattle.std.specs.List.{list_any}
use Rattle.std.proofs.lemmas.Bool.{eqb-true}
use Rattle.std.proofs.lemmas.List.Elements.{All-contains, All-head, All-tail, filter_passes}
use Rattle.std.proofs.lemmas.List.Kept.{AllPairs-from_increasing, IsStrictlyIncreasing-filter}
use Rattle.px_base.specs.declared.graph.Edge.{Edge}
use Rattle.px_base.specs.declared.graph.Read.{Read}
use Rattle.px_base.specs.declared.program.Form.TheVariants.{Simple}
use Rattle.px_base.specs.Graphs.{is_neighbour, joins, reads_of, unit_read}
use Rattle.px_base.specs.Values.{positions_below}
use Rattle.px_base.proofs.Members.{kept, position, range_rises, same_members}
use Rattle.graph_forms.specs.Neighbours.{HasMembers, IsSetOf, ReadsMembers}

-- ---- the vertices that pass a test

-- a rising list of all vertices below n that pass, and of no others
all_that_pass : (p : ℕ → Bool) (n : ℕ) (members set : List ℕ) → ((u : ℕ) → p u ≡ true → u < n) → HasMembers p members → IsSetOf members set → set ≡ filter p (positions_below n)
all_that_pass p n members set low h is =
    let passing : List ℕ = filter p (positions_below n) in
    same_members set passing (AllPairs-from_increasing set is.rising) (AllPairs-from_increasing passing (IsStrictlyIncreasing-filter p (positions_below n) (range_rises 0 n)))
    (λ u here. let told : p u ≡ true = All-contains (λ w. p w ≡ true) members u h.within (is.within u here) in
    kept p (positions_below n) u (position n u (low u told)) told)
    (λ u here. is.each u (h.each u (All-contains (λ w. p w ≡ true) passing u (filter_passes p (positions_below n)) here)))

-- ---- neighbours

abbrev HasEnds : ℕ → Edge → Type 0
HasEnds n e = (e.source < n) × (e.target < n)

or_cases : (a b : Bool) → (a || b) ≡ true → (a ≡ true) ⊎ (b ≡ true)
or_cases true b h = inl refl
or_cases false b h = inr h

and_left : (a b : Bool) → (a && b) ≡ true → a ≡ true
and_left true b h = refl
and_left false b h = h

and_right : (a b : Bool) → (a && b) ≡ true → b ≡ true
and_right true b h = h
and_right false b h = absurd (cc)

joined_below : (n : ℕ) (e : Edge) (v u : ℕ) → HasEnds n e → joins u v e ≡ true → u < n
joined_below n e v u ends told = elim (or_cases (e.source == u && e.target == v) (e.source == v && e.target == u) told) [
  | inl h ↦ (let is : e.source ≡ u = eqb-true e.source u (and_left (e.source == u) (e.target == v) h) in let low : e.source < n = ends.0 in omega arith)
  | inr h ↦ (let is : e.target ≡ u = eqb-true e.target u (and_right (e.source == v) (e.target == u) h) in let low : e.target < n = ends.1 in omega arith)
]

any_below : (n : ℕ) (edges : List Edge) (v u : ℕ) → All (HasEnds n) edges → list_any (joins u v) edges ≡ true → u < n
any_below n [] v u ends told = absurd (cc)
any_below n (e ∷ edges) v u ends told = elim (or_cases (joins u v e) (list_any (joins u v) edges) told) [
  | inl here ↦ joined_below n e v u (All-head (HasEnds n) e edges ends) here
  | inr there ↦ any_below n edges v u (All-tail (HasEnds n) e edges ends) there
]

pub simple_row : (n : ℕ) (edges : List Edge) (v : ℕ) (members : List ℕ) (row : List Read) → All (HasEnds n) edges → HasMembers (is_neighbour edges v) members → ReadsMembers members row →
    row ≡ reads_of Simple n edges v
simple_row n edges v members row ends h reads =
    reads.reads ∙ ap (map unit_read) (all_that_pass (is_neighbour edges v) n members reads.members
    (λ u told. any_below n edges v u ends (and_right (not (u == v)) (list_any (joins u v) edges) told)) h reads.set)
