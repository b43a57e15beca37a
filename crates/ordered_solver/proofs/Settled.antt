-- The pass in the order of the reads: a vertex that has its value keeps it, and so does what it gathers.
use Rattle.std.proofs.Common.{◌≡◌, ℕ, ◌+◌, ◌<◌, ◌≤◌, ◌≢◌, List, [], length, get_or, set, sym, ◌∙◌, ap, subst, arith, inl, inr}
use Rattle.std.specs.Prelude.{All, Contains, slice_index}
use Rattle.std.proofs.lemmas.Bool.{cases_lt, cases_eq}
use Rattle.std.proofs.lemmas.List.{get_or-set_other, get_or-set_same, get_or_default, length-set}
use Rattle.std.proofs.lemmas.List.Elements.{All-set, All-weaker}
use Rattle.px_base.specs.declared.graph.Read.{Read}
use Rattle.px_base.specs.declared.program.Program.{Program}
use Rattle.px_base.specs.Values.{IsValue, IsValueList}
use Rattle.px_base.specs.Graphs.{row_at}
use Rattle.px_base.specs.Rules.{edge_values, gather, pull}
use Rattle.px_base.specs.Answers.{IsFixedPoint}
use Rattle.ordered_solver.specs.Orders.{IsReadOrder}
use Rattle.ordered_solver.proofs.Pulled.{pull_agrees}

-- the first i vertices of the order have what they gather
abbrev pub AreSettled : Program → List (List Read) → List ℕ → List ℕ → ℕ → List ℕ → Type 0
AreSettled p rows starts order i values = (j : ℕ) → j < i → slice_index values (slice_index order j) ≡ pull p rows starts values (slice_index order j)

-- a write at u leaves what a vertex gathers that doesn't read u
pull_stays : (p : Program) (rows : List (List Read)) (starts values : List ℕ) (u value v : ℕ) → All (λ r. r.source ≢ u) (row_at rows v) →
    pull p rows starts values v ≡ pull p rows starts (set values u value) v
pull_stays p rows starts values u value v apart = pull_agrees p rows starts values (set values u value) v
    (All-weaker (λ r. r.source ≢ u) (λ r. slice_index values r.source ≡ slice_index (set values u value) r.source)
    (λ r other. sym (get_or-set_other values u r.source value 0 other)) (row_at rows v) apart)

pub settled_more : (p : Program) (rows : List (List Read)) (starts order values : List ℕ) (i u value : ℕ) → IsReadOrder (length rows) rows order → i < length order →
    length values ≡ length rows → u ≡ slice_index order i → value ≡ pull p rows starts values u → AreSettled p rows starts order i values →
    AreSettled p rows starts order (i + 1) (set values u value)
settled_more p rows starts order values i u value o inside count here is so_far = λ j below.
    let at : ℕ = slice_index order j in
    let stays : pull p rows starts values at ≡ pull p rows starts (set values u value) at =
    pull_stays p rows starts values u value at (subst (λ (w : ℕ). All (λ r. r.source ≢ w) (row_at rows at)) (sym here) (o.earlier j i (omega arith) inside)) in
    let within : u < length values = omega (arith, o.within i 0 inside, here, count) in
    elim (cases_eq at u) [
      | inl same ↦ ap (λ w. slice_index (set values u value) w) same ∙ get_or-set_same values u value 0 within ∙ is ∙ ap (λ w. pull p rows starts values w) (sym same) ∙ stays
      | inr apart ↦ get_or-set_other values u at value 0 apart ∙ so_far j (elim (cases_lt j i) [ inl low ↦ low | inr last ↦ absurd (apart (ap (λ w. slice_index order w) (omega arith) ∙ sym here)) ]) ∙ stays
    ]

pub values_stay : (n : ℕ) (values : List ℕ) (u value : ℕ) → IsValueList n values → IsValue value → IsValueList n (set values u value)
values_stay n values u value are is = record {
  one_each = length-set values u value ∙ are.one_each;
  in_range = All-set IsValue values u value is are.in_range;
}

-- what the pass writes is the pull
pub is_pull : (p : Program) (rows : List (List Read)) (starts values lent : List ℕ) (v value : ℕ) (row : List Read) →
    value ≡ gather p.fold (slice_index starts v) (edge_values p.along lent row) → lent ≡ values → row ≡ row_at rows v → value ≡ pull p rows starts values v
is_pull p rows starts values lent v value row is same here =
    is ∙ ap (λ x. gather p.fold (slice_index starts v) (edge_values p.along x row)) same
    ∙ ap (λ (r : List Read). gather p.fold (slice_index starts v) (edge_values p.along values r)) here

pub all_settled : (p : Program) (rows : List (List Read)) (starts order values : List ℕ) (i : ℕ) → IsReadOrder (length rows) rows order → length order ≤ i →
    IsValueList (length rows) values → AreSettled p rows starts order i values → IsFixedPoint p rows starts values
all_settled p rows starts order values i o end are so_far = record {
  values = are;
  each = λ v inside.
      let found : Contains order v = o.each v inside in
      let at : slice_index order found.0 ≡ v = sym (get_or_zero order found.0 v found.1) ∙ found.2 in
      subst (λ (w : ℕ). slice_index values w ≡ pull p rows starts values w) at (so_far found.0 (omega (arith, found.1, end)));
}
  where
    get_or_zero : (xs : List ℕ) (i d : ℕ) → i < length xs → get_or xs i d ≡ get_or xs i 0
    get_or_zero xs i d below = get_or_default xs i d 0 below
