-- Where each read is of a vertex that stands before its reader, the fixed point of a program that takes the least or the greatest
-- has at each vertex the best that a start value becomes along a walk to it.
use Rattle.std.proofs.Common.{◌≡◌, ℕ, zero, suc, ◌<◌, ◌≤◌, max, Bool, true, false, List, [], ◌∷◌, ◌++◌, length, map, get_or, refl, sym, ap, ◌∙◌, subst, arith, inl, inr}
use Rattle.std.specs.Prelude.{slice_index, All, Contains, if◌then◌else◌, Result, Ok, Err}
use Rattle.std.specs.List.{AllByRecursion}
use Rattle.std.proofs.lemmas.Bool.{cases_lt}
use Rattle.std.proofs.lemmas.List.{get_or_default}
use Rattle.std.proofs.lemmas.List.Elements.{All-map, recursion_from_All}
use Rattle.px_base.specs.declared.graph.Read.{Read}
use Rattle.px_base.specs.declared.program.Form.{Form}
use Rattle.px_base.specs.declared.program.Reads.{Reads}
use Rattle.px_base.specs.declared.program.Start.{Start}
use Rattle.px_base.specs.declared.program.Along.{Along}
use Rattle.px_base.specs.declared.program.Own.{Own}
use Rattle.px_base.specs.declared.program.Class.{Class}
use Rattle.px_base.specs.declared.program.Class.TheVariants.{GloballyCorrecting, SelfStabilising}
use Rattle.px_base.specs.declared.program.Refused.{Refused}
use Rattle.px_base.specs.declared.program.Refused.TheVariants.{CountForm}
use Rattle.px_base.specs.declared.program.Fold.{Fold}
use Rattle.px_base.specs.declared.program.Fold.TheVariants.{Least, Greatest, Mex, Count}
use Rattle.px_base.specs.declared.program.Program.{Program}
use Rattle.px_base.specs.Values.{IsValue, IsValueList}
use Rattle.px_base.specs.Graphs.{RowsFit, row_at}
use Rattle.px_base.specs.Classes.{class_of, counts_reads, is_core_form, is_mex}
use Rattle.px_base.specs.Laws.{IsOrdered}
use Rattle.px_base.specs.Rules.{edge_value, edge_values, gather, greatest}
use Rattle.px_base.specs.Answers.{IsAsGoodAs, IsFixedPoint}
use Rattle.px_base.proofs.Gathers.{least_below_start}
use Rattle.value_laws.specs.EdgeLaws.{core_in_range, core_monotone}
use Rattle.consistent_solver.proofs.Below.{value_anywhere}
use Rattle.walk_terms.specs.Walks.{HasRead, IsWalk, carried}
use Rattle.walk_terms.proofs.ReadEnds.{fold_more, least_below_member, reader_inside, start_inside, walk_more, weight_fits}
use Rattle.walk_terms.proofs.Carried.{least_has}
use Rattle.px_base.proofs.Members.{mapped}

-- ---- what a fold that takes the least or the greatest does

greatest_above_start : (s : ℕ) (items : List ℕ) → s ≤ greatest s items
greatest_above_start s [] = omega arith
greatest_above_start s (x ∷ xs) = omega (arith, greatest_above_start (max s x) xs)

greatest_above_member : (s : ℕ) (items : List ℕ) (y : ℕ) → Contains items y → y ≤ greatest s items
greatest_above_member s [] y (k, below, is) = absurd (omega arith)
greatest_above_member s (x ∷ xs) y (zero, below, is) = omega (arith, is, greatest_above_start (max s x) xs)
greatest_above_member s (x ∷ xs) y (suc k, below, is) = greatest_above_member (max s x) xs y (k, omega arith, is)

max_has : (P : ℕ → Type 0) (a b : ℕ) → P a → P b → P (max a b)
max_has P a b here there = elim (cases_lt a b) [
  | inl less ↦ (let same : b ≡ max a b = omega arith in subst P same there)
  | inr more ↦ (let same : a ≡ max a b = omega arith in subst P same here)
]

greatest_has : (P : ℕ → Type 0) (s : ℕ) (items : List ℕ) → P s → AllByRecursion P items → P (greatest s items)
greatest_has P s [] here each = here
greatest_has P s (x ∷ xs) here each = greatest_has P (max s x) xs (max_has P s x here each.0) each.1

gathered_has : (kind : Fold) (P : ℕ → Type 0) (s : ℕ) (items : List ℕ) → is_mex kind ≡ false → counts_reads kind ≡ false → P s → AllByRecursion P items → P (gather kind s items)
gathered_has Least P s items plain uncounted here each = least_has P s items here each
gathered_has Greatest P s items plain uncounted here each = greatest_has P s items here each
gathered_has Mex P s items plain uncounted here each = cc
gathered_has (Count k) P s items plain uncounted here each = cc

good_member : (kind : Fold) (s : ℕ) (items : List ℕ) (y : ℕ) → is_mex kind ≡ false → counts_reads kind ≡ false → Contains items y → IsAsGoodAs kind (gather kind s items) y
good_member Least s items y plain uncounted has = least_below_member s items y has
good_member Greatest s items y plain uncounted has = greatest_above_member s items y has
good_member Mex s items y plain uncounted has = cc
good_member (Count k) s items y plain uncounted has = cc

good_start : (kind : Fold) (s : ℕ) (items : List ℕ) → is_mex kind ≡ false → counts_reads kind ≡ false → IsAsGoodAs kind (gather kind s items) s
good_start Least s items plain uncounted = least_below_start s items
good_start Greatest s items plain uncounted = greatest_above_start s items
good_start Mex s items plain uncounted = cc
good_start (Count k) s items plain uncounted = cc

-- of two values the better one stays as good on a read, and is as good as what the other is as good as
good_on : (q : Program) (kind : Fold) (a b c w : ℕ) → is_mex kind ≡ false → counts_reads kind ≡ false → IsValue a → IsValue b →
    IsAsGoodAs kind c (edge_value q.along a w) → IsAsGoodAs kind a b → IsAsGoodAs kind c (edge_value q.along b w)
good_on q Least a b c w plain uncounted ha hb h k =
    let grown : edge_value q.along a w ≤ edge_value q.along b w = core_monotone (record { program = q; flipped = false }) a b w hb k in
    omega (arith, h, grown)
good_on q Greatest a b c w plain uncounted ha hb h k =
    let grown : edge_value q.along b w ≤ edge_value q.along a w = core_monotone (record { program = q; flipped = false }) b a w ha k in
    omega (arith, h, grown)
good_on q Mex a b c w plain uncounted ha hb h k = cc
good_on q (Count n) a b c w plain uncounted ha hb h k = cc

-- ---- no walk brings better

good_read : (q : Program) (rows : List (List Read)) (starts x : List ℕ) (v u w : ℕ) → is_mex q.fold ≡ false → counts_reads q.fold ≡ false →
    IsFixedPoint q rows starts x → HasRead rows v u w → IsAsGoodAs q.fold (slice_index x v) (edge_value q.along (slice_index x u) w)
good_read q rows starts x v u w plain uncounted fixed read =
    subst (λ (y : ℕ). IsAsGoodAs q.fold y (edge_value q.along (slice_index x u) w)) (sym (fixed.each v (reader_inside rows v u w read)))
    (good_member q.fold (slice_index starts v) (edge_values q.along x (row_at rows v)) (edge_value q.along (slice_index x u) w) plain uncounted
    (mapped (λ r. edge_value q.along (slice_index x r.source) r.weight) (row_at rows v) (record { source = u; weight = w }) read))

good_along : (q : Program) (rows : List (List Read)) (starts x : List ℕ) (u v y : ℕ) (weights : List ℕ) → is_mex q.fold ≡ false → counts_reads q.fold ≡ false →
    RowsFit (length rows) rows → IsFixedPoint q rows starts x → IsWalk rows u v weights → IsAsGoodAs q.fold (slice_index x u) y → IsValue y →
    IsAsGoodAs q.fold (slice_index x v) (carried q y weights)
good_along q rows starts x u v y [] plain uncounted fits fixed here good known = subst (λ (a : ℕ). IsAsGoodAs q.fold (slice_index x a) y) here good
good_along q rows starts x u v y (w ∷ weights) plain uncounted fits fixed (next, read, rest) good known =
    good_along q rows starts x next v (edge_value q.along y w) weights plain uncounted fits fixed rest
    (good_on q q.fold (slice_index x u) y (slice_index x next) w plain uncounted (value_anywhere (length rows) x u fixed.values) known
    (good_read q rows starts x next u w plain uncounted fixed read) good)
    (core_in_range (record { program = q; flipped = false }) y w known (weight_fits rows next u w fits read))

pub fixed_none_better : (q : Program) (rows : List (List Read)) (starts x : List ℕ) → is_mex q.fold ≡ false → counts_reads q.fold ≡ false →
    RowsFit (length rows) rows → IsValueList (length rows) starts → IsFixedPoint q rows starts x →
    (u v : ℕ) (weights : List ℕ) → v < length rows → IsWalk rows u v weights → IsAsGoodAs q.fold (slice_index x v) (carried q (slice_index starts u) weights)
fixed_none_better q rows starts x plain uncounted fits valued fixed u v weights inside walk =
    good_along q rows starts x u v (slice_index starts u) weights plain uncounted fits fixed walk
    (subst (λ (y : ℕ). IsAsGoodAs q.fold y (slice_index starts u)) (sym (fixed.each u (start_inside rows u v weights fits inside walk)))
    (good_start q.fold (slice_index starts u) (edge_values q.along x (row_at rows u)) plain uncounted))
    (value_anywhere (length rows) starts u valued)

-- ---- some walk brings it

-- the value is what some start value becomes along some walk to v
abbrev IsWalked : Program → List (List Read) → List ℕ → ℕ → ℕ → Type 0
IsWalked q rows starts v value = (u : ℕ) × (weights : List ℕ) × IsWalk rows u v weights × (value ≡ carried q (slice_index starts u) weights)

walked_on : (q : Program) (rows : List (List Read)) (starts : List ℕ) (v u w value : ℕ) → HasRead rows v u w → IsWalked q rows starts u value →
    IsWalked q rows starts v (edge_value q.along value w)
walked_on q rows starts v u w value read (from, weights, walk, is) = (
  from,
  weights ++ w ∷ [],
  walk_more rows from u v w weights walk read,
  ap (λ y. edge_value q.along y w) is ∙ sym (fold_more (edge_value q.along) (slice_index starts from) w weights),
)

walked_within : (bound : ℕ) (q : Program) (rows : List (List Read)) (starts x : List ℕ) (v : ℕ) (order : IsOrdered rows) → order.place v < bound →
    is_mex q.fold ≡ false → counts_reads q.fold ≡ false → IsFixedPoint q rows starts x → v < length rows → IsWalked q rows starts v (slice_index x v)
walked_within zero q rows starts x v order low plain uncounted fixed inside = absurd (omega (arith, low))
walked_within (suc bound) q rows starts x v order low plain uncounted fixed inside =
    let item : Read → ℕ = λ r. edge_value q.along (slice_index x r.source) r.weight in
    let items : All (λ r. IsWalked q rows starts v (item r)) (row_at rows v) = λ k d below.
    (let r : Read = get_or (row_at rows v) k d in
    let before : (r.source < length rows) × (order.place r.source < order.place v) = order.before v k d below in
    walked_on q rows starts v r.source r.weight (slice_index x r.source) (k, below, get_or_default (row_at rows v) k r d below)
    (walked_within bound q rows starts x r.source order (omega (arith, low, before.1)) plain uncounted fixed before.0)) in
    subst (IsWalked q rows starts v) (sym (fixed.each v inside))
    (gathered_has q.fold (IsWalked q rows starts v) (slice_index starts v) (edge_values q.along x (row_at rows v)) plain uncounted (v, [], refl, refl)
    (recursion_from_All (IsWalked q rows starts v) (map item (row_at rows v)) (All-map (IsWalked q rows starts v) item (row_at rows v) items)))

pub fixed_attained : (q : Program) (rows : List (List Read)) (starts x : List ℕ) → is_mex q.fold ≡ false → counts_reads q.fold ≡ false → IsOrdered rows →
    IsFixedPoint q rows starts x → (v : ℕ) → v < length rows →
    (u : ℕ) × (weights : List ℕ) × IsWalk rows u v weights × (slice_index x v ≡ carried q (slice_index starts u) weights)
fixed_attained q rows starts x plain uncounted order fixed v inside =
    walked_within (suc (order.place v)) q rows starts x v order (omega arith) plain uncounted fixed inside

-- ---- self-stabilising programs

abbrev of_fields : Form → Reads → Start → Along → Fold → Own → Program
of_fields form reads start along kind own = record { form = form; reads = reads; start = start; along = along; fold = kind; own = own }

abbrev self_stabilising : Result Class Refused
self_stabilising = Ok SelfStabilising

counted_out : (b : Bool) → (if b then Ok GloballyCorrecting else Err CountForm) ≡ self_stabilising → ⊥
counted_out true h = cc
counted_out false h = cc

uncounted_by : (form : Form) (reads : Reads) (start : Start) (along : Along) (kind : Fold) (own : Own) → class_of (of_fields form reads start along kind own) ≡ Ok SelfStabilising →
    counts_reads kind ≡ false
uncounted_by form reads start along Least own h = refl
uncounted_by form reads start along Greatest own h = refl
uncounted_by form reads start along Mex own h = refl
uncounted_by form reads start along (Count k) own h = absurd (counted_out (is_core_form (of_fields form reads start along (Count k) own)) h)

no_count : (q : Program) → class_of q ≡ Ok SelfStabilising → counts_reads q.fold ≡ false
no_count q = uncounted_by q.form q.reads q.start q.along q.fold q.own

pub stabilised_none_better : (q : Program) (rows : List (List Read)) (starts x : List ℕ) → class_of q ≡ Ok SelfStabilising → is_mex q.fold ≡ false →
    RowsFit (length rows) rows → IsValueList (length rows) starts → IsFixedPoint q rows starts x →
    (u v : ℕ) (weights : List ℕ) → v < length rows → IsWalk rows u v weights → IsAsGoodAs q.fold (slice_index x v) (carried q (slice_index starts u) weights)
stabilised_none_better q rows starts x class plain = fixed_none_better q rows starts x plain (no_count q class)

pub stabilised_attained : (q : Program) (rows : List (List Read)) (starts x : List ℕ) → class_of q ≡ Ok SelfStabilising → is_mex q.fold ≡ false → IsOrdered rows →
    IsFixedPoint q rows starts x → (v : ℕ) → v < length rows →
    (u : ℕ) × (weights : List ℕ) × IsWalk rows u v weights × (slice_index x v ≡ carried q (slice_index starts u) weights)
stabilised_attained q rows starts x class plain = fixed_attained q rows starts x plain (no_count q class)
