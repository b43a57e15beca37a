-- Each renewal of all vertices leaves values that walks of one read more bring.
use Rattle.std.proofs.Common.{◌≡◌, ℕ, suc, ◌<◌, ◌≤◌, min, false, List, [], ◌∷◌, ◌++◌, length, map, get_or, refl, sym, ap, ◌∙◌, subst, arith, inl, inr}
use Rattle.std.specs.Prelude.{slice_index, All}
use Rattle.std.specs.List.{AllByRecursion}
use Rattle.std.proofs.lemmas.Bool.{cases_lt}
use Rattle.std.proofs.lemmas.List.{get_or_default}
use Rattle.std.proofs.lemmas.List.Elements.{All-map, recursion_from_All}
use Rattle.px_base.specs.declared.graph.Read.{Read}
use Rattle.px_base.specs.declared.program.CoreProgram.{CoreProgram}
use Rattle.px_base.specs.Graphs.{RowsFit, row_at}
use Rattle.px_base.specs.Classes.{is_mex}
use Rattle.px_base.specs.Core.{core_edge_value}
use Rattle.px_base.specs.Rules.{least}
use Rattle.px_base.proofs.Positions.{at_position}
use Rattle.consistent_solver.specs.CoreLists.{gathered_at, renewed, renewed_at}
use Rattle.consistent_solver.proofs.Below.{least_gathered}
use Rattle.walk_terms.specs.Walks.{HasRead, IsCarried}
use Rattle.walk_terms.proofs.ReadEnds.{walk_more, fold_more, length_more}

-- each value of the list is such
abbrev pub AreCarried : CoreProgram → List (List Read) → List ℕ → ℕ → List ℕ → Type 0
AreCarried core rows starts most x = (v : ℕ) → v < length rows → IsCarried core rows starts most v (slice_index x v)

-- the lesser of two numbers, and the least of some, is one of them
min_has : (P : ℕ → Type 0) (a b : ℕ) → P a → P b → P (min a b)
min_has P a b here there = elim (cases_lt a b) [
  | inl less ↦ (let same : a ≡ min a b = omega arith in subst P same here)
  | inr more ↦ (let same : b ≡ min a b = omega arith in subst P same there)
]

pub least_has : (P : ℕ → Type 0) (s : ℕ) (items : List ℕ) → P s → AllByRecursion P items → P (least s items)
least_has P s [] here each = here
least_has P s (x ∷ xs) here each = least_has P (min s x) xs (min_has P s x here each.0) each.1

pub start_carried : (core : CoreProgram) (rows : List (List Read)) (starts : List ℕ) (most v : ℕ) → v < length rows → IsCarried core rows starts most v (slice_index starts v)
start_carried core rows starts most v inside = record { from = v; weights = []; inside = inside; walk = refl; short = omega arith; is = refl }

pub longer_carried : (core : CoreProgram) (rows : List (List Read)) (starts : List ℕ) (most more v value : ℕ) → most ≤ more → IsCarried core rows starts most v value → IsCarried core rows starts more v value
longer_carried core rows starts most more v value low c =
    record { from = c.from; weights = c.weights; inside = c.inside; walk = c.walk; short = omega (arith, low, c.short); is = c.is }

read_carried : (core : CoreProgram) (rows : List (List Read)) (starts : List ℕ) (most v u w value : ℕ) → HasRead rows v u w → IsCarried core rows starts most u value →
    IsCarried core rows starts (suc most) v (core_edge_value core value w)
read_carried core rows starts most v u w value read c = record {
  from = c.from;
  weights = c.weights ++ w ∷ [];
  inside = c.inside;
  walk = walk_more rows c.from u v w c.weights c.walk read;
  short = omega (arith, c.short, length_more w c.weights);
  is = ap (λ y. core_edge_value core y w) c.is ∙ sym (fold_more (core_edge_value core) (slice_index starts c.from) w c.weights);
}

-- what is gathered from values that walks bring is brought by a walk of one read more
gathered_carried : (core : CoreProgram) (rows : List (List Read)) (starts x : List ℕ) (most v : ℕ) → is_mex core.program.fold ≡ false → RowsFit (length rows) rows →
    AreCarried core rows starts most x → v < length rows → IsCarried core rows starts (suc most) v (gathered_at core rows starts x v)
gathered_carried core rows starts x most v plain fits each inside =
    subst (IsCarried core rows starts (suc most) v) (sym (least_gathered core (slice_index x) (slice_index starts v) (row_at rows v) plain))
    (least_has (IsCarried core rows starts (suc most) v) (slice_index starts v) (map item (row_at rows v)) (start_carried core rows starts (suc most) v inside)
    (recursion_from_All (IsCarried core rows starts (suc most) v) (map item (row_at rows v)) (All-map (IsCarried core rows starts (suc most) v) item (row_at rows v) items)))
  where
    item : Read → ℕ
    item r = core_edge_value core (slice_index x r.source) r.weight

    items : All (λ r. IsCarried core rows starts (suc most) v (item r)) (row_at rows v)
    items k d below =
        let r : Read = get_or (row_at rows v) k d in
        read_carried core rows starts most v r.source r.weight (slice_index x r.source) (k, below, get_or_default (row_at rows v) k r d below)
        (each r.source (fits.sources v [] inside k d below))

pub renewed_carried : (core : CoreProgram) (rows : List (List Read)) (starts x : List ℕ) (most : ℕ) → is_mex core.program.fold ≡ false → RowsFit (length rows) rows →
    AreCarried core rows starts most x → AreCarried core rows starts (suc most) (renewed core rows starts x)
renewed_carried core rows starts x most plain fits each v inside =
    subst (IsCarried core rows starts (suc most) v) (sym (at_position (length rows) (renewed_at core rows starts x) v 0 inside))
    (min_has (IsCarried core rows starts (suc most) v) (slice_index x v) (gathered_at core rows starts x v)
    (longer_carried core rows starts most (suc most) v (slice_index x v) (omega arith) (each v inside)) (gathered_carried core rows starts x most v plain fits each inside))
