-- The same in the values of a locally correcting program itself.
use Rattle.std.proofs.Common.{◌≡◌, ℕ, ◌<◌, ◌≤◌, false, List, [], ◌∷◌, length, refl, sym, ap, ◌∙◌, arith}
use Rattle.std.specs.Prelude.{slice_index, sum, Ok, if◌then◌else◌}
use Rattle.px_base.specs.declared.graph.Read.{Read}
use Rattle.px_base.specs.declared.program.Fold.{Fold}
use Rattle.px_base.specs.declared.program.Fold.TheVariants.{Least, Greatest, Mex, Count}
use Rattle.px_base.specs.declared.program.Program.{Program}
use Rattle.px_base.specs.declared.program.CoreProgram.{CoreProgram}
use Rattle.px_base.specs.declared.program.Class.TheVariants.{LocallyCorrecting}
use Rattle.px_base.specs.Values.{IsValue, IsWeight, IsValueList, flip}
use Rattle.px_base.specs.Graphs.{RowsFit}
use Rattle.px_base.specs.Classes.{class_of, counts_reads, is_mex, takes_greatest}
use Rattle.px_base.specs.Core.{core_form, core_value, core_edge_value}
use Rattle.px_base.specs.Rules.{edge_value}
use Rattle.px_base.specs.Answers.{IsAsGoodAs, IsGreatestConsistent}
use Rattle.value_laws.specs.EdgeLaws.{core_in_range}
use Rattle.consistent_solver.specs.CoreLists.{IsGreatestCoreConsistent}
use Rattle.consistent_solver.proofs.Below.{value_anywhere}
use Rattle.consistent_solver.proofs.Turning.{at_turned, greatest_turned, no_count, no_mex, turned, turned_values, value_twice}
use Rattle.walk_terms.specs.Walks.{IsWalk, carried, IsCarried, core_carried}
use Rattle.walk_terms.proofs.ReadEnds.{start_inside, weight_fits}
use Rattle.path_laws.proofs.CoreWalks.{core_attained, core_none_better}

-- ---- what becomes of values along a walk

-- a value stays one on each read
edge_in_range : (q : Program) (x w : ℕ) → IsValue x → IsWeight w → IsValue (edge_value q.along x w)
edge_in_range q x w = core_in_range (record { program = q; flipped = false }) x w

carried_is_value : (q : Program) (rows : List (List Read)) (u v x : ℕ) (weights : List ℕ) → RowsFit (length rows) rows → IsWalk rows u v weights → IsValue x →
    IsValue (carried q x weights)
carried_is_value q rows u v x [] fits walk known = known
carried_is_value q rows u v x (w ∷ weights) fits (next, read, rest) known =
    carried_is_value q rows next v (edge_value q.along x w) weights fits rest (edge_in_range q x w known (weight_fits rows next u w fits read))

-- what a value becomes is turned to what its core value becomes
carried_turned : (q : Program) (rows : List (List Read)) (u v x : ℕ) (weights : List ℕ) → RowsFit (length rows) rows → IsWalk rows u v weights → IsValue x →
    core_carried (core_form q) (core_value (core_form q) x) weights ≡ core_value (core_form q) (carried q x weights)
carried_turned q rows u v x [] fits walk known = refl
carried_turned q rows u v x (w ∷ weights) fits (next, read, rest) known =
    let first : core_edge_value (core_form q) (core_value (core_form q) x) w ≡ core_value (core_form q) (edge_value q.along x w) =
    ap (λ y. core_value (core_form q) (edge_value q.along y w)) (value_twice (core_form q) x known) in
    ap (λ y. core_carried (core_form q) y weights) first
    ∙ carried_turned q rows next v (edge_value q.along x w) weights fits rest (edge_in_range q x w known (weight_fits rows next u w fits read))

-- ---- the two orders

better_by : (kind : Fold) (a b : ℕ) → is_mex kind ≡ false → counts_reads kind ≡ false → IsValue b →
    (if takes_greatest kind then flip a else a) ≤ (if takes_greatest kind then flip b else b) → IsAsGoodAs kind a b
better_by Least a b plain uncounted known low = low
better_by Greatest a b plain uncounted known low = omega (arith, low, known)
better_by Mex a b plain uncounted known low = cc
better_by (Count k) a b plain uncounted known low = cc

-- ---- the best of all walks

start_turned : (q : Program) (starts : List ℕ) (n u : ℕ) → IsValueList n starts → u < n → slice_index (turned (core_form q) starts) u ≡ core_value (core_form q) (slice_index starts u)
start_turned q starts n u values inside = at_turned (core_form q) starts u 0 (rw values.one_each inside)

pub none_better : (q : Program) (rows : List (List Read)) (starts x : List ℕ) → class_of q ≡ Ok LocallyCorrecting →
    RowsFit (length rows) rows → IsValueList (length rows) starts → IsGreatestConsistent q rows starts x →
    (u v : ℕ) (weights : List ℕ) → v < length rows → IsWalk rows u v weights → IsAsGoodAs q.fold (slice_index x v) (carried q (slice_index starts u) weights)
none_better q rows starts x class fits valued g u v weights inside walk =
    let core : CoreProgram = core_form q in
    let start : IsValue (slice_index starts u) = value_anywhere (length rows) starts u valued in
    let turned_list : IsGreatestCoreConsistent core rows (turned core starts) (turned core x) = (greatest_turned q rows starts x class fits valued g.consistent.values).0 g in
    let low : slice_index (turned core x) v ≤ core_carried core (slice_index (turned core starts) u) weights =
    core_none_better core rows (turned core starts) (turned core x) u v weights (no_mex q class) fits (turned_values core (length rows) starts valued) turned_list.consistent inside walk in
    let here : slice_index (turned core x) v ≡ core_value core (slice_index x v) = start_turned q x (length rows) v g.consistent.values inside in
    let there : core_carried core (slice_index (turned core starts) u) weights ≡ core_value core (carried q (slice_index starts u) weights) =
    ap (λ y. core_carried core y weights) (start_turned q starts (length rows) u valued (start_inside rows u v weights fits inside walk))
    ∙ carried_turned q rows u v (slice_index starts u) weights fits walk start in
    better_by q.fold (slice_index x v) (carried q (slice_index starts u) weights) (no_mex q class) (no_count q class)
    (carried_is_value q rows u v (slice_index starts u) weights fits walk start) (rw (here, there) at low)

pub attained : (q : Program) (rows : List (List Read)) (starts x : List ℕ) → class_of q ≡ Ok LocallyCorrecting →
    RowsFit (length rows) rows → IsValueList (length rows) starts → IsGreatestConsistent q rows starts x →
    (v : ℕ) → v < length rows → (u : ℕ) × (weights : List ℕ) × IsWalk rows u v weights × (slice_index x v ≡ carried q (slice_index starts u) weights)
attained q rows starts x class fits valued g v inside =
    let core : CoreProgram = core_form q in
    let turned_list : IsGreatestCoreConsistent core rows (turned core starts) (turned core x) = (greatest_turned q rows starts x class fits valued g.consistent.values).0 g in
    let c : IsCarried core rows (turned core starts) (sum (turned core starts)) v (slice_index (turned core x) v) =
    core_attained core rows (turned core starts) (turned core x) v (no_mex q class) fits (turned_values core (length rows) starts valued) turned_list inside in
    let start : IsValue (slice_index starts c.from) = value_anywhere (length rows) starts c.from valued in
    let same : core_value core (slice_index x v) ≡ core_value core (carried q (slice_index starts c.from) c.weights) =
    sym (start_turned q x (length rows) v g.consistent.values inside) ∙ c.is
    ∙ ap (λ y. core_carried core y c.weights) (start_turned q starts (length rows) c.from valued c.inside)
    ∙ carried_turned q rows c.from v (slice_index starts c.from) c.weights fits c.walk start in (
      c.from,
      c.weights,
      c.walk,
      sym (value_twice core (slice_index x v) (value_anywhere (length rows) x v g.consistent.values)) ∙ ap (core_value core) same
          ∙ value_twice core (carried q (slice_index starts c.from) c.weights) (carried_is_value q rows c.from v (slice_index starts c.from) c.weights fits c.walk start),
    )
