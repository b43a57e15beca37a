-- What a locally correcting program makes of a list is what its core form makes of the list turned to core values.
use Rattle.std.proofs.Common.{◌≡◌, ℕ, ◌-◌, ◌^◌, ◌<◌, ◌≤◌, ◌∙◌, min, max, Bool, true, false, List, [], ◌∷◌, length, map, get_or, refl, sym, ap, arith}
use Rattle.std.specs.Prelude.{◌↔◌, slice_index, if◌then◌else◌, Result, Ok, Err}
use Rattle.std.specs.List.{AllByRecursion}
use Rattle.std.proofs.lemmas.Grind.{same_number_lists}
use Rattle.std.proofs.lemmas.List.{length-map, get_or-map, map-id}
use Rattle.std.proofs.lemmas.List.Elements.{recursion_from_All}
use Rattle.px_base.specs.declared.TheConstants.{TOP}
use Rattle.px_base.specs.declared.graph.Read.{Read}
use Rattle.px_base.specs.declared.program.Form.{Form}
use Rattle.px_base.specs.declared.program.Reads.{Reads}
use Rattle.px_base.specs.declared.program.Reads.TheVariants as reads_kind
use Rattle.px_base.specs.declared.program.Start.{Start}
use Rattle.px_base.specs.declared.program.Along.{Along}
use Rattle.px_base.specs.declared.program.Fold.{Fold}
use Rattle.px_base.specs.declared.program.Fold.TheVariants.{Least, Greatest, Mex, Count}
use Rattle.px_base.specs.declared.program.Own.{Own}
use Rattle.px_base.specs.declared.program.Own.TheVariants as own
use Rattle.px_base.specs.declared.program.Program.{Program}
use Rattle.px_base.specs.declared.program.CoreProgram.{CoreProgram}
use Rattle.px_base.specs.declared.program.Class.{Class}
use Rattle.px_base.specs.declared.program.Class.TheVariants.{GloballyCorrecting, LocallyCorrecting}
use Rattle.px_base.specs.declared.program.Refused.{Refused}
use Rattle.px_base.specs.declared.program.Refused.TheVariants.{CountForm}
use Rattle.px_base.specs.Values.{IsValue, IsValueList, flip}
use Rattle.px_base.specs.Graphs.{RowsFit, row_at}
use Rattle.px_base.specs.Classes.{class_of, counts_reads, is_core_form, is_mex, keeps}
use Rattle.px_base.specs.Core.{core_form, core_value, core_edge_value, core_gather}
use Rattle.px_base.specs.Rules.{edge_value, edge_values, gather, greatest, least, pull}
use Rattle.px_base.specs.Answers.{IsAsGoodAs, IsConsistent, IsFixedPoint, IsGreatestConsistent}
use Rattle.px_base.proofs.Gathers.{least_below_start}
use Rattle.value_laws.specs.EdgeLaws.{core_in_range}
use Rattle.consistent_solver.specs.CoreLists.{IsCoreConsistent, IsGreatestCoreConsistent, gathered_at, renewed_times}
use Rattle.consistent_solver.proofs.Below.{value_anywhere}
use Rattle.consistent_solver.proofs.Reaching.{greatest_fixed, reached}

-- ---- the programs of the class

abbrev p : Form → Reads → Start → Along → Fold → Own → Program
p form reads start along fold own = record { form = form; reads = reads; start = start; along = along; fold = fold; own = own }

-- What the fold of a locally correcting program does to values that are turned to core values.
record Turns (q : Program) : Type 0 where
  kept : keeps q.own ≡ true
  plain : is_mex q.fold ≡ false
  uncounted : counts_reads q.fold ≡ false
  better : (a b : ℕ) → IsValue a → IsValue b → IsAsGoodAs q.fold a b ↔ (core_value (core_form q) a ≤ core_value (core_form q) b)
  gathers : (s : ℕ) (items : List ℕ) → core_gather (core_form q) (core_value (core_form q) s) (map (core_value (core_form q)) items) ≡ core_value (core_form q) (gather q.fold s items)
  in_range : (s : ℕ) (items : List ℕ) → IsValue s → AllByRecursion IsValue items → IsValue (gather q.fold s items)

greatest_flipped : (s : ℕ) (items : List ℕ) → least (flip s) (map flip items) ≡ flip (greatest s items)
greatest_flipped s [] = refl
greatest_flipped s (x ∷ xs) = ap (λ start. least start (map flip xs)) (lesser s x) ∙ greatest_flipped (max s x) xs
  where
    lesser : (a b : ℕ) → min (TOP - a) (TOP - b) ≡ TOP - max a b
    lesser a b = omega arith

greatest_in_range : (s : ℕ) (items : List ℕ) → IsValue s → AllByRecursion IsValue items → IsValue (greatest s items)
greatest_in_range s [] known each = known
greatest_in_range s (x ∷ xs) known each = greatest_in_range (max s x) xs (omega (arith, known, each.0)) each.1

least_turns : (form : Form) (reads : Reads) (start : Start) (along : Along) → Turns (p form reads start along Least own.Keep)
least_turns form reads start along = record {
  kept = refl;
  plain = refl;
  uncounted = refl;
  better = λ a b ha hb. (λ h. h, λ h. h);
  gathers = λ s items. ap (least s) (map-id items);
  in_range = λ s items known each. omega (arith, known, least_below_start s items);
}

greatest_turns : (form : Form) (reads : Reads) (start : Start) (along : Along) → Turns (p form reads start along Greatest own.Keep)
greatest_turns form reads start along = record {
  kept = refl;
  plain = refl;
  uncounted = refl;
  better = λ a b ha hb. (λ h. omega (arith, h), λ h. omega (arith, h, ha, hb));
  gathers = greatest_flipped;
  in_range = greatest_in_range;
}

abbrev locally : Result Class Refused
locally = Ok LocallyCorrecting

counted_out : (b : Bool) → (if b then Ok GloballyCorrecting else Err CountForm) ≡ locally → ⊥
counted_out true h = cc
counted_out false h = cc

turns_by : (form : Form) (reads : Reads) (start : Start) (along : Along) (fold : Fold) (own : Own) → class_of (p form reads start along fold own) ≡ Ok LocallyCorrecting → Turns (p form reads start along fold own)
turns_by form reads start along Least own.Keep h = least_turns form reads start along
turns_by form reads start along Greatest own.Keep h = greatest_turns form reads start along
turns_by form reads_kind.All start along Least own.Drop h = cc
turns_by form (reads_kind.Earlier rank) start along Least own.Drop h = cc
turns_by form reads_kind.All start along Greatest own.Drop h = cc
turns_by form (reads_kind.Earlier rank) start along Greatest own.Drop h = cc
turns_by form reads start along Mex own.Keep h = cc
turns_by form reads_kind.All start along Mex own.Drop h = cc
turns_by form (reads_kind.Earlier rank) start along Mex own.Drop h = cc
turns_by form reads start along (Count k) own h = absurd (counted_out (is_core_form (p form reads start along (Count k) own)) h)

turns : (q : Program) → class_of q ≡ Ok LocallyCorrecting → Turns q
turns q = turns_by q.form q.reads q.start q.along q.fold q.own

pub keeps_own : (q : Program) → class_of q ≡ Ok LocallyCorrecting → keeps q.own ≡ true
keeps_own q class = (turns q class).kept

pub no_mex : (q : Program) → class_of q ≡ Ok LocallyCorrecting → is_mex q.fold ≡ false
no_mex q class = (turns q class).plain

pub no_count : (q : Program) → class_of q ≡ Ok LocallyCorrecting → counts_reads q.fold ≡ false
no_count q class = (turns q class).uncounted

-- ---- lists that are turned

-- the list in core values, and as well the program's values of a list of core values
abbrev pub turned : CoreProgram → List ℕ → List ℕ
turned core x = map (core_value core) x

twice_by : (b : Bool) (x : ℕ) → IsValue x → (if b then flip (if b then flip x else x) else (if b then flip x else x)) ≡ x
twice_by true x known = omega (arith, known)
twice_by false x known = refl

-- a value that is turned twice is the same
pub value_twice : (core : CoreProgram) (x : ℕ) → IsValue x → core_value core (core_value core x) ≡ x
value_twice core x known = twice_by core.flipped x known

turned_by : (b : Bool) (x : ℕ) → IsValue x → IsValue (if b then flip x else x)
turned_by true x known = omega arith
turned_by false x known = known

pub value_turned : (core : CoreProgram) (x : ℕ) → IsValue x → IsValue (core_value core x)
value_turned core x known = turned_by core.flipped x known

pub at_turned : (core : CoreProgram) (x : List ℕ) (v d : ℕ) → v < length x → get_or (turned core x) v d ≡ core_value core (slice_index x v)
at_turned core x v d inside = get_or-map (core_value core) x v 0 d inside

pub turned_values : (core : CoreProgram) (n : ℕ) (x : List ℕ) → IsValueList n x → IsValueList n (turned core x)
turned_values core n x values = record {
  one_each = length-map x (core_value core) ∙ values.one_each;
  in_range = λ v d below.
      let inside : v < length x = rw (length-map x (core_value core)) at below in
      rw (at_turned core x v d inside) (value_turned core (slice_index x v) (values.in_range v 0 inside));
}

pub turned_twice : (core : CoreProgram) (n : ℕ) (x : List ℕ) → IsValueList n x → turned core (turned core x) ≡ x
turned_twice core n x values = same_number_lists (turned core (turned core x)) x (length-map (turned core x) (core_value core) ∙ length-map x (core_value core)) (λ v below.
    let within : v < length (turned core x) = rw (length-map (turned core x) (core_value core)) at below in
    let inside : v < length x = rw (length-map x (core_value core)) at within in
    at_turned core (turned core x) v 0 within ∙ ap (core_value core) (at_turned core x v 0 inside) ∙ value_twice core (slice_index x v) (values.in_range v 0 inside))

-- ---- what is gathered

items_turned : (core : CoreProgram) (n : ℕ) (x : List ℕ) (row : List Read) → IsValueList n x → AllByRecursion (λ r. r.source < n) row →
    map (λ r. core_edge_value core (slice_index (turned core x) r.source) r.weight) row ≡ map (core_value core) (edge_values core.program.along x row)
items_turned core n x [] values sources = refl
items_turned core n x (r ∷ row) values sources =
    let inside : r.source < length x = rw values.one_each sources.0 in
    let first : core_edge_value core (slice_index (turned core x) r.source) r.weight ≡ core_value core (edge_value core.program.along (slice_index x r.source) r.weight) =
    ap (λ z. core_edge_value core z r.weight) (at_turned core x r.source 0 inside)
    ∙ ap (λ z. core_value core (edge_value core.program.along z r.weight)) (value_twice core (slice_index x r.source) (values.in_range r.source 0 inside)) in
    let rest : map (λ s. core_edge_value core (slice_index (turned core x) s.source) s.weight) row ≡ map (core_value core) (edge_values core.program.along x row) =
    items_turned core n x row values sources.1 in
    ap (λ item. item ∷ map (λ s. core_edge_value core (slice_index (turned core x) s.source) s.weight) row) first
    ∙ ap (λ items. core_value core (edge_value core.program.along (slice_index x r.source) r.weight) ∷ items) rest

gathered_turned : (q : Program) (rows : List (List Read)) (starts x : List ℕ) (v : ℕ) → class_of q ≡ Ok LocallyCorrecting → RowsFit (length rows) rows → IsValueList (length rows) starts →
    IsValueList (length rows) x → v < length rows →
    gathered_at (core_form q) rows (turned (core_form q) starts) (turned (core_form q) x) v ≡ core_value (core_form q) (pull q rows starts x v)
gathered_turned q rows starts x v class fits valued values inside =
    ap (λ start. core_gather (core_form q) start (map (λ r. core_edge_value (core_form q) (slice_index (turned (core_form q) x) r.source) r.weight) (row_at rows v)))
    (at_turned (core_form q) starts v 0 (rw valued.one_each inside))
    ∙ ap (core_gather (core_form q) (core_value (core_form q) (slice_index starts v)))
    (items_turned (core_form q) (length rows) x (row_at rows v) values (recursion_from_All (λ r. r.source < length rows) (row_at rows v) (fits.sources v [] inside)))
    ∙ (turns q class).gathers (slice_index starts v) (edge_values q.along x (row_at rows v))

edges_in_range : (q : Program) (n : ℕ) (x : List ℕ) (row : List Read) → IsValueList n x → AllByRecursion (λ r. r.weight < 2 ^ 32) row → AllByRecursion IsValue (edge_values q.along x row)
edges_in_range q n x [] values weights = tt
edges_in_range q n x (r ∷ row) values weights =
    (core_in_range (record { program = q; flipped = false }) (slice_index x r.source) r.weight (value_anywhere n x r.source values) weights.0, edges_in_range q n x row values weights.1)

-- what a vertex gathers is a value
pull_in_range : (q : Program) (rows : List (List Read)) (starts x : List ℕ) (v : ℕ) → class_of q ≡ Ok LocallyCorrecting → RowsFit (length rows) rows → IsValueList (length rows) starts →
    IsValueList (length rows) x → v < length rows → IsValue (pull q rows starts x v)
pull_in_range q rows starts x v class fits valued values inside =
    (turns q class).in_range (slice_index starts v) (edge_values q.along x (row_at rows v)) (value_anywhere (length rows) starts v valued)
    (edges_in_range q (length rows) x (row_at rows v) values (recursion_from_All (λ r. r.weight < 2 ^ 32) (row_at rows v) (fits.weights v [] inside)))

-- ---- consistent lists

to_core : (q : Program) (rows : List (List Read)) (starts x : List ℕ) → class_of q ≡ Ok LocallyCorrecting → RowsFit (length rows) rows → IsValueList (length rows) starts →
    IsConsistent q rows starts x → IsCoreConsistent (core_form q) rows (turned (core_form q) starts) (turned (core_form q) x)
to_core q rows starts x class fits valued c = record {
  values = turned_values (core_form q) (length rows) x c.values;
  each = λ v inside.
      rw (at_turned (core_form q) x v 0 (rw c.values.one_each inside), gathered_turned q rows starts x v class fits valued c.values inside)
      (((turns q class).better (slice_index x v) (pull q rows starts x v) (value_anywhere (length rows) x v c.values) (pull_in_range q rows starts x v class fits valued c.values inside)).0 (c.each v inside));
}

from_core : (q : Program) (rows : List (List Read)) (starts x : List ℕ) → class_of q ≡ Ok LocallyCorrecting → RowsFit (length rows) rows → IsValueList (length rows) starts → IsValueList (length rows) x →
    IsCoreConsistent (core_form q) rows (turned (core_form q) starts) (turned (core_form q) x) → IsConsistent q rows starts x
from_core q rows starts x class fits valued values c = record {
  values = values;
  each = λ v inside.
      ((turns q class).better (slice_index x v) (pull q rows starts x v) (value_anywhere (length rows) x v values) (pull_in_range q rows starts x v class fits valued values inside)).1
      (rw (at_turned (core_form q) x v 0 (rw values.one_each inside), gathered_turned q rows starts x v class fits valued values inside) at (c.each v inside));
}

pub consistent_turned : (q : Program) (rows : List (List Read)) (starts x : List ℕ) → class_of q ≡ Ok LocallyCorrecting → RowsFit (length rows) rows → IsValueList (length rows) starts → IsValueList (length rows) x →
    IsConsistent q rows starts x ↔ IsCoreConsistent (core_form q) rows (turned (core_form q) starts) (turned (core_form q) x)
consistent_turned q rows starts x class fits valued values = (to_core q rows starts x class fits valued, from_core q rows starts x class fits valued values)

-- ---- the greatest one

greatest_to_core : (q : Program) (rows : List (List Read)) (starts x : List ℕ) → class_of q ≡ Ok LocallyCorrecting → RowsFit (length rows) rows → IsValueList (length rows) starts →
    IsGreatestConsistent q rows starts x → IsGreatestCoreConsistent (core_form q) rows (turned (core_form q) starts) (turned (core_form q) x)
greatest_to_core q rows starts x class fits valued g = record {
  consistent = to_core q rows starts x class fits valued g.consistent;
  greatest = λ y c v inside.
      let values : IsValueList (length rows) (turned (core_form q) y) = turned_values (core_form q) (length rows) y c.values in
      let back : turned (core_form q) (turned (core_form q) y) ≡ y = turned_twice (core_form q) (length rows) y c.values in
      let consistent : IsConsistent q rows starts (turned (core_form q) y) = from_core q rows starts (turned (core_form q) y) class fits valued values (rw back c) in
      let low : core_value (core_form q) (slice_index (turned (core_form q) y) v) ≤ core_value (core_form q) (slice_index x v) =
      ((turns q class).better (slice_index (turned (core_form q) y) v) (slice_index x v) (value_anywhere (length rows) (turned (core_form q) y) v values) (value_anywhere (length rows) x v g.consistent.values)).0
      (g.greatest (turned (core_form q) y) consistent v inside) in
      let here : slice_index y v ≡ core_value (core_form q) (slice_index (turned (core_form q) y) v) =
      ap (λ l. slice_index l v) (sym back) ∙ at_turned (core_form q) (turned (core_form q) y) v 0 (rw values.one_each inside) in
      rw (here, at_turned (core_form q) x v 0 (rw g.consistent.values.one_each inside)) low;
}

greatest_from_core : (q : Program) (rows : List (List Read)) (starts x : List ℕ) → class_of q ≡ Ok LocallyCorrecting → RowsFit (length rows) rows → IsValueList (length rows) starts → IsValueList (length rows) x →
    IsGreatestCoreConsistent (core_form q) rows (turned (core_form q) starts) (turned (core_form q) x) → IsGreatestConsistent q rows starts x
greatest_from_core q rows starts x class fits valued values g = record {
  consistent = from_core q rows starts x class fits valued values g.consistent;
  greatest = λ y c v inside.
      ((turns q class).better (slice_index y v) (slice_index x v) (value_anywhere (length rows) y v c.values) (value_anywhere (length rows) x v values)).1
      (rw (at_turned (core_form q) y v 0 (rw c.values.one_each inside), at_turned (core_form q) x v 0 (rw values.one_each inside)) at
      (g.greatest (turned (core_form q) y) (to_core q rows starts y class fits valued c) v inside));
}

pub greatest_turned : (q : Program) (rows : List (List Read)) (starts x : List ℕ) → class_of q ≡ Ok LocallyCorrecting → RowsFit (length rows) rows → IsValueList (length rows) starts → IsValueList (length rows) x →
    IsGreatestConsistent q rows starts x ↔ IsGreatestCoreConsistent (core_form q) rows (turned (core_form q) starts) (turned (core_form q) x)
greatest_turned q rows starts x class fits valued values = (greatest_to_core q rows starts x class fits valued, greatest_from_core q rows starts x class fits valued values)

-- the greatest consistent list in core values, turned, is that of the program
pub greatest_from : (q : Program) (rows : List (List Read)) (starts x : List ℕ) → class_of q ≡ Ok LocallyCorrecting → RowsFit (length rows) rows → IsValueList (length rows) starts →
    IsGreatestCoreConsistent (core_form q) rows (turned (core_form q) starts) x → IsGreatestConsistent q rows starts (turned (core_form q) x)
greatest_from q rows starts x class fits valued g =
    let back : turned (core_form q) (turned (core_form q) x) ≡ x = turned_twice (core_form q) (length rows) x g.consistent.values in
    greatest_from_core q rows starts (turned (core_form q) x) class fits valued (turned_values (core_form q) (length rows) x g.consistent.values) (rw back g)

-- it is reached from the starts
pub program_reached : (q : Program) (rows : List (List Read)) (starts : List ℕ) → class_of q ≡ Ok LocallyCorrecting → RowsFit (length rows) rows → IsValueList (length rows) starts →
    (times : ℕ) × IsGreatestConsistent q rows starts (turned (core_form q) (renewed_times times (core_form q) rows (turned (core_form q) starts) (turned (core_form q) starts)))
program_reached q rows starts class fits valued =
    (let end = reached (core_form q) rows (turned (core_form q) starts) (no_mex q class) (turned_values (core_form q) (length rows) starts valued) in
    (end.0, greatest_from q rows starts (renewed_times end.0 (core_form q) rows (turned (core_form q) starts) (turned (core_form q) starts)) class fits valued end.1))

pub program_exists : (q : Program) (rows : List (List Read)) (starts : List ℕ) → class_of q ≡ Ok LocallyCorrecting → RowsFit (length rows) rows → IsValueList (length rows) starts →
    (x : List ℕ) × IsGreatestConsistent q rows starts x
program_exists q rows starts class fits valued =
    (let end = program_reached q rows starts class fits valued in
    (turned (core_form q) (renewed_times end.0 (core_form q) rows (turned (core_form q) starts) (turned (core_form q) starts)), end.1))

-- and a fixed point of the pull
pub program_fixed : (q : Program) (rows : List (List Read)) (starts x : List ℕ) → class_of q ≡ Ok LocallyCorrecting → RowsFit (length rows) rows → IsValueList (length rows) starts →
    IsGreatestConsistent q rows starts x → IsFixedPoint q rows starts x
program_fixed q rows starts x class fits valued g = record {
  values = g.consistent.values;
  each = λ v inside.
      let turned_same : slice_index (turned (core_form q) x) v ≡ gathered_at (core_form q) rows (turned (core_form q) starts) (turned (core_form q) x) v =
      greatest_fixed (core_form q) rows (turned (core_form q) starts) (turned (core_form q) x) (no_mex q class) (turned_values (core_form q) (length rows) starts valued)
      (greatest_to_core q rows starts x class fits valued g) v inside in
      let same : core_value (core_form q) (slice_index x v) ≡ core_value (core_form q) (pull q rows starts x v) =
      sym (at_turned (core_form q) x v 0 (rw g.consistent.values.one_each inside)) ∙ turned_same ∙ gathered_turned q rows starts x v class fits valued g.consistent.values inside in
      sym (value_twice (core_form q) (slice_index x v) (value_anywhere (length rows) x v g.consistent.values))
      ∙ ap (core_value (core_form q)) same
      ∙ value_twice (core_form q) (pull q rows starts x v) (pull_in_range q rows starts x v class fits valued g.consistent.values inside);
}
