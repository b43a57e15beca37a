-- In a quiet state of a self-stabilising program the masters of all worlds are the core answer.
use Rattle.std.proofs.Common.{◌≡◌, ℕ, ◌+◌, ◌-◌, ◌<◌, min, max, Bool, true, false, List, [], ◌∷◌, Some, length, map, get_or, arith, refl, sym, ap, subst, ◌∙◌}
use Rattle.std.specs.Prelude.{slice_index, Result, Ok, Err, MatchResult, if◌then◌else◌}
use Rattle.std.specs.List.{AllByRecursion}
use Rattle.std.proofs.lemmas.List.{length-map}
use Rattle.std.proofs.lemmas.List.Elements.{recursion_from_All}
use Rattle.px_base.specs.declared.TheConstants.{TOP}
use Rattle.px_base.specs.declared.graph.Part.{Part}
use Rattle.px_base.specs.declared.graph.Read.{Read}
use Rattle.px_base.specs.declared.program.CoreProgram.{CoreProgram}
use Rattle.px_base.specs.declared.program.Program.{Program}
use Rattle.px_base.specs.declared.program.Reads.{Reads}
use Rattle.px_base.specs.declared.program.Form.{Form}
use Rattle.px_base.specs.declared.program.Start.{Start}
use Rattle.px_base.specs.declared.program.Along.{Along}
use Rattle.px_base.specs.declared.program.Own.{Own}
use Rattle.px_base.specs.declared.program.Own.TheVariants as own
use Rattle.px_base.specs.declared.program.Fold.{Fold}
use Rattle.px_base.specs.declared.program.Fold.TheVariants.{Least, Greatest, Mex, Count}
use Rattle.px_base.specs.declared.program.Class.{Class}
use Rattle.px_base.specs.declared.program.Class.TheVariants.{SelfStabilising, LocallyCorrecting, GloballyCorrecting}
use Rattle.px_base.specs.declared.program.Refused.{Refused}
use Rattle.px_base.specs.declared.program.Refused.TheVariants.{CountForm, Improves}
use Rattle.px_base.specs.Values.{IsValue, IsValueList, flip}
use Rattle.px_base.specs.Graphs.{row_at}
use Rattle.px_base.specs.Classes.{class_of, counts_reads, keeps, is_core_form, takes_greatest, may_lower, may_raise}
use Rattle.px_base.specs.Core.{core_edge_value, core_gather, core_pull, core_value}
use Rattle.px_base.specs.Rules.{edge_values, gather, least, greatest, pull}
use Rattle.px_base.specs.Answers.{IsFixedPoint}
use Rattle.px_base.specs.Parts.{is_master, low_of, high_of}
use Rattle.px_base.specs.Pulls.{known_value, master_pull}
use Rattle.px_base.specs.Worlds.{ValueWorld, of_values}
use Rattle.px_base.specs.ValueSteps.{renewed_value, renewed_masters}
use Rattle.px_base.proofs.Positions.{at_position}
use Rattle.px_base.proofs.OneFixed.{one_fixed}
use Rattle.partitioner.proofs.Owned.{an_owner}
use Rattle.partitioner.proofs.Boundaries.{within}
use Rattle.consistent_solver.proofs.Turning.{turned, turned_values, turned_twice, at_turned, value_twice}
use Rattle.ordered_solver.proofs.Pulled.{pull_in_range}
use Rattle.hub_terms.specs.Hubs.{worker_count, is_quiet_hub}
use Rattle.hub_terms.specs.Jobs.{RowsSuit}
use Rattle.hub_terms.specs.Systems.{SystemState, world_at}
use Rattle.hub_terms.specs.InStep.{IsInStep}
use Rattle.hub_terms.specs.Valid.{IsCoreAnswer}
use Rattle.list_laws.proofs.Ranges.{at_range}
use Rattle.quiet_laws.proofs.Quiet.{idle_worker, its_world, all_masters, at_all, valued, known_is_all}

-- ---- what a self-stabilising program does

-- it drops the own value, and doesn't count
pub record Stabilises (q : Program) : Type 0 where
  pub drops : keeps q.own ≡ false
  pub uncounted : counts_reads q.fold ≡ false

counted_out : (b : Bool) → (if b then Ok GloballyCorrecting else Err CountForm) ≡ Ok SelfStabilising → ⊥
counted_out true h = cc h
counted_out false h = cc h

abbrev p : Form → Reads → Start → Along → Fold → Own → Program
p form reads start along fold own = record { form = form; reads = reads; start = start; along = along; fold = fold; own = own }

kept_out : (b c : Bool) → (if b then Err (Improves 1 0) else if c then Err (Improves 0 1) else Ok LocallyCorrecting) ≡ Ok SelfStabilising → ⊥
kept_out true c h = cc h
kept_out false true h = cc h
kept_out false false h = cc h

stabilises_by : (form : Form) (reads : Reads) (start : Start) (along : Along) (fold : Fold) (own : Own) → class_of (p form reads start along fold own) ≡ Ok SelfStabilising → Stabilises (p form reads start along fold own)
stabilises_by form reads start along (Count k) own h = absurd (counted_out (is_core_form (p form reads start along (Count k) own)) h)
stabilises_by form reads start along Least own.Drop h = record { drops = refl; uncounted = refl }
stabilises_by form reads start along Greatest own.Drop h = record { drops = refl; uncounted = refl }
stabilises_by form reads start along Mex own.Drop h = record { drops = refl; uncounted = refl }
stabilises_by form reads start along Mex own.Keep h = absurd (cc h)
stabilises_by form reads start along Least own.Keep h = absurd (kept_out (may_lower along) false h)
stabilises_by form reads start along Greatest own.Keep h = absurd (kept_out false (may_raise along) h)

pub stabilises : (q : Program) → class_of q ≡ Ok SelfStabilising → Stabilises q
stabilises q h = stabilises_by q.form q.reads q.start q.along q.fold q.own h

-- ---- core values and values of the program

same_items : (core : CoreProgram) (f g : ℕ → ℕ) (row : List Read) → AllByRecursion (λ r. f r.source ≡ g r.source) row → map (λ r. core_edge_value core (f r.source) r.weight) row ≡ map (λ r. core_edge_value core (g r.source) r.weight) row
same_items core f g [] h = refl
same_items core f g (r ∷ row) h = rw (h.0, same_items core f g row h.1) refl

-- the core edge values of a list are the edge values of the list turned back, turned
items_turned : (core : CoreProgram) (n : ℕ) (x : List ℕ) (row : List Read) → IsValueList n x → AllByRecursion (λ r. r.source < n) row →
    map (λ r. core_edge_value core (slice_index x r.source) r.weight) row ≡ map (core_value core) (edge_values core.program.along (turned core x) row)
items_turned core n x [] values sources = refl
items_turned core n x (r ∷ row) values sources =
    let inside : r.source < length x = rw values.one_each sources.0 in
    rw (at_turned core x r.source 0 inside, items_turned core n x row values sources.1) refl

greatest_flipped : (s : ℕ) (items : List ℕ) → least (flip s) (map flip items) ≡ flip (greatest s items)
greatest_flipped s [] = refl
greatest_flipped s (x ∷ xs) = ap (λ start. least start (map flip xs)) (lesser s x) ∙ greatest_flipped (max s x) xs
  where
    lesser : (a b : ℕ) → min (TOP - a) (TOP - b) ≡ TOP - max a b
    lesser a b = omega arith

same_each : (core : CoreProgram) (xs : List ℕ) → core.flipped ≡ false → map (core_value core) xs ≡ xs
same_each core [] plain = refl
same_each core (x ∷ xs) plain = let first : core_value core x ≡ x = rw plain refl in rw (first, same_each core xs plain) refl

-- what is gathered from values of the program, turned, is what is gathered from these turned
gathers_turned : (f : Fold) (core : CoreProgram) (s : ℕ) (items : List ℕ) → core.program.fold ≡ f → core.flipped ≡ takes_greatest f → counts_reads f ≡ false →
    core_gather core (core_value core s) (map (core_value core) items) ≡ core_value core (gather f s items)
gathers_turned Least core s items fold flipped h = ap (core_gather core (core_value core s)) (same_each core items flipped) ∙ rw (fold, flipped) refl
gathers_turned Greatest core s items fold flipped h = rw (fold, flipped) (greatest_flipped s items)
gathers_turned Mex core s items fold flipped h = ap (core_gather core (core_value core s)) (same_each core items flipped) ∙ rw (fold, flipped) refl
gathers_turned (Count k) core s items fold flipped h = cc

-- ---- where all is quiet

module _ (s : SystemState) (ok : IsInStep s) (class : class_of s.job.core.program ≡ Ok SelfStabilising) (told : s.told ≡ true) (quiet : is_quiet_hub s.hub ≡ true) where
  does : Stabilises s.job.core.program
  does = stabilises s.job.core.program class

  abbrev q : Program
  q = s.job.core.program

  abbrev core : CoreProgram
  core = s.job.core

  abbrev cuts : List ℕ
  cuts = s.hub.inboxes.cuts

  abbrev n : ℕ
  n = length s.job.rows

  abbrev whole : List ℕ
  whole = all_masters s ok (stabilises s.job.core.program class).uncounted told quiet

  whole_values : IsValueList n whole
  whole_values = valued s ok (stabilises s.job.core.program class).uncounted told quiet

  -- each master has what it gathers from all
  gathers : (i k : ℕ) (inside : i < worker_count s.hub) (u : ValueWorld) (mine : world_at s i ≡ Some (of_values u)) → k < length u.masters → slice_index u.masters k ≡ core_pull core (slice_index whole) (slice_index s.job.starts (low_of cuts i + k)) (row_at s.job.rows (low_of cuts i + k))
  gathers i k inside u mine there =
      let of_part = (ok.worlds i (of_values u) mine).of_part in
      let idle = idle_worker s ok quiet i inside in
      let still : renewed_masters u.part u.core u.masters u.mirrors ≡ u.masters = ok.settled i (of_values u) mine idle.due idle.unchanged in
      let room : k < length u.part.rows = omega (arith, there, of_part.3.masters.one_each, of_part.3.part.rows) in
      let dropped : keeps u.core.program.own ≡ false = rw of_part.2 does.drops in
      let renewed : slice_index (renewed_masters u.part u.core u.masters u.mirrors) k ≡ master_pull u.part u.core u.masters u.mirrors k =
      at_position (length u.part.rows) (λ l. renewed_value u.core (slice_index u.masters l) (master_pull u.part u.core u.masters u.mirrors l)) k 0 room ∙ rw dropped refl in
      let same : slice_index u.masters k ≡ slice_index (renewed_masters u.part u.core u.masters u.mirrors) k = ap (λ (ms : List ℕ). slice_index ms k) (sym still) in
      let few : k < high_of cuts i - low_of cuts i = omega (arith, room, of_part.3.part.rows, ap (λ (p : Part). p.low) of_part.1, ap (λ (p : Part). p.high) of_part.1) in
      let row : row_at u.part.rows k ≡ row_at s.job.rows (low_of cuts i + k) = ap (λ (p : Part). row_at p.rows k) of_part.1 ∙ at_range s.job.rows (low_of cuts i) (high_of cuts i) k [] few in
      let start : slice_index u.part.starts k ≡ slice_index s.job.starts (low_of cuts i + k) = ap (λ (p : Part). slice_index p.starts k) of_part.1 ∙ at_range s.job.starts (low_of cuts i) (high_of cuts i) k 0 few in
      let items : map (λ r. core_edge_value u.core (known_value u.part u.masters u.mirrors r.source) r.weight) (row_at u.part.rows k) ≡ map (λ r. core_edge_value u.core (slice_index whole r.source) r.weight) (row_at u.part.rows k) =
      same_items u.core (known_value u.part u.masters u.mirrors) (slice_index whole) (row_at u.part.rows k)
      (recursion_from_All (λ (r : Read). known_value u.part u.masters u.mirrors r.source ≡ slice_index whole r.source) (row_at u.part.rows k)
      (λ m d in_row. known_is_all s ok does.uncounted told quiet i inside u mine (get_or (row_at u.part.rows k) m d).source (of_part.3.part.sources k [] room m d in_row))) in
      let all : slice_index u.masters k ≡ core_pull u.core (slice_index whole) (slice_index u.part.starts k) (row_at u.part.rows k) = same ∙ (renewed ∙ ap (core_gather u.core (slice_index u.part.starts k)) items) in
      rw (row, start, of_part.2) at all

  at_vertex : (v : ℕ) → v < n → slice_index whole v ≡ core_pull core (slice_index whole) (slice_index s.job.starts v) (row_at s.job.rows v)
  at_vertex v inner =
      let o = an_owner n cuts v ok.job.cuts.cut inner in
      let master : is_master cuts o.0 v ≡ true = within (low_of cuts o.0) (high_of cuts o.0) v o.1.from o.1.to in
      let w = its_world s ok does.uncounted told quiet o.0 o.1.below in
      let of_part = (ok.worlds o.0 (of_values w.0) w.1).of_part in
      let lows : w.0.part.low ≡ low_of cuts o.0 = ap (λ (p : Part). p.low) of_part.1 in
      let highs : w.0.part.high ≡ high_of cuts o.0 = ap (λ (p : Part). p.high) of_part.1 in
      let room : v - low_of cuts o.0 < length w.0.masters = omega (arith, of_part.3.masters.one_each, lows, highs, o.1.from, o.1.to) in
      let back : low_of cuts o.0 + (v - low_of cuts o.0) ≡ v = omega (arith, o.1.from) in
      at_all s ok does.uncounted told quiet o.0 v w.0 o.1.below master w.1
      ∙ subst (λ (x : ℕ). slice_index w.0.masters (v - low_of cuts o.0) ≡ core_pull core (slice_index whole) (slice_index s.job.starts x) (row_at s.job.rows x)) back (gathers o.0 (v - low_of cuts o.0) o.1.below w.0 w.1 room)

  -- turned back, the list is fixed
  is_fixed : IsFixedPoint q s.job.rows (turned core s.job.starts) (turned core whole)
  is_fixed = record {
    values = turned_values core n whole whole_values;
    each = λ v inner.
        (let inside : v < length whole = rw whole_values.one_each inner in
        let started : v < length s.job.starts = rw ok.job.sound.starts.one_each inner in
        let start : slice_index s.job.starts v ≡ core_value core (slice_index (turned core s.job.starts) v) =
        sym (ap (core_value core) (at_turned core s.job.starts v 0 started) ∙ value_twice core (slice_index s.job.starts v) (ok.job.sound.starts.in_range v 0 started)) in
        let items = items_turned core n whole (row_at s.job.rows v) whole_values (recursion_from_All (λ (r : Read). r.source < n) (row_at s.job.rows v) (ok.job.sound.rows.sources v [] inner)) in
        let gathered : core_pull core (slice_index whole) (slice_index s.job.starts v) (row_at s.job.rows v) ≡ core_value core (pull q s.job.rows (turned core s.job.starts) (turned core whole) v) =
        ap (core_gather core (slice_index s.job.starts v)) items
        ∙ (ap (λ (x : ℕ). core_gather core x (map (core_value core) (edge_values q.along (turned core whole) (row_at s.job.rows v)))) start
        ∙ gathers_turned q.fold core (slice_index (turned core s.job.starts) v) (edge_values q.along (turned core whole) (row_at s.job.rows v)) refl (ap (λ (c : CoreProgram). c.flipped) ok.job.sound.core) does.uncounted) in
        let turned_here : slice_index (turned core whole) v ≡ core_value core (slice_index whole v) = at_turned core whole v 0 inside in
        let twice : core_value core (core_value core (pull q s.job.rows (turned core s.job.starts) (turned core whole) v)) ≡ core_value core (slice_index whole v) = ap (core_value core) (sym (at_vertex v inner ∙ gathered)) in
        turned_here ∙ (sym twice ∙ value_twice core (pull q s.job.rows (turned core s.job.starts) (turned core whole) v) (pulled v inner)));
  }
    where
      pulled : (v : ℕ) → v < n → IsValue (pull q s.job.rows (turned core s.job.starts) (turned core whole) v)
      pulled v inner = pull_in_range q s.job.rows (turned core s.job.starts) (turned core whole) v ok.job.sound.rows.weights ok.job.sound.reads
          (turned_values core n s.job.starts ok.job.sound.starts).in_range (turned_values core n whole whole_values).in_range

  -- so it is the answer, and each master has its value
  pub quiet_fixed : (answer : List ℕ) → IsCoreAnswer s.job answer → (i k : ℕ) (u : ValueWorld) → i < worker_count s.hub → world_at s i ≡ Some (of_values u) → k < length u.masters → slice_index u.masters k ≡ slice_index answer (low_of cuts i + k)
  quiet_fixed answer is i k u inside mine there =
      let given : IsFixedPoint q s.job.rows (turned core s.job.starts) (turned core answer) = rw class at is.answer in
      let ordered = subst (λ (r : Result Class Refused). MatchResult r (λ class. RowsSuit class s.job.rows) (λ refused. ⊥)) class ok.job.sound.suit in
      let same : turned core whole ≡ turned core answer = one_fixed q s.job.rows (turned core s.job.starts) (turned core whole) (turned core answer) ordered is_fixed given in
      let sized : length answer ≡ n = sym (length-map answer (core_value core)) ∙ given.values.one_each in
      let whole_is : whole ≡ answer = sym (turned_twice core n whole whole_values) ∙ (ap (turned core) same ∙ turned_twice core n answer (record { one_each = sized; in_range = is.values })) in
      let of_part = (ok.worlds i (of_values u) mine).of_part in
      let lows : u.part.low ≡ low_of cuts i = ap (λ (p : Part). p.low) of_part.1 in
      let highs : u.part.high ≡ high_of cuts i = ap (λ (p : Part). p.high) of_part.1 in
      let few : low_of cuts i + k < high_of cuts i = omega (arith, there, of_part.3.masters.one_each, lows, highs) in
      let master : is_master cuts i (low_of cuts i + k) ≡ true = within (low_of cuts i) (high_of cuts i) (low_of cuts i + k) (omega arith) few in
      let place : low_of cuts i + k - low_of cuts i ≡ k = omega arith in
      let here : slice_index whole (low_of cuts i + k) ≡ slice_index u.masters (low_of cuts i + k - low_of cuts i) = at_all s ok does.uncounted told quiet i (low_of cuts i + k) u inside master mine in
      ap (slice_index u.masters) (sym place) ∙ (sym here ∙ ap (λ (xs : List ℕ). slice_index xs (low_of cuts i + k)) whole_is)
