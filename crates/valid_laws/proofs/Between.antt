-- Of a locally correcting program: every value lies from the core answer to the core start value, and each event keeps that.
use Rattle.std.proofs.Common.{◌≡◌, ℕ, ◌+◌, ◌-◌, ◌<◌, ◌≤◌, Bool, true, false, List, [], ◌∷◌, length, get_or, arith, refl, sym, ap, subst, ◌∙◌, eqb-true}
use Rattle.std.specs.Prelude.{◌||◌, ◌==◌, All, slice_index, Ok, if◌then◌else◌}
use Rattle.std.specs.List.{AllByRecursion}
use Rattle.std.proofs.lemmas.List.{length-map}
use Rattle.std.proofs.lemmas.List.Elements.{recursion_from_All}
use Rattle.px_base.specs.declared.graph.Part.{Part}
use Rattle.px_base.specs.declared.program.CoreProgram.{CoreProgram}
use Rattle.px_base.specs.declared.program.Class.TheVariants.{LocallyCorrecting}
use Rattle.px_base.specs.declared.wire.Update.{Update}
use Rattle.px_base.specs.declared.wire.Order.TheVariants.{Step}
use Rattle.px_base.specs.declared.TheConstants.{TOP}
use Rattle.px_base.specs.Values.{IsValue, IsValueList, is_listed, place_of}
use Rattle.px_base.specs.Graphs.{row_at, read_count}
use Rattle.px_base.specs.Classes.{class_of, counts_reads, is_mex, keeps}
use Rattle.px_base.specs.Core.{core_value}
use Rattle.px_base.specs.Answers.{IsGreatestConsistent}
use Rattle.px_base.specs.Parts.{is_within, is_known, low_of, high_of}
use Rattle.px_base.specs.Pulls.{known_value, master_pull}
use Rattle.px_base.specs.Worlds.{ValueWorld, ValueWorldFits, of_values, CarriesValues}
use Rattle.px_base.specs.ValueSteps.{newest_value, updated_mirrors, renewed_value, announcements, order_outcome}
use Rattle.px_base.proofs.Positions.{length_by_position, at_position}
use Rattle.px_base.proofs.Ranges.{within_bounds}
use Rattle.px_base.proofs.WorldsKeep.{step_fits}
use Rattle.partitioner.proofs.Owned.{high_inside}
use Rattle.consistent_solver.specs.CoreLists.{IsGreatestCoreConsistent}
use Rattle.consistent_solver.proofs.Below.{below_gathered}
use Rattle.consistent_solver.proofs.Turning.{turned, turned_values, turned_twice, greatest_turned, keeps_own, no_mex, no_count}
use Rattle.hub_terms.specs.Jobs.{Job, IsSound}
use Rattle.hub_terms.specs.Hubs.{worker_count}
use Rattle.hub_terms.specs.Systems.{SystemState, part_at}
use Rattle.hub_terms.specs.InStep.{IsForJob, IsWorldOf}
use Rattle.hub_terms.specs.Valid.{IsCoreAnswer, LiesBetween, UpdateLiesBetween, WorldLiesBetween}
use Rattle.list_laws.proofs.Ranges.{at_range}
use Rattle.list_laws.proofs.Told.{all_announced}
use Rattle.step_laws.proofs.Places.{place_found}
use Rattle.system_laws.proofs.WorldsKept.{part_short}

-- ---- the answer

-- what the core answer of a locally correcting program is, and what its program does
pub record IsLowest (job : Job) (a : List ℕ) : Type 0 where
  pub keeps_own : keeps job.core.program.own ≡ true
  pub no_mex : is_mex job.core.program.fold ≡ false
  pub no_count : counts_reads job.core.program.fold ≡ false
  pub greatest : IsGreatestCoreConsistent job.core job.rows job.starts a

pub lowest : (job : Job) (a : List ℕ) → IsSound job → class_of job.core.program ≡ Ok LocallyCorrecting → IsCoreAnswer job a → IsLowest job a
lowest job a sound class answer =
    let n : ℕ = length job.rows in
    let core : CoreProgram = job.core in
    let given : IsGreatestConsistent core.program job.rows (turned core job.starts) (turned core a) = rw class at answer.answer in
    let sized : length a ≡ n = sym (length-map a (core_value core)) ∙ given.consistent.values.one_each in
    let valued : IsValueList n a = record { one_each = sized; in_range = answer.values } in
    let found = (greatest_turned core.program job.rows (turned core job.starts) (turned core a) class sound.rows (turned_values core n job.starts sound.starts) (turned_values core n a valued)).0 given in
    let here : IsGreatestCoreConsistent core job.rows (turned core (turned core job.starts)) (turned core (turned core a)) =
    subst (λ (c : CoreProgram). IsGreatestCoreConsistent c job.rows (turned c (turned core job.starts)) (turned c (turned core a))) (sym sound.core) found in
    record {
      keeps_own = keeps_own core.program class;
      no_mex = no_mex core.program class;
      no_count = no_count core.program class;
      greatest = rw (turned_twice core n job.starts sound.starts, turned_twice core n a valued) at here;
    }

-- ---- one Step of one world

newest_between : (a starts : List ℕ) (us : List Update) (m old : ℕ) → AllByRecursion (UpdateLiesBetween a starts) us → LiesBetween a starts m old → LiesBetween a starts m (newest_value us m old)
newest_between a starts [] m old each known = known
newest_between a starts (u ∷ us) m old each known = newest_between a starts us m (if u.vertex == m then u.value else old) each.1 (by_test (u.vertex == m) refl)
  where
    by_test : (b : Bool) → (u.vertex == m) ≡ b → LiesBetween a starts m (if b then u.value else old)
    by_test true here = subst (λ (v : ℕ). LiesBetween a starts v u.value) (eqb-true u.vertex m here) each.0
    by_test false apart = known

module _ (s : SystemState) (a : List ℕ) (low : IsLowest s.job a) (fit : IsForJob s) (k : ℕ) (inside : k < worker_count s.hub) (u : ValueWorld) (of_part : IsWorldOf (part_at s k) s.job.core (of_values u)) (old : WorldLiesBetween a s.job.starts u)
    (epoch round : ℕ) (sent : List Update) (values : CarriesValues sent) (known : All (UpdateLiesBetween a s.job.starts) sent) where
  abbrev part : Part
  part = part_at s k

  abbrev starts : List ℕ
  starts = s.job.starts

  abbrev after : ValueWorld
  after = (order_outcome u (Step epoch round sent)).world

  abbrev mirrors : List ℕ
  mirrors = updated_mirrors u.part.mirrors sent u.mirrors

  after_fits : ValueWorldFits after
  after_fits = step_fits u (Step epoch round sent) (let short : read_count part.rows ≤ TOP = part_short s fit k inside in rw of_part.1 short) of_part.3 values

  mirrors_between : (j : ℕ) → j < length mirrors → LiesBetween a starts (slice_index u.part.mirrors j) (slice_index mirrors j)
  mirrors_between j within =
      let room : j < length u.mirrors = omega (arith, within, length_by_position (length u.mirrors) (λ l. newest_value sent (slice_index u.part.mirrors l) (slice_index u.mirrors l))) in
      rw (at_position (length u.mirrors) (λ l. newest_value sent (slice_index u.part.mirrors l) (slice_index u.mirrors l)) j 0 room)
      (newest_between a starts sent (slice_index u.part.mirrors j) (slice_index u.mirrors j) (recursion_from_All (UpdateLiesBetween a starts) sent known) (old.mirrors j room))

  -- what the part knows of a vertex is a value, and not below the answer
  known_above : (v : ℕ) → is_known u.part v ≡ true → (slice_index a v ≤ known_value u.part u.masters mirrors v) × IsValue (known_value u.part u.masters mirrors v)
  known_above v is = by_place (is_within u.part.low u.part.high v) refl is
    where
      by_place : (b : Bool) → is_within u.part.low u.part.high v ≡ b → (b || is_listed u.part.mirrors v) ≡ true →
          (slice_index a v ≤ (if b then slice_index u.masters (v - u.part.low) else slice_index mirrors (place_of u.part.mirrors v))) × IsValue (if b then slice_index u.masters (v - u.part.low) else slice_index mirrors (place_of u.part.mirrors v))
      by_place true here h =
          let bounds = within_bounds u.part.low u.part.high v here in
          let room : v - u.part.low < length u.masters = omega (arith, bounds.0, bounds.1, of_part.3.masters.one_each) in
          let back : u.part.low + (v - u.part.low) ≡ v = omega (arith, bounds.0) in
          let between : LiesBetween a starts v (slice_index u.masters (v - u.part.low)) = subst (λ (w : ℕ). LiesBetween a starts w (slice_index u.masters (v - u.part.low))) back (old.masters (v - u.part.low) room) in
          (between.0, of_part.3.masters.in_range (v - u.part.low) 0 room)
      by_place false there h =
          let found = place_found u.part.mirrors v h in
          let room : place_of u.part.mirrors v < length mirrors = omega (arith, found.0, after_fits.mirrors.one_each) in
          let between : LiesBetween a starts v (slice_index mirrors (place_of u.part.mirrors v)) = subst (λ (w : ℕ). LiesBetween a starts w (slice_index mirrors (place_of u.part.mirrors v))) found.1 (mirrors_between (place_of u.part.mirrors v) room) in
          (between.0, after_fits.mirrors.in_range (place_of u.part.mirrors v) 0 room)

  -- a master gathers no less than the answer
  pulled_above : (j : ℕ) → j < length u.part.rows → slice_index a (u.part.low + j) ≤ master_pull u.part u.core u.masters mirrors j
  pulled_above j within =
      let n : ℕ = length s.job.rows in
      let v : ℕ = u.part.low + j in
      let cuts : List ℕ = s.hub.inboxes.cuts in
      let width : length u.part.rows ≡ u.part.high - u.part.low = of_part.3.part.rows in
      let lows : u.part.low ≡ low_of cuts k = ap (λ (p : Part). p.low) of_part.1 in
      let highs : u.part.high ≡ high_of cuts k = ap (λ (p : Part). p.high) of_part.1 in
      let few : j < high_of cuts k - low_of cuts k = omega (arith, within, width, lows, highs) in
      let row : row_at u.part.rows j ≡ row_at s.job.rows v = rw (of_part.1) (at_range s.job.rows (low_of cuts k) (high_of cuts k) j [] few) in
      let start : slice_index u.part.starts j ≡ slice_index starts v = rw (of_part.1) (at_range starts (low_of cuts k) (high_of cuts k) j 0 few) in
      let below : v < n = omega (arith, within, width, lows, highs, high_inside n cuts k fit.cuts.cut inside) in
      let above : All (λ r. slice_index a r.source ≤ known_value u.part u.masters mirrors r.source) (row_at u.part.rows j) = λ m d in_row. (known_above (get_or (row_at u.part.rows j) m d).source (of_part.3.part.sources j [] within m d in_row)).0 in
      let valued : All (λ r. IsValue (known_value u.part u.masters mirrors r.source)) (row_at u.part.rows j) = λ m d in_row. (known_above (get_or (row_at u.part.rows j) m d).source (of_part.3.part.sources j [] within m d in_row)).1 in
      rw (row, start, of_part.2) (below_gathered s.job.core s.job.rows starts a (known_value u.part u.masters mirrors) v low.no_mex low.greatest.consistent below
      (rw row at above) (rw row at valued))

  masters_between : (j : ℕ) → j < length after.masters → LiesBetween a starts (u.part.low + j) (slice_index after.masters j)
  masters_between j within =
      let room : j < length u.part.rows = omega (arith, within, length_by_position (length u.part.rows) (λ l. renewed_value u.core (slice_index u.masters l) (master_pull u.part u.core u.masters mirrors l))) in
      let had : j < length u.masters = omega (arith, room, of_part.3.part.rows, of_part.3.masters.one_each) in
      let kept : keeps u.core.program.own ≡ true = rw of_part.2 low.keeps_own in
      let was = old.masters j had in
      let above = pulled_above j room in
      rw (at_position (length u.part.rows) (λ l. renewed_value u.core (slice_index u.masters l) (master_pull u.part u.core u.masters mirrors l)) j 0 room, kept) (omega (arith, was.0, above), omega (arith, was.1))

  pub step_between : WorldLiesBetween a starts after
  step_between = record { masters = masters_between; mirrors = mirrors_between }

  -- what it announces lies between too
  pub announced_between : (all : Bool) → All (UpdateLiesBetween a starts) (announcements all u.part u.masters after.masters)
  announced_between all = all_announced (UpdateLiesBetween a starts) all u.part u.masters after.masters (λ m d within.
      let v : ℕ = get_or u.part.boundary m d in
      let bounds = within_bounds u.part.low u.part.high v (of_part.3.part.boundary_inside m d within) in
      let room : v - u.part.low < length after.masters = omega (arith, bounds.0, bounds.1, after_fits.masters.one_each) in
      let back : u.part.low + (v - u.part.low) ≡ v = omega (arith, bounds.0) in
      subst (λ (w : ℕ). LiesBetween a starts w (slice_index after.masters (v - u.part.low))) back (masters_between (v - u.part.low) room))
