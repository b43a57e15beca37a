-- What settles in the rounds of a locally correcting program: values go down to its answer.
use Rattle.std.proofs.Common.{◌≡◌, ℕ, suc, ◌+◌, ◌-◌, ◌<◌, ◌≤◌, min, Bool, true, false, List, [], Some, length, map, get_or, arith, refl, sym, ap, ◌∙◌}
use Rattle.std.specs.Prelude.{All, slice_index, Ok}
use Rattle.std.proofs.lemmas.Grind.{same_number_lists}
use Rattle.px_base.specs.declared.graph.Read.{Read}
use Rattle.px_base.specs.declared.program.CoreProgram.{CoreProgram}
use Rattle.px_base.specs.declared.program.Class.TheVariants.{LocallyCorrecting}
use Rattle.px_base.specs.declared.wire.Update.{Update}
use Rattle.px_base.specs.declared.wire.Order.{Order}
use Rattle.px_base.specs.declared.wire.Order.TheVariants.{Step}
use Rattle.px_base.specs.declared.wire.Answer.TheVariants.{Stepped}
use Rattle.px_base.specs.Values.{IsValue, IsValueList, is_listed, place_of}
use Rattle.px_base.specs.Graphs.{RowsFit, row_at}
use Rattle.px_base.specs.Rules.{least}
use Rattle.px_base.specs.Classes.{class_of, keeps}
use Rattle.px_base.specs.Core.{core_pull, core_edge_value}
use Rattle.px_base.specs.Laws.{NeverImproves}
use Rattle.px_base.specs.Answers.{IsGreatestConsistent}
use Rattle.px_base.specs.Parts.{is_known}
use Rattle.px_base.specs.Pulls.{known_value, master_pull}
use Rattle.px_base.specs.Worlds.{World, ValueWorld, of_values, of_counts, is_fresh}
use Rattle.px_base.specs.ValueSteps.{updated_mirrors, renewed_value, order_outcome, some_changed, announcements}
use Rattle.px_base.proofs.Positions.{at_position}
use Rattle.px_base.proofs.Gathers.{least_below_start}
use Rattle.consistent_solver.specs.CoreLists.{gathered_at, renewed_at, renewed_times}
use Rattle.consistent_solver.proofs.Below.{pull_grows, value_anywhere, least_gathered}
use Rattle.consistent_solver.proofs.Reaching.{renewed_last}
use Rattle.consistent_solver.proofs.Turning.{turned, turned_values, turned_twice, program_exists}
use Rattle.hub_terms.specs.Jobs.{Job, IsSound}
use Rattle.hub_terms.specs.Hubs.{worker_at, order_at, worker_count}
use Rattle.hub_terms.specs.Systems.{SystemState, world_at, part_at}
use Rattle.hub_terms.specs.InStep.{IsInStep, IsWorldOf}
use Rattle.hub_terms.specs.Valid.{IsCoreAnswer, WorldLiesBetween, IsBetween, IsValid}
use Rattle.list_laws.proofs.Told.{nothing_announced, none_changed}
use Rattle.step_laws.proofs.WorldSteps.{outcome_of}
use Rattle.valid_laws.proofs.Between.{IsLowest, lowest, step_between}
use Rattle.settling_laws.specs.Settling.{value_after, IsLowBy, last_settling}
use Rattle.settling_laws.specs.SettledWorlds.{ValuesSettled, ValuesRead}
use Rattle.round_laws.proofs.InTime.{Settles}
use Rattle.budget_laws.proofs.Knowing.{given_values, known_settled}
use Rattle.settling_laws.proofs.ClassFacts.{never_improves}
use Rattle.budget_laws.proofs.OwnPart as part
use Rattle.budget_laws.proofs.OwnPart.{same_answer, not_fresh}
use Rattle.settling_laws.proofs.Renewals.{settled_after, after_values}

-- ---- the answer

-- a sound job of the class has one
pub local_answer : (job : Job) → IsSound job → class_of job.core.program ≡ Ok LocallyCorrecting → (a : List ℕ) × IsCoreAnswer job a
local_answer job sound class =
    let n : ℕ = length job.rows in
    let core : CoreProgram = job.core in
    let found : (x : List ℕ) × IsGreatestConsistent core.program job.rows (turned core job.starts) x = program_exists core.program job.rows (turned core job.starts) class sound.rows (turned_values core n job.starts sound.starts) in
    let back : turned core (turned core found.0) ≡ found.0 = turned_twice core n found.0 found.1.consistent.values in (
      turned core found.0,
      record {
        values = (turned_values core n found.0 found.1.consistent.values).in_range;
        answer = rw class (rw back found.1);
      },
    )

-- ---- one Step

module _ (s : SystemState) (a : List ℕ) (low : IsLowest s.job a) (class : class_of s.job.core.program ≡ Ok LocallyCorrecting) (ok : IsInStep s) (i : ℕ) (u : ValueWorld) (epoch round : ℕ) (sent : List Update)
    (inside : i < worker_count s.hub) (mine : world_at s i ≡ Some (of_values u)) (had : order_at s.hub i ≡ Some (Step epoch round sent)) where
  abbrev n : ℕ
  n = length s.job.rows

  abbrev mirrors : List ℕ
  mirrors = updated_mirrors u.part.mirrors sent u.mirrors

  abbrev after : ValueWorld
  after = (order_outcome u (Step epoch round sent)).world

  of_part : IsWorldOf (part_at s i) s.job.core (of_values u)
  of_part = (ok.worlds i (of_values u) mine).of_part

  abbrev list_after : ℕ → List ℕ
  list_after k = renewed_times k s.job.core s.job.rows s.job.starts s.job.starts

  list_values : (k : ℕ) → IsValueList n (list_after k)
  list_values k = after_values s.job.core s.job.rows s.job.starts a low.no_mex never fits low.greatest ok.job.sound.starts k
    where
      never : NeverImproves s.job.core
      never = rw ok.job.sound.core (never_improves s.job.core.program class)

      fits : RowsFit n s.job.rows
      fits = ok.job.sound.rows

  whole_place : (j : ℕ) → j < length u.part.rows → u.part.low + j < n
  whole_place = part.whole_place s ok i u inside mine

  row_is : (j : ℕ) → j < length u.part.rows → row_at u.part.rows j ≡ row_at s.job.rows (u.part.low + j)
  row_is = part.row_is s ok i u inside mine

  start_is : (j : ℕ) → j < length u.part.rows → slice_index u.part.starts j ≡ slice_index s.job.starts (u.part.low + j)
  start_is = part.start_is s ok i u inside mine

  after_length : length after.masters ≡ length u.part.rows
  after_length = part.after_length s ok i u inside mine epoch round sent

  renewed_is : (j : ℕ) → j < length u.part.rows → slice_index after.masters j ≡ min (slice_index u.masters j) (master_pull u.part u.core u.masters mirrors j)
  renewed_is j within =
      let kept : keeps u.core.program.own ≡ true = rw of_part.2 low.keeps_own in
      at_position (length u.part.rows) (λ l. renewed_value u.core (slice_index u.masters l) (master_pull u.part u.core u.masters mirrors l)) j 0 within ∙ rw kept refl

  -- after any Step a master is at most its start value
  begun_low : (j : ℕ) → j < length after.masters → IsLowBy s.job 0 (u.part.low + j) (slice_index after.masters j)
  begun_low j within =
      let room : j < length u.part.rows = omega (arith, within, after_length) in
      let row : List Read = row_at u.part.rows j in
      let pulled : master_pull u.part u.core u.masters mirrors j ≡ least (slice_index u.part.starts j) (map (λ (r : Read). core_edge_value u.core (known_value u.part u.masters mirrors r.source) r.weight) row) =
      least_gathered u.core (known_value u.part u.masters mirrors) (slice_index u.part.starts j) row (rw of_part.2 low.no_mex) in
      omega (arith, renewed_is j room, pulled, least_below_start (slice_index u.part.starts j) (map (λ (r : Read). core_edge_value u.core (known_value u.part u.masters mirrors r.source) r.weight) row), start_is j room)

  -- one round more brings it as low as one renewal more
  more_low : (k : ℕ) → ((j : ℕ) → j < length u.masters → IsLowBy s.job k (u.part.low + j) (slice_index u.masters j)) →
      ((v : ℕ) → is_listed u.part.mirrors v ≡ true → IsLowBy s.job k v (slice_index mirrors (place_of u.part.mirrors v))) →
      (j : ℕ) → j < length after.masters → IsLowBy s.job (suc k) (u.part.low + j) (slice_index after.masters j)
  more_low k masters read j within =
      let room : j < length u.part.rows = omega (arith, within, after_length) in
      let had_one : j < length u.masters = omega (arith, room, of_part.3.part.rows, of_part.3.masters.one_each) in
      let v : ℕ = u.part.low + j in
      let x : List ℕ = list_after k in
      let known : (w : ℕ) → is_known u.part w ≡ true → known_value u.part u.masters mirrors w ≤ slice_index x w = known_settled IsLowBy s.job k u mirrors of_part.3.masters.one_each masters read in
      let below : All (λ r. known_value u.part u.masters mirrors r.source ≤ slice_index x r.source) (row_at u.part.rows j) = (λ m d in_row. known (get_or (row_at u.part.rows j) m d).source (of_part.3.part.sources j [] room m d in_row)) in
      let valued : All (λ r. IsValue (slice_index x r.source)) (row_at u.part.rows j) = (λ m d in_row. value_anywhere n x (get_or (row_at u.part.rows j) m d).source (list_values k)) in
      let pulled : master_pull u.part u.core u.masters mirrors j ≤ core_pull u.core (slice_index x) (slice_index u.part.starts j) (row_at u.part.rows j) =
      pull_grows u.core (known_value u.part u.masters mirrors) (slice_index x) (slice_index u.part.starts j) (row_at u.part.rows j) (rw of_part.2 low.no_mex) below valued in
      let gathers : core_pull u.core (slice_index x) (slice_index u.part.starts j) (row_at u.part.rows j) ≡ gathered_at s.job.core s.job.rows s.job.starts x v = rw (row_is j room, start_is j room, of_part.2) refl in
      let last : value_after s.job (suc k) v ≡ min (slice_index x v) (gathered_at s.job.core s.job.rows s.job.starts x v) =
      ap (λ (l : List ℕ). slice_index l v) (renewed_last k s.job.core s.job.rows s.job.starts s.job.starts) ∙ at_position n (renewed_at s.job.core s.job.rows s.job.starts x) v 0 (whole_place j room) in
      omega (arith, renewed_is j room, masters j had_one, pulled, gathers, last)

  -- at the answer nothing changes
  ended_low : IsBetween s a → (worker_at s.hub i).due ≡ false → epoch ≡ s.hub.members.epoch → ((j : ℕ) → j < length u.masters → IsLowBy s.job (n - 1) (u.part.low + j) (slice_index u.masters j)) →
      (u.masters ≡ after.masters) × (is_fresh u.epoch epoch ≡ false)
  ended_low between up now masters = (same_number_lists u.masters after.masters sized (λ j within. same j within), stale)
    where
      sized : length u.masters ≡ length after.masters
      sized = of_part.3.masters.one_each ∙ (sym of_part.3.part.rows ∙ sym after_length)

      never : NeverImproves s.job.core
      never = rw ok.job.sound.core (never_improves s.job.core.program class)

      later : WorldLiesBetween a s.job.starts after
      later = step_between s a low ok.job i inside u of_part (between.worlds i u mine) epoch round sent (ok.hub.orders i (Step epoch round sent) had).mail.values (rw had at (between.orders i))

      same : (j : ℕ) → j < length u.masters → slice_index u.masters j ≡ slice_index after.masters j
      same j within =
          let room : j < length u.part.rows = omega (arith, within, sized, after_length) in
          let end : value_after s.job (n - 1) (u.part.low + j) ≡ slice_index a (u.part.low + j) =
          settled_after s.job.core s.job.rows s.job.starts a low.no_mex never ok.job.sound.rows low.greatest ok.job.sound.starts (u.part.low + j) (whole_place j room) in
          let high : slice_index a (u.part.low + j) ≤ slice_index after.masters j = (later.masters j (omega (arith, room, after_length))).0 in
          omega (arith, masters j within, end, high, renewed_is j room)

      stale : is_fresh u.epoch epoch ≡ false
      stale = not_fresh s ok i epoch (of_values u) mine up now

-- ---- what the class gives

abbrev pub LowSettled : Job → ℕ → World → Type 0
LowSettled = ValuesSettled IsLowBy

abbrev pub LowRead : Job → ℕ → World → Order → Type 0
LowRead = ValuesRead IsLowBy

pub local_settles : (s : SystemState) → IsInStep s → IsValid s → s.told ≡ true → class_of s.job.core.program ≡ Ok LocallyCorrecting → Settles LowSettled LowRead last_settling s
local_settles s ok valid told class = record {
  given = λ i k w inside mine idle each known. given_values IsLowBy s ok low.no_count i k s.hub.members.epoch (worker_at s.hub i).round w inside mine idle each known;
  begun = begun;
  more = more;
  ended = ended;
}
  where
    answer : (a : List ℕ) × IsCoreAnswer s.job a
    answer = local_answer s.job ok.job.sound class

    low : IsLowest s.job answer.0
    low = lowest s.job answer.0 ok.job.sound class answer.1

    between : IsBetween s answer.0
    between = rw class at (valid told answer.0 answer.1)

    begun : (i epoch round : ℕ) (updates : List Update) (w : World) → i < worker_count s.hub → world_at s i ≡ Some w → order_at s.hub i ≡ Some (Step epoch round updates) → epoch ≡ s.hub.members.epoch →
        LowSettled s.job 0 (outcome_of w (Step epoch round updates)).world
    begun i epoch round updates (of_values u) inside mine had now = begun_low s answer.0 low class ok i u epoch round updates inside mine had
    begun i epoch round updates (of_counts c) inside mine had now = tt

    more : (i k epoch round : ℕ) (updates : List Update) (w : World) → i < worker_count s.hub → world_at s i ≡ Some w → order_at s.hub i ≡ Some (Step epoch round updates) → epoch ≡ s.hub.members.epoch →
        LowSettled s.job k w → LowRead s.job k w (Step epoch round updates) → LowSettled s.job (suc k) (outcome_of w (Step epoch round updates)).world
    more i k epoch round updates (of_values u) inside mine had now masters read = more_low s answer.0 low class ok i u epoch round updates inside mine had k masters read
    more i k epoch round updates (of_counts c) inside mine had now masters read = tt

    ended : (i epoch round : ℕ) (updates : List Update) (w : World) (changed : Bool) (sent : List Update) → i < worker_count s.hub → world_at s i ≡ Some w →
        order_at s.hub i ≡ Some (Step epoch round updates) → epoch ≡ s.hub.members.epoch → (worker_at s.hub i).due ≡ false →
        LowSettled s.job (last_settling s.job) w → LowRead s.job (last_settling s.job) w (Step epoch round updates) → (outcome_of w (Step epoch round updates)).answer ≡ Stepped epoch round changed sent →
        (changed ≡ false) × (sent ≡ [])
    ended i epoch round updates (of_counts c) changed sent inside mine had now up masters read answered = absurd (cc ((ok.worlds i (of_counts c) mine).of_part.0, low.no_count))
    ended i epoch round updates (of_values u) changed sent inside mine had now up masters read answered =
        let end = ended_low s answer.0 low class ok i u epoch round updates inside mine had between up now masters in
        let after : List ℕ = (order_outcome u (Step epoch round updates)).world.masters in
        let fields = same_answer (some_changed u.masters after) changed (announcements (is_fresh u.epoch epoch) u.part u.masters after) sent answered in (
          sym fields.0 ∙ (ap (some_changed u.masters) (sym end.0) ∙ none_changed u.masters),
          sym fields.1 ∙ (ap (λ (b : Bool). announcements b u.part u.masters after) end.1 ∙ (ap (announcements false u.part u.masters) (sym end.0) ∙ nothing_announced u.part u.masters)),
        )
