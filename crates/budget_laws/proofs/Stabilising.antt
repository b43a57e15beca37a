-- What settles in the rounds of a self-stabilising program: vertices come to their right value in the order of the reads.
use Rattle.std.proofs.Common.{◌≡◌, ℕ, suc, ◌+◌, ◌<◌, Bool, true, false, List, [], Some, length, get_or, arith, refl, sym, ap, ◌∙◌}
use Rattle.std.specs.Prelude.{All, slice_index, Ok}
use Rattle.std.proofs.lemmas.Grind.{same_number_lists}
use Rattle.std.proofs.lemmas.List.Elements.{All-nil}
use Rattle.px_base.specs.declared.program.Class.TheVariants.{SelfStabilising}
use Rattle.px_base.specs.declared.wire.Update.{Update}
use Rattle.px_base.specs.declared.wire.Order.{Order}
use Rattle.px_base.specs.declared.wire.Order.TheVariants.{Step}
use Rattle.px_base.specs.declared.wire.Answer.TheVariants.{Stepped}
use Rattle.px_base.specs.Values.{is_listed, place_of}
use Rattle.px_base.specs.Graphs.{row_at}
use Rattle.px_base.specs.Classes.{class_of, keeps}
use Rattle.px_base.specs.Core.{core_pull}
use Rattle.px_base.specs.Laws.{IsOrdered}
use Rattle.px_base.specs.Pulls.{known_value, master_pull}
use Rattle.px_base.specs.Worlds.{World, ValueWorld, of_values, of_counts, is_fresh}
use Rattle.px_base.specs.ValueSteps.{updated_mirrors, renewed_value, order_outcome, some_changed, announcements}
use Rattle.px_base.proofs.Positions.{at_position}
use Rattle.consistent_solver.specs.CoreLists.{gathered_at}
use Rattle.hub_terms.specs.Jobs.{Job}
use Rattle.hub_terms.specs.Hubs.{worker_at, order_at, worker_count}
use Rattle.hub_terms.specs.Systems.{SystemState, world_at}
use Rattle.hub_terms.specs.InStep.{IsInStep}
use Rattle.list_laws.proofs.Told.{nothing_announced, none_changed}
use Rattle.step_laws.proofs.WorldSteps.{outcome_of}
use Rattle.settling_laws.specs.Settling.{IsShallow, IsGathered, IsRightBy, last_settling}
use Rattle.settling_laws.specs.SettledWorlds.{ValuesSettled, ValuesRead}
use Rattle.round_laws.proofs.InTime.{Settles}
use Rattle.budget_laws.proofs.Knowing.{given_values, known_settled}
use Rattle.budget_laws.proofs.OwnPart.{same_answer, not_fresh, of_part, whole_place, row_is, start_is, after_length, masters_length}
use Rattle.settling_laws.proofs.Depths.{pull_agrees, all_shallow, right_list}
use Rattle.settling_laws.proofs.ClassFacts.{Gathers, gathers}

-- ---- one Step

module _ (s : SystemState) (drops : keeps s.job.core.program.own ≡ false) (o : IsOrdered s.job.rows) (ok : IsInStep s) (i : ℕ) (u : ValueWorld) (epoch round : ℕ) (sent : List Update)
    (inside : i < worker_count s.hub) (mine : world_at s i ≡ Some (of_values u)) where
  abbrev mirrors : List ℕ
  mirrors = updated_mirrors u.part.mirrors sent u.mirrors

  abbrev after : ValueWorld
  after = (order_outcome u (Step epoch round sent)).world

  -- a master whose sources are known right is right
  right_after : (b : List ℕ) → IsGathered s.job b → (j : ℕ) → j < length u.part.rows → All (λ r. known_value u.part u.masters mirrors r.source ≡ slice_index b r.source) (row_at u.part.rows j) →
      slice_index after.masters j ≡ slice_index b (u.part.low + j)
  right_after b right j within each =
      let part = of_part s ok i u inside mine in
      let dropped : keeps u.core.program.own ≡ false = rw part.2 drops in
      let renewed : slice_index after.masters j ≡ master_pull u.part u.core u.masters mirrors j =
      at_position (length u.part.rows) (λ l. renewed_value u.core (slice_index u.masters l) (master_pull u.part u.core u.masters mirrors l)) j 0 within ∙ rw dropped refl in
      let pulled : master_pull u.part u.core u.masters mirrors j ≡ core_pull u.core (slice_index b) (slice_index u.part.starts j) (row_at u.part.rows j) =
      pull_agrees u.core (known_value u.part u.masters mirrors) (slice_index b) (slice_index u.part.starts j) (row_at u.part.rows j) each in
      let gathered : core_pull u.core (slice_index b) (slice_index u.part.starts j) (row_at u.part.rows j) ≡ gathered_at s.job.core s.job.rows s.job.starts b (u.part.low + j) =
      rw (row_is s ok i u inside mine j within, start_is s ok i u inside mine j within, part.2) refl in
      renewed ∙ (pulled ∙ (gathered ∙ sym (right (u.part.low + j) (whole_place s ok i u inside mine j within))))

  begun_right : (j : ℕ) → j < length after.masters → IsRightBy s.job 0 (u.part.low + j) (slice_index after.masters j)
  begun_right j within none b right =
      let room : j < length u.part.rows = omega (arith, within, after_length s ok i u inside mine epoch round sent) in
      let empty : row_at u.part.rows j ≡ [] = row_is s ok i u inside mine j room ∙ none in
      right_after b right j room (rw empty (All-nil (λ r. known_value u.part u.masters mirrors r.source ≡ slice_index b r.source)))

  more_right : (k : ℕ) → ((j : ℕ) → j < length u.masters → IsRightBy s.job k (u.part.low + j) (slice_index u.masters j)) →
      ((v : ℕ) → is_listed u.part.mirrors v ≡ true → IsRightBy s.job k v (slice_index mirrors (place_of u.part.mirrors v))) →
      (j : ℕ) → j < length after.masters → IsRightBy s.job (suc k) (u.part.low + j) (slice_index after.masters j)
  more_right k masters read j within shallow b right =
      let part = of_part s ok i u inside mine in
      let room : j < length u.part.rows = omega (arith, within, after_length s ok i u inside mine epoch round sent) in
      let each : All (λ r. IsShallow s.job.rows k r.source) (row_at u.part.rows j) = rw (row_is s ok i u inside mine j room) shallow in
      right_after b right j room (λ m d in_row. known_settled IsRightBy s.job k u mirrors part.3.masters.one_each masters read (get_or (row_at u.part.rows j) m d).source
      (part.3.part.sources j [] room m d in_row) (each m d in_row) b right)

  -- where all are right nothing changes
  ended_right : ((j : ℕ) → j < length u.masters → IsRightBy s.job (last_settling s.job) (u.part.low + j) (slice_index u.masters j)) →
      ((v : ℕ) → is_listed u.part.mirrors v ≡ true → IsRightBy s.job (last_settling s.job) v (slice_index mirrors (place_of u.part.mirrors v))) → u.masters ≡ after.masters
  ended_right masters read = same_number_lists u.masters after.masters (masters_length s ok i u inside mine ∙ sym (after_length s ok i u inside mine epoch round sent)) same
    where
      same : (j : ℕ) → j < length u.masters → slice_index u.masters j ≡ slice_index after.masters j
      same j within =
          let list = right_list s.job o in
          let spot : u.part.low + j < length s.job.rows = whole_place s ok i u inside mine j (omega (arith, within, masters_length s ok i u inside mine)) in
          let later : j < length after.masters = omega (arith, within, masters_length s ok i u inside mine, after_length s ok i u inside mine epoch round sent) in
          masters j within (all_shallow s.job.rows o (last_settling s.job) (u.part.low + j) spot (omega arith)) list.0 list.1
          ∙ sym (more_right (last_settling s.job) masters read j later (all_shallow s.job.rows o (suc (last_settling s.job)) (u.part.low + j) spot (omega arith)) list.0 list.1)

-- ---- what the class gives

abbrev pub RightSettled : Job → ℕ → World → Type 0
RightSettled = ValuesSettled IsRightBy

abbrev pub RightRead : Job → ℕ → World → Order → Type 0
RightRead = ValuesRead IsRightBy

pub stabilising_settles : (s : SystemState) → IsInStep s → class_of s.job.core.program ≡ Ok SelfStabilising → Settles RightSettled RightRead last_settling s
stabilising_settles s ok class = record {
  given = λ i k w inside mine idle each known. given_values IsRightBy s ok facts.uncounted i k s.hub.members.epoch (worker_at s.hub i).round w inside mine idle each known;
  begun = begun;
  more = more;
  ended = ended;
}
  where
    facts : Gathers s.job.core.program
    facts = gathers s.job.core.program class

    o : IsOrdered s.job.rows
    o = rw class at ok.job.sound.suit

    begun : (i epoch round : ℕ) (updates : List Update) (w : World) → i < worker_count s.hub → world_at s i ≡ Some w → order_at s.hub i ≡ Some (Step epoch round updates) → epoch ≡ s.hub.members.epoch →
        RightSettled s.job 0 (outcome_of w (Step epoch round updates)).world
    begun i epoch round updates (of_values u) inside mine had now = begun_right s facts.drops o ok i u epoch round updates inside mine
    begun i epoch round updates (of_counts c) inside mine had now = tt

    more : (i k epoch round : ℕ) (updates : List Update) (w : World) → i < worker_count s.hub → world_at s i ≡ Some w → order_at s.hub i ≡ Some (Step epoch round updates) → epoch ≡ s.hub.members.epoch →
        RightSettled s.job k w → RightRead s.job k w (Step epoch round updates) → RightSettled s.job (suc k) (outcome_of w (Step epoch round updates)).world
    more i k epoch round updates (of_values u) inside mine had now masters read = more_right s facts.drops o ok i u epoch round updates inside mine k masters read
    more i k epoch round updates (of_counts c) inside mine had now masters read = tt

    ended : (i epoch round : ℕ) (updates : List Update) (w : World) (changed : Bool) (sent : List Update) → i < worker_count s.hub → world_at s i ≡ Some w →
        order_at s.hub i ≡ Some (Step epoch round updates) → epoch ≡ s.hub.members.epoch → (worker_at s.hub i).due ≡ false →
        RightSettled s.job (last_settling s.job) w → RightRead s.job (last_settling s.job) w (Step epoch round updates) → (outcome_of w (Step epoch round updates)).answer ≡ Stepped epoch round changed sent →
        (changed ≡ false) × (sent ≡ [])
    ended i epoch round updates (of_counts c) changed sent inside mine had now up masters read answered = absurd (cc ((ok.worlds i (of_counts c) mine).of_part.0, facts.uncounted))
    ended i epoch round updates (of_values u) changed sent inside mine had now up masters read answered =
        let same = ended_right s facts.drops o ok i u epoch round updates inside mine masters read in
        let after : List ℕ = (order_outcome u (Step epoch round updates)).world.masters in
        let fields = same_answer (some_changed u.masters after) changed (announcements (is_fresh u.epoch epoch) u.part u.masters after) sent answered in (
          sym fields.0 ∙ (ap (some_changed u.masters) (sym same) ∙ none_changed u.masters),
          sym fields.1 ∙ (ap (λ (b : Bool). announcements b u.part u.masters after) (not_fresh s ok i epoch (of_values u) mine up now) ∙ (ap (announcements false u.part u.masters) (sym same) ∙ nothing_announced u.part u.masters)),
        )
