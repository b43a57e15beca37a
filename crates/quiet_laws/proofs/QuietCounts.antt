-- In a quiet state of a program that counts the living masters of all worlds are the core.
use Rattle.std.proofs.Common.{◌≡◌, ◌≢◌, ℕ, ◌+◌, ◌-◌, ◌<◌, ◌≤◌, Bool, true, false, not, List, [], ◌∷◌, Option, Some, None, length, get_or, arith, refl, sym, ap, subst, ◌∙◌, inl, inr, eqb-true}
use Rattle.std.specs.Prelude.{◌&&◌, ◌==◌, ◌⊎◌, nat_lt, slice_index}
use Rattle.std.specs.List.{list_any, AllByRecursion}
use Rattle.std.proofs.lemmas.Bool.{cases_eq, cases_lt, ltb-false}
use Rattle.std.proofs.lemmas.List.Elements.{recursion_from_All}
use Rattle.std.proofs.lemmas.List.{get_or_past}
use Rattle.px_base.specs.declared.graph.Part.{Part}
use Rattle.px_base.specs.declared.graph.Read.{Read}
use Rattle.px_base.specs.declared.wire.Update.{Update}
use Rattle.px_base.specs.Values.{by_position, positions_below, is_in, one_if}
use Rattle.px_base.specs.Graphs.{row_at, reads_passing}
use Rattle.px_base.specs.Answers.{reads_needed, SupportsItself}
use Rattle.px_base.specs.Parts.{IsOwner, is_within, is_master, low_of, high_of}
use Rattle.px_base.specs.Worlds.{World, CountWorld, of_values, of_counts}
use Rattle.px_base.specs.CountSteps.{is_dead, dies, delta_of}
use Rattle.px_base.proofs.Positions.{length_by_position, at_position}
use Rattle.px_base.proofs.Ranges.{within_bounds}
use Rattle.px_base.proofs.Owners.{one_owner}
use Rattle.partitioner.proofs.Owned.{an_owner}
use Rattle.partitioner.proofs.Boundaries.{within}
use Rattle.partitioner.proofs.Found.{position_has}
use Rattle.hub_terms.specs.Hubs.{worker_at, waiting_at, worker_count, is_quiet_hub}
use Rattle.hub_terms.specs.UnderWay.{current_updates}
use Rattle.hub_terms.specs.Systems.{SystemState, world_at}
use Rattle.hub_terms.specs.InStep.{IsInStep}
use Rattle.hub_terms.specs.Valid.{is_dead_master, is_dead_at, IsBalanced, IsCounted}
use Rattle.step_laws.proofs.Places.{master_below}
use Rattle.step_laws.proofs.Counting.{passing_cons}
use Rattle.system_laws.proofs.Kept.{none_told}
use Rattle.quiet_laws.proofs.Quiet.{idle_worker, no_mail, no_step, masters_in}
use Rattle.valid_laws.proofs.CountValid.{IsCoreOf}

-- where each source passes one of three tests, there are no more reads than pass them
passing_cover : (f g h : ℕ → Bool) (row : List Read) → AllByRecursion (λ r. 1 ≤ one_if (f r.source) + one_if (g r.source) + one_if (h r.source)) row → length row ≤ reads_passing f row + reads_passing g row + reads_passing h row
passing_cover f g h [] each = omega arith
passing_cover f g h (r ∷ row) each = omega (arith, passing_cons f r row, passing_cons g r row, passing_cons h r row, each.0, passing_cover f g h row each.1)

module _ (s : SystemState) (core : List ℕ) (of_core : IsCoreOf s.job core) (ok : IsInStep s) (counted : IsCounted s core) (told : s.told ≡ true) (quiet : is_quiet_hub s.hub ≡ true) where
  abbrev cuts : List ℕ
  cuts = s.hub.inboxes.cuts

  abbrev n : ℕ
  n = length s.job.rows

  its_world : (i : ℕ) → i < worker_count s.hub → (c : CountWorld) × (world_at s i ≡ Some (of_counts c))
  its_world i inside = by_world (world_at s i) refl
    where
      by_world : (o : Option World) → world_at s i ≡ o → (c : CountWorld) × (world_at s i ≡ Some (of_counts c))
      by_world (Some (of_counts c)) is = (c, is)
      by_world (Some (of_values u)) is = absurd (cc ((ok.worlds i (of_values u) is).of_part.0, of_core.counts))
      by_world None is = absurd (cc (told, none_told s i ok.live_worlds (idle_worker s ok quiet i inside).live is))

  abbrev by_owner : (v : ℕ) → (v < n) ⊎ (n ≤ v) → ℕ
  by_owner v (inl below) = let o = an_owner n cuts v ok.job.cuts.cut below in slice_index (masters_in (world_at s o.0)) (v - low_of cuts o.0)
  by_owner v (inr past) = 0

  abbrev flag_at : ℕ → ℕ
  flag_at v = by_owner v (cases_lt v n)

  abbrev living : List ℕ
  living = by_position n flag_at

  flag_is : (i v : ℕ) (c : CountWorld) → i < worker_count s.hub → is_master cuts i v ≡ true → world_at s i ≡ Some (of_counts c) → slice_index living v ≡ slice_index c.alive (v - low_of cuts i)
  flag_is i v c inside master is = at_position n flag_at v 0 (master_below n cuts i v ok.job.cuts.cut inside master).2 ∙ by_case (cases_lt v n)
    where
      owned : IsOwner cuts v i
      owned = let bounds = within_bounds (low_of cuts i) (high_of cuts i) v master in record { below = inside; from = bounds.0; to = bounds.1 }

      by_case : (d : (v < n) ⊎ (n ≤ v)) → by_owner v d ≡ slice_index c.alive (v - low_of cuts i)
      by_case (inl below) =
          let o = an_owner n cuts v ok.job.cuts.cut below in
          let same : o.0 ≡ i = one_owner n cuts v o.0 i ok.job.cuts.cut o.1 owned in
          ap (λ (j : ℕ). slice_index (masters_in (world_at s j)) (v - low_of cuts j)) same ∙ ap (λ w. slice_index (masters_in w) (v - low_of cuts i)) is
      by_case (inr past) = absurd (omega (arith, (master_below n cuts i v ok.job.cuts.cut inside master).2, past))

  -- of a living master of worker i each source is dead beside it, dead elsewhere, or living
  covered : (i v : ℕ) (c : CountWorld) → i < worker_count s.hub → world_at s i ≡ Some (of_counts c) → (u : ℕ) → u < n →
      1 ≤ one_if (is_dead_master (of_counts c) u) + one_if (list_any (λ j. not (j == i) && is_dead_at s j u) (positions_below (worker_count s.hub))) + one_if (is_in living u)
  covered i v c inside is u inner =
      let o = an_owner n cuts u ok.job.cuts.cut inner in
      let master : is_master cuts o.0 u ≡ true = within (low_of cuts o.0) (high_of cuts o.0) u o.1.from o.1.to in
      let w = its_world o.0 o.1.below in
      let lows : w.0.part.low ≡ low_of cuts o.0 = ap (λ (p : Part). p.low) (ok.worlds o.0 (of_counts w.0) w.1).of_part.1 in
      let inside_w : is_within w.0.part.low w.0.part.high u ≡ true = ap (λ (p : Part). is_within p.low p.high u) (ok.worlds o.0 (of_counts w.0) w.1).of_part.1 ∙ master in
      let flag : is_in living u ≡ is_in w.0.alive (u - w.0.part.low) = ap (λ (x : ℕ). x == 1) (flag_is o.0 u w.0 o.1.below master w.1 ∙ ap (λ (l : ℕ). slice_index w.0.alive (u - l)) (sym lows)) in
      let dead : is_dead_master (of_counts w.0) u ≡ not (is_in living u) = ap (λ b. b && is_dead w.0 (u - w.0.part.low)) inside_w ∙ ap not (sym flag) in
      by_life (is_in living u) refl o.0 o.1.below w.0 w.1 dead
    where
      by_life : (b : Bool) → is_in living u ≡ b → (o : ℕ) → o < worker_count s.hub → (w : CountWorld) → world_at s o ≡ Some (of_counts w) → is_dead_master (of_counts w) u ≡ not (is_in living u) →
          1 ≤ one_if (is_dead_master (of_counts c) u) + one_if (list_any (λ j. not (j == i) && is_dead_at s j u) (positions_below (worker_count s.hub))) + one_if (is_in living u)
      by_life true alive o few w there dead = let one : one_if (is_in living u) ≡ 1 = ap one_if alive in omega (arith, one)
      by_life false gone o few w there dead =
          let is_dead_now : is_dead_master (of_counts w) u ≡ true = dead ∙ ap not gone in
          elim (cases_eq o i) [
            | inl same ↦
                (let this : w ≡ c = same_counts w c (sym there ∙ (ap (world_at s) same ∙ is)) in
                let one : one_if (is_dead_master (of_counts c) u) ≡ 1 = ap one_if (ap (λ (x : CountWorld). is_dead_master (of_counts x) u) (sym this) ∙ is_dead_now) in
                omega (arith, one))
            | inr apart ↦
                (let at : is_dead_at s o u ≡ true = rw (there, (idle_worker s ok quiet o few).due) is_dead_now in
                let there_too : list_any (λ j. not (j == i) && is_dead_at s j u) (positions_below (worker_count s.hub)) ≡ true = position_has (λ j. not (j == i) && is_dead_at s j u) (worker_count s.hub) o few (ap (λ b. b && is_dead_at s o u) (other o apart) ∙ at) in
                let one : one_if (list_any (λ j. not (j == i) && is_dead_at s j u) (positions_below (worker_count s.hub))) ≡ 1 = ap one_if there_too in
                omega (arith, one))
          ]
        where
          same_counts : (w c : CountWorld) → Some (of_counts w) ≡ Some (of_counts c) → w ≡ c
          same_counts w c h = cc h

          other : (o : ℕ) → o ≢ i → not (o == i) ≡ true
          other o apart = by_test (o == i) refl
            where
              by_test : (t : Bool) → (o == i) ≡ t → not t ≡ true
              by_test true same = absurd (apart (eqb-true o i same))
              by_test false e = refl

  -- the living support each other
  supports : SupportsItself (reads_needed s.job.core.program.fold) s.job.rows living
  supports v member = elim (cases_lt v n) [
    | inr past ↦ absurd (not_in past)
    | inl inner ↦
        (let o = an_owner n cuts v ok.job.cuts.cut inner in
        let master : is_master cuts o.0 v ≡ true = within (low_of cuts o.0) (high_of cuts o.0) v o.1.from o.1.to in
        let c = its_world o.0 o.1.below in
        let of_part = (ok.worlds o.0 (of_counts c.0) c.1).of_part in
        let lows : c.0.part.low ≡ low_of cuts o.0 = ap (λ (p : Part). p.low) of_part.1 in
        let highs : c.0.part.high ≡ high_of cuts o.0 = ap (λ (p : Part). p.high) of_part.1 in
        let room : v - c.0.part.low < length c.0.alive = omega (arith, of_part.3.alive, lows, highs, o.1.from, o.1.to) in
        let flag : slice_index living v ≡ slice_index c.0.alive (v - c.0.part.low) = flag_is o.0 v c.0 o.1.below master c.1 ∙ ap (λ (l : ℕ). slice_index c.0.alive (v - l)) (sym lows) in
        let alive : is_in c.0.alive (v - c.0.part.low) ≡ true = ap (λ (x : ℕ). x == 1) (sym flag) ∙ member in
        let idle = idle_worker s ok quiet o.0 o.1.below in
        let lives : dies c.0 (v - c.0.part.low) ≡ false = ok.settled o.0 (of_counts c.0) c.1 idle.due idle.unchanged (v - c.0.part.low) room in
        let many : c.0.needed ≤ slice_index c.0.counts (v - c.0.part.low) = ltb-false (slice_index c.0.counts (v - c.0.part.low)) c.0.needed (ap (λ b. b && nat_lt (slice_index c.0.counts (v - c.0.part.low)) c.0.needed) (sym alive) ∙ lives) in
        let balance : IsBalanced s o.0 v false (Some (of_counts c.0)) = subst (λ (d : Bool). IsBalanced s o.0 v d (Some (of_counts c.0))) idle.due (subst (λ (w : Option World). IsBalanced s o.0 v (worker_at s.hub o.0).due w) c.1 (counted.balance o.0 v o.1.below master)) in
        let no_waiting : delta_of (waiting_at s.hub o.0) v ≡ 0 = ap (λ (us : List Update). delta_of us v) (no_mail s ok quiet o.0 o.1.below) in
        let no_sent : delta_of (current_updates s.hub o.0) v ≡ 0 = ap (λ (us : List Update). delta_of us v) (no_step s ok quiet o.0 o.1.below) in
        let cover = passing_cover (is_dead_master (of_counts c.0)) (λ u. list_any (λ j. not (j == o.0) && is_dead_at s j u) (positions_below (worker_count s.hub))) (is_in living) (row_at s.job.rows v)
        (recursion_from_All (λ (r : Read). 1 ≤ one_if (is_dead_master (of_counts c.0) r.source) + one_if (list_any (λ j. not (j == o.0) && is_dead_at s j r.source) (positions_below (worker_count s.hub))) + one_if (is_in living r.source)) (row_at s.job.rows v)
        (λ m d in_row. covered o.0 v c.0 o.1.below c.1 (get_or (row_at s.job.rows v) m d).source (ok.job.sound.rows.sources v [] inner m d in_row))) in
        (inner, omega (arith, of_part.2, many, balance, no_waiting, no_sent, cover)))
  ]
    where
      not_in : n ≤ v → ⊥
      not_in past =
          let over : length living ≤ v = omega (arith, past, length_by_position n flag_at) in
          let none : slice_index living v ≡ 0 = get_or_past living v 0 over in
          absurd (cc (member, ap (λ (x : ℕ). x == 1) none))

  -- each master is alive exactly where it is in the core
  pub quiet_living : (i k : ℕ) (c : CountWorld) → i < worker_count s.hub → world_at s i ≡ Some (of_counts c) → k < length c.alive → is_in c.alive k ≡ is_in core (low_of cuts i + k)
  quiet_living i k c inside is there =
      let of_part = (ok.worlds i (of_counts c) is).of_part in
      let lows : c.part.low ≡ low_of cuts i = ap (λ (p : Part). p.low) of_part.1 in
      let highs : c.part.high ≡ high_of cuts i = ap (λ (p : Part). p.high) of_part.1 in
      let few : low_of cuts i + k < high_of cuts i = omega (arith, there, of_part.3.alive, lows, highs) in
      let master : is_master cuts i (low_of cuts i + k) ≡ true = within (low_of cuts i) (high_of cuts i) (low_of cuts i + k) (omega arith) few in
      let place : low_of cuts i + k - low_of cuts i ≡ k = omega arith in
      let flag : is_in living (low_of cuts i + k) ≡ is_in c.alive k = ap (λ (x : ℕ). x == 1) (flag_is i (low_of cuts i + k) c inside master is ∙ ap (slice_index c.alive) place) in
      by_flags (is_in c.alive k) (is_in core (low_of cuts i + k)) refl refl
      (λ alive. of_core.is_core.greatest living supports (low_of cuts i + k) (flag ∙ alive))
      (λ member. counted.alive i c is k there (subst (λ (l : ℕ). is_in core (l + k) ≡ true) (sym lows) member))
    where
      by_flags : (a b : Bool) → is_in c.alive k ≡ a → is_in core (low_of cuts i + k) ≡ b → (is_in c.alive k ≡ true → is_in core (low_of cuts i + k) ≡ true) → (is_in core (low_of cuts i + k) ≡ true → is_in c.alive k ≡ true) → is_in c.alive k ≡ is_in core (low_of cuts i + k)
      by_flags true b x y to from = x ∙ sym (to x)
      by_flags false true x y to from = absurd (cc (x, from y))
      by_flags false false x y to from = x ∙ sym y
