-- What settles in the rounds of a globally correcting program: vertices outside the core die layer by layer.
use Rattle.std.proofs.Common.{◌≡◌, ◌≢◌, ℕ, suc, ◌+◌, ◌-◌, ◌<◌, ◌≤◌, Bool, true, false, not, List, [], ◌∷◌, Option, Some, None, length, map, get_or, arith, refl, sym, ap, subst, ◌∙◌, inl, inr}
use Rattle.std.specs.Prelude.{◌⊎◌, ◌&&◌, ◌==◌, nat_lt, All, slice_index, filter, sum_by, Ok, if◌then◌else◌}
use Rattle.std.specs.List.{list_any, AllByRecursion}
use Rattle.std.proofs.lemmas.Bool.{cases_eq, lt-ltb, le-ltb, eqb-true}
use Rattle.std.proofs.lemmas.List.Elements.{recursion_from_All}
use Rattle.std.proofs.lemmas.List.Folds.{list_any_none}
use Rattle.std.proofs.lemmas.List.FromFn.{get_or-range_with_len, length-range_with_len}
use Rattle.px_base.specs.declared.graph.Part.{Part}
use Rattle.px_base.specs.declared.graph.Read.{Read}
use Rattle.px_base.specs.declared.program.CoreProgram.{CoreProgram}
use Rattle.px_base.specs.declared.program.Class.TheVariants.{GloballyCorrecting}
use Rattle.px_base.specs.declared.wire.Update.{Update}
use Rattle.px_base.specs.declared.wire.Order.TheVariants.{Step}
use Rattle.px_base.specs.declared.wire.Answer.TheVariants.{Stepped}
use Rattle.px_base.specs.Values.{is_in, one_if, by_position, positions_below}
use Rattle.px_base.specs.Graphs.{row_at, reads_passing}
use Rattle.px_base.specs.Classes.{class_of}
use Rattle.px_base.specs.Core.{core_value}
use Rattle.px_base.specs.Answers.{IsKCore, reads_needed}
use Rattle.px_base.specs.Parts.{IsOwner, is_within, is_master, low_of, high_of}
use Rattle.px_base.specs.Worlds.{World, CountWorld, of_values, of_counts, is_fresh}
use Rattle.px_base.specs.CountSteps.{is_master_passing, is_dead, fresh_counts, delta_of, world_as_read, dies, is_announced, times_read, death_announcements}
use Rattle.px_base.proofs.Positions.{length_by_position, at_position}
use Rattle.partitioner.proofs.Owned.{an_owner, high_inside}
use Rattle.partitioner.proofs.Boundaries.{within}
use Rattle.partitioner.proofs.Found.{position_has}
use Rattle.core_solver.proofs.CoreExists.{core_exists}
use Rattle.hub_terms.specs.Jobs.{Job, IsSound}
use Rattle.hub_terms.specs.Hubs.{worker_at, order_at, waiting_at, worker_count}
use Rattle.hub_terms.specs.UnderWay.{updates_now}
use Rattle.hub_terms.specs.Systems.{SystemState, world_at, part_at}
use Rattle.hub_terms.specs.InStep.{IsInStep, IsWorldOf}
use Rattle.hub_terms.specs.Valid.{IsCoreAnswer, is_dead_master, is_dead_in, is_dead_at, IsBalanced, IsCounted, counts_read, IsValid}
use Rattle.list_laws.proofs.Ranges.{at_range}
use Rattle.step_laws.proofs.Counting.{read, after, alive_after}
use Rattle.step_laws.proofs.WorldSteps.{outcome_of}
use Rattle.system_laws.proofs.Kept.{some_told}
use Rattle.round_laws.specs.Rounds.{AllLive}
use Rattle.settling_laws.specs.Settling.{is_left, is_above_layer, last_settling}
use Rattle.settling_laws.specs.SettledWorlds.{CountsSettled, CountsRead}
use Rattle.round_laws.proofs.InTime.{Settles}
use Rattle.round_laws.proofs.Suffice.{world_of_live}
use Rattle.settling_laws.proofs.ClassFacts.{Counts, counts}
use Rattle.budget_laws.proofs.OwnPart.{same_answer, not_fresh}
use Rattle.settling_laws.proofs.Peeling.{passing_whole, passing_covers, gone_before, left_is_core}

-- ---- the answer

same_list : (core : CoreProgram) (a : List ℕ) → core.flipped ≡ false → map (core_value core) a ≡ a
same_list core [] plain = refl
same_list core (x ∷ a) plain = let first : core_value core x ≡ x = rw plain refl in rw (first, same_list core a plain) refl

-- a sound job of the class has one
pub core_answer : (job : Job) → IsSound job → class_of job.core.program ≡ Ok GloballyCorrecting → (a : List ℕ) × IsCoreAnswer job a × IsKCore (reads_needed job.core.program.fold) job.rows a
core_answer job sound class =
    let found : (x : List ℕ) × IsKCore (reads_needed job.core.program.fold) job.rows x = core_exists (reads_needed job.core.program.fold) job.rows in
    let plain : job.core.flipped ≡ false = ap (λ (c : CoreProgram). c.flipped) sound.core ∙ (counts job.core.program class).plain in (
      found.0,
      record {
        values = (λ m d inside. (let low : get_or found.0 m d ≤ 1 = found.1.flags m d inside in omega (arith, low)));
        answer = rw class (rw (same_list job.core found.0 plain) found.1);
      },
      found.1,
    )

-- ---- one Step

filter_none : (q : ℕ → Bool) (xs : List ℕ) → AllByRecursion (λ x. q x ≡ false) xs → filter q xs ≡ []
filter_none q [] none = refl
filter_none q (x ∷ xs) none = rw none.0 (filter_none q xs none.1)

position_fails : (q : ℕ → Bool) (n : ℕ) → ((k : ℕ) → k < n → q k ≡ false) → All (λ x. q x ≡ false) (positions_below n)
position_fails q n none k d inside =
    let here : k < n = omega (arith, inside, length-range_with_len 0 n) in
    let at : get_or (positions_below n) k d ≡ k = get_or-range_with_len 0 n k d here ∙ omega arith in
    ap q at ∙ none k here

module _ (s : SystemState) (ok : IsInStep s) (i : ℕ) (c : CountWorld) (inside : i < worker_count s.hub) (mine : world_at s i ≡ Some (of_counts c)) where
  abbrev cuts : List ℕ
  cuts = s.hub.inboxes.cuts

  abbrev needed : ℕ
  needed = reads_needed s.job.core.program.fold

  of_part : IsWorldOf (part_at s i) s.job.core (of_counts c)
  of_part = (ok.worlds i (of_counts c) mine).of_part

  lows : c.part.low ≡ low_of cuts i
  lows = ap (λ (q : Part). q.low) of_part.1

  highs : c.part.high ≡ high_of cuts i
  highs = ap (λ (q : Part). q.high) of_part.1

  few : (m : ℕ) → m < length c.alive → m < high_of cuts i - low_of cuts i
  few m there = omega (arith, there, of_part.3.alive, lows, highs)

  spot : (m : ℕ) → m < length c.alive → c.part.low + m < length s.job.rows
  spot m there = omega (arith, few m there, lows, high_inside (length s.job.rows) cuts i ok.job.cuts.cut inside)

  row_is : (m : ℕ) → m < length c.alive → row_at c.part.rows m ≡ row_at s.job.rows (c.part.low + m)
  row_is m there = rw of_part.1 (at_range s.job.rows (low_of cuts i) (high_of cuts i) m [] (few m there))

  module _ (epoch round : ℕ) (sent : List Update) (now : epoch ≡ s.hub.members.epoch) where
    abbrev as_read : CountWorld
    as_read = read c epoch round sent of_part.3

    abbrev done : CountWorld
    done = after c epoch round sent of_part.3

    done_length : length done.alive ≡ length c.alive
    done_length = length_by_position (length c.alive) (λ j. one_if (is_in c.alive j && not (dies as_read j)))

    -- a count is read as at most the length of the row
    count_low : (m : ℕ) → m < length c.alive → slice_index (counts_read c epoch round sent) m ≤ length (row_at s.job.rows (c.part.low + m))
    count_low m there = by_fresh (is_fresh c.epoch epoch) refl
      where
        rows_same : length (row_at c.part.rows m) ≡ length (row_at s.job.rows (c.part.low + m))
        rows_same = ap length (row_is m there)

        current : is_fresh c.epoch epoch ≡ false → (worker_at s.hub i).due ≡ false
        current stale = by_due (worker_at s.hub i).due refl
          where
            by_due : (d : Bool) → (worker_at s.hub i).due ≡ d → (worker_at s.hub i).due ≡ false
            by_due false is = is
            by_due true is = absurd (cc (stale, lt-ltb c.epoch epoch (omega (arith, now, (ok.worlds i (of_counts c) mine).due.0 is))))

        by_fresh : (b : Bool) → is_fresh c.epoch epoch ≡ b → slice_index (by_position (length (if b then fresh_counts c else c.counts)) (λ j. slice_index (if b then fresh_counts c else c.counts) j - delta_of sent (c.part.low + j))) m ≤ length (row_at s.job.rows (c.part.low + m))
        by_fresh true fresh =
            let room : m < length (fresh_counts c) = omega (arith, there, length_by_position (length c.alive) (λ j. length (row_at c.part.rows j) - reads_passing (is_master_passing c.part (is_dead c)) (row_at c.part.rows j))) in
            omega (
              arith,
              at_position (length (fresh_counts c)) (λ j. slice_index (fresh_counts c) j - delta_of sent (c.part.low + j)) m 0 room,
              at_position (length c.alive) (λ j. length (row_at c.part.rows j) - reads_passing (is_master_passing c.part (is_dead c)) (row_at c.part.rows j)) m 0 there,
              rows_same,
            )
        by_fresh false stale =
            let room : m < length c.counts = omega (arith, there, of_part.3.alive, of_part.3.counts) in
            omega (arith, at_position (length c.counts) (λ j. slice_index c.counts j - delta_of sent (c.part.low + j)) m 0 room, ok.honest i (of_counts c) mine (current stale) m there, rows_same)

    -- who is dead stays so, and who counts too few dies
    stays_dead : (m : ℕ) → m < length c.alive → is_in c.alive m ≡ false → is_in done.alive m ≡ false
    stays_dead m there dead = alive_after c epoch round sent of_part.3 m there ∙ ap (λ b. b && not (b && nat_lt (slice_index as_read.counts m) c.needed)) dead

    too_few : (m : ℕ) → m < length c.alive → slice_index (counts_read c epoch round sent) m < needed → is_in done.alive m ≡ false
    too_few m there short =
        let low : nat_lt (slice_index as_read.counts m) c.needed ≡ true = lt-ltb (slice_index as_read.counts m) c.needed (omega (arith, short, of_part.2)) in
        alive_after c epoch round sent of_part.3 m there ∙ (ap (λ t. is_in c.alive m && not (is_in c.alive m && t)) low ∙ by_flag (is_in c.alive m))
      where
        by_flag : (a : Bool) → (a && not (a && true)) ≡ false
        by_flag true = refl
        by_flag false = refl

    begun_dead : (m : ℕ) → m < length done.alive → is_above_layer s.job 0 (c.part.low + m) ≡ false → is_in done.alive m ≡ false
    begun_dead m within gone = by_case (gone_before s.job.rows needed 0 (c.part.low + m) gone)
      where
        there : m < length c.alive
        there = omega (arith, within, done_length)

        by_case : (true ≡ false) ⊎ (reads_passing (is_left s.job.rows needed 0) (row_at s.job.rows (c.part.low + m)) < needed) → is_in done.alive m ≡ false
        by_case (inl never) = absurd (cc never)
        by_case (inr short) = too_few m there (omega (arith, count_low m there, short, passing_whole (is_left s.job.rows needed 0) (row_at s.job.rows (c.part.low + m)) (λ u. refl)))

    more_dead : (k : ℕ) → CountsSettled s.job k (of_counts c) → CountsRead s.job k (of_counts c) (Step epoch round sent) →
        (m : ℕ) → m < length done.alive → is_above_layer s.job (suc k) (c.part.low + m) ≡ false → is_in done.alive m ≡ false
    more_dead k settled reads m within gone = by_case (gone_before s.job.rows needed (suc k) (c.part.low + m) gone)
      where
        there : m < length c.alive
        there = omega (arith, within, done_length)

        by_case : (is_above_layer s.job k (c.part.low + m) ≡ false) ⊎ (reads_passing (is_above_layer s.job k) (row_at s.job.rows (c.part.low + m)) < needed) → is_in done.alive m ≡ false
        by_case (inl before) = stays_dead m there (settled m there before)
        by_case (inr short) = too_few m there (omega (arith, reads m there, short))

    -- where only the core is left nobody dies
    none_dies : (core : List ℕ) → IsKCore needed s.job.rows core → IsCounted s core → order_at s.hub i ≡ Some (Step epoch round sent) → CountsSettled s.job (last_settling s.job) (of_counts c) →
        (m : ℕ) → m < length c.alive → dies as_read m ≡ false
    none_dies core is counted had settled m there = by_member (is_in core (c.part.low + m)) refl
      where
        by_left : (b : Bool) → is_left s.job.rows needed (length s.job.rows) (c.part.low + m) ≡ b → is_in core (c.part.low + m) ≡ false → is_left s.job.rows needed (length s.job.rows) (c.part.low + m) ≡ false
        by_left false gone out = gone
        by_left true left out = absurd (cc (out, left_is_core s.job.rows needed core ok.job.sound.rows is (c.part.low + m) (spot m there) left))

        by_member : (b : Bool) → is_in core (c.part.low + m) ≡ b → dies as_read m ≡ false
        by_member true member =
            let enough : c.needed ≤ slice_index (counts_read c epoch round sent) m = counted.enough i c epoch round sent mine had m there member in
            ap (λ t. is_in c.alive m && t) (le-ltb (slice_index as_read.counts m) c.needed enough) ∙ and_false (is_in c.alive m)
          where
            and_false : (b : Bool) → (b && false) ≡ false
            and_false true = refl
            and_false false = refl
        by_member false out =
            let gone : is_left s.job.rows needed (length s.job.rows) (c.part.low + m) ≡ false = by_left (is_left s.job.rows needed (length s.job.rows) (c.part.low + m)) refl out in
            let last : suc (last_settling s.job) ≡ length s.job.rows = omega (arith, spot m there) in
            let dead : is_in c.alive m ≡ false = settled m there (ap (λ l. is_left s.job.rows needed l (c.part.low + m)) last ∙ gone) in
            ap (λ a. a && nat_lt (slice_index as_read.counts m) c.needed) dead

    nobody : ((m : ℕ) → m < length c.alive → dies as_read m ≡ false) → list_any (dies as_read) (positions_below (length c.alive)) ≡ false
    nobody none = list_any_none (dies as_read) (positions_below (length c.alive)) (position_fails (dies as_read) (length c.alive) none)

    no_deaths : ((m : ℕ) → m < length c.alive → dies as_read m ≡ false) → death_announcements done (is_announced false as_read done) ≡ []
    no_deaths none = ap (map (λ m. record { vertex = m; value = times_read done (is_announced false as_read done) m }))
        (filter_none (λ m. nat_lt 0 (times_read done (is_announced false as_read done) m)) done.part.mirrors (each done.part.mirrors))
      where
        nobody_told : filter (is_announced false as_read done) (positions_below (length done.alive)) ≡ []
        nobody_told = filter_none (is_announced false as_read done) (positions_below (length done.alive))
            (recursion_from_All (λ x. dies as_read x ≡ false) (positions_below (length done.alive)) (position_fails (dies as_read) (length done.alive) (λ k within. none k (omega (arith, within, done_length)))))

        untold : (m : ℕ) → nat_lt 0 (times_read done (is_announced false as_read done) m) ≡ false
        untold m = ap (λ (ks : List ℕ). nat_lt 0 (sum_by (λ k. reads_passing (λ u. u == m) (row_at done.part.rows k)) ks)) nobody_told

        each : (ms : List ℕ) → AllByRecursion (λ m. nat_lt 0 (times_read done (is_announced false as_read done) m) ≡ false) ms
        each [] = tt
        each (m ∷ ms) = (untold m, each ms)

  -- ---- a Step that is given

  module _ (core : List ℕ) (counted : IsCounted s core) (k round : ℕ) (idle : order_at s.hub i ≡ None) (each : AllLive s.hub) (known : (j : ℕ) (w : World) → world_at s j ≡ Some w → ((worker_at s.hub j).due ≡ false) × CountsSettled s.job k w) where
    up : (worker_at s.hub i).due ≡ false
    up = (known i (of_counts c) mine).0

    count_world : (j : ℕ) → j < worker_count s.hub → (w : CountWorld) × (world_at s j ≡ Some (of_counts w))
    count_world j below = by_world (world_of_live s j ok.live_worlds (some_told s i (of_counts c) ok.live_worlds mine).0 (each j below))
      where
        by_world : (w : World) × (world_at s j ≡ Some w) → (w : CountWorld) × (world_at s j ≡ Some (of_counts w))
        by_world (of_counts w, is) = (w, is)
        by_world (of_values w, is) = absurd (cc ((ok.worlds j (of_values w) is).of_part.0, of_part.0))

    abbrev away : ℕ → Bool
    away u = list_any (λ j. not (j == i) && is_dead_at s j u) (positions_below (worker_count s.hub))

    -- each source is above the layer, or dead in its world
    above_or_dead : (u : ℕ) → u < length s.job.rows → (is_above_layer s.job k u ≡ true) ⊎ ((is_dead_master (of_counts c) u ≡ true) ⊎ (away u ≡ true))
    above_or_dead u inner = by_layer (is_above_layer s.job k u) refl
      where
        dead_there : is_above_layer s.job k u ≡ false → (j : ℕ) → IsOwner cuts u j → (w : CountWorld) → world_at s j ≡ Some (of_counts w) → is_dead_master (of_counts w) u ≡ true
        dead_there gone j o w is =
            let part = (ok.worlds j (of_counts w) is).of_part in
            let low_there : w.part.low ≡ low_of cuts j = ap (λ (q : Part). q.low) part.1 in
            let high_there : w.part.high ≡ high_of cuts j = ap (λ (q : Part). q.high) part.1 in
            let room : u - w.part.low < length w.alive = omega (arith, part.3.alive, low_there, high_there, o.from, o.to) in
            let back : w.part.low + (u - w.part.low) ≡ u = omega (arith, low_there, o.from) in
            let dead : is_in w.alive (u - w.part.low) ≡ false = (known j (of_counts w) is).1 (u - w.part.low) room (ap (is_above_layer s.job k) back ∙ gone) in
            let here : is_within w.part.low w.part.high u ≡ true = within w.part.low w.part.high u (omega (arith, low_there, o.from)) (omega (arith, high_there, o.to)) in
            ap (λ b. b && is_dead w (u - w.part.low)) here ∙ ap not dead

        by_layer : (b : Bool) → is_above_layer s.job k u ≡ b → (is_above_layer s.job k u ≡ true) ⊎ ((is_dead_master (of_counts c) u ≡ true) ⊎ (away u ≡ true))
        by_layer true above = inl above
        by_layer false gone =
            let o = an_owner (length s.job.rows) cuts u ok.job.cuts.cut inner in
            elim (cases_eq o.0 i) [
              | inl same ↦ inr (inl (dead_there gone i (subst (λ (j : ℕ). IsOwner cuts u j) same o.1) c mine))
              | inr apart ↦
                  (let w = count_world o.0 o.1.below in
                  let dead : is_dead_master (of_counts w.0) u ≡ true = dead_there gone o.0 o.1 w.0 w.1 in
                  let is_dead_there : is_dead_at s o.0 u ≡ true = ap (λ b. not b && is_dead_in (world_at s o.0) u) (known o.0 (of_counts w.0) w.1).0 ∙ (ap (λ x. is_dead_in x u) w.1 ∙ dead) in
                  let other : not (o.0 == i) ≡ true = by_test (o.0 == i) refl apart in
                  inr (inr (position_has (λ j. not (j == i) && is_dead_at s j u) (worker_count s.hub) o.0 o.1.below (ap (λ b. b && is_dead_at s o.0 u) other ∙ is_dead_there))))
            ]
          where
            by_test : {a b : ℕ} (t : Bool) → (a == b) ≡ t → a ≢ b → not (a == b) ≡ true
            by_test {a = a} {b = b} true is apart = absurd (apart (eqb-true a b is))
            by_test false is apart = ap not is

    given_low : (m : ℕ) → m < length c.alive → slice_index (counts_read c s.hub.members.epoch round (waiting_at s.hub i)) m ≤ reads_passing (is_above_layer s.job k) (row_at s.job.rows (c.part.low + m))
    given_low m there =
        let v : ℕ = c.part.low + m in
        let row : List Read = row_at s.job.rows v in
        let box : List Update = waiting_at s.hub i in
        let stale : is_fresh c.epoch s.hub.members.epoch ≡ false = not_fresh s ok i s.hub.members.epoch (of_counts c) mine up refl in
        let master : is_master cuts i v ≡ true = within (low_of cuts i) (high_of cuts i) v (omega (arith, lows)) (omega (arith, lows, few m there)) in
        let any_balance : IsBalanced s i v (worker_at s.hub i).due (world_at s i) = counted.balance i v inside master in
        let balance : IsBalanced s i v false (Some (of_counts c)) = subst (λ (d : Bool). IsBalanced s i v d (Some (of_counts c))) up (subst (λ (o : Option World). IsBalanced s i v (worker_at s.hub i).due o) mine any_balance) in
        let nothing : delta_of (updates_now s.hub.members.epoch (order_at s.hub i)) v ≡ 0 = ap (λ o. delta_of (updates_now s.hub.members.epoch o) v) idle in
        let place : v - c.part.low ≡ m = omega arith in
        let count_is : slice_index c.counts (v - c.part.low) ≡ slice_index c.counts m = ap (slice_index c.counts) place in
        let room : m < length c.counts = omega (arith, there, of_part.3.alive, of_part.3.counts) in
        let reads : slice_index (counts_read c s.hub.members.epoch round box) m ≡ slice_index c.counts m - delta_of box v =
        ap (λ (b : Bool). slice_index (by_position (length (if b then fresh_counts c else c.counts)) (λ j. slice_index (if b then fresh_counts c else c.counts) j - delta_of box (c.part.low + j))) m) stale
        ∙ at_position (length c.counts) (λ j. slice_index c.counts j - delta_of box (c.part.low + j)) m 0 room in
        let covers : length row ≤ reads_passing (is_above_layer s.job k) row + reads_passing (is_dead_master (of_counts c)) row + reads_passing away row =
        passing_covers (is_above_layer s.job k) (is_dead_master (of_counts c)) away row
        (recursion_from_All (λ x. (is_above_layer s.job k x.source ≡ true) ⊎ ((is_dead_master (of_counts c) x.source ≡ true) ⊎ (away x.source ≡ true))) row
        (λ l d in_row. above_or_dead (get_or row l d).source (ok.job.sound.rows.sources v [] (spot m there) l d in_row))) in
        omega (arith, reads, balance, nothing, count_is, covers)

-- ---- what the class gives

pub counting_settles : (s : SystemState) → IsInStep s → IsValid s → s.told ≡ true → class_of s.job.core.program ≡ Ok GloballyCorrecting → Settles CountsSettled CountsRead last_settling s
counting_settles s ok valid told class = record { given = given; begun = begun; more = more; ended = ended }
  where
    facts : Counts s.job.core.program
    facts = counts s.job.core.program class

    answer : (a : List ℕ) × IsCoreAnswer s.job a × IsKCore (reads_needed s.job.core.program.fold) s.job.rows a
    answer = core_answer s.job ok.job.sound class

    counted : IsCounted s answer.0
    counted = rw class at (valid told answer.0 answer.1)

    given : (i k : ℕ) (w : World) → i < worker_count s.hub → world_at s i ≡ Some w → order_at s.hub i ≡ None → AllLive s.hub →
        ((j : ℕ) (u : World) → world_at s j ≡ Some u → ((worker_at s.hub j).due ≡ false) × CountsSettled s.job k u) →
        CountsRead s.job k w (Step s.hub.members.epoch (worker_at s.hub i).round (waiting_at s.hub i))
    given i k (of_values u) inside mine idle each known = tt
    given i k (of_counts c) inside mine idle each known = given_low s ok i c inside mine answer.0 counted k (worker_at s.hub i).round idle each known

    begun : (i epoch round : ℕ) (updates : List Update) (w : World) → i < worker_count s.hub → world_at s i ≡ Some w → order_at s.hub i ≡ Some (Step epoch round updates) → epoch ≡ s.hub.members.epoch →
        CountsSettled s.job 0 (outcome_of w (Step epoch round updates)).world
    begun i epoch round updates (of_values u) inside mine had now = tt
    begun i epoch round updates (of_counts c) inside mine had now = begun_dead s ok i c inside mine epoch round updates now

    more : (i k epoch round : ℕ) (updates : List Update) (w : World) → i < worker_count s.hub → world_at s i ≡ Some w → order_at s.hub i ≡ Some (Step epoch round updates) → epoch ≡ s.hub.members.epoch →
        CountsSettled s.job k w → CountsRead s.job k w (Step epoch round updates) → CountsSettled s.job (suc k) (outcome_of w (Step epoch round updates)).world
    more i k epoch round updates (of_values u) inside mine had now settled reads = tt
    more i k epoch round updates (of_counts c) inside mine had now settled reads = more_dead s ok i c inside mine epoch round updates now k settled reads

    ended : (i epoch round : ℕ) (updates : List Update) (w : World) (changed : Bool) (sent : List Update) → i < worker_count s.hub → world_at s i ≡ Some w →
        order_at s.hub i ≡ Some (Step epoch round updates) → epoch ≡ s.hub.members.epoch → (worker_at s.hub i).due ≡ false →
        CountsSettled s.job (last_settling s.job) w → CountsRead s.job (last_settling s.job) w (Step epoch round updates) → (outcome_of w (Step epoch round updates)).answer ≡ Stepped epoch round changed sent →
        (changed ≡ false) × (sent ≡ [])
    ended i epoch round updates (of_values u) changed sent inside mine had now up settled reads answered = absurd (cc ((ok.worlds i (of_values u) mine).of_part.0, facts.counts))
    ended i epoch round updates (of_counts c) changed sent inside mine had now up settled reads answered =
        let none : (m : ℕ) → m < length c.alive → dies (world_as_read epoch round updates c) m ≡ false = none_dies s ok i c inside mine epoch round updates now answer.0 answer.2 counted had settled in
        let fits = (ok.worlds i (of_counts c) mine).of_part.3 in
        let fields = same_answer (list_any (dies (world_as_read epoch round updates c)) (positions_below (length c.alive))) changed
        (death_announcements (after c epoch round updates fits) (is_announced (is_fresh c.epoch epoch) (world_as_read epoch round updates c) (after c epoch round updates fits))) sent answered in (
          sym fields.0 ∙ nobody s ok i c inside mine epoch round updates now none,
          sym fields.1 ∙ (ap (λ (b : Bool). death_announcements (after c epoch round updates fits) (is_announced b (world_as_read epoch round updates c) (after c epoch round updates fits))) (not_fresh s ok i epoch (of_counts c) mine up now)
              ∙ no_deaths s ok i c inside mine epoch round updates now none),
        )
