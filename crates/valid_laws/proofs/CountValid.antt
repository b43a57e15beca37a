-- Of a program that counts: every event keeps that a state is valid.
use Rattle.std.proofs.Common.{◌≡◌, ◌≢◌, ℕ, ◌+◌, ◌-◌, ◌<◌, ◌≤◌, Bool, true, false, not, List, [], ◌∷◌, Option, Some, None, length, map, get_or, set, arith, refl, sym, ap, subst, ◌∙◌, inl, inr, eq-eqb}
use Rattle.std.specs.Prelude.{◌&&◌, ◌||◌, ◌==◌, All, IsTrue, nat_lt, slice_index, replicate, Result, Ok, MatchResult, MatchOption, if◌then◌else◌, ⊤}
use Rattle.std.specs.List.{list_any}
use Rattle.std.proofs.lemmas.List.{get_or-replicate, length-replicate, get_or-set_same, get_or-set_other}
use Rattle.std.proofs.lemmas.Bool.{cases_eq, cases_lt, lt-ltb, le-ltb}
use Rattle.px_base.specs.declared.graph.Read.{Read}
use Rattle.px_base.specs.declared.graph.Part.{Part}
use Rattle.px_base.specs.declared.program.CoreProgram.{CoreProgram}
use Rattle.px_base.specs.declared.program.Program.{Program}
use Rattle.px_base.specs.declared.program.Fold.{Fold}
use Rattle.px_base.specs.declared.program.Fold.TheVariants.{Least, Greatest, Mex, Count}
use Rattle.px_base.specs.declared.program.Class.{Class}
use Rattle.px_base.specs.declared.program.Class.TheVariants.{GloballyCorrecting}
use Rattle.px_base.specs.declared.program.Refused.{Refused}
use Rattle.px_base.specs.declared.wire.Update.{Update}
use Rattle.px_base.specs.declared.wire.Order.{Order}
use Rattle.px_base.specs.declared.wire.Order.TheVariants.{Step, Report}
use Rattle.px_base.specs.declared.wire.Answer.{Answer}
use Rattle.px_base.specs.declared.wire.Answer.TheVariants.{Stepped, Reported}
use Rattle.px_base.specs.declared.wire.Foreign.{Foreign}
use Rattle.px_base.specs.declared.wire.LossKind.{LossKind}
use Rattle.px_base.specs.Values.{IsValue, positions_below, is_in, one_if}
use Rattle.px_base.specs.Graphs.{row_at, reads_passing}
use Rattle.px_base.specs.Classes.{class_of, counts_reads, is_core_form, takes_greatest, is_simple, reads_all, starts_each_at_one, is_same, keeps}
use Rattle.px_base.specs.Core.{core_value}
use Rattle.px_base.specs.Laws.{ClassPromises, RefusalShows}
use Rattle.px_base.specs.Answers.{IsKCore, reads_needed}
use Rattle.px_base.specs.Parts.{is_master, is_within, low_of, high_of}
use Rattle.px_base.specs.Worlds.{World, CountWorld, of_values, of_counts, is_fresh, CarriesValues, new_world, new_count_world}
use Rattle.px_base.specs.CountSteps.{is_master_passing, is_dead, dies, delta_of, fresh_counts, counts_less, death_announcements, is_announced}
use Rattle.px_base.proofs.ClassLaws.{class_kept}
use Rattle.px_base.proofs.Positions.{length_by_position, at_position}
use Rattle.px_base.proofs.Ranges.{within_bounds}
use Rattle.partitioner.proofs.Boundaries.{within}
use Rattle.hub_terms.specs.declared.stops.Why.{Why}
use Rattle.hub_terms.specs.declared.stops.Halt.{Halt}
use Rattle.hub_terms.specs.declared.tasks.Task.TheVariants as task
use Rattle.hub_terms.specs.Jobs.{Job, IsSound, IsSymmetric, RowsSuit}
use Rattle.hub_terms.specs.declared.workers.MemberState.{MemberState}
use Rattle.hub_terms.specs.Hubs.{Turn, worker_at, order_at, waiting_at, worker_count, after_turn}
use Rattle.hub_terms.specs.HubEvents.{after_loss, after_join, why_of, foreign_of, absorption, answer_to, answer_taken}
use Rattle.hub_terms.specs.UnderWay.{updates_now, current_updates}
use Rattle.hub_terms.specs.Systems.{SystemState, Event, give, took, lost, joined, halt, world_at, part_at, with_world, new_world_at, world_after, MayCome, state_after, state_taken, IsHonestAnswer, AnswersValues}
use Rattle.hub_terms.specs.InStep.{IsInStep, IsWorldOf, CountWorldFits}
use Rattle.hub_terms.specs.Valid.{IsCoreAnswer, is_dead_master, is_dead_in, is_dead_at, dead_away, dead_beside, delta_on_its_way, IsBalanced, IsCounted, counts_read, IsValid}
use Rattle.list_laws.proofs.Ranges.{at_range}
use Rattle.step_laws.proofs.Counting.{passing_both, read, after, alive_after}
use Rattle.hub_laws.proofs.Workers.{due_tasked}
use Rattle.hub_laws.proofs.HubGave.{turn_by}
use Rattle.hub_laws.proofs.HubGave as gave
use Rattle.hub_laws.proofs.HubChanged as changed
use Rattle.hub_laws.proofs.HubTook.{right_answer, stepped_order, reported_order, stepped_hub, stepped_worker, reported_hub, stepped_is, reported_is}
use Rattle.hub_laws.proofs.HubTook as hub_took
use Rattle.step_laws.proofs.WorldSteps.{outcome_of}
use Rattle.system_laws.proofs.WorldsKept.{world_there, world_elsewhere, part_is_fit}
use Rattle.system_laws.proofs.WorldsKept as kept
use Rattle.system_laws.proofs.TookWorlds as took_worlds
use Rattle.system_laws.proofs.Kept as all_kept
use Rattle.valid_laws.proofs.CountKept.{any_none, away_same, balance_on, balanced_due, given_balance, lost_balance, joined_balance}
use Rattle.valid_laws.proofs.CountStep.{passing_apart, dead_nowhere, other_balance, own_balance}
use Rattle.valid_laws.proofs.Valid.{event_valid}

-- ---- the core

-- what the core answer of a globally correcting program is, and its rows
pub record IsCoreOf (job : Job) (core : List ℕ) : Type 0 where
  pub counts : counts_reads job.core.program.fold ≡ true
  pub both_ways : IsSymmetric job.rows
  pub is_core : IsKCore (reads_needed job.core.program.fold) job.rows core

not_greatest : (f : Fold) → counts_reads f ≡ true → takes_greatest f ≡ false
not_greatest Least h = refl
not_greatest Greatest h = cc
not_greatest Mex h = refl
not_greatest (Count k) h = refl

same_list : (core : CoreProgram) (a : List ℕ) → core.flipped ≡ false → map (core_value core) a ≡ a
same_list core [] plain = refl
same_list core (x ∷ a) plain = let first : core_value core x ≡ x = rw plain refl in rw (first, same_list core a plain) refl

pub core_of : (job : Job) (a : List ℕ) → IsSound job → class_of job.core.program ≡ Ok GloballyCorrecting → IsCoreAnswer job a → IsCoreOf job a
core_of job a sound class answer =
    let q : Program = job.core.program in
    let promise : IsTrue (is_core_form q) = subst (λ (r : Result Class Refused). MatchResult r (λ class. ClassPromises class q) (λ why. RefusalShows why q)) class (class_kept q.form q.reads q.start q.along q.fold q.own) in
    let counts : counts_reads q.fold ≡ true = first (counts_reads q.fold) (is_simple q.form) (reads_all q.reads) (starts_each_at_one q.start) (is_same q.along) (keeps q.own) promise in
    let plain : job.core.flipped ≡ false = ap (λ (c : CoreProgram). c.flipped) sound.core ∙ not_greatest q.fold counts in
    let given : IsKCore (reads_needed q.fold) job.rows (map (core_value job.core) a) = rw class at answer.answer in
    record {
      counts = counts;
      both_ways = subst (λ (r : Result Class Refused). MatchResult r (λ class. RowsSuit class job.rows) (λ refused. ⊥)) class sound.suit;
      is_core = rw (same_list job.core a plain) at given;
    }
  where
    first : (a b c d e f : Bool) → (a && b && c && d && e && f) ≡ true → a ≡ true
    first true b c d e f h = refl
    first false b c d e f h = h

-- a Step leaves master m with as many as it needs
abbrev ReadsEnough : CountWorld → ℕ → Order → Type 0
ReadsEnough w m (Step epoch round updates) = w.needed ≤ slice_index (counts_read w epoch round updates) m
ReadsEnough w m (Report epoch) = ⊤

module _ (s : SystemState) (core : List ℕ) (ok : IsInStep s) (of_core : IsCoreOf s.job core) (counted : IsCounted s core) where
  -- a member of the core is dead in no world
  core_not_dead : (j u : ℕ) (w : CountWorld) → world_at s j ≡ Some (of_counts w) → is_in core u ≡ true → is_dead_master (of_counts w) u ≡ false
  core_not_dead j u w is member = by_place (is_within w.part.low w.part.high u) refl
    where
      by_place : (b : Bool) → is_within w.part.low w.part.high u ≡ b → (b && is_dead w (u - w.part.low)) ≡ false
      by_place false out = refl
      by_place true here =
          let bounds = within_bounds w.part.low w.part.high u here in
          let room : u - w.part.low < length w.alive = omega (arith, bounds.0, bounds.1, (ok.worlds j (of_counts w) is).of_part.3.alive) in
          let back : u ≡ w.part.low + (u - w.part.low) = omega (arith, bounds.0) in
          ap not (counted.alive j w is (u - w.part.low) room (rw back at member))

  core_not_at : (j u : ℕ) → is_in core u ≡ true → is_dead_at s j u ≡ false
  core_not_at j u member = by_world (world_at s j) refl
    where
      and_false : (b : Bool) → (b && false) ≡ false
      and_false true = refl
      and_false false = refl

      by_world : (o : Option World) → world_at s j ≡ o → (not (worker_at s.hub j).due && is_dead_in o u) ≡ false
      by_world None is = and_false (not (worker_at s.hub j).due)
      by_world (Some (of_values w)) is = and_false (not (worker_at s.hub j).due)
      by_world (Some (of_counts w)) is = ap (λ b. not (worker_at s.hub j).due && b) (core_not_dead j u w is member) ∙ and_false (not (worker_at s.hub j).due)

  -- ---- a Step leaves the members of the core with as many as they need

  module _ (k : ℕ) (inside : k < worker_count s.hub) (idle : order_at s.hub k ≡ None) (c : CountWorld) (mine : world_at s k ≡ Some (of_counts c)) (m : ℕ) (there : m < length c.alive) (member : is_in core (c.part.low + m) ≡ true) where
    abbrev v : ℕ
    v = c.part.low + m

    abbrev cuts : List ℕ
    cuts = s.hub.inboxes.cuts

    of_mine : IsWorldOf (part_at s k) s.job.core (of_counts c)
    of_mine = (ok.worlds k (of_counts c) mine).of_part

    lows : c.part.low ≡ low_of cuts k
    lows = ap (λ (p : Part). p.low) of_mine.1

    highs : c.part.high ≡ high_of cuts k
    highs = ap (λ (p : Part). p.high) of_mine.1

    few : m < high_of cuts k - low_of cuts k
    few = omega (arith, there, of_mine.3.alive, lows, highs)

    row : row_at c.part.rows m ≡ row_at s.job.rows v
    row = ap (λ (p : Part). row_at p.rows m) of_mine.1 ∙ (at_range s.job.rows (low_of cuts k) (high_of cuts k) m [] few ∙ ap (λ (l : ℕ). row_at s.job.rows (l + m)) (sym lows))

    is_own : is_master cuts k v ≡ true
    is_own = within (low_of cuts k) (high_of cuts k) v (omega (arith, lows)) (omega (arith, few, lows))

    abbrev elsewhere : ℕ → Bool
    elsewhere u = list_any (λ j. not (j == k) && is_dead_at s j u) (positions_below (worker_count s.hub))

    -- the dead beside, the dead elsewhere, and the members of the core are different neighbours
    three_apart : dead_beside (of_counts c) (row_at s.job.rows v) + dead_away s k v + reads_passing (is_in core) (row_at s.job.rows v) ≤ length (row_at s.job.rows v)
    three_apart =
        let both = passing_both (λ u. elsewhere u || is_in core u) elsewhere (is_in core) (row_at s.job.rows v) (λ u. split (elsewhere u) (is_in core u) (λ member. none_elsewhere u member)) in
        let apart = passing_apart (is_dead_master (of_counts c)) (λ u. elsewhere u || is_in core u) (row_at s.job.rows v) not_both in
        omega (arith, both, apart)
      where
        and_false : (b : Bool) → (b && false) ≡ false
        and_false true = refl
        and_false false = refl

        none_elsewhere : (u : ℕ) → is_in core u ≡ true → elsewhere u ≡ false
        none_elsewhere u member = any_none (λ j. not (j == k) && is_dead_at s j u) (positions_below (worker_count s.hub)) (λ j. ap (λ b. not (j == k) && b) (core_not_at j u member) ∙ and_false (not (j == k)))

        split : (a b : Bool) → (b ≡ true → a ≡ false) → one_if (a || b) ≡ one_if a + one_if b
        split true true h = absurd (cc (h refl))
        split true false h = refl
        split false true h = refl
        split false false h = refl

        dead_inside : (u : ℕ) → is_dead_master (of_counts c) u ≡ true → is_within c.part.low c.part.high u ≡ true
        dead_inside u dead = first (is_within c.part.low c.part.high u) (is_dead c (u - c.part.low)) dead
          where
            first : (a b : Bool) → (a && b) ≡ true → a ≡ true
            first true b h = refl
            first false b h = h

        not_both : (u : ℕ) → is_dead_master (of_counts c) u ≡ true → (elsewhere u || is_in core u) ≡ false
        not_both u dead = rw (nobody, no_member) refl
          where
            nobody : elsewhere u ≡ false
            nobody = any_none (λ j. not (j == k) && is_dead_at s j u) (positions_below (worker_count s.hub)) (λ j. elim (cases_eq j k) [
              | inl here ↦ ap (λ b. not b && is_dead_at s j u) (eq-eqb j k here)
              | inr other ↦ ap (λ b. not (j == k) && b) (dead_nowhere s ok k j u inside (ap (λ (p : Part). is_within p.low p.high u) (sym of_mine.1) ∙ dead_inside u dead) other) ∙ and_false (not (j == k))
            ])

            no_member : is_in core u ≡ false
            no_member = by_test (is_in core u) refl
              where
                by_test : (b : Bool) → is_in core u ≡ b → is_in core u ≡ false
                by_test false is = is
                by_test true is = absurd (cc (core_not_dead k u c mine is, dead))

    pub enough_left : (round : ℕ) → c.needed ≤ slice_index (counts_read c s.hub.members.epoch round (waiting_at s.hub k)) m
    enough_left round =
        let needs : c.needed ≤ reads_passing (is_in core) (row_at s.job.rows v) = rw of_mine.2 (of_core.is_core.supported v member).1 in
        let nothing : delta_of (current_updates s.hub k) v ≡ 0 = ap (λ o. delta_of (updates_now s.hub.members.epoch o) v) idle in
        by_fresh (is_fresh c.epoch s.hub.members.epoch) refl needs nothing
        (subst (λ (d : Bool). IsBalanced s k v d (Some (of_counts c))) (due_is (worker_at s.hub k).due refl) (subst (λ (o : Option World). IsBalanced s k v (worker_at s.hub k).due o) mine (counted.balance k v inside is_own)))
      where
        due_is : (d : Bool) → (worker_at s.hub k).due ≡ d → (worker_at s.hub k).due ≡ is_fresh c.epoch s.hub.members.epoch
        due_is true due = due ∙ sym (lt-ltb c.epoch s.hub.members.epoch ((ok.worlds k (of_counts c) mine).due.0 due))
        due_is false due = due ∙ sym (le-ltb c.epoch s.hub.members.epoch (late due))
          where
            late : (worker_at s.hub k).due ≡ false → s.hub.members.epoch ≤ c.epoch
            late due = elim (cases_lt c.epoch s.hub.members.epoch) [ inl less ↦ absurd (cc ((ok.worlds k (of_counts c) mine).due.1 less, due)) | inr level ↦ level ]

        by_fresh : (f : Bool) → is_fresh c.epoch s.hub.members.epoch ≡ f → c.needed ≤ reads_passing (is_in core) (row_at s.job.rows v) → delta_of (current_updates s.hub k) v ≡ 0 → IsBalanced s k v f (Some (of_counts c)) →
            c.needed ≤ slice_index (counts_less c.part.low (waiting_at s.hub k) (if f then fresh_counts c else c.counts)) m
        by_fresh true is needs nothing old =
            let room : m < length (fresh_counts c) = omega (arith, there, length_by_position (length c.alive) (λ j. length (row_at c.part.rows j) - reads_passing (is_master_passing c.part (is_dead c)) (row_at c.part.rows j))) in
            let less : slice_index (counts_less c.part.low (waiting_at s.hub k) (fresh_counts c)) m ≡ slice_index (fresh_counts c) m - delta_of (waiting_at s.hub k) v = at_position (length (fresh_counts c)) (λ j. slice_index (fresh_counts c) j - delta_of (waiting_at s.hub k) (c.part.low + j)) m 0 room in
            let whole : slice_index (fresh_counts c) m ≡ length (row_at c.part.rows m) - dead_beside (of_counts c) (row_at c.part.rows m) =
            at_position (length c.alive) (λ j. length (row_at c.part.rows j) - reads_passing (is_master_passing c.part (is_dead c)) (row_at c.part.rows j)) m 0 there in
            let same : length (row_at c.part.rows m) - dead_beside (of_counts c) (row_at c.part.rows m) ≡ length (row_at s.job.rows v) - dead_beside (of_counts c) (row_at s.job.rows v) = ap (λ (r : List Read). length r - dead_beside (of_counts c) r) row in
            omega (arith, needs, nothing, old, less, whole, same, three_apart)
        by_fresh false is needs nothing old =
            let room : m < length c.counts = omega (arith, there, of_mine.3.alive, of_mine.3.counts) in
            let less : slice_index (counts_less c.part.low (waiting_at s.hub k) c.counts) m ≡ slice_index c.counts m - delta_of (waiting_at s.hub k) v = at_position (length c.counts) (λ j. slice_index c.counts j - delta_of (waiting_at s.hub k) (c.part.low + j)) m 0 room in
            let place_of_v : v - c.part.low ≡ m = omega arith in
            let count : slice_index c.counts (v - c.part.low) ≡ slice_index c.counts m = ap (slice_index c.counts) place_of_v in
            omega (arith, needs, nothing, old, less, count, three_apart)

  -- ---- the events

  same_hub : (h : Option Why) → IsCounted (record s { hub = record s.hub { halt = h } }) core
  same_hub h = record {
    alive = counted.alive;
    balance = λ i v few master. balance_on s (record s { hub = record s.hub { halt = h } }) i v (worker_at s.hub i).due (world_at s i) refl refl refl (counted.balance i v few master);
    enough = counted.enough;
  }

  given_counted : (k : ℕ) (inside : k < worker_count s.hub) (live : (worker_at s.hub k).live ≡ true) (boxes : List (List Update)) (order : Order) →
      ((v : ℕ) → delta_of (get_or boxes k []) v + delta_of (updates_now s.hub.members.epoch (Some order)) v ≡ delta_on_its_way s k v) → ((j : ℕ) → j ≢ k → get_or boxes j [] ≡ waiting_at s.hub j) →
      ((w : CountWorld) (epoch round : ℕ) (updates : List Update) → world_at s k ≡ Some (of_counts w) → order ≡ Step epoch round updates → (m : ℕ) → m < length w.alive → IsTrue (is_in core (w.part.low + m)) → w.needed ≤ slice_index (counts_read w epoch round updates) m) →
      IsCounted (record s { hub = gave.given s.hub s.hub k order boxes ok.hub inside live }) core
  given_counted k inside live boxes order here others enough = record {
    alive = counted.alive;
    balance = given_balance s core ok counted k inside live boxes order here others;
    enough = λ i w epoch round updates is has m there member. elim (cases_eq i k) [
      | inl same ↦ enough w epoch round updates (ap (world_at s) (sym same) ∙ is)
          (gave.some_same order (Step epoch round updates) (sym (gave.order_same s.hub s.hub k order boxes ok.hub inside live) ∙ (ap (λ l. order_at (gave.given s.hub s.hub k order boxes ok.hub inside live) l) (sym same) ∙ has))) m there member
      | inr apart ↦ counted.enough i w epoch round updates is (sym (gave.order_other s.hub s.hub k order boxes ok.hub inside live i apart) ∙ has) m there member
    ];
  }

  pub gave_counted : (k : ℕ) → MayCome s (give k) → IsCounted (state_after s (give k)) core
  gave_counted k may = turn_by (λ (turn : Turn). IsCounted (record s { hub = after_turn s.hub k turn }) core) s.hub k
      (λ reason is. same_hub (Some reason)) (λ free quiet all. counted)
      (λ free quiet none. given_counted k may.0 may.1 s.hub.inboxes.boxes (Report s.hub.members.epoch) (λ v. sym (ap (λ o. delta_of (waiting_at s.hub k) v + delta_of (updates_now s.hub.members.epoch o) v) may.2)) (λ j apart. refl)
      (λ w epoch round updates is same. absurd (cc same)))
      (λ free busy steps. (let room : k < length s.hub.inboxes.boxes = omega (arith, may.0, ok.hub.places.boxes) in
      given_counted k may.0 may.1 (set s.hub.inboxes.boxes k []) (Step s.hub.members.epoch (worker_at s.hub k).round (waiting_at s.hub k)) (handed room)
      (λ j apart. get_or-set_other s.hub.inboxes.boxes k j [] [] apart)
      (λ w epoch round updates is same m there member. given_enough w epoch round updates is same m there member)))
      (λ free busy out. same_hub (Some _)) counted
    where
      handed : k < length s.hub.inboxes.boxes → (v : ℕ) → delta_of (get_or (set s.hub.inboxes.boxes k []) k []) v + delta_of (updates_now s.hub.members.epoch (Some (Step s.hub.members.epoch (worker_at s.hub k).round (waiting_at s.hub k)))) v ≡ delta_on_its_way s k v
      handed room v =
          let empty : delta_of (get_or (set s.hub.inboxes.boxes k []) k []) v ≡ 0 = ap (λ (box : List Update). delta_of box v) (get_or-set_same s.hub.inboxes.boxes k [] [] room) in
          let now : delta_of (if s.hub.members.epoch == s.hub.members.epoch then waiting_at s.hub k else []) v ≡ delta_of (waiting_at s.hub k) v = ap (λ b. delta_of (if b then waiting_at s.hub k else []) v) (eq-eqb s.hub.members.epoch s.hub.members.epoch refl) in
          let before : delta_of (current_updates s.hub k) v ≡ 0 = ap (λ o. delta_of (updates_now s.hub.members.epoch o) v) may.2 in
          omega (arith, empty, now, before)

      given_enough : (w : CountWorld) (epoch round : ℕ) (updates : List Update) → world_at s k ≡ Some (of_counts w) → Step s.hub.members.epoch (worker_at s.hub k).round (waiting_at s.hub k) ≡ Step epoch round updates →
          (m : ℕ) → m < length w.alive → IsTrue (is_in core (w.part.low + m)) → w.needed ≤ slice_index (counts_read w epoch round updates) m
      given_enough w epoch round updates is same m there member = subst (λ (o : Order). ReadsEnough w m o) same (enough_left k may.0 may.2 w is m there member (worker_at s.hub k).round)

  pub lost_counted : (k : ℕ) (kind : LossKind) → MayCome s (lost k kind) → IsCounted (state_after s (lost k kind)) core
  lost_counted k kind may = record {
    alive = λ i w is. (let apart : i ≢ k = kept.lost_apart s k kind ok.hub ok.job ok.worlds may.0 may.1 i (of_counts w) is in
        counted.alive i w (sym (world_elsewhere s k None (after_loss s.hub k kind) i apart) ∙ is));
    balance = λ i v few master. lost_balance s core ok counted k kind may.0 may.1 i v;
    enough = λ i w epoch round updates is has. (let apart : i ≢ k = kept.lost_apart s k kind ok.hub ok.job ok.worlds may.0 may.1 i (of_counts w) is in
        counted.enough i w epoch round updates (sym (world_elsewhere s k None (after_loss s.hub k kind) i apart) ∙ is) (sym (changed.lost_order_other s.hub k kind ok.hub may.0 may.1 i apart) ∙ has));
  }

  new_alive : (k : ℕ) (w : CountWorld) → of_counts w ≡ new_world (part_at s k) s.job.core → (m : ℕ) → m < length w.alive → is_in w.alive m ≡ true
  new_alive k w is m there =
      let this : w ≡ new_count_world (part_at s k) (reads_needed s.job.core.program.fold) = same_counts w (new_count_world (part_at s k) (reads_needed s.job.core.program.fold)) (is ∙ rw of_core.counts refl) in
      let ones : w.alive ≡ replicate (length (part_at s k).rows) 1 = ap (λ (c : CountWorld). c.alive) this in
      let room : m < length (part_at s k).rows = omega (arith, there, ap {B = ℕ} length ones, length-replicate {A = ℕ} (length (part_at s k).rows) 1) in
      ap (λ (flags : List ℕ). is_in flags m) ones ∙ ap (λ (x : ℕ). x == 1) (get_or-replicate (length (part_at s k).rows) m 1 0 room)
    where
      same_counts : (w c : CountWorld) → of_counts w ≡ of_counts c → w ≡ c
      same_counts w c h = cc h

  pub joined_counted : (k : ℕ) → MayCome s (joined k) → IsCounted (state_after s (joined k)) core
  joined_counted k may = record {
    alive = λ i w is m there member. elim (cases_eq i k) [
      | inl same ↦ new_alive k w (kept.newcomer_world s k ok.hub ok.job ok.worlds may.0 may.1 may.2 (of_counts w) (ap (world_at (with_world s k (new_world_at s k) (after_join s.hub k))) (sym same) ∙ is)).1 m there
      | inr apart ↦ counted.alive i w (sym (world_elsewhere s k (new_world_at s k) (after_join s.hub k) i apart) ∙ is) m there member
    ];
    balance = λ i v few master. joined_balance s core ok counted k may.0 may.1 may.2 i v few master;
    enough = λ i w epoch round updates is has. elim (cases_eq i k) [
      | inl same ↦ absurd (cc (ap (λ l. order_at s.hub l) (sym same) ∙ has, (ok.hub.missing k may.1).order))
      | inr apart ↦ counted.enough i w epoch round updates (sym (world_elsewhere s k (new_world_at s k) (after_join s.hub k) i apart) ∙ is) has
    ];
  }

  halted_counted : (k : ℕ) (reason : Halt) → IsCounted (state_after s (halt k reason)) core
  halted_counted k reason = by_halt s.hub.halt
    where
      by_halt : (h : Option Why) → IsCounted (record s { hub = elim h [ Some first ↦ s.hub | None ↦ record s.hub { halt = Some (why_of reason k) } ] }) core
      by_halt (Some first) = counted
      by_halt None = same_hub (Some (why_of reason k))

  -- ---- an answer to a Report

  reported_counted : (k epoch : ℕ) (seen : List ℕ) (b : Bool) → k < worker_count s.hub → order_at s.hub k ≡ Some (Report epoch) → All IsValue seen → world_after s k ≡ world_at s k → IsCounted (with_world s k (world_after s k) (reported_hub b s.hub k seen)) core
  reported_counted k epoch seen b inside had known stays = rw stays (
      let new : SystemState = took_worlds.reported s k epoch seen b ok.hub ok.job inside had known in
      let same : (j : ℕ) → world_at new j ≡ world_at s j = took_worlds.worlds_stay s k epoch seen b ok.hub ok.job inside had known in
      record {
        alive = λ i w is. counted.alive i w (sym (same i) ∙ is);
        balance = λ i v few master. (
            let due : (worker_at new.hub i).due ≡ (worker_at s.hub i).due = due_tasked s.hub.members k task.Nothing i in
            let orders : delta_of (current_updates new.hub i) v ≡ delta_of (current_updates s.hub i) v = elim (cases_eq i k) [
              | inl here ↦ subst (λ (l : ℕ). delta_of (current_updates new.hub l) v ≡ delta_of (current_updates s.hub l) v) (sym here)
                  (ap (λ o. delta_of (updates_now s.hub.members.epoch o) v) (hub_took.told_order s.hub k epoch seen ok.hub inside had known b) ∙ sym (ap (λ o. delta_of (updates_now s.hub.members.epoch o) v) had))
              | inr apart ↦ ap (λ o. delta_of (updates_now s.hub.members.epoch o) v) (hub_took.told_other s.hub k epoch seen ok.hub inside had known b i apart)
            ] in
            let aways : dead_away new i v ≡ dead_away s i v = away_same s new i v refl refl (λ j u. rw (due_tasked s.hub.members k task.Nothing j, same j) refl) in
            rw (due, same i) (balance_on s new i v (worker_at s.hub i).due (world_at s i) refl (ap (λ n. delta_of (waiting_at s.hub i) v + n) orders) aways (counted.balance i v few master)));
        enough = λ i w e r us is has. elim (cases_eq i k) [
          | inl here ↦ absurd (cc (hub_took.told_order s.hub k epoch seen ok.hub inside had known b, subst (λ (l : ℕ). order_at (reported_hub b s.hub k seen) l ≡ Some (Step e r us)) here has))
          | inr apart ↦ counted.enough i w e r us (sym (same i) ∙ is) (sym (hub_took.told_other s.hub k epoch seen ok.hub inside had known b i apart) ∙ has)
        ];
      })

  -- ---- an answer to a Step

  module _ (k epoch round : ℕ) (sent : List Update) (changed : Bool) (updates : List Update) (inside : k < worker_count s.hub) (had : order_at s.hub k ≡ Some (Step epoch round sent)) (values : CarriesValues updates)
      (c : CountWorld) (mine : world_at s k ≡ Some (of_counts c)) where
    abbrev fit_of : CountWorldFits c
    fit_of = (ok.worlds k (of_counts c) mine).of_part.3

    abbrev done : CountWorld
    done = after c epoch round sent fit_of

    abbrev then_state : Bool → SystemState
    then_state b = with_world s k (Some (of_counts done)) (stepped_hub b s.hub k changed updates)

    spot : k < length s.worlds
    spot = omega (arith, inside, ok.job.worlds)

    done_alive : (m : ℕ) → m < length done.alive → is_in core (c.part.low + m) ≡ true → is_in done.alive m ≡ true
    done_alive m within member =
        let there : m < length c.alive = omega (arith, within, length_by_position (length c.alive) (λ j. one_if (is_in c.alive j && not (dies (read c epoch round sent fit_of) j)))) in
        let was : is_in c.alive m ≡ true = counted.alive k c mine m there member in
        let needs : c.needed ≤ slice_index (counts_read c epoch round sent) m = counted.enough k c epoch round sent mine had m there member in
        let lives : nat_lt (slice_index (counts_read c epoch round sent) m) c.needed ≡ false = le-ltb (slice_index (counts_read c epoch round sent) m) c.needed needs in
        alive_after c epoch round sent fit_of m there ∙ (ap (λ b. b && not (b && nat_lt (slice_index (counts_read c epoch round sent) m) c.needed)) was ∙ ap not lives)

    same_done : (w : CountWorld) (b : Bool) → world_at (then_state b) k ≡ Some (of_counts w) → w ≡ done
    same_done w b is = same_counts w done (sym is ∙ world_there s k (Some (of_counts done)) (stepped_hub b s.hub k changed updates) spot)
      where
        same_counts : (w c : CountWorld) → Some (of_counts w) ≡ Some (of_counts c) → w ≡ c
        same_counts w c h = cc h

    step_alive : (b : Bool) (i : ℕ) (w : CountWorld) → world_at (then_state b) i ≡ Some (of_counts w) → (m : ℕ) → m < length w.alive → is_in core (w.part.low + m) ≡ true → is_in w.alive m ≡ true
    step_alive b i w is m there member = elim (cases_eq i k) [
      | inl here ↦
          (let this : w ≡ done = same_done w b (ap (world_at (then_state b)) (sym here) ∙ is) in
          ap (λ (x : CountWorld). is_in x.alive m) this ∙ done_alive m (subst (λ (x : CountWorld). m < length x.alive) this there) (subst (λ (x : CountWorld). is_in core (x.part.low + m) ≡ true) this member))
      | inr apart ↦ counted.alive i w (sym (world_elsewhere s k (Some (of_counts done)) (stepped_hub b s.hub k changed updates) i apart) ∙ is) m there member
    ]

    step_enough : (b : Bool) (i : ℕ) (w : CountWorld) (e r : ℕ) (us : List Update) → world_at (then_state b) i ≡ Some (of_counts w) → order_at (stepped_hub b s.hub k changed updates) i ≡ Some (Step e r us) →
        (m : ℕ) → m < length w.alive → is_in core (w.part.low + m) ≡ true → w.needed ≤ slice_index (counts_read w e r us) m
    step_enough b i w e r us is has = elim (cases_eq i k) [
      | inl here ↦ absurd (cc (hub_took.took_order s.hub k epoch round sent changed updates ok.hub inside had values b, subst (λ (l : ℕ). order_at (stepped_hub b s.hub k changed updates) l ≡ Some (Step e r us)) here has))
      | inr apart ↦ counted.enough i w e r us (sym (world_elsewhere s k (Some (of_counts done)) (stepped_hub b s.hub k changed updates) i apart) ∙ is) (sym (hub_took.took_other s.hub k epoch round sent changed updates ok.hub inside had values b i apart) ∙ has)
    ]

    -- an answer of this epoch
    now_balance : (epoch == s.hub.members.epoch) ≡ true → updates ≡ death_announcements done (is_announced (is_fresh c.epoch epoch) (read c epoch round sent fit_of) done) →
        (i v : ℕ) → i < worker_count s.hub → is_master s.hub.inboxes.cuts i v ≡ true → IsBalanced (then_state true) i v (worker_at (then_state true).hub i).due (world_at (then_state true) i)
    now_balance now honest i v few master = elim (cases_eq i k) [
      | inl here ↦ subst (λ (l : ℕ). IsBalanced (then_state true) l v (worker_at (then_state true).hub l).due (world_at (then_state true) l)) (sym here)
          (subst (λ (o : Option World). IsBalanced (then_state true) k v (worker_at (then_state true).hub k).due o) (sym (world_there s k (Some (of_counts done)) (stepped_hub true s.hub k changed updates) spot))
          (subst (λ (u : MemberState). IsBalanced (then_state true) k v u.due (Some (of_counts done))) (sym (hub_took.took_worker s.hub k epoch round sent changed updates ok.hub inside had values true))
          (own_balance s core ok counted of_core.both_ways k epoch round sent changed updates inside had values c mine now honest v (subst (λ (l : ℕ). is_master s.hub.inboxes.cuts l v ≡ true) here master))))
      | inr apart ↦ other_balance s core ok counted of_core.both_ways k epoch round sent changed updates inside had values c mine now honest i v few apart master
    ]

    -- an older answer: its worker was due, and still is
    old_balance : (epoch == s.hub.members.epoch) ≡ false → (i v : ℕ) → i < worker_count s.hub → is_master s.hub.inboxes.cuts i v ≡ true → IsBalanced (then_state false) i v (worker_at (then_state false).hub i).due (world_at (then_state false) i)
    old_balance late i v few master =
        let new : SystemState = then_state false in
        let was_due : (worker_at s.hub k).due ≡ true = by_due (worker_at s.hub k).due refl in
        let is_due : (worker_at new.hub k).due ≡ true = ap (λ (u : MemberState). u.due) (hub_took.took_worker s.hub k epoch round sent changed updates ok.hub inside had values false) ∙ was_due in
        let dead : (j u : ℕ) → is_dead_at new j u ≡ is_dead_at s j u = (λ j u. elim (cases_eq j k) [
          | inl same ↦ subst (λ (l : ℕ). is_dead_at new l u ≡ is_dead_at s l u) (sym same) (ap (λ b. not b && is_dead_in (world_at new k) u) is_due ∙ sym (ap (λ b. not b && is_dead_in (world_at s k) u) was_due))
          | inr apart ↦ rw (hub_took.worker_other s.hub k epoch round sent changed updates ok.hub inside had values false j apart, world_elsewhere s k (Some (of_counts done)) (stepped_hub false s.hub k changed updates) j apart) refl
        ]) in
        elim (cases_eq i k) [
          | inl here ↦ subst (λ (l : ℕ). IsBalanced new l v (worker_at new.hub l).due (world_at new l)) (sym here) (rw is_due (balanced_due new k v (world_at new k) (
              let before : delta_on_its_way s k v ≡ dead_away s k v = subst (λ (d : Bool). IsBalanced s k v d (Some (of_counts c))) was_due (subst (λ (o : Option World). IsBalanced s k v (worker_at s.hub k).due o) mine (subst (λ (l : ℕ). IsBalanced s l v (worker_at s.hub l).due (world_at s l)) here (counted.balance i v few master))) in
              let gone : delta_of (current_updates new.hub k) v ≡ 0 = ap (λ o. delta_of (updates_now s.hub.members.epoch o) v) (hub_took.took_order s.hub k epoch round sent changed updates ok.hub inside had values false) in
              let none : delta_of (current_updates s.hub k) v ≡ 0 = ap (λ o. delta_of (updates_now s.hub.members.epoch o) v) had ∙ ap (λ b. delta_of (if b then sent else []) v) late in
              let aways : dead_away new k v ≡ dead_away s k v = away_same s new k v refl refl dead in
              omega (arith, before, gone, none, aways))))
          | inr apart ↦
              (let aways : dead_away new i v ≡ dead_away s i v = away_same s new i v refl refl dead in
              let orders : delta_of (current_updates new.hub i) v ≡ delta_of (current_updates s.hub i) v = ap (λ o. delta_of (updates_now s.hub.members.epoch o) v) (hub_took.took_other s.hub k epoch round sent changed updates ok.hub inside had values false i apart) in
              subst (λ (o : Option World). IsBalanced new i v (worker_at new.hub i).due o) (sym (world_elsewhere s k (Some (of_counts done)) (stepped_hub false s.hub k changed updates) i apart))
              (subst (λ (u : MemberState). IsBalanced new i v u.due (world_at s i)) (sym (hub_took.worker_other s.hub k epoch round sent changed updates ok.hub inside had values false i apart))
              (balance_on s new i v (worker_at s.hub i).due (world_at s i) refl (ap (λ n. delta_of (waiting_at s.hub i) v + n) orders) aways (counted.balance i v few master))))
        ]
      where
        by_due : (d : Bool) → (worker_at s.hub k).due ≡ d → (worker_at s.hub k).due ≡ true
        by_due true is = is
        by_due false is = absurd (cc (late, eq-eqb epoch s.hub.members.epoch ((ok.hub.orders k (Step epoch round sent) had).current is)))

    pub stepped_counted : (b : Bool) → (epoch == s.hub.members.epoch) ≡ b → updates ≡ death_announcements done (is_announced (is_fresh c.epoch epoch) (read c epoch round sent fit_of) done) → IsCounted (then_state b) core
    stepped_counted true now honest = record { alive = step_alive true; balance = now_balance now honest; enough = step_enough true }
    stepped_counted false now honest = record { alive = step_alive false; balance = old_balance now; enough = step_enough false }

  -- ---- any answer, and any event

  -- the worker's world is one that counts
  its_world : (k : ℕ) (order : Order) → s.told ≡ true → order_at s.hub k ≡ Some order → (c : CountWorld) × (world_at s k ≡ Some (of_counts c))
  its_world k order told had = by_world (world_at s k) refl
    where
      has_live : (b : Bool) → (worker_at s.hub k).live ≡ b → (worker_at s.hub k).live ≡ true
      has_live true is = is
      has_live false is = absurd (cc ((ok.hub.missing k is).order, had))

      by_world : (o : Option World) → world_at s k ≡ o → (c : CountWorld) × (world_at s k ≡ Some (of_counts c))
      by_world (Some (of_counts c)) is = (c, is)
      by_world (Some (of_values u)) is = absurd (cc ((ok.worlds k (of_values u) is).of_part.0, of_core.counts))
      by_world None is = absurd (cc (told, all_kept.none_told s k ok.live_worlds (has_live (worker_at s.hub k).live refl) is))

  absorbed_counted : (k : ℕ) (order : Order) (answer : Answer) → s.told ≡ true → k < worker_count s.hub → order_at s.hub k ≡ Some order → foreign_of s.hub.inboxes k order answer ≡ None → AnswersValues answer → IsHonestAnswer s k answer →
      IsCounted (with_world s k (world_after s k) (absorption s.hub k answer)) core
  absorbed_counted k order (Stepped epoch round changed updates) told inside had none values honest =
      let this = stepped_order order epoch round changed updates (right_answer s.hub.inboxes k order (Stepped epoch round changed updates) none).0 in
      let step_had : order_at s.hub k ≡ Some (Step epoch round this.0) = had ∙ ap Some this.1 in
      let c = its_world k order told had in
      let made : (world_after s k ≡ Some (outcome_of (of_counts c.0) (Step epoch round this.0)).world) × ((outcome_of (of_counts c.0) (Step epoch round this.0)).answer ≡ Stepped epoch round changed updates) =
      all_kept.honest_step s k (Step epoch round this.0) (Stepped epoch round changed updates) ok step_had honest (of_counts c.0) c.1 in
      rw (stepped_is s.hub k epoch round changed updates (epoch == s.hub.members.epoch) refl, made.0)
      (stepped_counted k epoch round this.0 changed updates inside step_had values c.0 c.1 (epoch == s.hub.members.epoch) refl (same_sent epoch round changed _ _ updates made.1))
    where
      same_sent : (epoch round : ℕ) (changed d : Bool) (us updates : List Update) → Stepped epoch round d us ≡ Stepped epoch round changed updates → updates ≡ us
      same_sent epoch round changed d us updates h = cc h
  absorbed_counted k order (Reported epoch seen) told inside had none known honest =
      let this = reported_order order epoch seen (right_answer s.hub.inboxes k order (Reported epoch seen) none).0 in
      rw (reported_is s.hub k epoch seen (epoch == s.hub.members.epoch) refl)
      (reported_counted k epoch seen (epoch == s.hub.members.epoch) inside (had ∙ ap Some this) known (all_kept.world_stays s k epoch seen ok inside (had ∙ ap Some this) known honest))

  took_counted : (k : ℕ) (answer : Answer) → s.told ≡ true → MayCome s (took k answer) → IsCounted (state_after s (took k answer)) core
  took_counted k answer told may = by_order (order_at s.hub k) refl may.1
    where
      by_foreign : (order : Order) → order_at s.hub k ≡ Some order → (f : Option Foreign) → foreign_of s.hub.inboxes k order answer ≡ f → IsCounted (state_taken s k (answer_taken s.hub k answer f)) core
      by_foreign order had None none = absorbed_counted k order answer told may.0 had none may.2 may.3
      by_foreign order had (Some foreign) some = counted

      by_order : (o : Option Order) → order_at s.hub k ≡ o → MatchOption o ⊥ (λ order. ⊤) → IsCounted (state_taken s k (answer_to s.hub k answer o)) core
      by_order None none has = absurd has
      by_order (Some order) had has = by_foreign order had (foreign_of s.hub.inboxes k order answer) refl

  pub event_counted : (e : Event) → s.told ≡ true → MayCome s e → IsCounted (state_after s e) core
  event_counted (give k) told may = gave_counted k may
  event_counted (took k answer) told may = took_counted k answer told may
  event_counted (lost k kind) told may = lost_counted k kind may
  event_counted (joined k) told may = joined_counted k may
  event_counted (halt k reason) told may = halted_counted k reason

-- ---- valid

-- every event keeps that a state is valid, for each class
pub event_keeps_valid : (s : SystemState) (e : Event) → IsInStep s → IsValid s → MayCome s e → IsValid (state_after s e)
event_keeps_valid s e ok valid may = event_valid s e ok valid may (λ class answer is counted told. event_counted s answer ok (core_of s.job answer ok.job.sound class is) counted e told may)
