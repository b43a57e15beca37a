-- In a quiet state of a locally correcting program the masters of all worlds are the core answer.
use Rattle.std.proofs.Common.{◌≡◌, ℕ, suc, ◌+◌, ◌-◌, ◌<◌, ◌≤◌, min, Bool, true, false, List, [], ◌∷◌, Option, Some, None, length, get_or, arith, refl, sym, ap, subst, ◌∙◌, inl, inr, eqb-true}
use Rattle.std.specs.Prelude.{◌||◌, ◌⊎◌, All, slice_index, if◌then◌else◌}
use Rattle.std.proofs.lemmas.List.Elements.{filter_passes}
use Rattle.std.proofs.lemmas.Bool.{cases_lt}
use Rattle.px_base.specs.declared.graph.Part.{Part}
use Rattle.px_base.specs.declared.wire.Update.{Update}
use Rattle.px_base.specs.declared.wire.Order.{Order}
use Rattle.px_base.specs.declared.wire.Order.TheVariants.{Step, Report}
use Rattle.px_base.specs.Values.{IsValue, IsValueList, is_listed, place_of, by_position, positions_below}
use Rattle.px_base.specs.Graphs.{row_at}
use Rattle.px_base.specs.Classes.{counts_reads, keeps}
use Rattle.px_base.specs.Core.{core_pull}
use Rattle.px_base.specs.Parts.{IsOwner, is_within, is_master, is_mirror, is_known, mirrors_of, low_of, high_of}
use Rattle.px_base.specs.Pulls.{known_value, master_pull}
use Rattle.px_base.specs.Worlds.{World, ValueWorld, of_values, of_counts}
use Rattle.px_base.specs.ValueSteps.{renewed_value, renewed_masters}
use Rattle.px_base.proofs.Positions.{length_by_position, at_position}
use Rattle.px_base.proofs.Ranges.{within_bounds}
use Rattle.px_base.proofs.Owners.{one_owner}
use Rattle.partitioner.proofs.Owned.{an_owner}
use Rattle.partitioner.proofs.Boundaries.{within}
use Rattle.partitioner.proofs.Fitting.{mirrors_below}
use Rattle.consistent_solver.specs.CoreLists.{IsCoreConsistent}
use Rattle.consistent_solver.proofs.Below.{pull_grows, value_anywhere}
use Rattle.hub_terms.specs.Inboxes.{is_empty_box}
use Rattle.hub_terms.specs.Hubs.{worker_at, order_at, waiting_at, worker_count, is_quiet_hub}
use Rattle.hub_terms.specs.UnderWay.{updates_now, current_updates}
use Rattle.hub_terms.specs.Systems.{SystemState, world_at, part_at}
use Rattle.hub_terms.specs.InStep.{IsInStep, IsWorldOf, WorkerWillHave, WillHave}
use Rattle.hub_terms.specs.Valid.{IsBetween}
use Rattle.list_laws.proofs.Lists.{all_at}
use Rattle.list_laws.proofs.Ranges.{at_range}
use Rattle.step_laws.proofs.Places.{place_found, master_below}
use Rattle.hub_laws.proofs.Workers.{IsIdle, idle_at, quiet_boxes}
use Rattle.system_laws.proofs.Kept.{none_told}
use Rattle.valid_laws.proofs.Between.{IsLowest}

-- ---- where all is quiet

module _ (s : SystemState) (ok : IsInStep s) (quiet : is_quiet_hub s.hub ≡ true) where
  pub idle_worker : (i : ℕ) → i < worker_count s.hub → IsIdle (worker_at s.hub i)
  idle_worker i inside = idle_at s.hub i quiet (omega (arith, inside, ok.hub.places.members))

  -- nothing waits
  pub no_mail : (i : ℕ) → i < worker_count s.hub → waiting_at s.hub i ≡ []
  no_mail i inside = by_box (waiting_at s.hub i) (all_at is_empty_box s.hub.inboxes.boxes i [] (quiet_boxes s.hub quiet) (omega (arith, inside, ok.hub.places.boxes)))
    where
      by_box : (box : List Update) → is_empty_box box ≡ true → box ≡ []
      by_box [] h = refl
      by_box (u ∷ box) h = absurd (not_zero (eqb-true (suc (length box)) 0 h))
        where
          not_zero : suc (length box) ≡ 0 → ⊥
          not_zero e = omega (arith, e)

  -- no Step is under way
  pub no_step : (i : ℕ) → i < worker_count s.hub → current_updates s.hub i ≡ []
  no_step i inside = by_order (order_at s.hub i) refl
    where
      by_order : (o : Option Order) → order_at s.hub i ≡ o → updates_now s.hub.members.epoch o ≡ []
      by_order None is = refl
      by_order (Some (Report epoch)) is = refl
      by_order (Some (Step epoch round updates)) is = absurd (cc ((idle_worker i inside).no_step, ok.hub.tasks i, is))

-- ---- the list of all masters

abbrev pub masters_in : Option World → List ℕ
masters_in None = []
masters_in (Some (of_values u)) = u.masters
masters_in (Some (of_counts c)) = c.alive

module _ (s : SystemState) (ok : IsInStep s) (plain : counts_reads s.job.core.program.fold ≡ false) (told : s.told ≡ true) (quiet : is_quiet_hub s.hub ≡ true) where
  abbrev pub cuts : List ℕ
  cuts = s.hub.inboxes.cuts

  abbrev pub n : ℕ
  n = length s.job.rows

  pub its_world : (i : ℕ) → i < worker_count s.hub → (u : ValueWorld) × (world_at s i ≡ Some (of_values u))
  its_world i inside = by_world (world_at s i) refl
    where
      by_world : (o : Option World) → world_at s i ≡ o → (u : ValueWorld) × (world_at s i ≡ Some (of_values u))
      by_world (Some (of_values u)) is = (u, is)
      by_world (Some (of_counts c)) is = absurd (cc ((ok.worlds i (of_counts c) is).of_part.0, plain))
      by_world None is = absurd (cc (told, none_told s i ok.live_worlds (idle_worker s ok quiet i inside).live is))

  abbrev pub by_owner : (v : ℕ) → (v < n) ⊎ (n ≤ v) → ℕ
  by_owner v (inl below) = let o = an_owner n cuts v ok.job.cuts.cut below in slice_index (masters_in (world_at s o.0)) (v - low_of cuts o.0)
  by_owner v (inr past) = 0

  abbrev pub value_at : ℕ → ℕ
  value_at v = by_owner v (cases_lt v n)

  abbrev owned : (i v : ℕ) → i < worker_count s.hub → is_master cuts i v ≡ true → IsOwner cuts v i
  owned i v inside master = let bounds = within_bounds (low_of cuts i) (high_of cuts i) v master in record { below = inside; from = bounds.0; to = bounds.1 }

  pub value_is : (i v : ℕ) (u : ValueWorld) → i < worker_count s.hub → is_master cuts i v ≡ true → world_at s i ≡ Some (of_values u) → value_at v ≡ slice_index u.masters (v - low_of cuts i)
  value_is i v u inside master is = by_case (cases_lt v n)
    where
      by_case : (d : (v < n) ⊎ (n ≤ v)) → by_owner v d ≡ slice_index u.masters (v - low_of cuts i)
      by_case (inl below) =
          let o = an_owner n cuts v ok.job.cuts.cut below in
          let same : o.0 ≡ i = one_owner n cuts v o.0 i ok.job.cuts.cut o.1 (owned i v inside master) in
          ap (λ (j : ℕ). slice_index (masters_in (world_at s j)) (v - low_of cuts j)) same ∙ ap (λ w. slice_index (masters_in w) (v - low_of cuts i)) is
      by_case (inr past) = absurd (omega (arith, (master_below n cuts i v ok.job.cuts.cut inside master).2, past))

  abbrev pub all_masters : List ℕ
  all_masters = by_position n value_at

  pub at_all : (i v : ℕ) (u : ValueWorld) → i < worker_count s.hub → is_master cuts i v ≡ true → world_at s i ≡ Some (of_values u) → slice_index all_masters v ≡ slice_index u.masters (v - low_of cuts i)
  at_all i v u inside master is = at_position n value_at v 0 (master_below n cuts i v ok.job.cuts.cut inside master).2 ∙ value_is i v u inside master is

  -- ---- what a worker knows is what the owners have

  module _ (i : ℕ) (inside : i < worker_count s.hub) (u : ValueWorld) (mine : world_at s i ≡ Some (of_values u)) where
    of_mine : IsWorldOf (part_at s i) s.job.core (of_values u)
    of_mine = (ok.worlds i (of_values u) mine).of_part

    lows : u.part.low ≡ low_of cuts i
    lows = ap (λ (p : Part). p.low) of_mine.1

    mirror_is : (v : ℕ) → is_listed u.part.mirrors v ≡ true → slice_index u.mirrors (place_of u.part.mirrors v) ≡ slice_index all_masters v
    mirror_is v listed =
        let there : is_listed (mirrors_of s.job.rows cuts i) v ≡ true = rw of_mine.1 at listed in
        let found = place_found (mirrors_of s.job.rows cuts i) v there in
        let inner : v < n = subst (λ (w : ℕ). w < n) found.1 (mirrors_below s.job.rows cuts i (place_of (mirrors_of s.job.rows cuts i) v) 0 found.0) in
        let mirror : is_mirror s.job.rows cuts i v ≡ true = subst (λ (w : ℕ). is_mirror s.job.rows cuts i w ≡ true) found.1 (filter_passes (is_mirror s.job.rows cuts i) (positions_below n) (place_of (mirrors_of s.job.rows cuts i) v) 0 found.0) in
        let o = an_owner n cuts v ok.job.cuts.cut inner in
        let master : is_master cuts o.0 v ≡ true = within (low_of cuts o.0) (high_of cuts o.0) v o.1.from o.1.to in
        let w = its_world o.0 o.1.below in
        let arrives : WorkerWillHave s i v (slice_index w.0.masters (v - w.0.part.low)) = ok.values o.0 i v w.0 w.1 (idle_worker s ok quiet o.0 o.1.below).due master mirror inside in
        let low_there : w.0.part.low ≡ low_of cuts o.0 = ap (λ (p : Part). p.low) (ok.worlds o.0 (of_values w.0) w.1).of_part.1 in
        let seen : WillHave [] [] (worker_at s.hub i).due (Some (of_values u)) v (slice_index w.0.masters (v - w.0.part.low)) = rw (no_mail s ok quiet i inside, no_step s ok quiet i inside, mine) at arrives in
        seen.1 ∙ (ap (λ (l : ℕ). slice_index w.0.masters (v - l)) low_there ∙ sym (at_all o.0 v w.0 o.1.below master w.1))

    pub known_is_all : (v : ℕ) → is_known u.part v ≡ true → known_value u.part u.masters u.mirrors v ≡ slice_index all_masters v
    known_is_all v is = by_place (is_within u.part.low u.part.high v) refl is
      where
        by_place : (b : Bool) → is_within u.part.low u.part.high v ≡ b → (b || is_listed u.part.mirrors v) ≡ true → (if b then slice_index u.masters (v - u.part.low) else slice_index u.mirrors (place_of u.part.mirrors v)) ≡ slice_index all_masters v
        by_place true here h = ap (λ (l : ℕ). slice_index u.masters (v - l)) lows ∙ sym (at_all i v u inside (ap (λ (p : Part). is_within p.low p.high v) (sym of_mine.1) ∙ here) mine)
        by_place false there h = mirror_is v h

  -- ---- the list is consistent

  pub valued : IsValueList n all_masters
  valued = record {
    one_each = length_by_position n value_at;
    in_range = λ v d inside. (let inner : v < n = omega (arith, inside, length_by_position n value_at) in
        let o = an_owner n cuts v ok.job.cuts.cut inner in
        let master : is_master cuts o.0 v ≡ true = within (low_of cuts o.0) (high_of cuts o.0) v o.1.from o.1.to in
        let w = its_world o.0 o.1.below in
        let of_part = (ok.worlds o.0 (of_values w.0) w.1).of_part in
        let lows : w.0.part.low ≡ low_of cuts o.0 = ap (λ (p : Part). p.low) of_part.1 in
        let highs : w.0.part.high ≡ high_of cuts o.0 = ap (λ (p : Part). p.high) of_part.1 in
        let room : v - low_of cuts o.0 < length w.0.masters = omega (arith, of_part.3.masters.one_each, lows, highs, o.1.from, o.1.to) in
        rw (at_position n value_at v d inner, value_is o.0 v w.0 o.1.below master w.1) (of_part.3.masters.in_range (v - low_of cuts o.0) 0 room));
  }

-- ---- what a locally correcting program has then

module _ (s : SystemState) (a : List ℕ) (low : IsLowest s.job a) (ok : IsInStep s) (between : IsBetween s a) (told : s.told ≡ true) (quiet : is_quiet_hub s.hub ≡ true) where
  abbrev ends : List ℕ
  ends = s.hub.inboxes.cuts

  abbrev size : ℕ
  size = length s.job.rows

  abbrev whole : List ℕ
  whole = all_masters s ok low.no_count told quiet

  whole_values : IsValueList size whole
  whole_values = valued s ok low.no_count told quiet

  world_of : (i : ℕ) → i < worker_count s.hub → (u : ValueWorld) × (world_at s i ≡ Some (of_values u))
  world_of = its_world s ok low.no_count told quiet

  at_whole : (i v : ℕ) (u : ValueWorld) → i < worker_count s.hub → is_master ends i v ≡ true → world_at s i ≡ Some (of_values u) → slice_index whole v ≡ slice_index u.masters (v - low_of ends i)
  at_whole = at_all s ok low.no_count told quiet

  known_whole : (i : ℕ) (inside : i < worker_count s.hub) (u : ValueWorld) (mine : world_at s i ≡ Some (of_values u)) (v : ℕ) → is_known u.part v ≡ true → known_value u.part u.masters u.mirrors v ≡ slice_index whole v
  known_whole = known_is_all s ok low.no_count told quiet

  -- a master is at most what it gathers from all
  gathers : (i k : ℕ) (inside : i < worker_count s.hub) (u : ValueWorld) (mine : world_at s i ≡ Some (of_values u)) → k < length u.masters → slice_index u.masters k ≤ core_pull s.job.core (slice_index whole) (slice_index s.job.starts (low_of ends i + k)) (row_at s.job.rows (low_of ends i + k))
  gathers i k inside u mine there =
      let of_part = (ok.worlds i (of_values u) mine).of_part in
      let idle = idle_worker s ok quiet i inside in
      let still : renewed_masters u.part u.core u.masters u.mirrors ≡ u.masters = ok.settled i (of_values u) mine idle.due idle.unchanged in
      let room : k < length u.part.rows = omega (arith, there, of_part.3.masters.one_each, of_part.3.part.rows) in
      let kept : keeps u.core.program.own ≡ true = rw of_part.2 low.keeps_own in
      let renewed : slice_index (renewed_masters u.part u.core u.masters u.mirrors) k ≡ min (slice_index u.masters k) (master_pull u.part u.core u.masters u.mirrors k) =
      at_position (length u.part.rows) (λ l. renewed_value u.core (slice_index u.masters l) (master_pull u.part u.core u.masters u.mirrors l)) k 0 room ∙ rw kept refl in
      let same : slice_index (renewed_masters u.part u.core u.masters u.mirrors) k ≡ slice_index u.masters k = ap (λ (ms : List ℕ). slice_index ms k) still in
      let few : k < high_of ends i - low_of ends i = omega (arith, room, of_part.3.part.rows, ap (λ (p : Part). p.low) of_part.1, ap (λ (p : Part). p.high) of_part.1) in
      let row : row_at u.part.rows k ≡ row_at s.job.rows (low_of ends i + k) = ap (λ (p : Part). row_at p.rows k) of_part.1 ∙ at_range s.job.rows (low_of ends i) (high_of ends i) k [] few in
      let start : slice_index u.part.starts k ≡ slice_index s.job.starts (low_of ends i + k) = ap (λ (p : Part). slice_index p.starts k) of_part.1 ∙ at_range s.job.starts (low_of ends i) (high_of ends i) k 0 few in
      let below : All (λ r. known_value u.part u.masters u.mirrors r.source ≤ slice_index whole r.source) (row_at u.part.rows k) =
      (λ m d in_row. (let is = known_whole i inside u mine (get_or (row_at u.part.rows k) m d).source (of_part.3.part.sources k [] room m d in_row) in omega (arith, is))) in
      let values : All (λ r. IsValue (slice_index whole r.source)) (row_at u.part.rows k) = (λ m d in_row. value_anywhere size whole (get_or (row_at u.part.rows k) m d).source whole_values) in
      let more : master_pull u.part u.core u.masters u.mirrors k ≤ core_pull u.core (slice_index whole) (slice_index u.part.starts k) (row_at u.part.rows k) =
      pull_grows u.core (known_value u.part u.masters u.mirrors) (slice_index whole) (slice_index u.part.starts k) (row_at u.part.rows k) (rw of_part.2 low.no_mex) below values in
      let all : slice_index u.masters k ≤ core_pull u.core (slice_index whole) (slice_index u.part.starts k) (row_at u.part.rows k) = omega (arith, renewed, same, more) in
      rw (row, start, of_part.2) at all

  consistent : IsCoreConsistent s.job.core s.job.rows s.job.starts whole
  consistent = record {
    values = whole_values;
    each = λ v inner.
        (let o = an_owner size ends v ok.job.cuts.cut inner in
        let master : is_master ends o.0 v ≡ true = within (low_of ends o.0) (high_of ends o.0) v o.1.from o.1.to in
        let w = world_of o.0 o.1.below in
        let of_part = (ok.worlds o.0 (of_values w.0) w.1).of_part in
        let lows : w.0.part.low ≡ low_of ends o.0 = ap (λ (p : Part). p.low) of_part.1 in
        let highs : w.0.part.high ≡ high_of ends o.0 = ap (λ (p : Part). p.high) of_part.1 in
        let room : v - low_of ends o.0 < length w.0.masters = omega (arith, of_part.3.masters.one_each, lows, highs, o.1.from, o.1.to) in
        let back : low_of ends o.0 + (v - low_of ends o.0) ≡ v = omega (arith, o.1.from) in
        let low_enough : slice_index w.0.masters (v - low_of ends o.0) ≤ core_pull s.job.core (slice_index whole) (slice_index s.job.starts v) (row_at s.job.rows v) =
        subst (λ (x : ℕ). slice_index w.0.masters (v - low_of ends o.0) ≤ core_pull s.job.core (slice_index whole) (slice_index s.job.starts x) (row_at s.job.rows x)) back (gathers o.0 (v - low_of ends o.0) o.1.below w.0 w.1 room) in
        rw (at_whole o.0 v w.0 o.1.below master w.1) low_enough);
  }

  -- each master has the value of the answer
  pub quiet_masters : (i k : ℕ) (u : ValueWorld) → i < worker_count s.hub → world_at s i ≡ Some (of_values u) → k < length u.masters → slice_index u.masters k ≡ slice_index a (low_of ends i + k)
  quiet_masters i k u inside mine there =
      let of_part = (ok.worlds i (of_values u) mine).of_part in
      let lows : u.part.low ≡ low_of ends i = ap (λ (p : Part). p.low) of_part.1 in
      let highs : u.part.high ≡ high_of ends i = ap (λ (p : Part). p.high) of_part.1 in
      let v : ℕ = low_of ends i + k in
      let few : v < high_of ends i = omega (arith, there, of_part.3.masters.one_each, lows, highs) in
      let master : is_master ends i v ≡ true = within (low_of ends i) (high_of ends i) v (omega arith) few in
      let inner : v < size = (master_below size ends i v ok.job.cuts.cut inside master).2 in
      let at : slice_index whole v ≡ slice_index u.masters (v - low_of ends i) = at_whole i v u inside master mine in
      let place : v - low_of ends i ≡ k = omega arith in
      let here : slice_index u.masters (v - low_of ends i) ≡ slice_index u.masters k = ap (slice_index u.masters) place in
      let most : slice_index whole v ≤ slice_index a v = low.greatest.greatest whole consistent v inner in
      let least : slice_index a (u.part.low + k) ≤ slice_index u.masters k = ((between.worlds i u mine).masters k there).0 in
      let same : slice_index a (u.part.low + k) ≡ slice_index a v = ap (λ (l : ℕ). slice_index a (l + k)) lows in
      omega (arith, at, here, most, least, same)
