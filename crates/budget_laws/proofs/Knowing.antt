-- Where each worker knows what has settled, so does a Step that is given now.
use Rattle.std.proofs.Common.{◌≡◌, ℕ, ◌+◌, ◌-◌, ◌<◌, Bool, true, false, List, [], Option, Some, None, length, arith, refl, sym, ap, subst, ◌∙◌}
use Rattle.std.specs.Prelude.{◌||◌, slice_index, if◌then◌else◌}
use Rattle.std.proofs.lemmas.List.Elements.{filter_passes}
use Rattle.px_base.specs.declared.graph.Part.{Part}
use Rattle.px_base.specs.declared.wire.Order.TheVariants.{Step}
use Rattle.px_base.specs.Values.{is_listed, place_of, positions_below}
use Rattle.px_base.specs.Classes.{counts_reads}
use Rattle.px_base.specs.Parts.{is_within, is_master, is_mirror, is_known, mirrors_of, low_of, high_of}
use Rattle.px_base.specs.Pulls.{known_value}
use Rattle.px_base.specs.Worlds.{World, ValueWorld, of_values, of_counts}
use Rattle.px_base.specs.ValueSteps.{newest_value, updated_mirrors}
use Rattle.px_base.proofs.Positions.{at_position}
use Rattle.px_base.proofs.Ranges.{within_bounds}
use Rattle.partitioner.proofs.Owned.{an_owner}
use Rattle.partitioner.proofs.Boundaries.{within}
use Rattle.partitioner.proofs.Fitting.{mirrors_below}
use Rattle.hub_terms.specs.Jobs.{Job}
use Rattle.hub_terms.specs.Hubs.{worker_at, order_at, waiting_at, worker_count}
use Rattle.hub_terms.specs.UnderWay.{updates_now, value_in}
use Rattle.hub_terms.specs.Systems.{SystemState, world_at, part_at}
use Rattle.hub_terms.specs.InStep.{IsInStep, IsWorldOf, WorkerWillHave, WillHave, IsNewest}
use Rattle.step_laws.proofs.Places.{place_found}
use Rattle.hub_laws.proofs.Mail.{told_or, newest_of_box, IsFor, box_from_mail}
use Rattle.system_laws.proofs.Kept.{some_told}
use Rattle.round_laws.specs.Rounds.{AllLive}
use Rattle.settling_laws.specs.SettledWorlds.{ValuesSettled, ValuesRead}
use Rattle.round_laws.proofs.Suffice.{world_of_live}

module _ (HasSettled : Job → ℕ → ℕ → ℕ → Type 0) where
  -- ---- a Step that is given

  -- the newest value, where none is under way
  newest_told : (inbox : Option ℕ) (old x : ℕ) (Current : Type 0) → IsNewest inbox None (Current × (old ≡ x)) x → told_or inbox old ≡ x
  newest_told (Some y) old x Current is = is
  newest_told None old x Current is = is.1

  module _ (s : SystemState) (ok : IsInStep s) (plain : counts_reads s.job.core.program.fold ≡ false) (i k : ℕ) (u : ValueWorld) (inside : i < worker_count s.hub) (mine : world_at s i ≡ Some (of_values u))
      (idle : order_at s.hub i ≡ None) (each : AllLive s.hub) (known : (j : ℕ) (w : World) → world_at s j ≡ Some w → ((worker_at s.hub j).due ≡ false) × ValuesSettled HasSettled s.job k w) where
    abbrev cuts : List ℕ
    cuts = s.hub.inboxes.cuts

    of_mine : IsWorldOf (part_at s i) s.job.core (of_values u)
    of_mine = (ok.worlds i (of_values u) mine).of_part

    value_world : (j : ℕ) → j < worker_count s.hub → (w : ValueWorld) × (world_at s j ≡ Some (of_values w))
    value_world j within = by_world (world_of_live s j ok.live_worlds (some_told s i (of_values u) ok.live_worlds mine).0 (each j within))
      where
        by_world : (w : World) × (world_at s j ≡ Some w) → (w : ValueWorld) × (world_at s j ≡ Some (of_values w))
        by_world (of_values w, is) = (w, is)
        by_world (of_counts c, is) = absurd (cc ((ok.worlds j (of_counts c) is).of_part.0, plain))

    -- what is read of a mirror is its owner's master
    read_settled : (v : ℕ) → is_listed u.part.mirrors v ≡ true → HasSettled s.job k v (slice_index (updated_mirrors u.part.mirrors (waiting_at s.hub i) u.mirrors) (place_of u.part.mirrors v))
    read_settled v listed =
        let there : is_listed (mirrors_of s.job.rows cuts i) v ≡ true = rw of_mine.1 at listed in
        let found = place_found (mirrors_of s.job.rows cuts i) v there in
        let inner : v < length s.job.rows = subst (λ (w : ℕ). w < length s.job.rows) found.1 (mirrors_below s.job.rows cuts i (place_of (mirrors_of s.job.rows cuts i) v) 0 found.0) in
        let mirror : is_mirror s.job.rows cuts i v ≡ true = subst (λ (w : ℕ). is_mirror s.job.rows cuts i w ≡ true) found.1 (filter_passes (is_mirror s.job.rows cuts i) (positions_below (length s.job.rows)) (place_of (mirrors_of s.job.rows cuts i) v) 0 found.0) in
        let o = an_owner (length s.job.rows) cuts v ok.job.cuts.cut inner in
        let master : is_master cuts o.0 v ≡ true = within (low_of cuts o.0) (high_of cuts o.0) v o.1.from o.1.to in
        let w = value_world o.0 o.1.below in
        let settled = known o.0 (of_values w.0) w.1 in
        let of_part = (ok.worlds o.0 (of_values w.0) w.1).of_part in
        let lows : w.0.part.low ≡ low_of cuts o.0 = ap (λ (p : Part). p.low) of_part.1 in
        let highs : w.0.part.high ≡ high_of cuts o.0 = ap (λ (p : Part). p.high) of_part.1 in
        let x : ℕ = slice_index w.0.masters (v - w.0.part.low) in
        let arrives : WorkerWillHave s i v x = ok.values o.0 i v w.0 w.1 settled.0 master mirror inside in
        let none : updates_now s.hub.members.epoch (order_at s.hub i) ≡ [] = ap (updates_now s.hub.members.epoch) idle in
        let seen : WillHave (waiting_at s.hub i) [] (worker_at s.hub i).due (Some (of_values u)) v x = rw (none, mine) at arrives in
        let place : ℕ = place_of u.part.mirrors v in
        let here = place_found u.part.mirrors v listed in
        let room : place < length u.mirrors = omega (arith, here.0, of_mine.3.mirrors.one_each) in
        let read : slice_index (updated_mirrors u.part.mirrors (waiting_at s.hub i) u.mirrors) place ≡ told_or (value_in (waiting_at s.hub i) v) (slice_index u.mirrors place) =
        at_position (length u.mirrors) (λ l. newest_value (waiting_at s.hub i) (slice_index u.part.mirrors l) (slice_index u.mirrors l)) place 0 room
        ∙ ap (λ m. newest_value (waiting_at s.hub i) m (slice_index u.mirrors place)) here.1
        ∙ newest_of_box (IsFor s.hub.inboxes i) (waiting_at s.hub i) v (slice_index u.mirrors place) (box_from_mail s.hub.inboxes i (waiting_at s.hub i) (ok.hub.inboxes i)) in
        let same : slice_index (updated_mirrors u.part.mirrors (waiting_at s.hub i) u.mirrors) place ≡ x = ◌∙◌ {c = x} read (newest_told (value_in (waiting_at s.hub i) v) (slice_index u.mirrors place) x ((worker_at s.hub i).due ≡ false) seen) in
        let few : v - w.0.part.low < length w.0.masters = omega (arith, of_part.3.masters.one_each, lows, highs, o.1.from, o.1.to) in
        let back : w.0.part.low + (v - w.0.part.low) ≡ v = omega (arith, lows, o.1.from) in
        let is : HasSettled s.job k (w.0.part.low + (v - w.0.part.low)) x = settled.1 (v - w.0.part.low) few in
        subst (λ (y : ℕ). HasSettled s.job k v y) (sym same) (subst (λ (z : ℕ). HasSettled s.job k z x) back is)

  pub given_values : (s : SystemState) → IsInStep s → counts_reads s.job.core.program.fold ≡ false → (i k epoch round : ℕ) (w : World) → i < worker_count s.hub → world_at s i ≡ Some w → order_at s.hub i ≡ None → AllLive s.hub →
      ((j : ℕ) (v : World) → world_at s j ≡ Some v → ((worker_at s.hub j).due ≡ false) × ValuesSettled HasSettled s.job k v) → ValuesRead HasSettled s.job k w (Step epoch round (waiting_at s.hub i))
  given_values s ok plain i k epoch round (of_values u) inside mine idle each known = read_settled s ok plain i k u inside mine idle each known
  given_values s ok plain i k epoch round (of_counts c) inside mine idle each known = tt

  -- ---- what a Step reads

  -- each value that a world knows is settled where its masters are and its mirrors are read so
  pub known_settled : (job : Job) (k : ℕ) (u : ValueWorld) (mirrors : List ℕ) → length u.masters ≡ u.part.high - u.part.low → ((j : ℕ) → j < length u.masters → HasSettled job k (u.part.low + j) (slice_index u.masters j)) →
      ((v : ℕ) → is_listed u.part.mirrors v ≡ true → HasSettled job k v (slice_index mirrors (place_of u.part.mirrors v))) →
      (v : ℕ) → is_known u.part v ≡ true → HasSettled job k v (known_value u.part u.masters mirrors v)
  known_settled job k u mirrors sized masters read v is = by_place (is_within u.part.low u.part.high v) refl is
    where
      by_place : (b : Bool) → is_within u.part.low u.part.high v ≡ b → (b || is_listed u.part.mirrors v) ≡ true →
          HasSettled job k v (if b then slice_index u.masters (v - u.part.low) else slice_index mirrors (place_of u.part.mirrors v))
      by_place true here h =
          let bounds = within_bounds u.part.low u.part.high v here in
          let room : v - u.part.low < length u.masters = omega (arith, bounds.0, bounds.1, sized) in
          let back : u.part.low + (v - u.part.low) ≡ v = omega (arith, bounds.0) in
          subst (λ (z : ℕ). HasSettled job k z (slice_index u.masters (v - u.part.low))) back (masters (v - u.part.low) room)
      by_place false there h = read v h
