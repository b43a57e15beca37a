-- What a Step leaves of a world that counts: where nobody died nobody dies next, and counts stay honest.
use Rattle.std.proofs.Common.{◌≡◌, ℕ, ◌+◌, ◌-◌, ◌<◌, ◌≤◌, Bool, true, false, not, cond, List, [], ◌∷◌, length, arith, refl, ap, ◌∙◌}
use Rattle.std.specs.Prelude.{◌&&◌, nat_lt, slice_index, if◌then◌else◌}
use Rattle.std.specs.List.{list_any}
use Rattle.std.proofs.lemmas.List.Sums.{sum_by-cons}
use Rattle.px_base.specs.declared.graph.Read.{Read}
use Rattle.px_base.specs.declared.wire.Update.{Update}
use Rattle.px_base.specs.Values.{positions_below, is_in, one_if}
use Rattle.px_base.specs.Graphs.{row_at, reads_passing}
use Rattle.px_base.specs.Parts.{is_within}
use Rattle.px_base.specs.Worlds.{CountWorld, of_counts, is_fresh}
use Rattle.px_base.specs.CountSteps.{is_master_passing, is_dead, fresh_counts, delta_of, counts_less, world_as_read, dies, after_deaths}
use Rattle.px_base.proofs.Positions.{length_by_position, at_position}
use Rattle.px_base.proofs.Ranges.{within_bounds}
use Rattle.partitioner.proofs.Found.{position_has}
use Rattle.hub_terms.specs.InStep.{CountWorldFits, IsSettled, IsHonest}
use Rattle.list_laws.proofs.Sums.{passing_within}
use Rattle.list_laws.proofs.Sets.{flag_is}

-- ---- how many reads pass

pub passing_cons : (test : ℕ → Bool) (r : Read) (row : List Read) → reads_passing test (r ∷ row) ≡ one_if (test r.source) + reads_passing test row
passing_cons test r row = sum_by-cons (λ (x : Read). cond (test x.source) 1 0) r row

pub passing_none : (test : ℕ → Bool) (row : List Read) → ((u : ℕ) → test u ≡ false) → reads_passing test row ≡ 0
passing_none test [] none = refl
passing_none test (r ∷ row) none = let first : one_if (test r.source) ≡ 0 = ap one_if (none r.source) in omega (arith, passing_cons test r row, first, passing_none test row none)

-- of two tests that no source passes both
pub passing_both : (both one other : ℕ → Bool) (row : List Read) → ((u : ℕ) → one_if (both u) ≡ one_if (one u) + one_if (other u)) → reads_passing both row ≡ reads_passing one row + reads_passing other row
passing_both both one other [] split = refl
passing_both both one other (r ∷ row) split =
    omega (arith, passing_cons both r row, passing_cons one r row, passing_cons other r row, split r.source, passing_both both one other row split)

-- ---- a Step

module _ (w : CountWorld) (epoch round : ℕ) (updates : List Update) (fits : CountWorldFits w) where
  abbrev pub read : CountWorld
  read = world_as_read epoch round updates w

  abbrev pub after : CountWorld
  after = after_deaths read

  pub read_counts : length read.counts ≡ w.part.high - w.part.low
  read_counts = length_by_position (length (if is_fresh w.epoch epoch then fresh_counts w else w.counts)) _ ∙ by_fresh (is_fresh w.epoch epoch)
    where
      by_fresh : (b : Bool) → length (if b then fresh_counts w else w.counts) ≡ w.part.high - w.part.low
      by_fresh true = length_by_position (length w.alive) _ ∙ fits.alive
      by_fresh false = fits.counts

  pub alive_after : (k : ℕ) → k < length w.alive → is_in after.alive k ≡ (is_in w.alive k && not (dies read k))
  alive_after k below = flag_is (length w.alive) (λ j. is_in w.alive j && not (dies read j)) k below

  pub count_after : (k : ℕ) → k < length w.alive → slice_index after.counts k ≡ slice_index read.counts k - reads_passing (is_master_passing w.part (dies read)) (row_at w.part.rows k)
  count_after k below = let room : k < length read.counts = omega (arith, below, read_counts, fits.alive) in
      at_position (length read.counts) (λ j. slice_index read.counts j - reads_passing (is_master_passing w.part (dies read)) (row_at w.part.rows j)) k 0 room

  -- the dead are those that were, and those that died
  pub dead_after : (u : ℕ) → one_if (is_master_passing w.part (is_dead after) u) ≡ one_if (is_master_passing w.part (is_dead w) u) + one_if (is_master_passing w.part (dies read) u)
  dead_after u = by_place (is_within w.part.low w.part.high u) refl
    where
      by_flags : (a n : Bool) → one_if (not (a && not (a && n))) ≡ one_if (not a) + one_if (a && n)
      by_flags true true = refl
      by_flags true false = refl
      by_flags false n = refl

      by_place : (b : Bool) → is_within w.part.low w.part.high u ≡ b → one_if (b && is_dead after (u - w.part.low)) ≡ one_if (b && is_dead w (u - w.part.low)) + one_if (b && dies read (u - w.part.low))
      by_place true inside =
          let bounds = within_bounds w.part.low w.part.high u inside in
          let below : u - w.part.low < length w.alive = omega (arith, bounds.0, bounds.1, fits.alive) in
          ap (λ b. one_if (not b)) (alive_after (u - w.part.low) below) ∙ by_flags (is_in w.alive (u - w.part.low)) (nat_lt (slice_index read.counts (u - w.part.low)) w.needed)
      by_place false outside = refl

  -- where nobody died, nobody dies next
  pub none_died : list_any (dies read) (positions_below (length w.alive)) ≡ false → (k : ℕ) → k < length w.alive → dies read k ≡ false
  none_died none k below = by_test (dies read k) refl
    where
      by_test : (b : Bool) → dies read k ≡ b → dies read k ≡ false
      by_test true is = absurd (cc (none, position_has (dies read) (length w.alive) k below is))
      by_test false is = is

  pub count_settles : list_any (dies read) (positions_below (length w.alive)) ≡ false → IsSettled (of_counts after)
  count_settles none k inside =
      let below : k < length w.alive = omega (arith, inside, length_by_position (length w.alive) (λ j. one_if (is_in w.alive j && not (dies read j)))) in
      let same_flag : is_in after.alive k ≡ is_in w.alive k = alive_after k below ∙ (ap (λ b. is_in w.alive k && not b) (none_died none k below) ∙ and_true (is_in w.alive k)) in
      let nothing : reads_passing (is_master_passing w.part (dies read)) (row_at w.part.rows k) ≡ 0 = passing_none (is_master_passing w.part (dies read)) (row_at w.part.rows k) none_passes in
      let same_count : slice_index after.counts k ≡ slice_index read.counts k = omega (arith, count_after k below, nothing) in
      rw (same_flag, same_count) (none_died none k below)
    where
      and_true : (b : Bool) → (b && true) ≡ b
      and_true true = refl
      and_true false = refl

      none_passes : (u : ℕ) → is_master_passing w.part (dies read) u ≡ false
      none_passes u = by_place (is_within w.part.low w.part.high u) refl
        where
          by_place : (b : Bool) → is_within w.part.low w.part.high u ≡ b → (b && dies read (u - w.part.low)) ≡ false
          by_place true inside = let bounds = within_bounds w.part.low w.part.high u inside in none_died none (u - w.part.low) (omega (arith, bounds.0, bounds.1, fits.alive))
          by_place false outside = refl

  -- counts that are honest, or begin anew, stay honest
  pub count_honest : (is_fresh w.epoch epoch ≡ false → IsHonest (of_counts w)) → IsHonest (of_counts after)
  count_honest old k inside =
      let below : k < length w.alive = omega (arith, inside, length_by_position (length w.alive) (λ j. one_if (is_in w.alive j && not (dies read j)))) in
      let split = passing_both (is_master_passing w.part (is_dead after)) (is_master_passing w.part (is_dead w)) (is_master_passing w.part (dies read)) (row_at w.part.rows k) dead_after in
      let most = passing_within (is_master_passing w.part (is_dead after)) (row_at w.part.rows k) in
      omega (arith, count_after k below, split, most, read_honest k below)
    where
      -- the counts as they are read
      read_honest : (k : ℕ) → k < length w.alive → slice_index read.counts k + reads_passing (is_master_passing w.part (is_dead w)) (row_at w.part.rows k) ≤ length (row_at w.part.rows k)
      read_honest k below = by_fresh (is_fresh w.epoch epoch) refl
        where
          within : reads_passing (is_master_passing w.part (is_dead w)) (row_at w.part.rows k) ≤ length (row_at w.part.rows k)
          within = passing_within (is_master_passing w.part (is_dead w)) (row_at w.part.rows k)

          by_fresh : (b : Bool) → is_fresh w.epoch epoch ≡ b → slice_index (counts_less w.part.low updates (if b then fresh_counts w else w.counts)) k + reads_passing (is_master_passing w.part (is_dead w)) (row_at w.part.rows k) ≤ length (row_at w.part.rows k)
          by_fresh true fresh =
              let room : k < length (fresh_counts w) = omega (arith, below, length_by_position (length w.alive) (λ j. length (row_at w.part.rows j) - reads_passing (is_master_passing w.part (is_dead w)) (row_at w.part.rows j))) in
              omega (
                arith,
                at_position (length (fresh_counts w)) (λ j. slice_index (fresh_counts w) j - delta_of updates (w.part.low + j)) k 0 room,
                at_position (length w.alive) (λ j. length (row_at w.part.rows j) - reads_passing (is_master_passing w.part (is_dead w)) (row_at w.part.rows j)) k 0 below,
                within,
              )
          by_fresh false stale =
              let room : k < length w.counts = omega (arith, below, fits.alive, fits.counts) in
              omega (arith, at_position (length w.counts) (λ j. slice_index w.counts j - delta_of updates (w.part.low + j)) k 0 room, old stale k below)
