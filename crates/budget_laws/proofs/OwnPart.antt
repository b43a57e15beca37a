-- The masters of a world in the whole graph.
use Rattle.std.proofs.Common.{◌≡◌, ℕ, ◌+◌, ◌-◌, ◌<◌, Bool, false, List, [], Some, length, arith, sym, ap, ◌∙◌, inl, inr}
use Rattle.std.specs.Prelude.{slice_index}
use Rattle.std.proofs.lemmas.Bool.{cases_lt, le-ltb}
use Rattle.px_base.specs.declared.graph.Part.{Part}
use Rattle.px_base.specs.declared.wire.Update.{Update}
use Rattle.px_base.specs.declared.wire.Order.TheVariants.{Step}
use Rattle.px_base.specs.declared.wire.Answer.TheVariants.{Stepped}
use Rattle.px_base.specs.Graphs.{row_at}
use Rattle.px_base.specs.Parts.{low_of, high_of}
use Rattle.px_base.specs.Pulls.{master_pull}
use Rattle.px_base.specs.Worlds.{World, ValueWorld, of_values, is_fresh, epoch_of}
use Rattle.px_base.specs.ValueSteps.{updated_mirrors, renewed_value, order_outcome}
use Rattle.px_base.proofs.Positions.{length_by_position}
use Rattle.partitioner.proofs.Owned.{high_inside}
use Rattle.hub_terms.specs.Hubs.{worker_at, worker_count}
use Rattle.hub_terms.specs.Systems.{SystemState, world_at, part_at}
use Rattle.hub_terms.specs.InStep.{IsInStep, IsWorldOf}
use Rattle.list_laws.proofs.Ranges.{at_range}

-- ---- answers

-- two answers to a Step that are the same say the same
pub same_answer : (b c : Bool) (us vs : List Update) {e r : ℕ} → Stepped e r b us ≡ Stepped e r c vs → (b ≡ c) × (us ≡ vs)
same_answer b c us vs h = (cc h, cc h)

-- a Step of this epoch isn't fresh where its worker is current
pub not_fresh : (s : SystemState) (ok : IsInStep s) (i epoch : ℕ) (w : World) → world_at s i ≡ Some w → (worker_at s.hub i).due ≡ false → epoch ≡ s.hub.members.epoch → is_fresh (epoch_of w) epoch ≡ false
not_fresh s ok i epoch w mine up now = le-ltb (epoch_of w) epoch (elim (cases_lt (epoch_of w) epoch) [
  | inl less ↦ absurd (cc (up, (ok.worlds i w mine).due.1 (omega (arith, less, now))))
  | inr late ↦ late
])

module _ (s : SystemState) (ok : IsInStep s) (i : ℕ) (u : ValueWorld) (inside : i < worker_count s.hub) (mine : world_at s i ≡ Some (of_values u)) where
  pub of_part : IsWorldOf (part_at s i) s.job.core (of_values u)
  of_part = (ok.worlds i (of_values u) mine).of_part

  -- the place of a master in the whole
  pub whole_place : (j : ℕ) → j < length u.part.rows → u.part.low + j < length s.job.rows
  whole_place j within = omega (arith, within, of_part.3.part.rows, ap (λ (p : Part). p.low) of_part.1, ap (λ (p : Part). p.high) of_part.1, high_inside (length s.job.rows) s.hub.inboxes.cuts i ok.job.cuts.cut inside)

  few : (j : ℕ) → j < length u.part.rows → j < high_of s.hub.inboxes.cuts i - low_of s.hub.inboxes.cuts i
  few j within = omega (arith, within, of_part.3.part.rows, ap (λ (p : Part). p.low) of_part.1, ap (λ (p : Part). p.high) of_part.1)

  pub row_is : (j : ℕ) → j < length u.part.rows → row_at u.part.rows j ≡ row_at s.job.rows (u.part.low + j)
  row_is j within = rw of_part.1 (at_range s.job.rows (low_of s.hub.inboxes.cuts i) (high_of s.hub.inboxes.cuts i) j [] (few j within))

  pub start_is : (j : ℕ) → j < length u.part.rows → slice_index u.part.starts j ≡ slice_index s.job.starts (u.part.low + j)
  start_is j within = rw of_part.1 (at_range s.job.starts (low_of s.hub.inboxes.cuts i) (high_of s.hub.inboxes.cuts i) j 0 (few j within))

  -- there are as many masters after a Step as before
  pub after_length : (epoch round : ℕ) (sent : List Update) → length (order_outcome u (Step epoch round sent)).world.masters ≡ length u.part.rows
  after_length epoch round sent = length_by_position (length u.part.rows) (λ l. renewed_value u.core (slice_index u.masters l) (master_pull u.part u.core u.masters (updated_mirrors u.part.mirrors sent u.mirrors) l))

  pub masters_length : length u.masters ≡ length u.part.rows
  masters_length = of_part.3.masters.one_each ∙ sym of_part.3.part.rows
