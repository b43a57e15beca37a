-- The first update that isn't taken.
use Rattle.std.proofs.Common.{◌≡◌, ℕ, zero, suc, ◌<◌, Bool, true, false, List, [], ◌∷◌, length, get_or, refl, arith, Some, None}
use Rattle.px_base.specs.declared.wire.Update.{Update}
use Rattle.std.specs.Prelude.{All, IsTrue, nat_lt, Err, IsOk, option_map, find, not, if◌then◌else◌}
use Rattle.px_base.specs.declared.wire.Order.TheVariants.{Step}
use Rattle.px_base.specs.Worlds.{World, of_values, of_counts, epoch_of, takes_update, first_foreign, foreign}
use Rattle.px_base.specs.ValueSteps.{value_step}
use Rattle.px_base.specs.CountSteps.{count_step}
use Rattle.px_base.specs.WorldSteps.{world_step}

abbrev pub some_update : Update
some_update = record { vertex = 0; value = 0 }

-- the update at i isn't taken, and those before it are
pub foreign_at : (takes : ℕ → Bool) (updates : List Update) (i : ℕ) → i < length updates → ((k : ℕ) → k < i → takes (get_or updates k some_update).vertex ≡ true) →
    takes (get_or updates i some_update).vertex ≡ false → first_foreign takes updates ≡ Some (foreign (get_or updates i some_update).vertex)
foreign_at takes [] i below before at = absurd (omega arith)
foreign_at takes (u ∷ us) zero below before at = rw at refl
foreign_at takes (u ∷ us) (suc i) below before at =
    let first : takes u.vertex ≡ true = before 0 (omega arith) in
    rw first (foreign_at takes us i (omega arith) (λ k low. before (suc k) (omega arith)) at)

-- all are taken
pub none_foreign : (takes : ℕ → Bool) (updates : List Update) → ((k : ℕ) → k < length updates → takes (get_or updates k some_update).vertex ≡ true) → first_foreign takes updates ≡ None
none_foreign takes [] all = refl
none_foreign takes (u ∷ us) all =
    let first : takes u.vertex ≡ true = all 0 (omega arith) in
    rw first (none_foreign takes us (λ k low. all (suc k) (omega arith)))

-- ---- a Step

pub step_refused : (w : World) (epoch round vertex : ℕ) (updates : List Update) → nat_lt epoch (epoch_of w) ≡ false → first_foreign (takes_update w) updates ≡ Some (foreign vertex) →
    world_step w (Step epoch round updates) ≡ Err (foreign vertex)
step_refused (of_values w) epoch round vertex updates late found = rw (value_step, late, found) refl
step_refused (of_counts w) epoch round vertex updates late found = rw (count_step, late, found) refl

pub step_taken : (w : World) (epoch round : ℕ) (updates : List Update) → nat_lt epoch (epoch_of w) ≡ false → first_foreign (takes_update w) updates ≡ None →
    IsOk (world_step w (Step epoch round updates))
step_taken (of_values w) epoch round updates late found = rw (value_step, late, found) refl
step_taken (of_counts w) epoch round updates late found = rw (count_step, late, found) refl

-- each update is of a vertex that is taken, where none is foreign
pub all_taken : (takes : ℕ → Bool) (updates : List Update) → first_foreign takes updates ≡ None → All (λ u. IsTrue (takes u.vertex)) updates
all_taken takes [] none = λ k d below. absurd (omega arith)
all_taken takes (u ∷ us) none = by_first (takes u.vertex) refl none (all_taken takes us)
  where
    by_first : (b : Bool) → takes u.vertex ≡ b → option_map (λ v. foreign v.vertex) (if not b then Some u else find (λ v. not (takes v.vertex)) us) ≡ None →
        (first_foreign takes us ≡ None → All (λ v. IsTrue (takes v.vertex)) us) → All (λ v. IsTrue (takes v.vertex)) (u ∷ us)
    by_first true is none rest = at_each
      where
        at_each : (k : ℕ) (d : Update) → k < length (u ∷ us) → IsTrue (takes (get_or (u ∷ us) k d).vertex)
        at_each zero d below = is
        at_each (suc k) d below = rest none k d (omega arith)
    by_first false is none rest = cc
