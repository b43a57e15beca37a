-- Each loss of a link that tells was an end, so the sum of all ends has risen by as much as there are losses.
use Rattle.std.proofs.Common.{◌≡◌, ℕ, zero, suc, ◌+◌, ◌<◌, ◌≤◌, Bool, true, cond, List, [], ◌∷◌, length, arith, refl, ap, ◌∙◌, inl, inr, add-zero}
use Rattle.std.specs.Prelude.{◌==◌, All, sum, sum_by, slice_index}
use Rattle.std.proofs.lemmas.Bool.{cases_lt}
use Rattle.std.proofs.lemmas.List.{get_or_past}
use Rattle.std.proofs.lemmas.List.Elements.{All-filter, All-head, All-tail, All-weaker}
use Rattle.std.proofs.lemmas.List.Sums.{sum_by-cons}
use Rattle.px_io.specs.Causes.{LAST}
use Rattle.px_base.specs.declared.wire.Loss.{Loss}
use Rattle.px_base.specs.declared.wire.LossKind.{LossKind}
use Rattle.px_base.specs.declared.wire.LossKind.TheVariants.{Ended}
use Rattle.px_base.specs.Values.{positions_below}
use Rattle.px_base.proofs.Listed.{not_equal}
use Rattle.link_trait.specs.Nurseries.{NurseryView}
use Rattle.driver_laws.specs.declared.job.Job.{Job}
use Rattle.driver_laws.specs.declared.endings.Finished.{Finished}
use Rattle.driver_laws.specs.Seats.{ended_count, is_ended, naming}
use Rattle.driver_laws.specs.Endings.{AreLosses, IsBack, IsFinished, NoneFell}
use Rattle.driver_laws.proofs.Counted.{named_total, sum_by_each, sum_no_more, sum_plus, sum_up}

abbrev one_of : LossKind → ℕ
one_of kind = cond (is_ended kind) 1 0

-- where all have ended, each is counted as an end
all_ended : (losses : List Loss) → All (λ (loss : Loss). loss.kind ≡ Ended) losses → ended_count losses ≡ length losses
all_ended [] all = refl
all_ended (x ∷ xs) all = omega (
  arith,
  sum_by-cons (λ (loss : Loss). one_of loss.kind) x xs,
  all_ended xs (All-tail (λ (loss : Loss). loss.kind ≡ Ended) x xs all),
  ap one_of (All-head (λ (loss : Loss). loss.kind ≡ Ended) x xs all),
)

-- no loss names a worker that isn't there
none_named : (n k : ℕ) (losses : List Loss) → n ≤ k → All (λ (loss : Loss). loss.worker < n) losses → naming k losses ≡ []
none_named n k [] past within = refl
none_named n k (x ∷ xs) past within = ap (λ (b : Bool). cond b (x ∷ naming k xs) (naming k xs)) (not_equal x.worker k (λ e. omega (arith, past, e, All-head (λ (loss : Loss). loss.worker < n) x xs within)))
    ∙ none_named n k xs past (All-tail (λ (loss : Loss). loss.worker < n) x xs within)

-- the sum of a list, with places past its end
sum_wide : (xs : List ℕ) (more : ℕ) → sum xs ≡ sum_by (slice_index xs) (positions_below (length xs + more))
sum_wide xs zero = rw add-zero (sum_by_each (slice_index xs) xs (λ k below. refl))
sum_wide xs (suc more) = omega (arith, sum_wide xs more, ap (λ (n : ℕ). sum_by (slice_index xs) (positions_below n)) (widened (length xs) more), sum_up (slice_index xs) (length xs + more), get_or_past xs (length xs + more) 0 (omega arith))
  where
    widened : (n m : ℕ) → n + suc m ≡ suc (n + m)
    widened n m = omega arith

module _ (job : Job) (old new : NurseryView) (losses : List Loss) (are : AreLosses job old new losses) (fell : NoneFell old.ends new.ends) (tells : old.tells ≡ true) (below : All (λ (count : ℕ). count < LAST) new.ends) where
  abbrev own : ℕ → ℕ
  own k = length (naming k losses)

  small : (k : ℕ) → slice_index new.ends k < LAST
  small k = elim (cases_lt k (length new.ends)) [
    | inl inside ↦ below k 0 inside
    | inr past ↦ omega (arith, get_or_past new.ends k 0 past)
  ]

  each_rose : (k : ℕ) → slice_index old.ends k + own k ≤ slice_index new.ends k
  each_rose k = elim (cases_lt k job.workers) [
    | inl here ↦ omega (arith, are.ends k here, small k, all_ended (naming k losses) (All-filter (λ (loss : Loss). loss.worker == k) (λ (loss : Loss). loss.kind ≡ Ended) losses (are.kinds tells)))
    | inr past ↦ omega (arith, fell.each k, small k, ap length (none_named job.workers k losses past are.workers))
  ]

  pub ends_rose : sum old.ends + length losses ≤ sum new.ends
  ends_rose =
      let wide : All (λ (loss : Loss). loss.worker < length old.ends + job.workers) losses = All-weaker (λ (loss : Loss). loss.worker < job.workers) (λ (loss : Loss). loss.worker < length old.ends + job.workers) (λ loss h. omega (arith, h)) losses are.workers in
      omega (
        arith,
        sum_wide old.ends job.workers,
        rw fell.places at (sum_wide new.ends job.workers),
        named_total (length old.ends + job.workers) losses wide,
        sum_plus (slice_index old.ends) own (length old.ends + job.workers),
        sum_no_more (λ (k : ℕ). slice_index old.ends k + own k) (slice_index new.ends) (length old.ends + job.workers) (λ k inside. each_rose k),
      )

-- so no more links were started than there are workers and links that ended
pub starts_paid : (job : Job) (old new : NurseryView) (finished : Finished) → IsFinished job old new finished → IsBack old new → old.tells ≡ true → All (λ (count : ℕ). count < LAST) new.ends →
    sum new.starts + sum old.ends ≤ sum old.starts + job.workers + sum new.ends
starts_paid job old new finished is back tells below = omega (arith, is.starts, ends_rose job old new finished.losses is.losses back.ends tells below)
