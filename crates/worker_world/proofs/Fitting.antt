-- What a world of values answers has a frame.
use Rattle.std.proofs.Common.{◌≡◌, ℕ, ◌-◌, Bool, true, List, get_or, arith, subst}
use Rattle.std.specs.Prelude.{◌||◌, All, filter, Option, None, Some, Result, Ok, Err, IfOk}
use Rattle.std.proofs.lemmas.List.Elements.{All-filter, All-weaker}
use Rattle.std.proofs.lemmas.List.Kept.{IsStrictlyIncreasing-filter}
use Rattle.px_base.specs.declared.graph.Part.{Part}
use Rattle.px_base.specs.declared.wire.Answer.{Answer}
use Rattle.px_base.specs.declared.wire.Order.{Order}
use Rattle.px_base.specs.declared.wire.StepFault.{StepFault}
use Rattle.px_base.specs.declared.wire.Order.TheVariants.{Step, Report}
use Rattle.px_base.specs.declared.frame.Frame.TheVariants as frame
use Rattle.px_base.specs.Values.{IsValue, is_listed}
use Rattle.px_base.specs.Parts.{PartFits, is_within}
use Rattle.px_base.specs.FrameFits.{FrameFits, IsVertex}
use Rattle.px_base.specs.Worlds.{World, of_values, ValueWorld, StepOutcome, Refusal, refusal_of, is_fresh}
use Rattle.px_base.specs.ValueSteps.{order_outcome, announcements, has_changed}
use Rattle.px_base.specs.WorldSteps.{world_step, map_outcome}
use Rattle.px_base.proofs.Ranges.{within_bounds}
use Rattle.px_base.proofs.WorldsKeep.{at_any_place, step_fits}
use Rattle.count_world.proofs.Fitting.{ArePairs, pairs_fit, as_ok}
use Rattle.count_world.specs.Answers.{FitsWith}
use Rattle.worker_world.specs.Kept.{KeepsLimits}

announced_fit : (all : Bool) (part : Part) (before after : List ℕ) → PartFits part → All IsValue after → ArePairs (announcements all part before after)
announced_fit all part before after fits values =
    let test : ℕ → Bool = λ v. all || has_changed before after (v - part.low) in
    let inside : (v : ℕ) → is_within part.low part.high v ≡ true → IsVertex v = λ v h. omega (arith, (within_bounds part.low part.high v h).1, fits.room) in
    pairs_fit (λ v. get_or after (v - part.low) 0) (filter test part.boundary)
    (IsStrictlyIncreasing-filter test part.boundary fits.boundary_rises)
    (All-filter test IsVertex part.boundary (All-weaker (λ v. is_within part.low part.high v ≡ true) IsVertex inside part.boundary fits.boundary_inside))
    (λ v. at_any_place after (v - part.low) values)

pub answer_fits : (w : ValueWorld) (order : Order) → KeepsLimits w → FrameFits (frame.Order order) → FrameFits (frame.Answer (order_outcome w order).answer)
answer_fits w (Step epoch round updates) keeps fits =
    let carried : All (λ u. IsValue u.value) updates = All-weaker (λ u. IsVertex u.vertex × IsValue u.value) (λ u. IsValue u.value) (λ u h. h.1) updates fits.3.each in
    let after = step_fits w (Step epoch round updates) (omega (arith, keeps.reads)) keeps.fits carried in
    let pairs = announced_fit (is_fresh w.epoch epoch) w.part w.masters (order_outcome w (Step epoch round updates)).world.masters keeps.fits.part after.masters.in_range in
    (fits.0, fits.1, pairs.few, pairs.fit)
answer_fits w (Report epoch) keeps fits = (fits, omega (arith, keeps.fits.masters.one_each, keeps.fits.part.room), keeps.fits.masters.in_range)

-- an order that isn't refused is answered by its outcome
answer_is : (r : Option Refusal) (out : StepOutcome ValueWorld) (done : StepOutcome World) → map_outcome of_values (elim r [ None ↦ Ok out | Some refusal ↦ Err refusal ]) ≡ as_ok done → out.answer ≡ done.answer
answer_is None out done e = cc
answer_is (Some refusal) out done e = cc

has_frame : (w : ValueWorld) (order : Order) (done : StepOutcome World) → KeepsLimits w → world_step (of_values w) order ≡ Ok done → FitsWith order done.answer
has_frame w order done keeps is = record { fits = λ fits. subst (λ a. FrameFits (frame.Answer a)) (answer_is (refusal_of w.epoch (is_listed w.part.mirrors) order) (order_outcome w order) done is) (answer_fits w order keeps fits) }

-- what it answers, if it does
pub answered_fits : (w : ValueWorld) (order : Order) (after : World) (result : Result Answer StepFault) → KeepsLimits w → IfOk result (λ answer. world_step (of_values w) order ≡ Ok (record { world = after; answer = answer })) → IfOk result (λ answer. FitsWith order answer)
answered_fits w order after (Ok answer) keeps is = has_frame w order (record { world = after; answer = answer }) keeps is
answered_fits w order after (Err fault) keeps is = is
