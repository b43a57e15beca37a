-- What a world of counts answers has a frame.
use Rattle.std.proofs.Common.{◌≡◌, ℕ, ◌<◌, ◌≤◌, Bool, false, List, [], ◌∷◌, length, map, refl, ap, arith, subst}
use Rattle.std.specs.Prelude.{All, filter, nat_lt, Option, None, Some, Result, Ok, Err}
use Rattle.std.specs.List.Sorted.{IsStrictlyIncreasing}
use Rattle.std.proofs.lemmas.List.{length-map}
use Rattle.std.proofs.lemmas.List.Elements.{All-filter, All-map, All-weaker}
use Rattle.std.proofs.lemmas.List.Kept.{IsStrictlyIncreasing-filter}
use Rattle.px_base.specs.declared.TheConstants.{MOST_READS, MOST_VERTICES}
use Rattle.px_base.specs.declared.wire.Update.{Update}
use Rattle.px_base.specs.declared.wire.Order.{Order}
use Rattle.px_base.specs.declared.wire.Order.TheVariants.{Step, Report}
use Rattle.px_base.specs.declared.frame.Frame.TheVariants as frame
use Rattle.px_base.specs.Values.{IsValue, positions_below}
use Rattle.px_base.specs.Graphs.{read_count}
use Rattle.px_base.specs.Parts.{PartFits, is_within}
use Rattle.px_base.specs.FrameFits.{FrameFits, IsVertex, PairsFit}
use Rattle.px_base.specs.Worlds.{CountWorld, StepOutcome, Refusal, refusal_of, is_fresh}
use Rattle.px_base.specs.CountSteps.{count_outcome, count_step, times_read, death_announcements, world_as_read, after_deaths, is_announced}
use Rattle.px_base.proofs.Positions.{length_by_position}
use Rattle.mirror_places.proofs.Tabling.{few}
use Rattle.count_world.specs.Answers.{FitsWith}
use Rattle.count_world.specs.Kept.{KeepsCounts}
use Rattle.count_world.proofs.Telling.{told_update, told_within, few_reads}

-- ---- pairs

same_vertices : (f : ℕ → ℕ) (vs : List ℕ) → map (λ u. u.vertex) (map (told_update f) vs) ≡ vs
same_vertices f [] = refl
same_vertices f (v ∷ vs) = ap (λ rest. v ∷ rest) (same_vertices f vs)

-- rising vertices with their values
pub record ArePairs (us : List Update) : Type 0 where
  pub few : length us ≤ MOST_VERTICES
  pub fit : PairsFit us

pub pairs_fit : (f : ℕ → ℕ) (vs : List ℕ) → IsStrictlyIncreasing vs → All IsVertex vs → ((v : ℕ) → IsValue (f v)) → ArePairs (map (told_update f) vs)
pairs_fit f vs rising each values = record {
  few = omega (arith, few vs rising each, length-map vs (told_update f));
  fit = record {
    rising = rw (same_vertices f vs) rising;
    each = All-map (λ u. IsVertex u.vertex × IsValue u.value) (told_update f) vs (All-weaker IsVertex (λ v. IsVertex v × IsValue (f v)) (λ v h. (h, values v)) vs each);
  };
}

-- ---- deaths

times_are_values : (w : CountWorld) (test : ℕ → Bool) (m : ℕ) → length w.part.rows ≡ length w.alive → read_count w.part.rows ≤ MOST_READS → IsValue (times_read w test m)
times_are_values w test m size few =
    let members : List ℕ = filter test (positions_below (length w.alive)) in
    omega (arith, told_within w.part.rows members m, few_reads w.part.rows (length w.alive) MOST_READS test members (λ f. refl) size few)

deaths_fit : (w : CountWorld) (test : ℕ → Bool) → PartFits w.part → length w.part.rows ≡ length w.alive → read_count w.part.rows ≤ MOST_READS → ArePairs (death_announcements w test)
deaths_fit w test fits size few =
    let told : ℕ → Bool = λ m. nat_lt 0 (times_read w test m) in
    pairs_fit (times_read w test) (filter told w.part.mirrors)
    (IsStrictlyIncreasing-filter told w.part.mirrors fits.mirrors_rise)
    (All-filter told IsVertex w.part.mirrors (All-weaker (λ m. (m < MOST_VERTICES) × (is_within w.part.low w.part.high m ≡ false)) IsVertex (λ m h. h.0) w.part.mirrors fits.mirrors_outside))
    (λ m. times_are_values w test m size few)

-- ---- the answer

pub answer_fits : (w : CountWorld) (order : Order) → KeepsCounts w → FrameFits (frame.Order order) → FrameFits (frame.Answer (count_outcome w order).answer)
answer_fits w (Step epoch round updates) keeps fits =
    let read : CountWorld = world_as_read epoch round updates w in
    let after : CountWorld = after_deaths read in
    let size : length after.alive ≡ length w.alive = search (length_by_position) in
    let pairs = deaths_fit after (is_announced (is_fresh w.epoch epoch) read after) keeps.fits (omega (arith, size, keeps.alive, keeps.fits.rows)) keeps.reads in
    (fits.0, fits.1, pairs.few, pairs.fit)
answer_fits w (Report epoch) keeps fits = (fits, omega (arith, keeps.alive, keeps.fits.room), All-weaker (λ flag. flag ≤ 1) IsValue (λ flag h. omega (arith, h)) w.alive keeps.flags)

abbrev pub as_ok : {V : Type 0} → StepOutcome V → Result (StepOutcome V) Refusal
as_ok out = Ok out

-- an order that isn't refused is answered by its outcome
pub answer_is : {V : Type 0} (r : Option Refusal) (out done : StepOutcome V) → elim r [ None ↦ as_ok out | Some refusal ↦ Err refusal ] ≡ as_ok done → out.answer ≡ done.answer
answer_is None out done e = cc
answer_is (Some refusal) out done e = cc

pub has_frame : (w : CountWorld) (order : Order) (done : StepOutcome CountWorld) → KeepsCounts w → count_step w order ≡ Ok done → FitsWith order done.answer
has_frame w order done keeps is = record { fits = λ fits. subst (λ a. FrameFits (frame.Answer a)) (answer_is (refusal_of w.epoch (is_within w.part.low w.part.high) order) (count_outcome w order) done is) (answer_fits w order keeps fits) }
