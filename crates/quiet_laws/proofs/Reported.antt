-- Where each worker has reported, the reported values, one worker after another, are the core answer.
use Rattle.std.proofs.Common.{◌≡◌, ℕ, ◌+◌, ◌-◌, ◌<◌, ◌≤◌, true, List, [], Option, Some, None, length, map, refl, sym, ap, ◌∙◌, arith}
use Rattle.std.specs.Prelude.{Result, Ok, Err, MatchResult, IsOk, ◌==◌, slice_index, slice_range, is_some, unwrap_or}
use Rattle.std.proofs.lemmas.Bool.Decides.{nat_tests}
use Rattle.std.proofs.lemmas.List.{length-map}
use Rattle.px_base.specs.declared.graph.Part.{Part}
use Rattle.px_base.specs.declared.program.Class.{Class}
use Rattle.px_base.specs.declared.program.Class.TheVariants.{SelfStabilising, LocallyCorrecting, GloballyCorrecting}
use Rattle.px_base.specs.declared.program.Refused.{Refused}
use Rattle.px_base.specs.Classes.{class_of}
use Rattle.px_base.specs.Core.{core_value}
use Rattle.px_base.specs.Answers.{AnswersAs}
use Rattle.px_base.specs.Worlds.{World, ValueWorld, CountWorld, of_values, of_counts, masters_of}
use Rattle.px_base.specs.Parts.{low_of, high_of}
use Rattle.partitioner.proofs.Owned.{low_below_high, high_inside}
use Rattle.consistent_solver.proofs.Turning.{no_count}
use Rattle.hub_terms.specs.Jobs.{Job}
use Rattle.hub_terms.specs.Hubs.{reported_at, worker_count, is_quiet_hub, all_reported, reported_values}
use Rattle.hub_terms.specs.Systems.{SystemState, world_at}
use Rattle.hub_terms.specs.InStep.{IsInStep}
use Rattle.hub_terms.specs.Valid.{IsCoreAnswer, IsValid}
use Rattle.list_laws.proofs.Lists.{all_at}
use Rattle.list_laws.proofs.Ranges.{is_range, joined_stretches}
use Rattle.hub_laws.proofs.Workers.{idle_at}
use Rattle.system_laws.proofs.Kept.{none_told}
use Rattle.valid_laws.proofs.CountValid.{core_of}
use Rattle.quiet_laws.proofs.QuietByClass.{values_are_answer, living_are_core}
use Rattle.quiet_laws.proofs.QuietFixed.{stabilises, quiet_fixed}

-- ---- the answer

-- there is a value of the answer for each vertex
pub answer_sized : (job : Job) (a : List ℕ) → IsCoreAnswer job a → length a ≡ length job.rows
answer_sized job a is = sym (length-map a (core_value job.core)) ∙ by_class (class_of job.core.program) is.answer
  where
    by_class : (r : Result Class Refused) → MatchResult r (λ class. AnswersAs class job.core.program job.rows (map (core_value job.core) job.starts) (map (core_value job.core) a)) (λ refused. ⊥) →
        length (map (core_value job.core) a) ≡ length job.rows
    by_class (Ok SelfStabilising) h = h.values.one_each
    by_class (Ok LocallyCorrecting) h = h.consistent.values.one_each
    by_class (Ok GloballyCorrecting) h = h.one_each
    by_class (Err refused) h = absurd h

-- two flags that say the same are the same
same_flag : (a b : ℕ) → a ≤ 1 → b ≤ 1 → (a == 1) ≡ (b == 1) → a ≡ b
same_flag a b few less same = grind (arith, nat_tests)

-- ---- what each worker has reported

module _ (s : SystemState) (ok : IsInStep s) (all : all_reported s.hub ≡ true) where
  has_reported : (i : ℕ) → i < worker_count s.hub → (values : List ℕ) × (reported_at s.hub i ≡ Some values)
  has_reported i inside = by_report (reported_at s.hub i) refl (all_at is_some s.hub.reported i None all (omega (arith, inside, ok.hub.places.reported)))
    where
      by_report : (o : Option (List ℕ)) → reported_at s.hub i ≡ o → is_some o ≡ true → (values : List ℕ) × (reported_at s.hub i ≡ Some values)
      by_report None none h = cc
      by_report (Some values) here h = (values, here)

  -- so all is quiet, since there is a worker
  pub is_quiet : is_quiet_hub s.hub ≡ true
  is_quiet = let first = has_reported 0 (omega (arith, ok.job.cuts.cut.some_part)) in ok.hub.reports.quiet 0 first.0 first.1

module _ (s : SystemState) (answer : List ℕ) (ok : IsInStep s) (valid : IsValid s) (told : s.told ≡ true) (all : all_reported s.hub ≡ true) (is : IsCoreAnswer s.job answer) where
  abbrev cuts : List ℕ
  cuts = s.hub.inboxes.cuts

  quiet : is_quiet_hub s.hub ≡ true
  quiet = is_quiet s ok all

  has_world : (i : ℕ) → i < worker_count s.hub → (w : World) × (world_at s i ≡ Some w)
  has_world i inside = by_world (world_at s i) refl
    where
      by_world : (o : Option World) → world_at s i ≡ o → (w : World) × (world_at s i ≡ Some w)
      by_world (Some w) here = (w, here)
      by_world None none = absurd (cc (told, none_told s i ok.live_worlds (idle_at s.hub i quiet (omega (arith, inside, ok.hub.places.members))).live none))

  sized : length answer ≡ length s.job.rows
  sized = answer_sized s.job answer is

  -- what lies between two cuts
  stretch : (i : ℕ) (xs : List ℕ) → i < worker_count s.hub → length xs ≡ high_of cuts i - low_of cuts i → ((k : ℕ) → k < length xs → slice_index xs k ≡ slice_index answer (low_of cuts i + k)) → xs ≡ slice_range answer (low_of cuts i) (high_of cuts i)
  stretch i xs inside size same =
      is_range xs answer (low_of cuts i) (high_of cuts i) (low_below_high (length s.job.rows) cuts i ok.job.cuts.cut inside) (omega (arith, sized, high_inside (length s.job.rows) cuts i ok.job.cuts.cut inside))
      size (λ k below. same k (omega (arith, size, below)))

  -- the masters of its world are its stretch of the answer
  values_are : (i : ℕ) (u : ValueWorld) → i < worker_count s.hub → world_at s i ≡ Some (of_values u) → u.masters ≡ slice_range answer (low_of cuts i) (high_of cuts i)
  values_are i u inside mine = stretch i u.masters inside size (λ k there. by_class (class_of s.job.core.program) refl ok.job.sound.class k there)
    where
      size : length u.masters ≡ high_of cuts i - low_of cuts i
      size = let of_part = (ok.worlds i (of_values u) mine).of_part in omega (arith, of_part.3.masters.one_each, ap (λ (p : Part). p.low) of_part.1, ap (λ (p : Part). p.high) of_part.1)

      by_class : (r : Result Class Refused) → class_of s.job.core.program ≡ r → IsOk r → (k : ℕ) → k < length u.masters → slice_index u.masters k ≡ slice_index answer (low_of cuts i + k)
      by_class (Ok LocallyCorrecting) class accepted k there = values_are_answer s answer i k u ok valid told quiet class is inside mine there
      by_class (Ok SelfStabilising) class accepted k there = quiet_fixed s ok class told quiet answer is i k u inside mine there
      by_class (Ok GloballyCorrecting) class accepted k there = absurd (cc ((core_of s.job answer ok.job.sound class is).counts, (ok.worlds i (of_values u) mine).of_part.0))
      by_class (Err refused) class accepted k there = absurd (cc accepted)

  -- the living are
  living_are : (i : ℕ) (c : CountWorld) → i < worker_count s.hub → world_at s i ≡ Some (of_counts c) → c.alive ≡ slice_range answer (low_of cuts i) (high_of cuts i)
  living_are i c inside mine = stretch i c.alive inside size (λ k there. by_class (class_of s.job.core.program) refl ok.job.sound.class k there)
    where
      size : length c.alive ≡ high_of cuts i - low_of cuts i
      size = let of_part = (ok.worlds i (of_counts c) mine).of_part in omega (arith, of_part.3.alive, ap (λ (p : Part). p.low) of_part.1, ap (λ (p : Part). p.high) of_part.1)

      place : (k : ℕ) → k < length c.alive → low_of cuts i + k < length answer
      place k there = omega (arith, sized, high_inside (length s.job.rows) cuts i ok.job.cuts.cut inside, size, there)

      by_class : (r : Result Class Refused) → class_of s.job.core.program ≡ r → IsOk r → (k : ℕ) → k < length c.alive → slice_index c.alive k ≡ slice_index answer (low_of cuts i + k)
      by_class (Ok GloballyCorrecting) class accepted k there =
          same_flag (slice_index c.alive k) (slice_index answer (low_of cuts i + k)) ((ok.worlds i (of_counts c) mine).of_part.3.flags k 0 there)
          ((core_of s.job answer ok.job.sound class is).is_core.flags (low_of cuts i + k) 0 (place k there)) (living_are_core s answer i k c ok valid told quiet class is inside mine there)
      by_class (Ok LocallyCorrecting) class accepted k there = absurd (cc (no_count s.job.core.program class, (ok.worlds i (of_counts c) mine).of_part.0))
      by_class (Ok SelfStabilising) class accepted k there = absurd (cc ((stabilises s.job.core.program class).uncounted, (ok.worlds i (of_counts c) mine).of_part.0))
      by_class (Err refused) class accepted k there = absurd (cc accepted)

  masters_are : (i : ℕ) (w : World) → i < worker_count s.hub → world_at s i ≡ Some w → masters_of w ≡ slice_range answer (low_of cuts i) (high_of cuts i)
  masters_are i (of_values u) inside mine = values_are i u inside mine
  masters_are i (of_counts c) inside mine = living_are i c inside mine

  -- and that is what its worker has reported
  each_stretch : (i : ℕ) → i < worker_count s.hub → unwrap_or (reported_at s.hub i) [] ≡ slice_range answer (low_of cuts i) (high_of cuts i)
  each_stretch i inside =
      let told_of = has_reported s ok all i inside in
      let w = has_world i inside in
      ap (λ o. unwrap_or o []) told_of.1 ∙ ((ok.worlds i w.0 w.1).reported told_of.0 told_of.1 ∙ masters_are i w.0 inside w.1)

  pub reported_are_answer : reported_values s.hub ≡ answer
  reported_are_answer =
      let c = ok.job.cuts.cut in
      let last : slice_index cuts (length s.hub.reported) ≡ length answer = ap (slice_index cuts) ok.hub.places.reported ∙ (c.last ∙ sym sized) in
      joined_stretches (λ values. unwrap_or values []) s.hub.reported None answer (slice_index cuts) c.first last
      (λ i inside. low_below_high (length s.job.rows) cuts i c (omega (arith, inside, ok.hub.places.reported)))
      (λ i inside. each_stretch i (omega (arith, inside, ok.hub.places.reported)))
