-- All workers stay in tune, over turns and rounds of them.
use Rattle.std.proofs.Common.{◌≡◌, ℕ, ◌+◌, ◌<◌, ◌≤◌, List, length, map, get_or, set, Option, None, arith, ⊎_elim, refl, sym, ◌∙◌, ap, subst, inl, inr}
use Rattle.std.specs.Prelude.{◌⊎◌}
use Rattle.std.specs.Option.{option_map}
use Rattle.std.proofs.lemmas.List.{map-set, get_or-map, get_or-set_same, get_or-set_other, length-set, length-map}
use Rattle.std.proofs.lemmas.Bool.{cases_eq}
use Rattle.std.proofs.Math.Seq.{map-set_same}
use Rattle.px_base.specs.Parts.{part_count}
use Rattle.hub_terms.specs.Hubs.{order_at, turn_of, worker_at, worker_count}
use Rattle.hub_terms.specs.Seats.{SeatPart}
use Rattle.hub_terms.specs.Systems.{SystemState}
use Rattle.hub_laws.proofs.Stuck.{never_stuck}
use Rattle.link_trait.specs.Links.{LinkView}
use Rattle.link_trait.specs.Spawners.{SpawnerView}
use Rattle.budget_laws.specs.KeptFacts.{KeepsAll}
use Rattle.driver_laws.specs.Seats.{Fits, IsInTune, marks_of}
use Rattle.driver_laws.specs.Turns.{GoesOn, HasWaited, IsNearer, IsSameRun, IsTurn, work_left}
use Rattle.driver_laws.proofs.Stays.{run_itself, run_on, turn_run, turn_stays}
use Rattle.driver_laws.proofs.Fitting.{fits_after}

-- ---- over views

pub count_same : (s t : SystemState) → IsSameRun s t → worker_count t.hub ≡ worker_count s.hub
count_same s t run = ap part_count run.cuts

tune_after : (s t : SystemState) (i : ℕ) (ps : List SpawnerView) (ls : List (Option LinkView)) (p : SpawnerView) (l : Option LinkView) → KeepsAll s → IsTurn i s t → i < worker_count s.hub →
    IsInTune s ps ls → Fits t i p l → IsInTune t (set ps i p) (set ls i l)
tune_after s t i ps ls p l kept turn inside tune fit = record {
  spawner_count = length-set ps i p ∙ (tune.spawner_count ∙ sym count);
  link_count = length-set ls i l ∙ (tune.link_count ∙ sym count);
  each = λ j below q. let here : j < worker_count s.hub = omega (arith, count) in
      ⊎_elim
      (λ e. rw (e, get_or-set_same ps i p q (omega (arith, tune.spawner_count)), get_or-set_same ls i l None (omega (arith, tune.link_count))) fit)
      (λ ne. rw (get_or-set_other ps i j p q ne, get_or-set_other ls i j l None ne) (fits_after s t j (turn_stays s t i j kept turn ne) (get_or ps j q) (get_or ls j None) (tune.each j here q)))
      (cases_eq j i);
  idle = λ j. ⊎_elim
      (λ e. ap (order_at t.hub) e ∙ turn.idle)
      (λ ne. ap (λ (x : SeatPart). x.order) (turn_stays s t i j kept turn ne).seat ∙ tune.idle j)
      (cases_eq j i);
}
  where
    count : worker_count t.hub ≡ worker_count s.hub
    count = count_same s t (turn_run s t i turn)

-- ---- over what they are views of

-- what is shown of the element that was read
pub shown_at : {A B : Type 0} (f : A → B) (xs : List A) (i : ℕ) (x : A) (e : B) → i < length xs → x ≡ get_or xs i x → get_or (map f xs) i e ≡ f x
shown_at f xs i x e inside is = get_or-map f xs i x e inside ∙ ap f (sym is)

module _ {A L : Type 0} (f : A → SpawnerView) (h : L → LinkView) (xs : List A) (ls : List (Option L)) (i : ℕ) (x : A) (l : Option L) (s : SystemState) (tune : IsInTune s (map f xs) (map (option_map h) ls)) (inside : i < worker_count s.hub) where
  pub spawner_inside : i < length xs
  spawner_inside = omega (arith, tune.spawner_count, length-map xs f)

  pub link_inside : i < length ls
  link_inside = omega (arith, tune.link_count, length-map ls (option_map h))

  module _ (is : x ≡ get_or xs i x) (is' : l ≡ get_or ls i l) where
    pub tune_at : Fits s i (f x) (option_map h l)
    tune_at = subst (λ (p : SpawnerView). Fits s i p (option_map h l)) (shown_at f xs i x (f x) spawner_inside is)
        (subst (λ (k : Option LinkView). Fits s i (get_or (map f xs) i (f x)) k) (shown_at (option_map h) ls i l None link_inside is') (tune.each i inside (f x)))

    pub tune_set : (t : SystemState) (p : A) (k : Option L) → KeepsAll s → IsTurn i s t → Fits t i (f p) (option_map h k) → IsInTune t (map f (set xs i p)) (map (option_map h) (set ls i k))
    tune_set t p k kept turn fit = rw (map-set f xs i p, map-set (option_map h) ls i k) (tune_after s t i (map f xs) (map (option_map h) ls) (f p) (option_map h k) kept turn inside tune fit)

    pub marks_set : (p : A) → (f p).lent_as ≡ (f x).lent_as → marks_of (map f (set xs i p)) ≡ marks_of (map f xs)
    marks_set p same = rw (map-set f xs i p) (map-set_same (λ (q : SpawnerView). q.lent_as) (map f xs) i (f p) (f x) (same ∙ ap (λ (q : SpawnerView). q.lent_as) (sym (shown_at f xs i x (f x) spawner_inside is))))

-- ---- a round

-- since the round began, less may happen, or each worker so far was told to wait, and nothing has changed
pub record HasMoved (s t : SystemState) (i : ℕ) : Type 0 where
  pub run : IsSameRun s t
  pub free : t.hub.halt ≡ None
  pub moved : (work_left t.hub < work_left s.hub) ⊎ ((t ≡ s) × ((j : ℕ) → j < i → HasWaited j s s))

pub moved_init : (s : SystemState) → s.hub.halt ≡ None → HasMoved s s 0
moved_init s free = record { run = run_itself s; free = free; moved = inr (refl, λ j below. absurd (omega arith)) }

pub moved_more : (s t u : SystemState) (i : ℕ) → HasMoved s t i → IsTurn i t u → GoesOn i t u → HasMoved s u (i + 1)
moved_more s t u i before turn goes = record {
  run = run_on s t u before.run (turn_run t u i turn);
  free = goes.free;
  moved = by_now goes.moved before.moved;
}
  where
    by_now : (work_left u.hub < work_left t.hub) ⊎ HasWaited i t u → (work_left t.hub < work_left s.hub) ⊎ ((t ≡ s) × ((j : ℕ) → j < i → HasWaited j s s)) →
        (work_left u.hub < work_left s.hub) ⊎ ((u ≡ s) × ((j : ℕ) → j < i + 1 → HasWaited j s s))
    by_now (inl less) (inl fewer) = inl (omega (arith, less, fewer))
    by_now (inl less) (inr same) = inl (omega (arith, less, ap (λ (x : SystemState). work_left x.hub) same.0))
    by_now (inr waited) (inl fewer) = inl (omega (arith, fewer, ap (λ (x : SystemState). work_left x.hub) waited.same))
    by_now (inr waited) (inr same) = inr (
      waited.same ∙ same.0,
      λ j below. elim (cases_eq j i) [
        | inl e ↦ rw e (record { same = refl; live = ap (λ (x : SystemState). (worker_at x.hub i).live) (sym same.0) ∙ waited.live; told = ap (λ (x : SystemState). turn_of x.hub i) (sym same.0) ∙ waited.told })
        | inr ne ↦ same.1 j (omega (arith, ne))
      ],
    )

-- after all workers had their turn less may happen: had all of them waited, the run would be stuck
pub round_nearer : (s t : SystemState) (i : ℕ) → KeepsAll s → s.hub.halt ≡ None → ((j : ℕ) → order_at s.hub j ≡ None) → worker_count s.hub ≤ i → HasMoved s t i → IsNearer s t
round_nearer s t i kept free idle all moved = record { free = moved.free; moved = ⊎_elim (λ less. less) (λ same. absurd (stuck same.1)) moved.moved }
  where
    stuck : ((j : ℕ) → j < i → HasWaited j s s) → ⊥
    stuck waited =
        let mover = never_stuck s.hub kept.in_step.hub (omega (arith, kept.in_step.job.cuts.cut.some_part)) (λ j within. (waited j (omega (arith, within, all))).live) idle free in
        mover.2 (waited mover.0 (omega (arith, mover.1, all))).told
