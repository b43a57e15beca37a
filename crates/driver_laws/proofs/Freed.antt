-- The spawners once their links were taken back: they can go back to the nursery, and what their counts say of the run.
use Rattle.std.proofs.Common.{◌≡◌, ℕ, ◌+◌, ◌*◌, ◌<◌, ◌≤◌, Bool, true, false, List, [], length, map, get_or, Option, Some, None, arith, refl, sym, ap, ◌∙◌, subst, zero-add, eq-eqb}
use Rattle.std.specs.Prelude.{All, MatchOption, sum, sum_by, ⊤}
use Rattle.std.proofs.lemmas.List.{ext_get_or, get_or-map, length-map}
use Rattle.std.proofs.lemmas.List.Elements.{All-from_get_or}
use Rattle.std.proofs.lemmas.List.Sums.{sum_by-le}
use Rattle.std.proofs.lemmas.List.FromFn.{get_or-range_with_len, length-range_with_len}
use Rattle.px_base.specs.declared.wire.Loss.{Loss}
use Rattle.px_base.specs.declared.wire.LossKind.TheVariants.{Ended}
use Rattle.px_base.specs.Values.{positions_below}
use Rattle.px_base.proofs.Positions.{at_position, length_by_position}
use Rattle.hub_terms.specs.declared.stops.Why.TheVariants as why
use Rattle.hub_terms.specs.Hubs.{worker_count}
use Rattle.hub_terms.specs.Seats.{names_worker}
use Rattle.hub_terms.specs.Systems.{SystemState}
use Rattle.round_laws.specs.Rounds.{AllLive}
use Rattle.link_trait.specs.Links.{LinkView}
use Rattle.link_trait.specs.Nurseries.{NurseryView, AreBack, IsLent, new_spawner}
use Rattle.link_trait.specs.Plans.{LentAs, Plan}
use Rattle.link_trait.specs.Spawners.{SpawnerView, IsLinkOf, discarded}
use Rattle.budget_laws.specs.KeptFacts.{KeepsAll}
use Rattle.driver_laws.specs.Seats.{CountsLosses, Fits, HasRisenBy, IsInTune, ended_count, marks_of, naming}
use Rattle.driver_laws.specs.Endings.{released}
use Rattle.driver_laws.proofs.Counted.{all_named, named_total, sum_below_each, sum_by_each, sum_one_more}

abbrev pub no_plan : Plan
no_plan = record { losses = []; refusals = []; retired = 0; starts = []; faults = []; ends = [] }

-- a spawner, to stand past the end of a list
abbrev pub no_spawner : SpawnerView
no_spawner = record { worker = 0; starts = 0; faults = 0; ends = 0; retired = []; lent_as = record { plan = no_plan; starts = []; links = [] }; out = None; tells = false; plan = no_plan }

-- ---- one spawner

-- no link of worker k's spawner is out, and its counts are still those of the run
pub record IsFreed (s : SystemState) (k : ℕ) (q : SpawnerView) : Type 0 where
  pub worker : q.worker ≡ k
  pub out : q.out ≡ None
  pub counts : CountsLosses s k q

came_back : (s : SystemState) (k : ℕ) (p : SpawnerView) (l : LinkView) → CountsLosses s k p → CountsLosses s k (discarded p l)
came_back s k p l counts = record {
  few_starts = counts.few_starts;
  most_starts = counts.most_starts;
  starts = counts.starts;
  kinds = counts.kinds;
  ends = omega (arith, counts.ends);
  refused = counts.refused;
}

freed : (s : SystemState) (k : ℕ) (keep : Bool) (p : SpawnerView) (o : Option LinkView) → Fits s k p o → IsFreed s k (released keep p o)
freed s k keep p None fit = record { worker = fit.spawner.worker; out = fit.out; counts = fit.counts }
freed s k true p (Some l) fit = let counts = came_back s k p l fit.counts in
    record { worker = fit.spawner.worker; out = refl; counts = record { few_starts = counts.few_starts; most_starts = counts.most_starts; starts = counts.starts; kinds = counts.kinds; ends = counts.ends; refused = counts.refused } }
freed s k false p (Some l) fit = record { worker = fit.spawner.worker; out = refl; counts = came_back s k p l fit.counts }

same_mark : (keep : Bool) (p : SpawnerView) (o : Option LinkView) → (released keep p o).lent_as ≡ p.lent_as
same_mark keep p None = refl
same_mark true p (Some l) = refl
same_mark false p (Some l) = refl

-- the link of a spawner is its own
pub own_link : (s : SystemState) (k : ℕ) (p : SpawnerView) (o : Option LinkView) → Fits s k p o → MatchOption o ⊤ (IsLinkOf p)
own_link s k p None fit = tt
own_link s k p (Some l) fit = fit.link

-- ---- all spawners

-- these are the spawners once all links were taken back
pub record AreReleased (keep : Bool) (ps : List SpawnerView) (ls : List (Option LinkView)) (qs : List SpawnerView) : Type 0 where
  pub count : length qs ≡ length ps
  pub each : (k : ℕ) (p : SpawnerView) → k < length ps → get_or qs k p ≡ released keep (get_or ps k p) (get_or ls k None)

module _ (s : SystemState) (keep : Bool) (ps qs : List SpawnerView) (ls : List (Option LinkView)) (n : ℕ) (tune : IsInTune s ps ls) (workers : worker_count s.hub ≡ n) (free : AreReleased keep ps ls qs) where
  pub size : length qs ≡ n
  size = free.count ∙ (tune.spawner_count ∙ workers)

  pub freed_at : (k : ℕ) (q : SpawnerView) → k < n → IsFreed s k (get_or qs k q)
  freed_at k q below = subst (IsFreed s k) (sym (free.each k q (omega (arith, below, tune.spawner_count, workers))))
      (freed s k keep (get_or ps k q) (get_or ls k None) (tune.each k (omega (arith, below, workers)) q))

  -- they can go back
  pub are_back : (old lent : NurseryView) (all : List SpawnerView) → IsLent old lent n all → marks_of ps ≡ marks_of all → AreBack lent qs
  are_back old lent all lends marks = record {
    lent = ap (λ (v : NurseryView). v.lent) lends.nursery;
    in_order = ext_get_or 0 (map (λ (q : SpawnerView). q.worker) qs) (positions_below lent.count) (length-map qs (λ (q : SpawnerView). q.worker) ∙ (size ∙ (sym counted ∙ sym (length-range_with_len 0 lent.count))))
        (λ k below. let here : k < n = omega (arith, below, length-map qs (λ (q : SpawnerView). q.worker), size) in
        get_or-map (λ (q : SpawnerView). q.worker) qs k (new_spawner lent k) 0 (omega (arith, here, size)) ∙ ((freed_at k (new_spawner lent k) here).worker ∙ sym (get_or-range_with_len 0 lent.count k 0 (omega (arith, here, counted)) ∙ zero-add k)));
    marked = All-from_get_or (λ (q : SpawnerView). q.lent_as ≡ lent.mark) qs (new_spawner lent 0) (λ k below. mark_at k (omega (arith, below, size)));
    none_out = All-from_get_or (λ (q : SpawnerView). q.out ≡ None) qs (new_spawner lent 0) (λ k below. (freed_at k (new_spawner lent 0) (omega (arith, below, size))).out);
    room = omega (arith, counted, lends.room);
  }
    where
      counted : lent.count ≡ n
      counted = ap (λ (v : NurseryView). v.count) lends.nursery

      mark_at : (k : ℕ) → k < n → (get_or qs k (new_spawner lent 0)).lent_as ≡ lent.mark
      mark_at k below =
          let d : SpawnerView = new_spawner lent 0 in
          let within : k < length ps = omega (arith, below, tune.spawner_count, workers) in
          let within' : k < length all = omega (arith, below, ap length lends.spawners, length_by_position n (new_spawner lent)) in
          ap (λ (q : SpawnerView). q.lent_as) (free.each k d within) ∙ (same_mark keep (get_or ps k d) (get_or ls k None)
          ∙ (sym (get_or-map (λ (q : SpawnerView). q.lent_as) ps k d lent.mark within) ∙ (ap (λ (ms : List LentAs). get_or ms k lent.mark) marks
          ∙ (get_or-map (λ (q : SpawnerView). q.lent_as) all k d lent.mark within' ∙ ap (λ (q : SpawnerView). q.lent_as) (ap (λ (xs : List SpawnerView). get_or xs k d) lends.spawners ∙ at_position n (new_spawner lent) k d below)))))

  -- ---- what their counts say

  abbrev losses : List Loss
  losses = s.hub.members.losses

  pub loss_workers : KeepsAll s → All (λ (loss : Loss). loss.worker < n) losses
  loss_workers kept = subst (λ (m : ℕ). All (λ (loss : Loss). loss.worker < m) losses) (kept.in_step.hub.places.members ∙ workers) kept.in_step.hub.epochs.loss_workers

  pub loss_kinds : KeepsAll s → s.told ≡ true → All (λ (loss : Loss). loss.kind ≡ Ended) losses
  loss_kinds kept tells = all_named (λ (loss : Loss). loss.kind ≡ Ended) n losses (loss_workers kept) (λ k below. (freed_at k no_spawner below).counts.kinds tells)

  -- a count of all spawners, worker by worker
  count_at : (f : SpawnerView → ℕ) (k : ℕ) → k < n → get_or (map f qs) k 0 ≡ f (get_or qs k no_spawner)
  count_at f k below = get_or-map f qs k no_spawner 0 (omega (arith, below, size))

  pub count_size : (f : SpawnerView → ℕ) → length (map f qs) ≡ n
  count_size f = length-map qs f ∙ size

  pub ends_at : (k : ℕ) → k < n → HasRisenBy (ended_count (naming k losses)) 0 (get_or (map (λ (q : SpawnerView). q.ends) qs) k 0)
  ends_at k below = rw (count_at (λ (q : SpawnerView). q.ends) k below) (freed_at k no_spawner below).counts.ends

  pub faults_at : (k : ℕ) → k < n → s.hub.halt ≡ Some (why.NoReplacement k) → 1 ≤ get_or (map (λ (q : SpawnerView). q.faults) qs) k 0
  faults_at k below is = rw (count_at (λ (q : SpawnerView). q.faults) k below) ((freed_at k no_spawner below).counts.refused (ap (names_worker k) is ∙ eq-eqb k k refl))

  abbrev starts : List ℕ
  starts = map (λ (q : SpawnerView). q.starts) qs

  total_is : KeepsAll s → sum_by (λ (k : ℕ). length (naming k losses) + 1) (positions_below (length starts)) ≡ length losses + n
  total_is kept = rw (count_size (λ (q : SpawnerView). q.starts)) (sum_one_more (λ (k : ℕ). length (naming k losses)) n ∙ ap (λ (m : ℕ). m + n) (named_total n losses (loss_workers kept)))

  -- few starts, whatever stops the run
  pub few_starts : KeepsAll s → sum starts ≤ n * 1001
  few_starts kept = let each = sum_by-le (λ (m : ℕ). m) 1001 starts (All-from_get_or (λ (m : ℕ). m ≤ 1001) starts 0 (λ k below.
      let here : k < n = omega (arith, below, count_size (λ (q : SpawnerView). q.starts)) in
      omega (arith, count_at (λ (q : SpawnerView). q.starts) k here, (freed_at k no_spawner here).counts.few_starts, kept.in_step.hub.limits.losses))) in
      rw (count_size (λ (q : SpawnerView). q.starts)) at each

  -- no more starts than workers and losses
  pub most_starts : KeepsAll s → sum starts ≤ length losses + n
  most_starts kept = omega (
    arith,
    total_is kept,
    sum_below_each (λ (k : ℕ). length (naming k losses) + 1) starts (λ k below.
        let here : k < n = omega (arith, below, count_size (λ (q : SpawnerView). q.starts)) in
        omega (arith, count_at (λ (q : SpawnerView). q.starts) k here, (freed_at k no_spawner here).counts.most_starts)),
  )

  -- just as many where all workers are live and nothing stops the run
  pub all_starts : KeepsAll s → s.hub.halt ≡ None → AllLive s.hub → sum starts ≡ length losses + n
  all_starts kept none live = sum_by_each (λ (k : ℕ). length (naming k losses) + 1) starts (λ k below.
      let here : k < n = omega (arith, below, count_size (λ (q : SpawnerView). q.starts)) in
      count_at (λ (q : SpawnerView). q.starts) k here ∙ rw (live k (omega (arith, here, workers))) at ((freed_at k no_spawner here).counts.starts none)) ∙ total_is kept

-- ---- over what they are views of

module _ {A : Type 0} (f : A → SpawnerView) (xs : List A) (ls : List (Option LinkView)) where
  pub links_own : (s : SystemState) → IsInTune s (map f xs) ls → (k : ℕ) (p : SpawnerView) → k < length xs → MatchOption (get_or ls k None) ⊤ (IsLinkOf (get_or (map f xs) k p))
  links_own s tune k p below = own_link s k (get_or (map f xs) k p) (get_or ls k None) (tune.each k (omega (arith, below, tune.spawner_count, length-map xs f)) p)

  pub are_released : (keep : Bool) (ys : List A) → length ys ≡ length xs → ((k : ℕ) (p : SpawnerView) → k < length xs → get_or (map f ys) k p ≡ released keep (get_or (map f xs) k p) (get_or ls k None)) →
      AreReleased keep (map f xs) ls (map f ys)
  are_released keep ys count each = record {
    count = length-map ys f ∙ (count ∙ sym (length-map xs f));
    each = λ k p below. each k p (omega (arith, below, length-map xs f));
  }
