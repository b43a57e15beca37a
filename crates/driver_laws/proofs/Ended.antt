-- What a run leaves of its nursery, from the last state and the spawners that went back.
use Rattle.std.proofs.Common.{◌≡◌, ◌≢◌, ℕ, ◌+◌, ◌<◌, ◌≤◌, ◌^◌, Bool, true, false, List, [], ◌∷◌, ◌++◌, length, map, Option, Some, None, arith, refl, sym, ap, ◌∙◌, subst, inl, inr}
use Rattle.std.specs.Prelude.{Ok, Err, drop, sum, slice_index}
use Rattle.std.specs.List.{flat_map}
use Rattle.std.proofs.lemmas.Bool.{cases_lt}
use Rattle.std.proofs.Math.Seq.{drop-append_seam}
use Rattle.px_base.specs.declared.wire.Loss.{Loss}
use Rattle.px_base.specs.Parts.{block_cuts, part_count, part_of}
use Rattle.px_base.specs.Values.{IsValueList}
use Rattle.hub_terms.specs.declared.stops.Why.{Why}
use Rattle.hub_terms.specs.declared.stops.Why.TheVariants as why
use Rattle.hub_terms.specs.declared.tasks.Limits.{Limits}
use Rattle.hub_terms.specs.Hubs.{worker_count}
use Rattle.hub_terms.specs.Jobs.{job_of}
use Rattle.hub_terms.specs.Jobs as jobs
use Rattle.hub_terms.specs.Systems.{SystemState, opening_system, part_at}
use Rattle.hub_terms.specs.Valid.{IsCoreAnswer}
use Rattle.hub_laws.proofs.Workers.{idle_at}
use Rattle.system_core.specs.Promises.{IsDone}
use Rattle.round_laws.specs.OnTime.{AllowsEnough, rounds_enough}
use Rattle.round_laws.specs.Rounds.{AllLive}
use Rattle.budget_laws.specs.KeptFacts.{KeepsAll}
use Rattle.link_trait.specs.Counts.{HasRisen, all_more_by, more_by}
use Rattle.link_trait.specs.Links.{LinkView}
use Rattle.link_trait.specs.Nurseries.{NurseryView, AreBack, IsLent, IsTakenBack, with_room}
use Rattle.link_trait.specs.Spawners.{Retired, SpawnerView}
use Rattle.link_trait.proofs.Counting.{length_more, more_at, same_at, sum_more}
use Rattle.driver_laws.specs.declared.job.Job.{Job}
use Rattle.driver_laws.specs.declared.endings.Finished.{Finished}
use Rattle.driver_laws.specs.declared.endings.Stop.{Stop}
use Rattle.driver_laws.specs.declared.endings.Stop.TheVariants as stop
use Rattle.driver_laws.specs.Jobs.{IsSoundJob, job_part, vertices}
use Rattle.driver_laws.specs.Seats.{HasRisenBy, IsInTune, ended_count, marks_of, naming}
use Rattle.driver_laws.specs.Turns.{IsOver, IsSameRun}
use Rattle.driver_laws.specs.Endings.{AreLosses, AreOfParts, HasStopped, IsBack, IsFinished, IsOutcome, IsRefused, IsSpent, IsTooMany, NoneFell, keeps_links, retired_since}
use Rattle.driver_laws.proofs.Freed.{AreReleased, all_starts, are_back, count_size, ends_at, faults_at, few_starts, loss_kinds, loss_workers, most_starts}
use Rattle.driver_laws.proofs.Kept.{links_in_order, links_masters, links_reported, links_rounds, links_worlds, none_retired}
use Rattle.driver_laws.proofs.Opening.{blocks_count}

append_none : (xs : List Retired) → xs ++ [] ≡ xs
append_none [] = refl
append_none (x ∷ xs) = ap (λ (ys : List Retired). x ∷ ys) (append_none xs)

-- ---- a run that never began

pub unbegun : (old new : NurseryView) → new.lent ≡ false → new.plan ≡ old.plan → new.tells ≡ old.tells → new.starts ≡ old.starts → new.faults ≡ old.faults → new.ends ≡ old.ends → new.retired ≡ old.retired → IsBack old new
unbegun old new lent plan tells starts faults ends same = record {
  lent = lent;
  plan = plan;
  tells = tells;
  starts = rw starts (still old.starts);
  faults = rw faults (still old.faults);
  ends = rw ends (still old.ends);
  retired = rw same (sym (append_none old.retired) ∙ ap (λ (rs : List Retired). old.retired ++ rs) (sym (none_since old.retired)));
  untold = λ silent. same;
}
  where
    still : (xs : List ℕ) → NoneFell xs xs
    still xs = record { places = refl; each = λ k. omega arith }

    none_since : (xs : List Retired) → drop (length xs) xs ≡ []
    none_since [] = refl
    none_since (x ∷ xs) = none_since xs

-- nothing was lent, and the nursery has kept all but its room
pub not_lent : (old new : NurseryView) (room : ℕ) → old.lent ≡ false → new ≡ with_room old room → IsBack old new
not_lent old new room none is = rw is (unbegun old (with_room old room) none refl refl refl refl refl refl)

-- ---- counts that came back

-- a count after it rose by more, where less was said to have risen
risen_on : (n before more : ℕ) → HasRisenBy n 0 more → HasRisenBy n before (more_by before more)
risen_on n before more had = omega (arith, had)

never_fell : (xs ys : List ℕ) → length ys ≤ length xs → NoneFell xs (all_more_by xs ys)
never_fell xs ys fits = record {
  places = length_more xs ys;
  each = λ k. elim (cases_lt k (length ys)) [
    | inl below ↦ rw (more_at xs ys k (omega (arith, below, fits)) below) (omega arith)
    | inr past ↦ rw (same_at xs ys k past) (omega arith)
  ];
}

-- ---- a run that was begun

-- what is known once all links were taken back
pub record IsEnding (job : Job) (old lent : NurseryView) (s : SystemState) (ps qs : List SpawnerView) (ls : List (Option LinkView)) (all : List SpawnerView) (keep : Bool) : Type 0 where
  pub sound : IsSoundJob job
  pub few : sum old.starts < 2 ^ 62
  pub lends : IsLent old lent job.workers all
  pub marks : marks_of ps ≡ marks_of all
  pub kept : KeepsAll s
  pub over : IsOver s
  pub run : IsSameRun (opening_system (block_cuts (vertices job) job.workers) job.limits old.tells (job_of job.graph job.core job.starts)) s
  pub tune : IsInTune s ps ls
  pub free : AreReleased keep ps ls qs

-- the run is still the one that was opened
pub begun_run : (s t : SystemState) (ends : List ℕ) (limits : Limits) (told tells : Bool) (job : jobs.Job) → s ≡ opening_system ends limits told job → told ≡ tells → IsSameRun s t → IsSameRun (opening_system ends limits tells job) t
begun_run s t ends limits told tells job opens same run = rw (← same, ← opens) run

module _ (job : Job) (old lent : NurseryView) (s : SystemState) (ps qs : List SpawnerView) (ls : List (Option LinkView)) (all : List SpawnerView) (keep : Bool) (end : IsEnding job old lent s ps qs ls all keep) where
  count : worker_count s.hub ≡ job.workers
  count = ap part_count end.run.cuts ∙ blocks_count (vertices job) job.workers

  -- the spawners can go back
  pub goes_back : AreBack lent qs
  goes_back = are_back s keep ps qs ls job.workers end.tune count end.free old lent all end.lends end.marks

module _ (job : Job) (old lent new : NurseryView) (s : SystemState) (ps qs : List SpawnerView) (ls : List (Option LinkView)) (all : List SpawnerView) (keep : Bool) (end : IsEnding job old lent s ps qs ls all keep) (back : IsTakenBack lent new qs) where
  workers : worker_count s.hub ≡ job.workers
  workers = ap part_count end.run.cuts ∙ blocks_count (vertices job) job.workers

  -- ---- what is the same for all endings

  abbrev since : List Retired
  since = flat_map (λ (q : SpawnerView). q.retired) qs

  counts : (f : NurseryView → List ℕ) (g : SpawnerView → ℕ) → f lent ≡ f old → f new ≡ all_more_by (f lent) (map g qs) → f new ≡ all_more_by (f old) (map g qs)
  counts f g same came = came ∙ ap (λ (xs : List ℕ). all_more_by xs (map g qs)) same

  starts_are : new.starts ≡ all_more_by old.starts (map (λ (q : SpawnerView). q.starts) qs)
  starts_are = counts (λ (v : NurseryView). v.starts) (λ (q : SpawnerView). q.starts) (ap (λ (v : NurseryView). v.starts) end.lends.nursery) (ap (λ (v : NurseryView). v.starts) back.nursery)

  faults_are : new.faults ≡ all_more_by old.faults (map (λ (q : SpawnerView). q.faults) qs)
  faults_are = counts (λ (v : NurseryView). v.faults) (λ (q : SpawnerView). q.faults) (ap (λ (v : NurseryView). v.faults) end.lends.nursery) (ap (λ (v : NurseryView). v.faults) back.nursery)

  ends_are : new.ends ≡ all_more_by old.ends (map (λ (q : SpawnerView). q.ends) qs)
  ends_are = counts (λ (v : NurseryView). v.ends) (λ (q : SpawnerView). q.ends) (ap (λ (v : NurseryView). v.ends) end.lends.nursery) (ap (λ (v : NurseryView). v.ends) back.nursery)

  -- there are as many counts as 64 workers have
  places : (f : SpawnerView → ℕ) → length (map f qs) ≤ 64
  places f = omega (arith, count_size s keep ps qs ls job.workers end.tune workers end.free f, end.sound.workers)

  start_places : length old.starts ≡ 64
  start_places = ap length (sym (ap (λ (v : NurseryView). v.starts) end.lends.nursery)) ∙ end.lends.one_each.starts

  fault_places : length old.faults ≡ 64
  fault_places = ap length (sym (ap (λ (v : NurseryView). v.faults) end.lends.nursery)) ∙ end.lends.one_each.faults

  end_places : length old.ends ≡ 64
  end_places = ap length (sym (ap (λ (v : NurseryView). v.ends) end.lends.nursery)) ∙ end.lends.one_each.ends

  retired_are : new.retired ≡ old.retired ++ since
  retired_are = ap (λ (v : NurseryView). v.retired) back.nursery ∙ ap (λ (rs : List Retired). rs ++ since) (ap (λ (v : NurseryView). v.retired) end.lends.nursery)

  since_is : retired_since old new ≡ since
  since_is = ap (drop (length old.retired)) retired_are ∙ drop-append_seam old.retired since

  none_since : since ≡ [] → new.retired ≡ old.retired
  none_since none = retired_are ∙ (ap (λ (rs : List Retired). old.retired ++ rs) none ∙ append_none old.retired)

  none_left : (keep ≡ true → s.told ≡ false) → new.retired ≡ old.retired
  none_left silent = none_since (none_retired s keep ps qs ls job.workers end.kept end.tune workers end.free silent)

  pub is_back : IsBack old new
  is_back = record {
    lent = ap (λ (v : NurseryView). v.lent) back.nursery;
    plan = ap (λ (v : NurseryView). v.plan) back.nursery ∙ ap (λ (v : NurseryView). v.plan) end.lends.nursery;
    tells = ap (λ (v : NurseryView). v.tells) back.nursery ∙ ap (λ (v : NurseryView). v.tells) end.lends.nursery;
    starts = subst (NoneFell old.starts) (sym starts_are) (never_fell old.starts (map (λ (q : SpawnerView). q.starts) qs) (omega (arith, places (λ (q : SpawnerView). q.starts), start_places)));
    faults = subst (NoneFell old.faults) (sym faults_are) (never_fell old.faults (map (λ (q : SpawnerView). q.faults) qs) (omega (arith, places (λ (q : SpawnerView). q.faults), fault_places)));
    ends = subst (NoneFell old.ends) (sym ends_are) (never_fell old.ends (map (λ (q : SpawnerView). q.ends) qs) (omega (arith, places (λ (q : SpawnerView). q.ends), end_places)));
    retired = retired_are ∙ ap (λ (rs : List Retired). old.retired ++ rs) (sym since_is);
    untold = λ silent. none_left (λ keeps. end.run.told ∙ silent);
  }

  -- ---- starts and losses

  abbrev losses : List Loss
  losses = s.hub.members.losses

  starts_sum : sum new.starts ≡ sum old.starts + sum (map (λ (q : SpawnerView). q.starts) qs)
  starts_sum = ap sum starts_are ∙ sum_more old.starts (map (λ (q : SpawnerView). q.starts) qs) (omega (arith, places (λ (q : SpawnerView). q.starts), start_places))
      (omega (arith, end.few, few_starts s keep ps qs ls job.workers end.tune workers end.free end.kept, end.sound.workers))

  starts_most : sum new.starts ≤ sum old.starts + job.workers + length losses
  starts_most = omega (arith, starts_sum, most_starts s keep ps qs ls job.workers end.tune workers end.free end.kept)

  are_losses : AreLosses job old new losses
  are_losses = record {
    workers = loss_workers s keep ps qs ls job.workers end.tune workers end.free end.kept;
    kinds = λ tells. loss_kinds s keep ps qs ls job.workers end.tune workers end.free end.kept (end.run.told ∙ tells);
    ends = λ k below. let here : k < length (map (λ (q : SpawnerView). q.ends) qs) = omega (arith, below, count_size s keep ps qs ls job.workers end.tune workers end.free (λ (q : SpawnerView). q.ends)) in
        rw (ends_are, more_at old.ends (map (λ (q : SpawnerView). q.ends) qs) k (omega (arith, below, end.sound.workers, end_places)) here)
        (risen_on (ended_count (naming k losses)) (slice_index old.ends k) (slice_index (map (λ (q : SpawnerView). q.ends) qs) k) (ends_at s keep ps qs ls job.workers end.tune workers end.free k below));
  }

  within : s.hub.halt ≡ None → length losses ≤ job.limits.losses
  within free = elim (cases_lt s.hub.members.limits.losses (length losses)) [
    | inl more ↦ absurd (cc (free, end.kept.in_step.hub.epochs.loss_limit.0 more))
    | inr few ↦ omega (arith, few, ap (λ (l : Limits). l.losses) end.run.limits)
  ]

  -- ---- links that are kept

  parts_are : (k : ℕ) → part_at s k ≡ job_part job k
  parts_are k = ap (λ (j : jobs.Job). part_of j.rows j.starts s.hub.inboxes.cuts k) end.run.job ∙ ap (λ (cuts : List ℕ). part_of job.graph.rows job.starts cuts k) end.run.cuts

  module _ (keeps : keep ≡ true) (live : AllLive s.hub) (tells : old.tells ≡ true) where
    told : s.told ≡ true
    told = end.run.told ∙ tells

    are_of_parts : AreOfParts job (retired_since old new)
    are_of_parts = rw since_is (record {
      in_order = links_in_order s keep ps qs ls job.workers end.kept end.tune workers end.free keeps told live;
      worlds = links_worlds s keep ps qs ls job.workers end.kept end.tune workers end.free keeps told live (job_part job) job.core parts_are (ap (λ (j : jobs.Job). j.core) end.run.job);
    })

  -- ---- finished

  module _ (finished : Finished) (keeps : keep ≡ true) (is : IsOutcome s (Ok finished)) where
    all_done : IsDone s
    all_done = end.over.done is.0

    live : AllLive s.hub
    live i within' = (idle_at s.hub i all_done.quiet (omega (arith, within', end.kept.in_step.hub.places.members))).live

    losses_same : finished.losses ≡ losses
    losses_same = is.3

    pub is_finished : IsFinished job old new finished
    is_finished = record {
      values = subst (λ (j : jobs.Job). IsValueList (length j.rows) finished.values) end.run.job is.2;
      answer = λ tells. subst (λ (j : jobs.Job). IsCoreAnswer j finished.values) end.run.job (rw is.1 (all_done.answer (told keeps live tells)));
      masters = λ tells. rw since_is (is.1 ∙ links_masters s keep ps qs ls job.workers end.kept end.tune workers end.free keeps (told keeps live tells) live all_done.reported);
      parts = are_of_parts keeps live;
      reported = λ tells. rw since_is (links_reported s keep ps qs ls job.workers end.kept end.tune workers end.free keeps (told keeps live tells) live all_done.reported);
      losses = rw losses_same are_losses;
      few = rw losses_same (within is.0);
      starts = rw losses_same (omega (arith, starts_sum, all_starts s keep ps qs ls job.workers end.tune workers end.free end.kept is.0 live));
    }

  -- ---- stopped

  -- where the losses aren't too many, they are within what is allowed
  few_losses : (reason : Why) → s.hub.halt ≡ Some reason → reason ≢ why.TooManyLosses → length losses ≤ job.limits.losses
  few_losses reason is other = elim (cases_lt s.hub.members.limits.losses (length losses)) [
    | inl more ↦ absurd (other (cc (is, end.kept.in_step.hub.epochs.loss_limit.0 more)))
    | inr few ↦ omega (arith, few, ap (λ (l : Limits). l.losses) end.run.limits)
  ]

  refused : (worker : ℕ) → keep ≡ false → s.hub.halt ≡ Some (why.NoReplacement worker) → IsRefused job old new worker
  refused worker drops is =
      let below : worker < job.workers = omega (arith, end.kept.named worker is, workers) in
      record {
        one = below;
        faults = faults_rose below;
        starts = omega (arith, starts_most, few_losses (why.NoReplacement worker) is (λ e. cc e));
        retired = none_left (λ keeps. absurd (cc (keeps, drops)));
      }
    where
      faults_rose : worker < job.workers → HasRisen (slice_index old.faults worker) (slice_index new.faults worker)
      faults_rose below =
          let here : worker < length (map (λ (q : SpawnerView). q.faults) qs) = omega (arith, below, count_size s keep ps qs ls job.workers end.tune workers end.free (λ (q : SpawnerView). q.faults)) in
          let there : worker < length old.faults = omega (arith, below, end.sound.workers, fault_places) in
          rw (faults_are, more_at old.faults (map (λ (q : SpawnerView). q.faults) qs) worker there here)
          (omega (arith, faults_at s keep ps qs ls job.workers end.tune workers end.free worker below is))

  too_many : (lost : List Loss) → keep ≡ false → s.hub.halt ≡ Some why.TooManyLosses → lost ≡ losses → IsTooMany job old new lost
  too_many lost drops is same = rw same (record {
    more = omega (arith, end.kept.in_step.hub.epochs.loss_limit.1 is, ap (λ (l : Limits). l.losses) end.run.limits);
    counted = are_losses;
    starts = starts_most;
    retired = none_left (λ keeps. absurd (cc (keeps, drops)));
  })

  spent : (base : ℕ) → keep ≡ true → s.hub.halt ≡ Some why.Budget → base ≡ s.hub.members.base → IsSpent job old new base
  spent base keeps is same = record {
    parts = are_of_parts keeps live;
    rounds = λ tells. rw since_is (links_rounds s keep ps qs ls job.workers end.kept end.tune workers end.free keeps (told keeps live tells) live (base + job.limits.rounds)
        (λ k w here. (end.kept.spent is).rounds k w here ∙ last_is));
    wanting = λ tells even. elim (cases_lt job.limits.rounds (rounds_enough (vertices job))) [
      | inl less ↦ less
      | inr enough ↦ absurd (end.kept.on_time.budget (record { told = told keeps live tells; even = ap (λ (l : Limits). l.lag) end.run.limits ∙ even }) (enough_rounds enough) is)
    ];
    starts = omega (arith, starts_most, few_losses why.Budget is (λ e. cc e));
  }
    where
      live : AllLive s.hub
      live = end.over.spent is

      last_is : s.hub.members.base + s.hub.members.limits.rounds ≡ base + job.limits.rounds
      last_is = omega (arith, same, ap (λ (l : Limits). l.rounds) end.run.limits)

      enough_rounds : rounds_enough (vertices job) ≤ job.limits.rounds → AllowsEnough s
      enough_rounds enough = omega (arith, enough, ap (λ (l : Limits). l.rounds) end.run.limits, ap (λ (j : jobs.Job). length j.rows) end.run.job)

  pub has_stopped : (why : Stop) → keep ≡ keeps_links (Err why) → IsOutcome s (Err why) → HasStopped job old new why
  has_stopped (stop.NoReplacement worker) keeps is = refused worker keeps is
  has_stopped (stop.TooManyLosses lost) keeps is = too_many lost keeps is.0 is.1
  has_stopped (stop.Budget base) keeps is = spent base keeps is.0 is.1
  has_stopped stop.Memory keeps is = none_left (λ kept. absurd (cc (kept, keeps)))
