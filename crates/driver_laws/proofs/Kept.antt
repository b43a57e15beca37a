-- The links that a run leaves retired: one of each worker, in order, each with the worker's world.
use Rattle.std.proofs.Common.{◌≡◌, ℕ, zero, suc, ◌+◌, ◌<◌, ◌≤◌, Bool, true, false, List, [], ◌∷◌, ◌++◌, length, map, get_or, Option, Some, None, arith, refl, sym, ap, ◌∙◌, subst, zero-add}
use Rattle.std.specs.Prelude.{All, is_some, unwrap_or}
use Rattle.std.specs.List.{flat_map}
use Rattle.std.proofs.lemmas.List.{ext_get_or, get_or-map, get_or_default, length-map}
use Rattle.std.proofs.lemmas.List.Concat.{flat_map-cons}
use Rattle.std.proofs.lemmas.List.Elements.{All-from_get_or, All-nil}
use Rattle.std.proofs.lemmas.List.FromFn.{get_or-range_with_len, length-range_with_len}
use Rattle.px_base.specs.declared.graph.Part.{Part}
use Rattle.px_base.specs.declared.program.CoreProgram.{CoreProgram}
use Rattle.px_base.specs.Values.{positions_below}
use Rattle.px_base.specs.Worlds.{World, masters_of}
use Rattle.hub_terms.specs.Hubs.{all_reported, reported_at, reported_values, worker_at, worker_count}
use Rattle.hub_terms.specs.InStep.{IsWorldOf, round_of}
use Rattle.hub_terms.specs.Systems.{SystemState, part_at, world_at}
use Rattle.list_laws.proofs.Lists.{all_at}
use Rattle.link_trait.specs.Links.{LinkView}
use Rattle.link_trait.specs.Spawners.{Retired, SpawnerView, kept_of}
use Rattle.round_laws.specs.Rounds.{AllLive}
use Rattle.round_laws.proofs.Suffice.{world_of_live}
use Rattle.budget_laws.specs.KeptFacts.{KeepsAll}
use Rattle.driver_laws.specs.Seats.{Fits, IsInTune}
use Rattle.driver_laws.specs.Endings.{HaveReported, released}
use Rattle.driver_laws.proofs.Freed.{AreReleased}

-- ---- lists by position

all_from_any : {X : Type 0} (P : X → Type 0) (xs : List X) → ((i : ℕ) (d : X) → i < length xs → P (get_or xs i d)) → All P xs
all_from_any P [] each = All-nil P
all_from_any P (x ∷ xs) each = All-from_get_or P (x ∷ xs) x (λ i below. each i x below)

-- two lists of lists that are the same at each position are the same when joined
flat_same : {X Y : Type 0} (f : X → List ℕ) (h : Y → List ℕ) (xs : List X) (ys : List Y) → length xs ≡ length ys → ((k : ℕ) (d : X) (e : Y) → k < length xs → f (get_or xs k d) ≡ h (get_or ys k e)) → flat_map f xs ≡ flat_map h ys
flat_same f h [] [] size each = refl
flat_same f h [] (y ∷ ys) size each = absurd (omega (arith, size))
flat_same f h (x ∷ xs) [] size each = absurd (omega (arith, size))
flat_same f h (x ∷ xs) (y ∷ ys) size each = flat_map-cons f x xs
    ∙ (ap (λ (zs : List ℕ). zs ++ flat_map f xs) (each 0 x y (omega arith))
    ∙ (ap (λ (zs : List ℕ). h y ++ zs) (flat_same f h xs ys (omega (arith, size)) (λ k d e below. each (suc k) d e (omega (arith, below)))) ∙ sym (flat_map-cons h y ys)))

-- the retired links of spawners that have one each
record IsEach (P : ℕ → Retired → Type 0) (o n : ℕ) (links : List Retired) : Type 0 where
  size : length links ≡ n
  each : (k : ℕ) (d : Retired) → k < n → P (o + k) (get_or links k d)

singles : (P : ℕ → Retired → Type 0) (o : ℕ) (qs : List SpawnerView) → ((k : ℕ) (q : SpawnerView) → k < length qs → (r : Retired) × ((get_or qs k q).retired ≡ r ∷ []) × P (o + k) r) →
    IsEach P o (length qs) (flat_map (λ (q : SpawnerView). q.retired) qs)
singles P o [] each = record { size = refl; each = λ k d below. absurd (omega (arith, below)) }
singles P o (q ∷ qs) each =
    let first = each 0 q (omega arith) in
    let rest = singles P (o + 1) qs (λ k p below. let next = each (suc k) p (omega (arith, below)) in (next.0, next.1, subst (λ (m : ℕ). P m next.0) (omega arith) next.2)) in
    let is : flat_map (λ (p : SpawnerView). p.retired) (q ∷ qs) ≡ first.0 ∷ flat_map (λ (p : SpawnerView). p.retired) qs =
    flat_map-cons (λ (p : SpawnerView). p.retired) q qs ∙ ap (λ (rs : List Retired). rs ++ flat_map (λ (p : SpawnerView). p.retired) qs) first.1 in
    rw is (record {
      size = ap suc rest.size;
      each = λ k d below. by_place first.0 first.2 rest k d below;
    })
  where
    by_place : (r : Retired) → P (o + 0) r → IsEach P (o + 1) (length qs) (flat_map (λ (p : SpawnerView). p.retired) qs) → (k : ℕ) (d : Retired) → k < suc (length qs) → P (o + k) (get_or (r ∷ flat_map (λ (p : SpawnerView). p.retired) qs) k d)
    by_place r own others zero d below = own
    by_place r own others (suc k) d below = subst (λ (m : ℕ). P m (get_or (flat_map (λ (p : SpawnerView). p.retired) qs) k d)) (omega arith) (others.each k d (omega (arith, below)))

empties : (qs : List SpawnerView) → ((k : ℕ) (q : SpawnerView) → k < length qs → (get_or qs k q).retired ≡ []) → flat_map (λ (q : SpawnerView). q.retired) qs ≡ []
empties [] each = refl
empties (q ∷ qs) each = flat_map-cons (λ (p : SpawnerView). p.retired) q qs
    ∙ (ap (λ (rs : List Retired). rs ++ flat_map (λ (p : SpawnerView). p.retired) qs) (each 0 q (omega arith)) ∙ empties qs (λ k p below. each (suc k) p (omega (arith, below))))

-- ---- one worker's link

-- this was the link of worker k, whose peer was the worker's world
pub record IsKeptOf (s : SystemState) (k : ℕ) (r : Retired) : Type 0 where
  pub worker : r.worker ≡ k
  pub world : world_at s k ≡ Some r.world
  pub answered : (values : List ℕ) → reported_at s.hub k ≡ Some values → (2 ≤ r.calls) × (1 ≤ r.reports)

kept_one : (s : SystemState) (k : ℕ) (p : SpawnerView) (o : Option LinkView) → KeepsAll s → s.told ≡ true → (worker_at s.hub k).live ≡ true → Fits s k p o → (r : Retired) × ((released true p o).retired ≡ r ∷ []) × IsKeptOf s k r
kept_one s k p None kept tells live fit = absurd (cc (live, fit.missing))
kept_one s k p (Some l) kept tells live fit =
    let w = world_of_live s k kept.in_step.live_worlds tells live in
    let r : Retired = record { worker = l.worker; mark = l.mark; world = w.0; calls = l.calls; reports = l.reports } in
    (r, ap (λ (rs : List Retired). rs ++ kept_of l l.peer) fit.spawner.retired ∙ ap (kept_of l) (fit.peer ∙ w.1), record { worker = fit.link.worker ∙ fit.spawner.worker; world = w.1; answered = fit.answered.twice tells })

none_kept : (s : SystemState) (k : ℕ) (keep : Bool) (p : SpawnerView) (o : Option LinkView) → KeepsAll s → (keep ≡ true → s.told ≡ false) → Fits s k p o → (released keep p o).retired ≡ []
none_kept s k keep p None kept silent fit = fit.spawner.retired
none_kept s k false p (Some l) kept silent fit = fit.spawner.retired
none_kept s k true p (Some l) kept silent fit = ap (λ (rs : List Retired). rs ++ kept_of l l.peer) fit.spawner.retired ∙ ap (kept_of l) (fit.peer ∙ by_world (world_at s k) refl)
  where
    by_world : (o : Option World) → world_at s k ≡ o → world_at s k ≡ None
    by_world None none = none
    by_world (Some w) some = absurd (cc (kept.in_step.live_worlds k, some, silent refl))

-- ---- all of them

module _ (s : SystemState) (keep : Bool) (ps qs : List SpawnerView) (ls : List (Option LinkView)) (n : ℕ) (kept : KeepsAll s) (tune : IsInTune s ps ls) (workers : worker_count s.hub ≡ n) (free : AreReleased keep ps ls qs) where
  abbrev links : List Retired
  links = flat_map (λ (q : SpawnerView). q.retired) qs

  -- none, where the links are discarded or don't tell
  pub none_retired : (keep ≡ true → s.told ≡ false) → links ≡ []
  none_retired silent = empties qs (λ k q below. let here : k < worker_count s.hub = omega (arith, below, free.count, tune.spawner_count) in
      ap (λ (p : SpawnerView). p.retired) (free.each k q (omega (arith, below, free.count))) ∙ none_kept s k keep (get_or ps k q) (get_or ls k None) kept silent (tune.each k here q))

  -- one of each worker, where they are retired and tell
  module _ (keeps : keep ≡ true) (tells : s.told ≡ true) (live : AllLive s.hub) where
    each_retired : IsEach (IsKeptOf s) 0 n links
    each_retired = subst (λ (m : ℕ). IsEach (IsKeptOf s) 0 m links) (free.count ∙ (tune.spawner_count ∙ workers)) (singles (IsKeptOf s) 0 qs (λ k q below.
        let here : k < worker_count s.hub = omega (arith, below, free.count, tune.spawner_count) in
        let one = kept_one s k (get_or ps k q) (get_or ls k None) kept tells (live k here) (tune.each k here q) in
        (one.0, ap (λ (p : SpawnerView). p.retired) (free.each k q (omega (arith, below, free.count)) ∙ ap (λ (b : Bool). released b (get_or ps k q) (get_or ls k None)) keeps) ∙ one.1, subst (λ (m : ℕ). IsKeptOf s m one.0) (sym (zero-add k)) one.2)))

    kept_at : (k : ℕ) (d : Retired) → k < n → IsKeptOf s k (get_or links k d)
    kept_at k d below = subst (λ (m : ℕ). IsKeptOf s m (get_or links k d)) (zero-add k) (each_retired.each k d below)

    pub links_in_order : map (λ (r : Retired). r.worker) links ≡ positions_below n
    links_in_order = ext_get_or 0 (map (λ (r : Retired). r.worker) links) (positions_below n) (length-map links (λ (r : Retired). r.worker) ∙ (each_retired.size ∙ sym (length-range_with_len 0 n)))
        (λ k below. let here : k < n = omega (arith, below, length-map links (λ (r : Retired). r.worker), each_retired.size) in worker_of links k here (omega (arith, here, each_retired.size)) (λ d. (kept_at k d here).worker))
      where
        worker_of : (rs : List Retired) (k : ℕ) → k < n → k < length rs → ((d : Retired) → (get_or rs k d).worker ≡ k) → get_or (map (λ (r : Retired). r.worker) rs) k 0 ≡ get_or (positions_below n) k 0
        worker_of [] k here below is = absurd (omega (arith, below))
        worker_of (r ∷ rs) k here below is = get_or-map (λ (x : Retired). x.worker) (r ∷ rs) k r 0 below ∙ (is r ∙ sym (get_or-range_with_len 0 n k 0 here ∙ zero-add k))

    pub links_worlds : (part : ℕ → Part) (core : CoreProgram) → ((k : ℕ) → part_at s k ≡ part k) → s.job.core ≡ core → All (λ (r : Retired). IsWorldOf (part r.worker) core r.world) links
    links_worlds part core parts same = all_from_any (λ (r : Retired). IsWorldOf (part r.worker) core r.world) links (λ k d below.
        let r : Retired = get_or links k d in
        let own = kept_at k d (omega (arith, below, each_retired.size)) in
        subst (λ (x : Part). IsWorldOf x core r.world) (parts k ∙ ap part (sym own.worker)) (subst (λ (c : CoreProgram). IsWorldOf (part_at s k) c r.world) same (kept.in_step.worlds k r.world own.world).of_part))

    pub links_rounds : (last : ℕ) → ((k : ℕ) (w : World) → world_at s k ≡ Some w → round_of w + 1 ≡ last) → All (λ (r : Retired). round_of r.world + 1 ≡ last) links
    links_rounds last spent = all_from_any (λ (r : Retired). round_of r.world + 1 ≡ last) links (λ k d below.
        spent k (get_or links k d).world (kept_at k d (omega (arith, below, each_retired.size))).world)

    module _ (all : all_reported s.hub ≡ true) where
      has_report : (k : ℕ) → k < n → (values : List ℕ) × (reported_at s.hub k ≡ Some values)
      has_report k below = by_report (reported_at s.hub k) refl (all_at is_some s.hub.reported k None all (omega (arith, below, workers, kept.in_step.hub.places.reported)))
        where
          by_report : (o : Option (List ℕ)) → reported_at s.hub k ≡ o → is_some o ≡ true → (values : List ℕ) × (reported_at s.hub k ≡ Some values)
          by_report None none some = absurd (cc some)
          by_report (Some values) is some = (values, is)

      pub links_reported : HaveReported links
      links_reported = all_from_any (λ (r : Retired). (2 ≤ r.calls) × (1 ≤ r.reports)) links (λ k d below.
          let here : k < n = omega (arith, below, each_retired.size) in
          let report = has_report k here in (kept_at k d here).answered report.0 report.1)

      pub links_masters : reported_values s.hub ≡ flat_map (λ (r : Retired). masters_of r.world) links
      links_masters = sym (flat_same (λ (r : Retired). masters_of r.world) (λ (o : Option (List ℕ)). unwrap_or o []) links s.hub.reported (each_retired.size ∙ (sym workers ∙ sym kept.in_step.hub.places.reported))
          (λ k d e below. let here : k < n = omega (arith, below, each_retired.size) in
          let report = has_report k here in
          let own = kept_at k d here in
          sym ((kept.in_step.worlds k (get_or links k d).world own.world).reported report.0 report.1) ∙ ap (λ (o : Option (List ℕ)). unwrap_or o []) (sym report.1 ∙ sym (get_or_default s.hub.reported k e None (omega (arith, here, workers, kept.in_step.hub.places.reported))))))
