-- An answer that is taken keeps that values are at their mirrors, or on their way there.
use Rattle.std.proofs.Common.{◌≡◌, ◌≢◌, ℕ, ◌-◌, ◌<◌, Bool, true, false, List, [], ◌∷◌, Option, Some, None, length, arith, refl, sym, ap, subst, ◌∙◌, inl, inr, eqb-true, eq-eqb}
use Rattle.std.specs.Prelude.{◌==◌, ◌⊎◌, All, slice_index, filter}
use Rattle.std.specs.List.{AllByRecursion}
use Rattle.std.proofs.lemmas.List.Elements.{recursion_from_All}
use Rattle.std.proofs.lemmas.Bool.{cases_eq, ltb-false}
use Rattle.px_base.specs.declared.graph.Part.{Part}
use Rattle.px_base.specs.declared.graph.Read.{Read}
use Rattle.px_base.specs.declared.wire.Update.{Update}
use Rattle.px_base.specs.declared.wire.Order.TheVariants.{Step, Report}
use Rattle.px_base.specs.Values.{IsValue, is_listed, place_of}
use Rattle.px_base.specs.Parts.{IsCuts, is_master, is_mirror, is_within, route_of}
use Rattle.px_base.specs.Worlds.{ValueWorld, of_values, of_counts, is_fresh, CarriesValues}
use Rattle.px_base.specs.ValueSteps.{newest_value, announcements, order_outcome}
use Rattle.px_base.proofs.Positions.{at_position}
use Rattle.hub_terms.specs.declared.tasks.Task.TheVariants as task
use Rattle.hub_terms.specs.declared.workers.MemberState.{MemberState}
use Rattle.hub_terms.specs.Inboxes.{inbox_at, is_addressed, box_with_all}
use Rattle.hub_terms.specs.Hubs.{worker_at, order_at, waiting_at, worker_count}
use Rattle.hub_terms.specs.UnderWay.{value_in, updates_now, current_updates}
use Rattle.hub_terms.specs.HubInStep.{IsHubInStep, IsOrderOf}
use Rattle.hub_terms.specs.Systems.{SystemState, world_at, part_at}
use Rattle.hub_terms.specs.InStep.{IsForJob, IsWorldOf, WorldsInStep, IsNewest, WillHave, WorkerWillHave, ValuesArrive}
use Rattle.list_laws.proofs.Told.{names, named_all, all_announced, announced_or_same, all_kept, named_kept}
use Rattle.hub_laws.proofs.Mail.{AreAll, value_sent, value_unsent, newest_of_box, told_or, box_from_mail, IsFor}
use Rattle.step_laws.proofs.Places.{place_found, unnamed, unnamed_kept, master_below, not_master, mirror_apart, mirror_listed, mirror_routed, boundary_listed}
use Rattle.hub_laws.proofs.Workers.{due_tasked}
use Rattle.hub_laws.proofs.HubTook.{stepped_hub, stepped_worker, reported_hub}
use Rattle.hub_laws.proofs.HubTook as took
use Rattle.system_laws.proofs.WorldsKept.{world_there, world_elsewhere, world_inside, part_is_fit}
use Rattle.system_laws.proofs.TookWorlds as took_worlds
use Rattle.system_laws.proofs.Arrive.{will_on, has_in_box, due_in_box}

-- ---- lists of updates

are_all : (v x : ℕ) (us : List Update) → AllByRecursion (λ u. u.vertex ≡ v → u.value ≡ x) us → AreAll v x us
are_all v x [] each = tt
are_all v x (u ∷ us) each = (each.0, are_all v x us each.1)

-- the mirror after a Step, where the newest value was on its way or there already
newest_step : (o p : Option ℕ) (old x : ℕ) (Due : Type 0) → IsNewest o p (Due × (old ≡ x)) x → IsNewest o None ((false ≡ false) × (told_or p old ≡ x)) x
newest_step (Some y) p old x Due h = h
newest_step None (Some y) old x Due h = (refl, h)
newest_step None None old x Due h = (refl, h.1)

module _ (s : SystemState) (k epoch round : ℕ) (sent : List Update) (changed : Bool) (updates : List Update) (ok : IsHubInStep s.hub) (fit : IsForJob s) (inside : k < worker_count s.hub)
    (had : order_at s.hub k ≡ Some (Step epoch round sent)) (values : CarriesValues updates) (worlds : WorldsInStep s) (arrive : ValuesArrive s)
    (u : ValueWorld) (mine : world_at s k ≡ Some (of_values u)) (honest : updates ≡ announcements (is_fresh u.epoch epoch) u.part u.masters (order_outcome u (Step epoch round sent)).world.masters) where
  abbrev after : ValueWorld
  after = (order_outcome u (Step epoch round sent)).world

  abbrev part : Part
  part = part_at s k

  abbrev cuts : List ℕ
  cuts = s.hub.inboxes.cuts

  abbrev rows : List (List Read)
  rows = s.job.rows

  of_mine : IsWorldOf part s.job.core (of_values u)
  of_mine = (worlds k (of_values u) mine).of_part

  order_is : IsOrderOf s.hub k (Step epoch round sent)
  order_is = ok.orders k (Step epoch round sent) had

  no_count : s.hub.inboxes.counting ≡ false
  no_count = fit.counting ∙ of_mine.0

  is_cut : IsCuts (length rows) cuts
  is_cut = fit.cuts.cut

  -- ---- what is sent

  -- each update is of a master of the sender
  own_updates : All (λ w. is_within part.low part.high w.vertex ≡ true) updates
  own_updates = rw honest (all_announced (λ w. is_within part.low part.high w.vertex ≡ true) (is_fresh u.epoch epoch) u.part u.masters after.masters
      (rw of_mine.1 (part_is_fit s fit k inside).boundary_inside))

  -- and has the value that the master has now
  own_values : (v : ℕ) → All (λ w. w.vertex ≡ v → w.value ≡ slice_index after.masters (v - u.part.low)) updates
  own_values v = rw honest (all_announced (λ w. w.vertex ≡ v → w.value ≡ slice_index after.masters (v - u.part.low)) (is_fresh u.epoch epoch) u.part u.masters after.masters
      (λ m d within same. ap (λ (x : ℕ). slice_index after.masters (x - u.part.low)) same))

  abbrev for_worker : ℕ → List Update
  for_worker j = filter (λ w. is_addressed s.hub.inboxes j w.vertex) updates

  box_after : (j : ℕ) → j < worker_count s.hub → inbox_at (stepped_hub true s.hub k changed updates).inboxes j ≡ box_with_all false (for_worker j) (waiting_at s.hub j)
  box_after j below = let room : j < length s.hub.inboxes.boxes = omega (arith, ok.places.boxes) in
      at_position (length s.hub.inboxes.boxes) (λ l. box_with_all s.hub.inboxes.counting (for_worker l) (waiting_at s.hub l)) j [] room
      ∙ ap (λ c. box_with_all c (for_worker j) (waiting_at s.hub j)) no_count

  -- the value of another worker's master is as before
  other_value : (b : Bool) (i j v : ℕ) → i < worker_count s.hub → j < worker_count s.hub → i ≢ k → is_master cuts i v ≡ true →
      value_in (inbox_at (stepped_hub b s.hub k changed updates).inboxes j) v ≡ value_in (waiting_at s.hub j) v
  other_value false i j v few below apart master = refl
  other_value true i j v few below apart master =
      let none : names v (for_worker j) ≡ false = unnamed_kept (λ w. is_addressed s.hub.inboxes j w.vertex) updates v
      (unnamed (is_within part.low part.high) updates v own_updates (not_master (length rows) cuts i k v is_cut few inside apart master)) in
      ap (λ box. value_in box v) (box_after j below) ∙ value_unsent v (for_worker j) (waiting_at s.hub j) none

  -- ---- the sender is another

  not_counting : (w : _) → Some (of_values u) ≡ Some (of_counts w) → ⊥
  not_counting w h = cc h

  mirror_after : (v : ℕ) → is_listed u.part.mirrors v ≡ true → slice_index after.mirrors (place_of u.part.mirrors v) ≡ told_or (value_in sent v) (slice_index u.mirrors (place_of u.part.mirrors v))
  mirror_after v listed =
      let place : ℕ = place_of u.part.mirrors v in
      let found = place_found u.part.mirrors v listed in
      let room : place < length u.mirrors = omega (arith, found.0, of_mine.3.mirrors.one_each) in
      at_position (length u.mirrors) (λ l. newest_value sent (slice_index u.part.mirrors l) (slice_index u.mirrors l)) place 0 room
      ∙ ap (λ m. newest_value sent m (slice_index u.mirrors place)) found.1
      ∙ newest_of_box (IsFor s.hub.inboxes k) sent v (slice_index u.mirrors place) (box_from_mail s.hub.inboxes k sent order_is.mail)

  -- what the worker that made the step will have of another's value
  taker_has : (b : Bool) (v x : ℕ) (box : List Update) → (epoch == s.hub.members.epoch) ≡ b → v < length rows → is_mirror rows cuts k v ≡ true → value_in box v ≡ value_in (waiting_at s.hub k) v →
      WillHave (waiting_at s.hub k) (updates_now s.hub.members.epoch (Some (Step epoch round sent))) (worker_at s.hub k).due (Some (of_values u)) v x →
      WillHave box [] (stepped_worker b (worker_at s.hub k) changed).due (Some (of_values after)) v x
  taker_has true v x box current below mirror same will =
      let now : WillHave (waiting_at s.hub k) sent (worker_at s.hub k).due (Some (of_values u)) v x = rw current at will in
      let listed : is_listed u.part.mirrors v ≡ true = rw of_mine.1 (mirror_listed rows cuts k v below mirror) in
      will_on (waiting_at s.hub k) box [] false (Some (of_values after)) v x same
      (subst (λ (y : ℕ). IsNewest (value_in (waiting_at s.hub k) v) None ((false ≡ false) × (y ≡ x)) x) (sym (mirror_after v listed))
      (newest_step (value_in (waiting_at s.hub k) v) (value_in sent v) (slice_index u.mirrors (place_of u.part.mirrors v)) x ((worker_at s.hub k).due ≡ false) now))
  taker_has false v x box current below mirror same will =
      let now : WillHave (waiting_at s.hub k) [] (worker_at s.hub k).due (Some (of_values u)) v x = rw current at will in
      let due : (worker_at s.hub k).due ≡ true = old_is_due (worker_at s.hub k).due refl in
      has_in_box box [] (worker_at s.hub k).due (Some (of_values after)) v x (same ∙ due_in_box (waiting_at s.hub k) (Some (of_values u)) v x not_counting (rw due at now))
    where
      old_is_due : (d : Bool) → (worker_at s.hub k).due ≡ d → (worker_at s.hub k).due ≡ true
      old_is_due true is = is
      old_is_due false is = absurd (cc (current, eq-eqb epoch s.hub.members.epoch (order_is.current is)))

  abbrev next : Bool → SystemState
  next b = took_worlds.stepped s k epoch round sent changed updates b ok fit inside had values (Some (of_values after))

  place : k < length s.worlds
  place = took_worlds.stepped_place s k epoch round sent changed updates false ok fit inside had values (Some (of_values after))

  from_other : (b : Bool) (i j v : ℕ) (w : ValueWorld) → (epoch == s.hub.members.epoch) ≡ b → i ≢ k → world_at s i ≡ Some (of_values w) → (worker_at s.hub i).due ≡ false → is_master cuts i v ≡ true → is_mirror rows cuts j v ≡ true → j < worker_count s.hub →
      WorkerWillHave (next b) j v (slice_index w.masters (v - w.part.low))
  from_other b i j v w current apart is up master mirror below =
      let few : i < worker_count s.hub = world_inside s i (of_values w) fit is in
      let same = other_value b i j v few below apart master in
      let x : ℕ = slice_index w.masters (v - w.part.low) in
      let old : WorkerWillHave s j v x = arrive i j v w is up master mirror below in
      elim (cases_eq j k) [
        | inl here ↦
            (let at_k : WorkerWillHave s k v x = subst (λ (l : ℕ). WorkerWillHave s l v x) here old in
            let same_k : value_in (inbox_at (stepped_hub b s.hub k changed updates).inboxes k) v ≡ value_in (waiting_at s.hub k) v = subst (λ (l : ℕ). value_in (inbox_at (stepped_hub b s.hub k changed updates).inboxes l) v ≡ value_in (waiting_at s.hub l) v) here same in
            subst (λ (l : ℕ). WorkerWillHave (next b) l v x) (sym here)
            (rw (took.took_order s.hub k epoch round sent changed updates ok inside had values b, took.took_worker s.hub k epoch round sent changed updates ok inside had values b, world_there s k (Some (of_values after)) (stepped_hub b s.hub k changed updates) place)
            (taker_has b v x (inbox_at (stepped_hub b s.hub k changed updates).inboxes k) current (master_below (length rows) cuts i v is_cut few master).2
            (subst (λ (l : ℕ). is_mirror rows cuts l v ≡ true) here mirror) same_k (rw (had, mine) at at_k))))
        | inr elsewhere ↦ rw (took.took_other s.hub k epoch round sent changed updates ok inside had values b j elsewhere, took.worker_other s.hub k epoch round sent changed updates ok inside had values b j elsewhere, world_elsewhere s k (Some (of_values after)) (stepped_hub b s.hub k changed updates) j elsewhere)
            (will_on (waiting_at s.hub j) (inbox_at (stepped_hub b s.hub k changed updates).inboxes j) (current_updates s.hub j) (worker_at s.hub j).due (world_at s j) v x same old)
      ]

  -- ---- the sender made the step

  for_mirror : (j v : ℕ) → j < worker_count s.hub → v < length rows → is_mirror rows cuts j v ≡ true → is_addressed s.hub.inboxes j v ≡ true
  for_mirror j v below inner mirror =
      rw (no_count, fit.routes) (ap (λ (route : List ℕ). is_listed route j) (at_position (length rows) (route_of rows cuts) v [] inner) ∙ mirror_routed rows cuts j v below mirror)

  from_taker : (j v : ℕ) → (epoch == s.hub.members.epoch) ≡ true → is_master cuts k v ≡ true → is_mirror rows cuts j v ≡ true → j < worker_count s.hub →
      WorkerWillHave (next true) j v (slice_index after.masters (v - u.part.low))
  from_taker j v current master mirror below =
      let apart : j ≢ k = mirror_apart rows cuts j k v master mirror in
      let x : ℕ = slice_index after.masters (v - u.part.low) in
      let inner : v < length rows = (master_below (length rows) cuts k v is_cut inside master).2 in
      let listed : is_listed u.part.boundary v ≡ true = rw of_mine.1 (boundary_listed rows cuts k j v master below mirror) in
      let each : AreAll v x (for_worker j) = are_all v x (for_worker j)
      (recursion_from_All (λ (w : Update). w.vertex ≡ v → w.value ≡ x) (for_worker j)
      (all_kept (λ (w : Update). w.vertex ≡ v → w.value ≡ x) (λ w. is_addressed s.hub.inboxes j w.vertex) updates (λ m d within passes. own_values v m d within))) in
      let passed : names v updates ≡ true → names v (for_worker j) ≡ true = named_kept v (is_addressed s.hub.inboxes j) updates (for_mirror j v below inner mirror) in
      rw (took.took_other s.hub k epoch round sent changed updates ok inside had values true j apart, took.worker_other s.hub k epoch round sent changed updates ok inside had values true j apart, world_elsewhere s k (Some (of_values after)) (stepped_hub true s.hub k changed updates) j apart, box_after j below)
      (by_named (names v (for_worker j)) refl each passed (by_fresh (is_fresh u.epoch epoch) refl listed))
    where
      -- it was told, or it is as it was, and the sender wasn't due
      by_fresh : (f : Bool) → is_fresh u.epoch epoch ≡ f → is_listed u.part.boundary v ≡ true →
          (names v updates ≡ true) ⊎ (((worker_at s.hub k).due ≡ false) × (slice_index u.masters (v - u.part.low) ≡ slice_index after.masters (v - u.part.low)))
      by_fresh true fresh listed = inl (rw (honest, fresh) (named_all u.part u.masters after.masters v listed))
      by_fresh false stale listed = elim (announced_or_same (is_fresh u.epoch epoch) u.part u.masters after.masters v listed) [
        | inl told ↦ inl (rw honest told)
        | inr same ↦ inr (by_due (worker_at s.hub k).due refl, same)
      ]
        where
          by_due : (d : Bool) → (worker_at s.hub k).due ≡ d → (worker_at s.hub k).due ≡ false
          by_due false is = is
          by_due true is = absurd (omega (arith, (worlds k (of_values u) mine).due.0 is, ltb-false u.epoch epoch stale, eqb-true epoch s.hub.members.epoch current))

      by_named : (n : Bool) → names v (for_worker j) ≡ n → AreAll v (slice_index after.masters (v - u.part.low)) (for_worker j) → (names v updates ≡ true → names v (for_worker j) ≡ true) →
          (names v updates ≡ true) ⊎ (((worker_at s.hub k).due ≡ false) × (slice_index u.masters (v - u.part.low) ≡ slice_index after.masters (v - u.part.low))) →
          WillHave (box_with_all false (for_worker j) (waiting_at s.hub j)) (current_updates s.hub j) (worker_at s.hub j).due (world_at s j) v (slice_index after.masters (v - u.part.low))
      by_named true named each passed which = has_in_box (box_with_all false (for_worker j) (waiting_at s.hub j)) (current_updates s.hub j) (worker_at s.hub j).due (world_at s j) v (slice_index after.masters (v - u.part.low))
          (value_sent v (slice_index after.masters (v - u.part.low)) (for_worker j) (waiting_at s.hub j) each (inl named))
      by_named false none each passed (inl told) = absurd (cc (passed told, none))
      by_named false none each passed (inr kept) =
          will_on (waiting_at s.hub j) (box_with_all false (for_worker j) (waiting_at s.hub j)) (current_updates s.hub j) (worker_at s.hub j).due (world_at s j) v (slice_index after.masters (v - u.part.low))
          (value_unsent v (for_worker j) (waiting_at s.hub j) none)
          (rw kept.1 at (arrive k j v u mine kept.0 master mirror below))

  -- ---- all of them

  pub stepped_arrive : (b : Bool) → (epoch == s.hub.members.epoch) ≡ b → ValuesArrive (next b)
  stepped_arrive b current i j v w is up master mirror below =
      let same_cuts = took_worlds.stepped_cuts b s.hub k changed updates in
      let master_of : is_master cuts i v ≡ true = rw same_cuts at master in
      let mirror_of : is_mirror rows cuts j v ≡ true = rw same_cuts at mirror in
      let few : j < worker_count s.hub = rw same_cuts at below in
      elim (cases_eq i k) [
        | inl here ↦
            (let world : Some (of_values after) ≡ Some (of_values w) = sym (world_there s k (Some (of_values after)) (stepped_hub b s.hub k changed updates) place) ∙ (ap (world_at (next b)) (sym here) ∙ is) in
            let now : (stepped_worker b (worker_at s.hub k) changed).due ≡ false = sym (ap (λ (m : MemberState). m.due) (took.took_worker s.hub k epoch round sent changed updates ok inside had values b)) ∙ (ap (λ (l : ℕ). (worker_at (next b).hub l).due) (sym here) ∙ up) in
            by_current b current now (same_world after w world) (rw here at master_of) mirror_of few)
        | inr apart ↦ from_other b i j v w current apart (sym (world_elsewhere s k (Some (of_values after)) (stepped_hub b s.hub k changed updates) i apart) ∙ is)
            (sym (ap (λ (m : MemberState). m.due) (took.worker_other s.hub k epoch round sent changed updates ok inside had values b i apart)) ∙ up) master_of mirror_of few
      ]
    where
      same_world : (a w : ValueWorld) → Some (of_values a) ≡ Some (of_values w) → a ≡ w
      same_world a w h = cc h

      by_current : (c : Bool) → (epoch == s.hub.members.epoch) ≡ c → (stepped_worker c (worker_at s.hub k) changed).due ≡ false → after ≡ w → is_master cuts k v ≡ true → is_mirror rows cuts j v ≡ true → j < worker_count s.hub →
          WorkerWillHave (next c) j v (slice_index w.masters (v - w.part.low))
      by_current true current now world master mirror few = subst (λ (a : ValueWorld). WorkerWillHave (next true) j v (slice_index a.masters (v - a.part.low))) world (from_taker j v current master mirror few)
      by_current false current now world master mirror few = absurd (cc (current, eq-eqb epoch s.hub.members.epoch (order_is.current now)))

-- ---- a Report is answered

pub reported_arrive : (s : SystemState) (k epoch : ℕ) (seen : List ℕ) (b : Bool) (ok : IsHubInStep s.hub) (fit : IsForJob s) (inside : k < worker_count s.hub) (had : order_at s.hub k ≡ Some (Report epoch)) (known : All IsValue seen) →
    ValuesArrive s → ValuesArrive (took_worlds.reported s k epoch seen b ok fit inside had known)
reported_arrive s k epoch seen b ok fit inside had known arrive i j v w is up master mirror below =
    let stay = took_worlds.worlds_stay s k epoch seen b ok fit inside had known in
    let old : WorkerWillHave s j v (slice_index w.masters (v - w.part.low)) = arrive i j v w (sym (stay i) ∙ is) (sym (due_tasked s.hub.members k task.Nothing i) ∙ up) master mirror below in
    rw (stay j, due_tasked s.hub.members k task.Nothing j) (elim (cases_eq j k) [
      | inl here ↦ subst (λ (l : ℕ). WillHave (waiting_at s.hub l) (current_updates (reported_hub b s.hub k seen) l) (worker_at s.hub l).due (world_at s l) v (slice_index w.masters (v - w.part.low))) (sym here)
          (rw (took.told_order s.hub k epoch seen ok inside had known b) (rw had at (subst (λ (l : ℕ). WorkerWillHave s l v (slice_index w.masters (v - w.part.low))) here old)))
      | inr apart ↦ rw (took.told_other s.hub k epoch seen ok inside had known b j apart) old
    ])
