-- An honest answer is taken: nothing is wrong with it.
use Rattle.std.proofs.Common.{◌≡◌, ℕ, suc, ◌-◌, ◌<◌, Bool, true, false, not, List, [], ◌∷◌, Some, None, length, map, get_or, arith, refl, sym, ap, subst, ◌∙◌, eq-eqb}
use Rattle.std.specs.Prelude.{◌&&◌, ◌==◌, All, nat_lt, filter}
use Rattle.std.specs.List.{list_any, find, range_with_len, AllByRecursion}
use Rattle.std.proofs.lemmas.List.Elements.{recursion_from_All, All-map, All-filter, filter_passes}
use Rattle.px_base.specs.declared.graph.Part.{Part}
use Rattle.px_base.specs.declared.wire.Update.{Update}
use Rattle.px_base.specs.declared.wire.Order.{Order}
use Rattle.px_base.specs.declared.wire.Order.TheVariants.{Step, Report}
use Rattle.px_base.specs.declared.wire.Answer.{Answer}
use Rattle.px_base.specs.declared.wire.Answer.TheVariants.{Stepped}
use Rattle.px_base.specs.Values.{positions_below, is_listed}
use Rattle.px_base.specs.Parts.{part_count, is_master, is_mirror, is_routed, route_of, low_of, high_of}
use Rattle.px_base.specs.Worlds.{World, CountWorld, of_values, of_counts, is_fresh}
use Rattle.px_base.specs.ValueSteps.{order_outcome, some_changed, announcements}
use Rattle.px_base.specs.CountSteps.{dies, times_read, is_announced, world_as_read, after_deaths}
use Rattle.px_base.proofs.Listed.{not_equal}
use Rattle.px_base.proofs.Positions.{at_position}
use Rattle.partitioner.proofs.Found.{some_position}
use Rattle.partitioner.proofs.Fitting.{mirrors_below}
use Rattle.hub_terms.specs.Inboxes.{InboxesState, route_at}
use Rattle.hub_terms.specs.Hubs.{worker_count, order_at}
use Rattle.hub_terms.specs.HubEvents.{order_header, answer_header, same_header, may_send, master_count, foreign_content, foreign_of}
use Rattle.hub_terms.specs.Systems.{SystemState, world_at, part_at, IsHonestAnswer}
use Rattle.hub_terms.specs.InStep.{IsInStep, IsWorldOf}
use Rattle.list_laws.proofs.Told.{all_announced}
use Rattle.step_laws.proofs.Places.{master_below, mirror_routed}
use Rattle.step_laws.proofs.WorldSteps.{outcome_of}
use Rattle.system_laws.proofs.WorldsKept.{world_inside, part_is_fit}
use Rattle.system_laws.proofs.Kept.{honest_step}

-- ---- no update is foreign

none_found : (p : Update → Bool) (us : List Update) → AllByRecursion (λ u. p u ≡ false) us → find p us ≡ None
none_found p [] none = refl
none_found p (u ∷ us) none = let first : p u ≡ false = none.0 in rw first (none_found p us none.1)

all_may_send : (t : InboxesState) (i : ℕ) (epoch round : ℕ) (changed : Bool) (us : List Update) → All (λ u. may_send t i u.vertex ≡ true) us → foreign_content t i (Stepped epoch round changed us) ≡ None
all_may_send t i epoch round changed us each =
    let none : find (λ u. not (may_send t i u.vertex)) us ≡ None = none_found (λ u. not (may_send t i u.vertex)) us (recursion_from_All (λ u. not (may_send t i u.vertex) ≡ false) us (λ k d inside. ap not (each k d inside))) in
    rw (foreign_content, none) refl

module _ (s : SystemState) (ok : IsInStep s) (i : ℕ) (inside : i < worker_count s.hub) where
  abbrev cuts : List ℕ
  cuts = s.hub.inboxes.cuts

  -- the route of a vertex is that of the graph
  route_is : (v : ℕ) → v < length s.job.rows → route_at s.hub.inboxes.routes v ≡ route_of s.job.rows cuts v
  route_is v inner = ap (λ (routes : List (List ℕ)). get_or routes v []) ok.job.routes ∙ at_position (length s.job.rows) (route_of s.job.rows cuts) v [] inner

  -- a master on the boundary may be sent
  boundary_sent : s.hub.inboxes.counting ≡ false → All (λ v. may_send s.hub.inboxes i v ≡ true) (part_at s i).boundary
  boundary_sent plain m d within =
      let v : ℕ = get_or (part_at s i).boundary m d in
      let master : is_master cuts i v ≡ true = (part_is_fit s ok.job i inside).boundary_inside m d within in
      let routed : is_routed s.job.rows cuts v ≡ true = filter_passes (is_routed s.job.rows cuts) (range_with_len (low_of cuts i) (high_of cuts i - low_of cuts i)) m d within in
      let found = some_position (λ j. is_mirror s.job.rows cuts j v) (part_count cuts) routed in
      let listed : is_listed (route_of s.job.rows cuts v) found.0 ≡ true = mirror_routed s.job.rows cuts found.0 v found.1 found.2 in
      let inner : v < length s.job.rows = (master_below (length s.job.rows) cuts i v ok.job.cuts.cut inside master).2 in
      rw (plain, master) (not_empty (route_at s.hub.inboxes.routes v) found.0 (ap (λ r. is_listed r found.0) (route_is v inner) ∙ listed))
    where
      not_empty : (xs : List ℕ) (j : ℕ) → is_listed xs j ≡ true → not (length xs == 0) ≡ true
      not_empty [] j h = cc
      not_empty (x ∷ xs) j h = ap not (not_equal (suc (length xs)) 0 (λ e. omega (arith, e)))

  -- a mirror may be sent by a worker that counts
  mirror_sent : s.hub.inboxes.counting ≡ true → All (λ v. may_send s.hub.inboxes i v ≡ true) (part_at s i).mirrors
  mirror_sent counts m d within =
      let v : ℕ = get_or (part_at s i).mirrors m d in
      let inner : v < length s.job.rows = mirrors_below s.job.rows cuts i m d within in
      let mirror : is_mirror s.job.rows cuts i v ≡ true = filter_passes (is_mirror s.job.rows cuts i) (positions_below (length s.job.rows)) m d within in
      rw counts (ap (λ r. is_listed r i) (route_is v inner) ∙ mirror_routed s.job.rows cuts i v inside mirror)

  right_content : (w : World) (order : Order) → IsWorldOf (part_at s i) s.job.core w → foreign_content s.hub.inboxes i (outcome_of w order).answer ≡ None
  right_content (of_values u) (Step epoch round sent) is =
      all_may_send s.hub.inboxes i epoch round (some_changed u.masters (order_outcome u (Step epoch round sent)).world.masters) (announcements (is_fresh u.epoch epoch) u.part u.masters (order_outcome u (Step epoch round sent)).world.masters)
      (all_announced (λ w. may_send s.hub.inboxes i w.vertex ≡ true) (is_fresh u.epoch epoch) u.part u.masters (order_outcome u (Step epoch round sent)).world.masters
      (subst (λ (p : Part). All (λ v. may_send s.hub.inboxes i v ≡ true) p.boundary) (sym is.1) (boundary_sent (ok.job.counting ∙ is.0))))
  right_content (of_counts c) (Step epoch round sent) is =
      let done : CountWorld = after_deaths (world_as_read epoch round sent c) in
      let test : ℕ → Bool = is_announced (is_fresh c.epoch epoch) (world_as_read epoch round sent c) done in
      all_may_send s.hub.inboxes i epoch round (list_any (dies (world_as_read epoch round sent c)) (positions_below (length c.alive))) (map (λ m. record { vertex = m; value = times_read done test m }) (filter (λ m. nat_lt 0 (times_read done test m)) c.part.mirrors))
      (All-map (λ (w : Update). may_send s.hub.inboxes i w.vertex ≡ true) (λ m. record { vertex = m; value = times_read done test m }) (filter (λ m. nat_lt 0 (times_read done test m)) c.part.mirrors)
      (All-filter (λ m. nat_lt 0 (times_read done test m)) (λ m. may_send s.hub.inboxes i m ≡ true) c.part.mirrors
      (subst (λ (p : Part). All (λ v. may_send s.hub.inboxes i v ≡ true) p.mirrors) (sym is.1) (mirror_sent (ok.job.counting ∙ is.0)))))
  right_content (of_values u) (Report epoch) is =
      let sized : length u.masters ≡ master_count s.hub.inboxes i = is.3.masters.one_each ∙ ap (λ (p : Part). p.high - p.low) is.1 in
      rw (eq-eqb (length u.masters) (master_count s.hub.inboxes i) sized) refl
  right_content (of_counts c) (Report epoch) is =
      let sized : length c.alive ≡ master_count s.hub.inboxes i = is.3.alive ∙ ap (λ (p : Part). p.high - p.low) is.1 in
      rw (eq-eqb (length c.alive) (master_count s.hub.inboxes i) sized) refl

same_itself : (k e r : ℕ) → ((k == k) && (e == e) && (r == r)) ≡ true
same_itself k e r = rw (eq-eqb k k refl, eq-eqb e e refl, eq-eqb r r refl) refl

right_header : (w : World) (order : Order) → same_header (order_header order) (answer_header (outcome_of w order).answer) ≡ true
right_header (of_values u) (Step epoch round sent) = same_itself 9 epoch round
right_header (of_values u) (Report epoch) = same_itself 10 epoch 0
right_header (of_counts c) (Step epoch round sent) = same_itself 9 epoch round
right_header (of_counts c) (Report epoch) = same_itself 10 epoch 0

-- nothing is wrong with an honest answer
pub honest_taken : (s : SystemState) (i : ℕ) (order : Order) (answer : Answer) (w : World) → IsInStep s → order_at s.hub i ≡ Some order → world_at s i ≡ Some w → IsHonestAnswer s i answer → foreign_of s.hub.inboxes i order answer ≡ None
honest_taken s i order answer w ok had there honest =
    let inside : i < worker_count s.hub = world_inside s i w ok.job there in
    subst (λ (a : Answer). foreign_of s.hub.inboxes i order a ≡ None) (honest_step s i order answer ok had honest w there).1
    (rw (right_header w order) (right_content s ok i inside w order (ok.worlds i w there).of_part))
