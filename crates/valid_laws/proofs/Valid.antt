-- Each event keeps that a state is valid, for the two classes over values.
use Rattle.std.proofs.Common.{◌≡◌, ◌≢◌, ℕ, ◌+◌, ◌-◌, ◌<◌, ◌≤◌, Bool, true, false, List, [], Option, Some, None, length, get_or, set, arith, refl, sym, ap, subst, ◌∙◌, inl, inr}
use Rattle.std.specs.Prelude.{◌==◌, All, slice_index, filter, Result, Ok, Err, MatchOption, MatchResult, ⊤}
use Rattle.std.proofs.lemmas.List.{get_or-map, get_or_past}
use Rattle.std.proofs.lemmas.List.Elements.{All-nil}
use Rattle.std.proofs.lemmas.Bool.{cases_eq, cases_lt}
use Rattle.px_base.specs.declared.program.Class.{Class}
use Rattle.px_base.specs.declared.program.Class.TheVariants.{SelfStabilising, LocallyCorrecting, GloballyCorrecting}
use Rattle.px_base.specs.declared.program.Refused.{Refused}
use Rattle.px_base.specs.declared.wire.Update.{Update}
use Rattle.px_base.specs.declared.wire.Order.{Order}
use Rattle.px_base.specs.declared.wire.Order.TheVariants.{Step, Report}
use Rattle.px_base.specs.declared.wire.Answer.{Answer}
use Rattle.px_base.specs.declared.wire.Answer.TheVariants.{Stepped, Reported}
use Rattle.px_base.specs.declared.wire.Foreign.{Foreign}
use Rattle.px_base.specs.declared.wire.LossKind.{LossKind}
use Rattle.px_base.specs.Values.{IsValue, by_position}
use Rattle.px_base.specs.Classes.{class_of}
use Rattle.px_base.specs.Parts.{PartFits, mirrors_of, low_of, high_of}
use Rattle.px_base.specs.Worlds.{World, ValueWorld, of_values, of_counts, is_fresh, CarriesValues, new_value_world}
use Rattle.px_base.specs.ValueSteps.{order_outcome}
use Rattle.px_base.proofs.Positions.{length_by_position, at_position}
use Rattle.partitioner.proofs.Owned.{high_inside}
use Rattle.partitioner.proofs.Fitting.{mirrors_below}
use Rattle.consistent_solver.specs.CoreLists.{IsBelow}
use Rattle.consistent_solver.proofs.Below.{below_starts}
use Rattle.hub_terms.specs.declared.stops.Why.{Why}
use Rattle.hub_terms.specs.declared.stops.Halt.{Halt}
use Rattle.hub_terms.specs.Jobs.{Job}
use Rattle.hub_terms.specs.Inboxes.{inbox_at, is_addressed, box_with_all}
use Rattle.hub_terms.specs.Hubs.{HubState, Turn, worker_at, order_at, waiting_at, worker_count, after_turn}
use Rattle.hub_terms.specs.HubEvents.{after_loss, after_join, why_of, foreign_of, absorption, answer_to, answer_taken}
use Rattle.hub_terms.specs.UnderWay.{updates_of}
use Rattle.hub_terms.specs.HubInStep.{IsOrderOf}
use Rattle.hub_terms.specs.Systems.{SystemState, Event, give, took, lost, joined, halt, world_at, part_at, with_world, new_world_at, world_after, MayCome, state_after, state_taken, IsHonestAnswer, AnswersValues}
use Rattle.hub_terms.specs.InStep.{IsInStep}
use Rattle.hub_terms.specs.Valid.{IsCoreAnswer, UpdateLiesBetween, WorldLiesBetween, IsBetween, IsCounted, ValidAs, IsValid}
use Rattle.list_laws.proofs.Lists.{at_set, at_replicate}
use Rattle.list_laws.proofs.Ranges.{at_range}
use Rattle.hub_laws.proofs.Mail.{box_from, box_all, each_of_box}
use Rattle.hub_laws.proofs.HubGave.{turn_by}
use Rattle.hub_laws.proofs.HubGave as gave
use Rattle.hub_laws.proofs.HubTook.{right_answer, stepped_order, reported_order, stepped_hub, reported_hub, stepped_is, reported_is}
use Rattle.hub_laws.proofs.HubTook as hub_took
use Rattle.hub_laws.proofs.HubChanged as changed
use Rattle.step_laws.proofs.WorldSteps.{outcome_of}
use Rattle.system_laws.proofs.WorldsKept.{world_there, world_elsewhere, part_is_fit}
use Rattle.system_laws.proofs.WorldsKept as kept
use Rattle.system_laws.proofs.TookWorlds as took_worlds
use Rattle.system_laws.proofs.Kept as all_kept
use Rattle.valid_laws.proofs.Between.{IsLowest, lowest, step_between, announced_between}

module _ (s : SystemState) (a : List ℕ) (low : IsLowest s.job a) (ok : IsInStep s) (between : IsBetween s a) where
  abbrev Between : Update → Type 0
  Between = UpdateLiesBetween a s.job.starts

  nothing_sent : {us : List Update} → us ≡ [] → All Between us
  nothing_sent is = rw is (All-nil Between)

  -- ---- a turn

  given_between : (i : ℕ) (inside : i < worker_count s.hub) (live : (worker_at s.hub i).live ≡ true) (boxes : List (List Update)) (order : Order) → All Between (updates_of (Some order)) → ((j : ℕ) → All Between (get_or boxes j [])) →
      IsBetween (record s { hub = gave.given s.hub s.hub i order boxes ok.hub inside live }) a
  given_between i inside live boxes order here left = record {
    worlds = between.worlds;
    orders = λ j. elim (cases_eq j i) [
      | inl same ↦ rw (same, gave.order_same s.hub s.hub i order boxes ok.hub inside live) here
      | inr apart ↦ rw (gave.order_other s.hub s.hub i order boxes ok.hub inside live j apart) (between.orders j)
    ];
    inboxes = left;
  }

  same_hub : (h : Option Why) → IsBetween (record s { hub = record s.hub { halt = h } }) a
  same_hub h = record { worlds = between.worlds; orders = between.orders; inboxes = between.inboxes }

  pub gave_between : (i : ℕ) → MayCome s (give i) → IsBetween (state_after s (give i)) a
  gave_between i may = turn_by (λ (turn : Turn). IsBetween (record s { hub = after_turn s.hub i turn }) a) s.hub i
      (λ reason is. same_hub (Some reason)) (λ free quiet all. between)
      (λ free quiet none. given_between i may.0 may.1 s.hub.inboxes.boxes (Report s.hub.members.epoch) (All-nil Between) between.inboxes)
      (λ free busy steps. (let room : i < length s.hub.inboxes.boxes = omega (arith, may.0, ok.hub.places.boxes) in
      given_between i may.0 may.1 (set s.hub.inboxes.boxes i []) (Step s.hub.members.epoch (worker_at s.hub i).round (waiting_at s.hub i)) (between.inboxes i)
      (at_set (λ (j : ℕ) (box : List Update). All Between box) s.hub.inboxes.boxes i [] [] room (All-nil Between) (λ j apart. between.inboxes j))))
      (λ free busy out. same_hub (Some _)) between

  -- ---- a loss

  pub lost_between : (i : ℕ) (kind : LossKind) → MayCome s (lost i kind) → IsBetween (state_after s (lost i kind)) a
  lost_between i kind may = record {
    worlds = λ j w is. (let apart : j ≢ i = kept.lost_apart s i kind ok.hub ok.job ok.worlds may.0 may.1 j (of_values w) is in
        between.worlds j w (sym (world_elsewhere s i None (after_loss s.hub i kind) j apart) ∙ is));
    orders = λ j. elim (cases_eq j i) [
      | inl same ↦ rw (same, changed.lost_order s.hub i kind ok.hub may.0 may.1) (All-nil Between)
      | inr apart ↦ rw (changed.lost_order_other s.hub i kind ok.hub may.0 may.1 j apart) (between.orders j)
    ];
    inboxes = λ j. rw (at_replicate {X = List Update} (length s.hub.inboxes.boxes) [] j) (All-nil Between);
  }

  -- ---- a join

  new_between : (i : ℕ) → i < worker_count s.hub → WorldLiesBetween a s.job.starts (new_value_world (part_at s i) s.job.core)
  new_between i inside =
      let fits : PartFits (part_at s i) = part_is_fit s ok.job i inside in
      let below : IsBelow (length s.job.rows) a s.job.starts = below_starts s.job.core s.job.rows s.job.starts a low.no_mex low.greatest.consistent in
      let cuts : List ℕ = s.hub.inboxes.cuts in
      rw low.keeps_own (record {
        masters = λ k within.
            (let few : k < high_of cuts i - low_of cuts i = omega (arith, within, fits.starts) in
            let there : low_of cuts i + k < length s.job.rows = omega (arith, few, high_inside (length s.job.rows) cuts i ok.job.cuts.cut inside) in
            rw (at_range s.job.starts (low_of cuts i) (high_of cuts i) k 0 few) (below (low_of cuts i + k) there, omega arith));
        mirrors = λ k within.
            (let room : k < length (mirrors_of s.job.rows cuts i) = omega (arith, within, fits.mirror_starts) in
            let there : slice_index (mirrors_of s.job.rows cuts i) k < length s.job.rows = mirrors_below s.job.rows cuts i k 0 room in
            rw (get_or-map (slice_index s.job.starts) (mirrors_of s.job.rows cuts i) k 0 0 room) (below (slice_index (mirrors_of s.job.rows cuts i) k) there, omega arith));
      })

  pub joined_between : (i : ℕ) → MayCome s (joined i) → IsBetween (state_after s (joined i)) a
  joined_between i may = record {
    worlds = λ j w is. elim (cases_eq j i) [
      | inl same ↦
          (let new = kept.newcomer_world s i ok.hub ok.job ok.worlds may.0 may.1 may.2 (of_values w) (ap (world_at (with_world s i (new_world_at s i) (after_join s.hub i))) (sym same) ∙ is) in
          let this : of_values w ≡ of_values (new_value_world (part_at s i) s.job.core) = new.1 ∙ rw low.no_count refl in
          subst (λ (u : ValueWorld). WorldLiesBetween a s.job.starts u) (sym (same_values w (new_value_world (part_at s i) s.job.core) this)) (new_between i may.0))
      | inr apart ↦ between.worlds j w (sym (world_elsewhere s i (new_world_at s i) (after_join s.hub i) j apart) ∙ is)
    ];
    orders = between.orders;
    inboxes = between.inboxes;
  }
    where
      same_values : (u w : ValueWorld) → of_values u ≡ of_values w → u ≡ w
      same_values u w h = cc h

  -- ---- an answer to a Step

  module _ (i epoch round : ℕ) (sent : List Update) (changed : Bool) (updates : List Update) (inside : i < worker_count s.hub) (had : order_at s.hub i ≡ Some (Step epoch round sent)) (values : CarriesValues updates)
      (honest : IsHonestAnswer s i (Stepped epoch round changed updates)) (told : s.told ≡ true) where
    order_is : IsOrderOf s.hub i (Step epoch round sent)
    order_is = ok.hub.orders i (Step epoch round sent) had

    sent_between : All Between sent
    sent_between = rw had at (between.orders i)

    -- the worker's world is one of values, since the program doesn't count
    its_world : (u : ValueWorld) × (world_at s i ≡ Some (of_values u))
    its_world = by_world (world_at s i) refl
      where
        by_world : (o : Option World) → world_at s i ≡ o → (u : ValueWorld) × (world_at s i ≡ Some (of_values u))
        by_world (Some (of_values u)) is = (u, is)
        by_world (Some (of_counts c)) is = absurd (cc ((ok.worlds i (of_counts c) is).of_part.0, low.no_count))
        by_world None is = absurd (cc (told, all_kept.none_told s i ok.live_worlds (hub_took.asked_live s.hub i epoch round sent changed updates ok.hub inside had values) is))

    step_made : (world_after s i ≡ Some (outcome_of (of_values its_world.0) (Step epoch round sent)).world) × ((outcome_of (of_values its_world.0) (Step epoch round sent)).answer ≡ Stepped epoch round changed updates)
    step_made = all_kept.honest_step s i (Step epoch round sent) (Stepped epoch round changed updates) ok had honest (of_values its_world.0) its_world.1

    updates_between : All Between updates
    updates_between = rw (all_kept.sent_is s i epoch round sent changed updates ok inside had values honest its_world.0 step_made.1)
        (announced_between s a low ok.job i inside its_world.0 (ok.worlds i (of_values its_world.0) its_world.1).of_part (between.worlds i its_world.0 its_world.1) epoch round sent order_is.mail.values sent_between (is_fresh its_world.0.epoch epoch))

    no_count : s.hub.inboxes.counting ≡ false
    no_count = ok.job.counting ∙ low.no_count

    boxes_between : (b : Bool) (j : ℕ) → All Between (inbox_at (stepped_hub b s.hub i changed updates).inboxes j)
    boxes_between false j = between.inboxes j
    boxes_between true j = elim (cases_lt j (length s.hub.inboxes.boxes)) [
      | inl room ↦ subst (λ (box : List Update). All Between box)
          (sym (at_position (length s.hub.inboxes.boxes) (λ l. box_with_all s.hub.inboxes.counting (filter (λ w. is_addressed s.hub.inboxes l w.vertex) updates) (waiting_at s.hub l)) j [] room))
          (subst (λ (c : Bool). All Between (box_with_all c (filter (λ w. is_addressed s.hub.inboxes j w.vertex) updates) (waiting_at s.hub j))) (sym no_count)
          (each_of_box Between (box_with_all false (filter (λ w. is_addressed s.hub.inboxes j w.vertex) updates) (waiting_at s.hub j))
          (box_all Between false (λ w. is_addressed s.hub.inboxes j w.vertex) updates (waiting_at s.hub j)
          (λ k d within passes. record { alone = updates_between k d within; more = λ w old. updates_between k d within })
          (box_from Between (waiting_at s.hub j) (ok.hub.inboxes j).rising (between.inboxes j)))))
      | inr past ↦ (let over : length (by_position (length s.hub.inboxes.boxes) (λ l. box_with_all s.hub.inboxes.counting (filter (λ w. is_addressed s.hub.inboxes l w.vertex) updates) (waiting_at s.hub l))) ≤ j =
          omega (arith, past, length_by_position (length s.hub.inboxes.boxes) (λ l. box_with_all s.hub.inboxes.counting (filter (λ w. is_addressed s.hub.inboxes l w.vertex) updates) (waiting_at s.hub l))) in
          nothing_sent (get_or_past _ j [] over))
    ]

    pub stepped_between : (b : Bool) → IsBetween (with_world s i (world_after s i) (stepped_hub b s.hub i changed updates)) a
    stepped_between b = record {
      worlds = λ j w is. elim (cases_eq j i) [
        | inl same ↦
            (let place : i < length s.worlds = omega (arith, inside, ok.job.worlds) in
            let this : Some (of_values w) ≡ Some (of_values (order_outcome its_world.0 (Step epoch round sent)).world) =
            sym is ∙ (ap (world_at (with_world s i (world_after s i) (stepped_hub b s.hub i changed updates))) same ∙ (world_there s i (world_after s i) (stepped_hub b s.hub i changed updates) place ∙ step_made.0)) in
            subst (λ (v : ValueWorld). WorldLiesBetween a s.job.starts v) (sym (same_world w (order_outcome its_world.0 (Step epoch round sent)).world this))
            (step_between s a low ok.job i inside its_world.0 (ok.worlds i (of_values its_world.0) its_world.1).of_part (between.worlds i its_world.0 its_world.1) epoch round sent order_is.mail.values sent_between))
        | inr apart ↦ between.worlds j w (sym (world_elsewhere s i (world_after s i) (stepped_hub b s.hub i changed updates) j apart) ∙ is)
      ];
      orders = λ j. elim (cases_eq j i) [
        | inl same ↦ rw (same, hub_took.took_order s.hub i epoch round sent changed updates ok.hub inside had values b) (All-nil Between)
        | inr apart ↦ rw (hub_took.took_other s.hub i epoch round sent changed updates ok.hub inside had values b j apart) (between.orders j)
      ];
      inboxes = boxes_between b;
    }
      where
        same_world : (v w : ValueWorld) → Some (of_values v) ≡ Some (of_values w) → v ≡ w
        same_world v w h = cc h

  -- ---- an answer to a Report

  pub reported_between : (i epoch : ℕ) (seen : List ℕ) (b : Bool) → i < worker_count s.hub → order_at s.hub i ≡ Some (Report epoch) → All IsValue seen → world_after s i ≡ world_at s i →
      IsBetween (with_world s i (world_after s i) (reported_hub b s.hub i seen)) a
  reported_between i epoch seen b inside had known stays = rw stays (record {
    worlds = λ j w is. between.worlds j w (sym (took_worlds.worlds_stay s i epoch seen b ok.hub ok.job inside had known j) ∙ is);
    orders = λ j. elim (cases_eq j i) [
      | inl same ↦ rw (same, hub_took.told_order s.hub i epoch seen ok.hub inside had known b) (All-nil Between)
      | inr apart ↦ rw (hub_took.told_other s.hub i epoch seen ok.hub inside had known b j apart) (between.orders j)
    ];
    inboxes = between.inboxes;
  })

  -- ---- any answer, and any event

  absorbed_between : (i : ℕ) (order : Order) (answer : Answer) → s.told ≡ true → i < worker_count s.hub → order_at s.hub i ≡ Some order → foreign_of s.hub.inboxes i order answer ≡ None → AnswersValues answer → IsHonestAnswer s i answer →
      IsBetween (with_world s i (world_after s i) (absorption s.hub i answer)) a
  absorbed_between i order (Stepped epoch round changed updates) told inside had none values honest =
      let this = stepped_order order epoch round changed updates (right_answer s.hub.inboxes i order (Stepped epoch round changed updates) none).0 in
      rw (stepped_is s.hub i epoch round changed updates (epoch == s.hub.members.epoch) refl) (stepped_between i epoch round this.0 changed updates inside (had ∙ ap Some this.1) values honest told (epoch == s.hub.members.epoch))
  absorbed_between i order (Reported epoch seen) told inside had none known honest =
      let this = reported_order order epoch seen (right_answer s.hub.inboxes i order (Reported epoch seen) none).0 in
      rw (reported_is s.hub i epoch seen (epoch == s.hub.members.epoch) refl)
      (reported_between i epoch seen (epoch == s.hub.members.epoch) inside (had ∙ ap Some this) known (all_kept.world_stays s i epoch seen ok inside (had ∙ ap Some this) known honest))

  took_between : (i : ℕ) (answer : Answer) → s.told ≡ true → MayCome s (took i answer) → IsBetween (state_after s (took i answer)) a
  took_between i answer told may = by_order (order_at s.hub i) refl may.1
    where
      by_foreign : (order : Order) → order_at s.hub i ≡ Some order → (f : Option Foreign) → foreign_of s.hub.inboxes i order answer ≡ f → IsBetween (state_taken s i (answer_taken s.hub i answer f)) a
      by_foreign order had None none = absorbed_between i order answer told may.0 had none may.2 may.3
      by_foreign order had (Some foreign) some = between

      by_order : (o : Option Order) → order_at s.hub i ≡ o → MatchOption o ⊥ (λ order. ⊤) → IsBetween (state_taken s i (answer_to s.hub i answer o)) a
      by_order None none has = absurd has
      by_order (Some order) had has = by_foreign order had (foreign_of s.hub.inboxes i order answer) refl

  halted_between : (i : ℕ) (reason : Halt) → IsBetween (state_after s (halt i reason)) a
  halted_between i reason = by_halt s.hub.halt
    where
      by_halt : (h : Option Why) → IsBetween (record s { hub = elim h [ Some first ↦ s.hub | None ↦ record s.hub { halt = Some (why_of reason i) } ] }) a
      by_halt (Some first) = between
      by_halt None = same_hub (Some (why_of reason i))

  pub event_between : (e : Event) → s.told ≡ true → MayCome s e → IsBetween (state_after s e) a
  event_between (give i) told may = gave_between i may
  event_between (took i answer) told may = took_between i answer told may
  event_between (lost i kind) told may = lost_between i kind may
  event_between (joined i) told may = joined_between i may
  event_between (halt i reason) told may = halted_between i reason

-- ---- valid

-- no event changes the job, or whether the links tell
pub same_job : (s : SystemState) (e : Event) → ((state_after s e).job ≡ s.job) × ((state_after s e).told ≡ s.told)
same_job s (give i) = (refl, refl)
same_job s (took i answer) = by_result (answer_to s.hub i answer (order_at s.hub i))
  where
    by_result : (r : Result HubState Foreign) → ((state_taken s i r).job ≡ s.job) × ((state_taken s i r).told ≡ s.told)
    by_result (Ok hub) = (refl, refl)
    by_result (Err foreign) = (refl, refl)
same_job s (lost i kind) = (refl, refl)
same_job s (joined i) = (refl, refl)
same_job s (halt i reason) = (refl, refl)

-- the state is valid where this is the job
abbrev pub IsValidFor : Job → SystemState → Type 0
IsValidFor job s = s.told ≡ true → (answer : List ℕ) → IsCoreAnswer job answer → MatchResult (class_of job.core.program) (λ class. ValidAs class s answer) (λ refused. ⊥)

-- An event keeps that a state is valid, for programs that stabilise themselves or correct themselves locally; for those that
-- count it does so where the counts stay valid.
pub event_valid : (s : SystemState) (e : Event) → IsInStep s → IsValid s → MayCome s e →
    (class_of s.job.core.program ≡ Ok GloballyCorrecting → (answer : List ℕ) → IsCoreAnswer s.job answer → IsCounted s answer → s.told ≡ true → IsCounted (state_after s e) answer) → IsValid (state_after s e)
event_valid s e ok valid may counted = subst (λ (job : Job). IsValidFor job (state_after s e)) (sym (same_job s e).0) keeps
  where
    keeps : IsValidFor s.job (state_after s e)
    keeps told answer is =
        let was_told : s.told ≡ true = sym (same_job s e).1 ∙ told in
        by_class (class_of s.job.core.program) refl (valid was_told answer is) was_told
      where
        by_class : (r : Result Class Refused) → class_of s.job.core.program ≡ r → MatchResult r (λ class. ValidAs class s answer) (λ refused. ⊥) → s.told ≡ true → MatchResult r (λ class. ValidAs class (state_after s e) answer) (λ refused. ⊥)
        by_class (Ok SelfStabilising) class was tells = tt
        by_class (Ok LocallyCorrecting) class was tells = event_between s answer (lowest s.job answer ok.job.sound class is) ok was e tells may
        by_class (Ok GloballyCorrecting) class was tells = counted class answer is was tells
        by_class (Err refused) class was tells = was
