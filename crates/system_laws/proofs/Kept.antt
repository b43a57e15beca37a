-- Every event keeps the book-keeping of the state.
use Rattle.std.proofs.Common.{◌≡◌, ℕ, ◌<◌, Bool, true, false, not, List, [], ◌∷◌, Option, Some, None, refl, sym, ap, subst, ◌∙◌, eqb-true}
use Rattle.std.specs.Prelude.{◌&&◌, ◌==◌, All, is_none, MatchOption, ⊤}
use Rattle.std.proofs.lemmas.List.{length-set}
use Rattle.px_base.specs.declared.wire.Update.{Update}
use Rattle.px_base.specs.declared.wire.Order.{Order}
use Rattle.px_base.specs.declared.wire.Order.TheVariants.{Step, Report}
use Rattle.px_base.specs.declared.wire.Answer.{Answer}
use Rattle.px_base.specs.declared.wire.Answer.TheVariants.{Stepped, Reported}
use Rattle.px_base.specs.declared.wire.Foreign.{Foreign}
use Rattle.px_base.specs.declared.wire.LossKind.{LossKind}
use Rattle.px_base.specs.Values.{IsValue}
use Rattle.px_base.specs.Worlds.{World, ValueWorld, of_values, of_counts, masters_of, is_fresh, CarriesValues, StepOutcome}
use Rattle.px_base.specs.ValueSteps.{announcements, order_outcome}
use Rattle.hub_terms.specs.declared.stops.Why.{Why}
use Rattle.hub_terms.specs.declared.stops.Halt.{Halt}
use Rattle.hub_terms.specs.Hubs.{HubState, Turn, worker_at, order_at, worker_count, turn_of, after_turn}
use Rattle.hub_terms.specs.HubEvents.{after_loss, after_join, why_of, foreign_of, absorption, answer_to, answer_taken}
use Rattle.hub_terms.specs.HubInStep.{IsHubInStep}
use Rattle.hub_terms.specs.Systems.{SystemState, Event, give, took, lost, joined, halt, world_at, with_world, new_world_at, world_after, world_left, step_at, IsHonestAnswer, AnswersValues, MayCome, state_after, state_taken, IsRun, state_after_all}
use Rattle.hub_terms.specs.InStep.{IsInStep, IsForJob, WorldsInStep, LiveHaveWorlds, ValuesArrive}
use Rattle.hub_laws.proofs.HubGave as gave
use Rattle.hub_laws.proofs.HubTook.{right_answer, stepped_order, reported_order, stepped_hub, reported_hub, stepped_is, reported_is}
use Rattle.hub_laws.proofs.HubTook as hub_took
use Rattle.hub_laws.proofs.HubChanged as changed
use Rattle.step_laws.proofs.WorldSteps.{outcome_of, step_is, report_world, report_answer}
use Rattle.system_laws.proofs.WorldsKept as kept
use Rattle.system_laws.proofs.TookWorlds as took_worlds
use Rattle.system_laws.proofs.Arrive as arrive
use Rattle.system_laws.proofs.TookArrive as took_arrive
use Rattle.system_laws.proofs.Settled as settled

-- ---- where nothing is told

-- a world says that the links tell
pub some_told : (s : SystemState) (i : ℕ) (w : World) → LiveHaveWorlds s → world_at s i ≡ Some w → (s.told ≡ true) × ((worker_at s.hub i).live ≡ true)
some_told s i w have is = by_both s.told (worker_at s.hub i).live refl refl (ap is_none (sym is) ∙ have i)
  where
    by_both : (a b : Bool) → s.told ≡ a → (worker_at s.hub i).live ≡ b → false ≡ not (a && b) → (s.told ≡ true) × ((worker_at s.hub i).live ≡ true)
    by_both true true x y h = (x, y)
    by_both true false x y h = absurd (cc h)
    by_both false b x y h = absurd (cc h)

-- a live worker without a world says that they don't
pub none_told : (s : SystemState) (i : ℕ) → LiveHaveWorlds s → (worker_at s.hub i).live ≡ true → world_at s i ≡ None → s.told ≡ false
none_told s i have live none = by_told s.told refl (ap is_none (sym none) ∙ (have i ∙ ap (λ l. not (s.told && l)) live))
  where
    by_told : (a : Bool) → s.told ≡ a → true ≡ not (s.told && true) → s.told ≡ false
    by_told true is h = absurd (cc (h, ap (λ b. not (b && true)) is))
    by_told false is h = is

-- ---- a turn

gave_job : (s : SystemState) (i : ℕ) → IsForJob s → IsForJob (record s { hub = after_turn s.hub i (turn_of s.hub i) })
gave_job s i fit = gave.turn_by (λ (turn : Turn). IsForJob (record s { hub = after_turn s.hub i turn })) s.hub i
    (λ reason is. same (record s.hub { halt = Some reason }) refl refl refl) (λ free quiet all. fit)
    (λ free quiet none. same _ refl refl refl) (λ free busy may. same _ refl refl refl) (λ free busy out. same _ refl refl refl) fit
  where
    same : (hub : HubState) → hub.inboxes.cuts ≡ s.hub.inboxes.cuts → hub.inboxes.routes ≡ s.hub.inboxes.routes → hub.inboxes.counting ≡ s.hub.inboxes.counting → IsForJob (record s { hub = hub })
    same hub cuts routes counting = record {
      sound = fit.sound;
      cuts = rw cuts fit.cuts;
      routes = rw (routes, cuts) fit.routes;
      counting = rw counting fit.counting;
      worlds = rw cuts fit.worlds;
    }

pub gave_in_step : (s : SystemState) (i : ℕ) → IsInStep s → MayCome s (give i) → IsInStep (state_after s (give i))
gave_in_step s i ok may = record {
  job = gave_job s i ok.job;
  hub = gave.gave_in_step s.hub i ok.hub may.0 may.1 may.2;
  live_worlds = kept.gave_live s i ok.hub ok.job ok.worlds may.0 may.1 ok.live_worlds;
  worlds = kept.gave_worlds s i ok.hub ok.job ok.worlds may.0 may.1;
  values = arrive.gave_arrive s i ok.hub ok.live_worlds ok.values may.0 may.1 may.2;
  settled = settled.gave_settled s i ok.settled;
  honest = settled.gave_honest s i ok.honest;
}

-- ---- a job with another hub and other worlds

pub job_on : (s : SystemState) (i : ℕ) (world : Option World) (hub : HubState) → hub.inboxes.cuts ≡ s.hub.inboxes.cuts → hub.inboxes.routes ≡ s.hub.inboxes.routes → hub.inboxes.counting ≡ s.hub.inboxes.counting →
    IsForJob s → IsForJob (with_world s i world hub)
job_on s i world hub cuts routes counting fit = record {
  sound = fit.sound;
  cuts = rw cuts fit.cuts;
  routes = rw (routes, cuts) fit.routes;
  counting = rw counting fit.counting;
  worlds = rw cuts (length-set s.worlds i world ∙ fit.worlds);
}

-- ---- a loss, a join, a halt

pub lost_in_step : (s : SystemState) (i : ℕ) (kind : LossKind) → IsInStep s → MayCome s (lost i kind) → IsInStep (state_after s (lost i kind))
lost_in_step s i kind ok may = record {
  job = job_on s i None (after_loss s.hub i kind) refl refl refl ok.job;
  hub = changed.lost_in_step s.hub i kind ok.hub may.0 may.1;
  live_worlds = kept.lost_live s i kind ok.hub ok.job ok.worlds may.0 may.1 ok.live_worlds;
  worlds = kept.lost_worlds s i kind ok.hub ok.job ok.worlds may.0 may.1;
  values = arrive.lost_arrive s i kind ok.hub may.0 may.1;
  settled = settled.lost_settled s i kind ok.hub may.0 may.1;
  honest = settled.lost_honest s i kind ok.hub may.0 may.1;
}

pub joined_in_step : (s : SystemState) (i : ℕ) → IsInStep s → MayCome s (joined i) → IsInStep (state_after s (joined i))
joined_in_step s i ok may = record {
  job = job_on s i (new_world_at s i) (after_join s.hub i) refl refl refl ok.job;
  hub = changed.joined_in_step s.hub i ok.hub may.0 may.1 may.2;
  live_worlds = kept.joined_live s i ok.hub ok.job ok.worlds may.0 may.1 may.2 ok.live_worlds;
  worlds = kept.joined_worlds s i ok.hub ok.job ok.worlds may.0 may.1 may.2 ok.live_worlds;
  values = arrive.joined_arrive s i ok.hub ok.job ok.live_worlds ok.values may.0 may.1 may.2;
  settled = settled.joined_settled s i ok.hub may.0 may.1 may.2 ok.settled;
  honest = settled.joined_honest s i ok.hub may.0 may.1 may.2 ok.honest;
}

pub halted_in_step : (s : SystemState) (i : ℕ) (reason : Halt) → IsInStep s → IsInStep (state_after s (halt i reason))
halted_in_step s i reason ok = by_halt s.hub.halt refl (changed.halted_in_step s.hub i reason ok.hub)
  where
    by_halt : (h : Option Why) → s.hub.halt ≡ h → IsHubInStep (elim h [ Some first ↦ s.hub | None ↦ record s.hub { halt = Some (why_of reason i) } ]) → IsInStep (record s { hub = elim h [ Some first ↦ s.hub | None ↦ record s.hub { halt = Some (why_of reason i) } ] })
    by_halt (Some first) is hub = ok
    by_halt None is hub = record {
      job = record { sound = ok.job.sound; cuts = ok.job.cuts; routes = ok.job.routes; counting = ok.job.counting; worlds = ok.job.worlds };
      hub = hub;
      live_worlds = ok.live_worlds;
      worlds = λ j w there. (let old = ok.worlds j w there in kept.world_on s (record s { hub = record s.hub { halt = Some (why_of reason i) } }) j w (record { job = refl; cuts = refl; epoch = refl; due = refl; round = refl }) (λ low. low) old.accepts old.reported old);
      values = ok.values;
      settled = ok.settled;
      honest = ok.honest;
    }

-- ---- an answer

-- what the world of worker i made of its order, where there is one
pub honest_step : (s : SystemState) (i : ℕ) (order : Order) (answer : Answer) → IsInStep s → order_at s.hub i ≡ Some order → IsHonestAnswer s i answer → (old : World) → world_at s i ≡ Some old →
    (world_after s i ≡ Some (outcome_of old order).world) × ((outcome_of old order).answer ≡ answer)
honest_step s i order answer ok had honest old there =
    let step : step_at s i ≡ Some (outcome_of old order) = rw (there, had) (step_is old order ((ok.worlds i old there).accepts order had)) in
    (ap world_left step, subst (λ (o : Option (StepOutcome World)). MatchOption o ⊥ (λ outcome. outcome.answer ≡ answer)) step (honest (some_told s i old ok.live_worlds there).0))

no_world_after : (s : SystemState) (i : ℕ) → world_at s i ≡ None → world_after s i ≡ None
no_world_after s i none = rw none refl

module _ (s : SystemState) (i epoch round : ℕ) (sent : List Update) (changed : Bool) (updates : List Update) (ok : IsInStep s) (inside : i < worker_count s.hub) (had : order_at s.hub i ≡ Some (Step epoch round sent))
    (values : CarriesValues updates) (honest : IsHonestAnswer s i (Stepped epoch round changed updates)) where
  abbrev current : Bool
  current = epoch == s.hub.members.epoch

  abbrev after_step : SystemState
  after_step = with_world s i (world_after s i) (stepped_hub current s.hub i changed updates)

  made_by : (w : World) → world_after s i ≡ Some w → (old : World) × (world_at s i ≡ Some old) × (w ≡ (outcome_of old (Step epoch round sent)).world) × ((outcome_of old (Step epoch round sent)).answer ≡ Stepped epoch round changed updates)
  made_by w is = by_world (world_at s i) refl
    where
      by_world : (o : Option World) → world_at s i ≡ o → (old : World) × (world_at s i ≡ Some old) × (w ≡ (outcome_of old (Step epoch round sent)).world) × ((outcome_of old (Step epoch round sent)).answer ≡ Stepped epoch round changed updates)
      by_world None none = absurd (cc (is, no_world_after s i none))
      by_world (Some old) there = let step = honest_step s i (Step epoch round sent) (Stepped epoch round changed updates) ok had honest old there in (old, there, gave.some_same w (outcome_of old (Step epoch round sent)).world (sym is ∙ step.0), step.1)

  same_none : is_none (world_after s i) ≡ is_none (world_at s i)
  same_none = by_world (world_at s i) refl
    where
      by_world : (o : Option World) → world_at s i ≡ o → is_none (world_after s i) ≡ is_none (world_at s i)
      by_world None none = ap is_none (no_world_after s i none) ∙ sym (ap is_none none)
      by_world (Some old) there = ap is_none (honest_step s i (Step epoch round sent) (Stepped epoch round changed updates) ok had honest old there).0 ∙ sym (ap is_none there)

  step_job : (b : Bool) (world : Option World) → IsForJob (with_world s i world (stepped_hub b s.hub i changed updates))
  step_job true world = job_on s i world (stepped_hub true s.hub i changed updates) refl refl refl ok.job
  step_job false world = job_on s i world (stepped_hub false s.hub i changed updates) refl refl refl ok.job

  step_worlds : WorldsInStep after_step
  step_worlds = took_worlds.stepped_worlds s i epoch round sent changed updates current ok.hub ok.job inside had values (world_after s i) refl (λ w is. (let made = made_by w is in (made.0, made.1, made.2))) ok.worlds

  step_live : LiveHaveWorlds after_step
  step_live = took_worlds.stepped_live s i epoch round sent changed updates current ok.hub ok.job inside had values (world_after s i) same_none ok.live_worlds

  pub sent_is : (u : ValueWorld) → (outcome_of (of_values u) (Step epoch round sent)).answer ≡ Stepped epoch round changed updates →
      updates ≡ announcements (is_fresh u.epoch epoch) u.part u.masters (order_outcome u (Step epoch round sent)).world.masters
  sent_is u h = same_sent _ _ h
    where
      same_sent : (c : Bool) (us : List Update) → Stepped epoch round c us ≡ Stepped epoch round changed updates → updates ≡ us
      same_sent c us h = cc h

  values_arrive : (u : ValueWorld) → world_at s i ≡ Some (of_values u) → ValuesArrive after_step
  values_arrive u there =
      let step = honest_step s i (Step epoch round sent) (Stepped epoch round changed updates) ok had honest (of_values u) there in
      rw step.0 (took_arrive.stepped_arrive s i epoch round sent changed updates ok.hub ok.job inside had values ok.worlds ok.values u there (sent_is u step.1) current refl)

  step_arrive : ValuesArrive after_step
  step_arrive = by_world (world_at s i) refl
    where
      by_world : (o : Option World) → world_at s i ≡ o → ValuesArrive after_step
      by_world None none j l v w is up master mirror below =
          let live : (worker_at s.hub i).live ≡ true = hub_took.asked_live s.hub i epoch round sent changed updates ok.hub inside had values in
          absurd (cc ((some_told after_step j (of_values w) step_live is).0, none_told s i ok.live_worlds live none))
      by_world (Some (of_counts c)) there j l v w is up master mirror below = absurd (cc ((step_worlds j (of_values w) is).of_part.0, (ok.worlds i (of_counts c) there).of_part.0))
      by_world (Some (of_values u)) there j l v w is up master mirror below = values_arrive u there j l v w is up master mirror below

  pub stepped_in_step : IsInStep after_step
  stepped_in_step = record {
    job = step_job current (world_after s i);
    hub = hub_took.stepped_keeps s.hub i epoch round sent changed updates ok.hub inside had values current;
    live_worlds = step_live;
    worlds = step_worlds;
    values = step_arrive;
    settled = settled.stepped_settled s i epoch round sent changed updates current ok.hub ok.job inside had values refl ok.worlds (world_after s i) made_by ok.settled;
    honest = settled.stepped_honest s i epoch round sent changed updates current ok.hub ok.job inside had values refl ok.worlds (world_after s i) made_by ok.honest;
  }

module _ (s : SystemState) (i epoch : ℕ) (seen : List ℕ) (ok : IsInStep s) (inside : i < worker_count s.hub) (had : order_at s.hub i ≡ Some (Report epoch)) (known : All IsValue seen) (honest : IsHonestAnswer s i (Reported epoch seen)) where
  abbrev now : Bool
  now = epoch == s.hub.members.epoch

  pub world_stays : world_after s i ≡ world_at s i
  world_stays = by_world (world_at s i) refl
    where
      by_world : (o : Option World) → world_at s i ≡ o → world_after s i ≡ world_at s i
      by_world None none = no_world_after s i none ∙ sym none
      by_world (Some old) there = (honest_step s i (Report epoch) (Reported epoch seen) ok had honest old there).0 ∙ (ap Some (report_world old epoch) ∙ sym there)

  reported_honestly : (w : World) → world_at s i ≡ Some w → seen ≡ masters_of w
  reported_honestly w there = same_seen (masters_of w) (sym (report_answer w epoch) ∙ (honest_step s i (Report epoch) (Reported epoch seen) ok had honest w there).1)
    where
      same_seen : (xs : List ℕ) → Reported epoch xs ≡ Reported epoch seen → seen ≡ xs
      same_seen xs h = cc h

  pub reported_in_step : IsInStep (with_world s i (world_after s i) (reported_hub now s.hub i seen))
  reported_in_step = rw world_stays (record {
    job = job_on s i (world_at s i) (reported_hub now s.hub i seen) refl refl refl ok.job;
    hub = hub_took.reported_keeps s.hub i epoch seen ok.hub inside had known now (λ same. eqb-true epoch s.hub.members.epoch same);
    live_worlds = took_worlds.reported_live s i epoch seen now ok.hub ok.job inside had known ok.live_worlds;
    worlds = took_worlds.reported_worlds s i epoch seen now ok.hub ok.job inside had known reported_honestly ok.worlds;
    values = took_arrive.reported_arrive s i epoch seen now ok.hub ok.job inside had known ok.values;
    settled = settled.reported_settled s i epoch seen now ok.hub ok.job inside had known ok.settled;
    honest = settled.reported_honest s i epoch seen now ok.hub ok.job inside had known ok.honest;
  })

-- the order and what nothing wrong says of the answer
absorbed_in_step : (s : SystemState) (i : ℕ) (order : Order) (answer : Answer) → IsInStep s → i < worker_count s.hub → order_at s.hub i ≡ Some order → foreign_of s.hub.inboxes i order answer ≡ None → AnswersValues answer → IsHonestAnswer s i answer →
    IsInStep (with_world s i (world_after s i) (absorption s.hub i answer))
absorbed_in_step s i order (Stepped epoch round changed updates) ok inside had none values honest =
    let this = stepped_order order epoch round changed updates (right_answer s.hub.inboxes i order (Stepped epoch round changed updates) none).0 in
    rw (stepped_is s.hub i epoch round changed updates (epoch == s.hub.members.epoch) refl) (stepped_in_step s i epoch round this.0 changed updates ok inside (had ∙ ap Some this.1) values honest)
absorbed_in_step s i order (Reported epoch seen) ok inside had none known honest =
    let this = reported_order order epoch seen (right_answer s.hub.inboxes i order (Reported epoch seen) none).0 in
    rw (reported_is s.hub i epoch seen (epoch == s.hub.members.epoch) refl) (reported_in_step s i epoch seen ok inside (had ∙ ap Some this) known honest)

pub took_in_step : (s : SystemState) (i : ℕ) (answer : Answer) → IsInStep s → MayCome s (took i answer) → IsInStep (state_after s (took i answer))
took_in_step s i answer ok may = by_order (order_at s.hub i) refl may.1
  where
    by_foreign : (order : Order) → order_at s.hub i ≡ Some order → (f : Option Foreign) → foreign_of s.hub.inboxes i order answer ≡ f → IsInStep (state_taken s i (answer_taken s.hub i answer f))
    by_foreign order had None none = absorbed_in_step s i order answer ok may.0 had none may.2 may.3
    by_foreign order had (Some foreign) some = ok

    by_order : (o : Option Order) → order_at s.hub i ≡ o → MatchOption o ⊥ (λ order. ⊤) → IsInStep (state_taken s i (answer_to s.hub i answer o))
    by_order None none has = absurd has
    by_order (Some order) had has = by_foreign order had (foreign_of s.hub.inboxes i order answer) refl

-- ---- any event, and any run

pub event_in_step : (s : SystemState) (e : Event) → IsInStep s → MayCome s e → IsInStep (state_after s e)
event_in_step s (give i) ok may = gave_in_step s i ok may
event_in_step s (took i answer) ok may = took_in_step s i answer ok may
event_in_step s (lost i kind) ok may = lost_in_step s i kind ok may
event_in_step s (joined i) ok may = joined_in_step s i ok may
event_in_step s (halt i reason) ok may = halted_in_step s i reason ok

pub run_in_step : (s : SystemState) (events : List Event) → IsInStep s → IsRun s events → IsInStep (state_after_all s events)
run_in_step s [] ok may = ok
run_in_step s (e ∷ events) ok may = run_in_step (state_after s e) events (event_in_step s e ok may.0) may.1
