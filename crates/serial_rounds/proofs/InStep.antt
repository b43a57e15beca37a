-- Rounds of workers: what they hold between two rounds, what a round makes of it, and when it is the answer.
use Rattle.std.proofs.Common.{◌≡◌, ℕ, ◌<◌, ◌≤◌, Bool, true, false, List, [], length, map, get_or, refl, sym, ap, subst, ◌∙◌, arith}
use Rattle.std.specs.Prelude.{nat_lt, slice_index, All, None, Result, Ok}
use Rattle.std.proofs.lemmas.Bool.Decides.{nat_tests}
use Rattle.std.proofs.lemmas.List.{length-map, get_or-map}
use Rattle.std.proofs.lemmas.List.FromFn.{fill_by_all}
use Rattle.px_base.specs.declared.graph.Read.{Read}
use Rattle.px_base.specs.declared.graph.Part.{Part}
use Rattle.px_base.specs.declared.program.CoreProgram.{CoreProgram}
use Rattle.px_base.specs.declared.wire.Update.{Update}
use Rattle.px_base.specs.declared.wire.Order.TheVariants.{Step}
use Rattle.px_base.specs.declared.wire.Answer.TheVariants.{Stepped}
use Rattle.px_base.specs.Values.{IsValueList, by_position, is_listed}
use Rattle.px_base.specs.Graphs.{RowsFit}
use Rattle.px_base.specs.Classes.{counts_reads, is_mex, keeps}
use Rattle.px_base.specs.Parts.{IsCuts, PartFits, part_count, part_of, mirrors_of, route_of, routes_of}
use Rattle.px_base.specs.Worlds.{World, of_values, StepOutcome, first_foreign, is_fresh, CarriesValues, new_world}
use Rattle.px_base.specs.ValueSteps.{value_step, updated_mirrors, some_changed}
use Rattle.px_base.specs.WorldSteps.{world_step}
use Rattle.px_base.proofs.Positions.{length_by_position, at_position}
use Rattle.partitioner.proofs.Owned.{high_inside}
use Rattle.consistent_solver.specs.CoreLists.{IsBelow, IsCoreConsistent, renewed}
use Rattle.consistent_solver.proofs.Below.{value_anywhere, below_starts, below_renewed}
use Rattle.consistent_solver.proofs.Reaching.{renewed_values}
use Rattle.serial_rounds.specs.declared.steps.Sent.{Sent}
use Rattle.list_laws.specs.Routes.{AreRoutes}
use Rattle.list_laws.proofs.Routes.{routes_fit}
use Rattle.serial_rounds.specs.Mail.{mail_for}
use Rattle.serial_rounds.specs.Stepped.{Accepts, IsStepped}
use Rattle.serial_rounds.proofs.Renewals.{masters_renewed}
use Rattle.serial_rounds.proofs.Mailed.{AllFit, AreTold, IsDue, share, told_by, mail_due, mail_taken, mail_told, sent_news}

-- What the job of the workers is: a program that keeps the own value and takes the least, and a graph with start values,
-- cut into parts that fit.
pub record IsJob (core : CoreProgram) (rows : List (List Read)) (starts cuts : List ℕ) : Type 0 where
  pub keeps_own : keeps core.program.own ≡ true
  pub no_mex : is_mex core.program.fold ≡ false
  pub no_count : counts_reads core.program.fold ≡ false
  pub valued : IsValueList (length rows) starts
  pub cut : IsCuts (length rows) cuts
  pub fits : AllFit rows starts cuts

-- ---- one part in a round

-- the world of part i, whose masters have their values of now, and whose mirrors have theirs of seen
abbrev pub world_at : CoreProgram → List (List Read) → List ℕ → List ℕ → ℕ → ℕ → ℕ → List ℕ → List ℕ → World
world_at core rows starts cuts i epoch round now seen = of_values (record {
  part = part_of rows starts cuts i;
  core = core;
  epoch = epoch;
  round = round;
  masters = share cuts i now;
  mirrors = map (slice_index seen) (mirrors_of rows cuts i);
})

-- some master of part i changes where the list now becomes next
abbrev pub changes : List ℕ → ℕ → List ℕ → List ℕ → Bool
changes cuts i now next = some_changed (share cuts i now) (share cuts i next)

-- what the Step makes of the world of part i, and answers
abbrev outcome_at : CoreProgram → List (List Read) → List ℕ → List ℕ → ℕ → ℕ → ℕ → List ℕ → StepOutcome World
outcome_at core rows starts cuts i epoch round now = record {
  world = world_at core rows starts cuts i 1 round (renewed core rows starts now) now;
  answer = Stepped 1 round (changes cuts i now (renewed core rows starts now)) (told_by (is_fresh epoch 1) rows starts cuts i now (renewed core rows starts now));
}

not_older : (epoch : ℕ) → epoch ≤ 1 → nat_lt 1 epoch ≡ false
not_older epoch h = grind (arith, nat_tests)

-- A world that is told the values now at its mirrors renews its masters as all vertices are.
part_steps : (core : CoreProgram) (rows : List (List Read)) (starts cuts : List ℕ) (i epoch before round : ℕ) (seen now : List ℕ) (updates : List Update) →
    IsJob core rows starts cuts → i < part_count cuts → epoch ≤ 1 → first_foreign (is_listed (mirrors_of rows cuts i)) updates ≡ None →
    updated_mirrors (mirrors_of rows cuts i) updates (map (slice_index seen) (mirrors_of rows cuts i)) ≡ map (slice_index now) (mirrors_of rows cuts i) →
    world_step (world_at core rows starts cuts i epoch before now seen) (Step 1 round updates) ≡ Ok (outcome_at core rows starts cuts i epoch round now)
part_steps core rows starts cuts i epoch before round seen now updates job few early takes told =
    let late : nat_lt 1 epoch ≡ false = not_older epoch early in
    rw (value_step, late, takes, told, masters_renewed core rows starts now cuts i job.keeps_own (job.fits i few) (high_inside (length rows) cuts i job.cut few)) refl

-- ---- between two rounds

-- What the worlds and the inboxes hold between two rounds: each world has the values of its masters, and learns those of its
-- mirrors from its inbox; every consistent list is at most the values.
pub record AreInStep (core : CoreProgram) (rows : List (List Read)) (starts cuts : List ℕ) (worlds : List World) (inboxes : List (List Update)) : Type 0 where
  pub seen : List ℕ
  pub now : List ℕ
  pub epoch : ℕ
  pub round : ℕ
  pub early : epoch ≤ 1
  pub values : IsValueList (length rows) now
  pub below : (y : List ℕ) → IsCoreConsistent core rows starts y → IsBelow (length rows) y now
  pub world_count : length worlds ≡ part_count cuts
  pub inbox_count : length inboxes ≡ part_count cuts
  pub worlds_are : (i : ℕ) (d : World) → i < part_count cuts → get_or worlds i d ≡ world_at core rows starts cuts i epoch round now seen
  pub told : (i : ℕ) → i < part_count cuts →
      updated_mirrors (mirrors_of rows cuts i) (get_or inboxes i []) (map (slice_index seen) (mirrors_of rows cuts i)) ≡ map (slice_index now) (mirrors_of rows cuts i)
  pub takes : (i : ℕ) → i < part_count cuts → first_foreign (is_listed (mirrors_of rows cuts i)) (get_or inboxes i []) ≡ None
  pub carries : (i : ℕ) → i < part_count cuts → CarriesValues (get_or inboxes i [])

not_told : (mirrors values : List ℕ) → updated_mirrors mirrors [] values ≡ values
not_told mirrors values = sym (fill_by_all (slice_index values) values (length values) 0 refl (λ k below. refl))

-- the new world of a part has its start values
new_is : (core : CoreProgram) (rows : List (List Read)) (starts cuts : List ℕ) (i : ℕ) → keeps core.program.own ≡ true → counts_reads core.program.fold ≡ false →
    new_world (part_of rows starts cuts i) core ≡ world_at core rows starts cuts i 0 0 starts starts
new_is core rows starts cuts i kept plain = rw (plain, kept) refl

-- new worlds are in step, with empty inboxes
opened : (core : CoreProgram) (rows : List (List Read)) (starts cuts : List ℕ) (worlds : List World) (inboxes : List (List Update)) → IsJob core rows starts cuts →
    length worlds ≡ part_count cuts → ((i : ℕ) (d : World) → i < part_count cuts → get_or worlds i d ≡ new_world (part_of rows starts cuts i) core) →
    length inboxes ≡ part_count cuts → ((i : ℕ) → get_or inboxes i [] ≡ []) → AreInStep core rows starts cuts worlds inboxes
opened core rows starts cuts worlds inboxes job count are boxes empty = record {
  seen = starts;
  now = starts;
  epoch = 0;
  round = 0;
  early = omega arith;
  values = job.valued;
  below = λ y c. below_starts core rows starts y job.no_mex c;
  world_count = count;
  inbox_count = boxes;
  worlds_are = λ i d few. are i d few ∙ new_is core rows starts cuts i job.keeps_own job.no_count;
  told = λ i few. rw (empty i) (not_told (mirrors_of rows cuts i) (map (slice_index starts) (mirrors_of rows cuts i)));
  takes = λ i few. rw (empty i) refl;
  carries = λ i few k d below. absurd (omega (arith, ap length (empty i)));
}

-- each world takes what lies in its inbox
pub accepts : (core : CoreProgram) (rows : List (List Read)) (starts cuts : List ℕ) (worlds : List World) (inboxes : List (List Update)) (round i : ℕ) (d : World) → IsJob core rows starts cuts →
    AreInStep core rows starts cuts worlds inboxes → i < part_count cuts → Accepts round (get_or worlds i d) (get_or inboxes i [])
accepts core rows starts cuts worlds inboxes round i d job s few = record {
  accepted = rw (s.worlds_are i d few, part_steps core rows starts cuts i s.epoch s.round round s.seen s.now (get_or inboxes i []) job few s.early (s.takes i few) (s.told i few)) refl;
  values = s.carries i few;
}

-- ---- a round

-- what each worker made of a round that began in step, and sent
pub record IsRound (core : CoreProgram) (rows : List (List Read)) (starts cuts : List ℕ) (epoch round : ℕ) (now : List ℕ) (worlds : List World) (sent : List Sent) : Type 0 where
  pub world_count : length worlds ≡ part_count cuts
  pub worlds_are : (i : ℕ) (d : World) → i < part_count cuts → get_or worlds i d ≡ world_at core rows starts cuts i 1 round (renewed core rows starts now) now
  pub changed_are : (i : ℕ) (s : Sent) → i < part_count cuts → (get_or sent i s).changed ≡ changes cuts i now (renewed core rows starts now)
  pub told : AreTold (is_fresh epoch 1) rows starts cuts now (renewed core rows starts now) sent

same_outcome : {A : Type 0} {B : Type 0} (a b : A) (step : Result A B) → step ≡ Ok a → step ≡ Ok b → a ≡ b
same_outcome a b step h k = cc

same_changed : (e r : ℕ) (c d : Bool) (us vs : List Update) → Stepped e r c us ≡ Stepped e r d vs → c ≡ d
same_changed e r c d us vs h = cc

same_updates : (e r : ℕ) (c d : Bool) (us vs : List Update) → Stepped e r c us ≡ Stepped e r d vs → us ≡ vs
same_updates e r c d us vs h = cc

-- one worker's Step has the outcome that its part gives
outcome_is : (core : CoreProgram) (rows : List (List Read)) (starts cuts : List ℕ) (worlds : List World) (inboxes : List (List Update)) (round i : ℕ) (d after : World) (s : Sent) → IsJob core rows starts cuts →
    (t : AreInStep core rows starts cuts worlds inboxes) → i < part_count cuts → IsStepped round (get_or worlds i d) (get_or inboxes i []) after s →
    record { world = after; answer = Stepped 1 round s.changed s.updates } ≡ outcome_at core rows starts cuts i t.epoch round t.now
outcome_is core rows starts cuts worlds inboxes round i d after s job t few stepped =
    same_outcome (record { world = after; answer = Stepped 1 round s.changed s.updates }) (outcome_at core rows starts cuts i t.epoch round t.now)
    (world_step (get_or worlds i d) (Step 1 round (get_or inboxes i []))) stepped.step
    (rw (t.worlds_are i d few) (part_steps core rows starts cuts i t.epoch t.round round t.seen t.now (get_or inboxes i []) job few t.early (t.takes i few) (t.told i few)))

round_is : (core : CoreProgram) (rows : List (List Read)) (starts cuts : List ℕ) (worlds : List World) (inboxes : List (List Update)) (round : ℕ) (next : List World) (sent : List Sent) → IsJob core rows starts cuts →
    (t : AreInStep core rows starts cuts worlds inboxes) → length next ≡ length worlds → length sent ≡ length worlds →
    ((k : ℕ) (d : World) (s : Sent) → k < length worlds → IsStepped round (get_or worlds k d) (get_or inboxes k []) (get_or next k d) (get_or sent k s)) →
    IsRound core rows starts cuts t.epoch round t.now next sent
round_is core rows starts cuts worlds inboxes round next sent job t sized count steps = record {
  world_count = sized ∙ t.world_count;
  worlds_are = λ i d few. ap (λ o. o.world) (at i d none few);
  changed_are = λ i s few. same_changed 1 round (get_or sent i s).changed (changes cuts i t.now (renewed core rows starts t.now)) (get_or sent i s).updates (told_by (is_fresh t.epoch 1) rows starts cuts i t.now (renewed core rows starts t.now)) (ap (λ o. o.answer) (at i empty s few));
  told = record {
    count = count ∙ t.world_count;
    updates_are = λ i s few. same_updates 1 round (get_or sent i s).changed (changes cuts i t.now (renewed core rows starts t.now)) (get_or sent i s).updates (told_by (is_fresh t.epoch 1) rows starts cuts i t.now (renewed core rows starts t.now)) (ap (λ o. o.answer) (at i empty s few));
  };
}
  where
    none : Sent
    none = record { changed = false; updates = [] }

    empty : World
    empty = world_at core rows starts cuts 0 0 0 [] []

    at : (i : ℕ) (d : World) (s : Sent) → i < part_count cuts → record { world = get_or next i d; answer = Stepped 1 round (get_or sent i s).changed (get_or sent i s).updates } ≡ outcome_at core rows starts cuts i t.epoch round t.now
    at i d s few = outcome_is core rows starts cuts worlds inboxes round i d (get_or next i d) (get_or sent i s) job t few (steps i d s (omega (arith, few, t.world_count)))

-- after a round the workers are in step again, once all that they sent lies in the inboxes
round_kept : (core : CoreProgram) (rows : List (List Read)) (starts cuts : List ℕ) (worlds : List World) (inboxes : List (List Update)) (round : ℕ) (next : List World) (sent : List Sent) (boxes : List (List Update)) →
    IsJob core rows starts cuts → (t : AreInStep core rows starts cuts worlds inboxes) → IsRound core rows starts cuts t.epoch round t.now next sent →
    length boxes ≡ length inboxes → ((j : ℕ) → j < length boxes → get_or boxes j [] ≡ mail_for (routes_of rows cuts) j sent) → AreInStep core rows starts cuts next boxes
round_kept core rows starts cuts worlds inboxes round next sent boxes job t r sized mail = record {
  seen = t.now;
  now = renewed core rows starts t.now;
  epoch = 1;
  round = round;
  early = omega arith;
  values = values;
  below = λ y c. below_renewed core rows starts y t.now job.no_mex c t.values (t.below y c);
  world_count = r.world_count;
  inbox_count = sized ∙ t.inbox_count;
  worlds_are = r.worlds_are;
  told = λ i few. rw (box i few) (mail_told (is_fresh t.epoch 1) rows starts cuts i t.now (renewed core rows starts t.now) sent job.cut job.fits r.told few);
  takes = λ i few. rw (box i few) (mail_taken (is_fresh t.epoch 1) rows starts cuts i t.now (renewed core rows starts t.now) sent job.cut job.fits r.told few);
  carries = λ i few. rw (box i few) (λ k d below.
      let due : IsDue rows cuts i (renewed core rows starts t.now) (get_or (mail_for (routes_of rows cuts) i sent) k d) =
      mail_due (is_fresh t.epoch 1) rows starts cuts i t.now (renewed core rows starts t.now) sent job.cut job.fits r.told few k d below in
      rw due.value_is (value_anywhere (length rows) (renewed core rows starts t.now) (get_or (mail_for (routes_of rows cuts) i sent) k d).vertex values));
}
  where
    values : IsValueList (length rows) (renewed core rows starts t.now)
    values = renewed_values core rows starts t.now t.values

    box : (i : ℕ) → i < part_count cuts → get_or boxes i [] ≡ mail_for (routes_of rows cuts) i sent
    box i few = mail i (omega (arith, few, sized, t.inbox_count))

-- ---- as the code has it

-- the job, from the parts that the code made
pub job_is : (n : ℕ) (core : CoreProgram) (rows : List (List Read)) (starts cuts : List ℕ) (parts : List Part) → RowsFit n rows → IsValueList n starts → IsCuts n cuts →
    keeps core.program.own ≡ true → is_mex core.program.fold ≡ false → counts_reads core.program.fold ≡ false →
    parts ≡ by_position (part_count cuts) (part_of rows starts cuts) → All PartFits parts → IsJob core rows starts cuts
job_is n core rows starts cuts parts whole values c kept plain valued are fits =
    let sized : n ≡ length rows = sym whole.one_each in
    record {
      keeps_own = kept;
      no_mex = plain;
      no_count = valued;
      valued = rw sized at values;
      cut = rw sized at c;
      fits = λ i few.
          let P : List Part → Type 0 = λ ps. All PartFits ps in
          let all : All PartFits (by_position (part_count cuts) (part_of rows starts cuts)) = subst P are fits in
          let here : get_or (by_position (part_count cuts) (part_of rows starts cuts)) i (part_of rows starts cuts 0) ≡ part_of rows starts cuts i = at_position (part_count cuts) (part_of rows starts cuts) i (part_of rows starts cuts 0) few in
          subst PartFits here (all i (part_of rows starts cuts 0) (omega (arith, length_by_position (part_count cuts) (part_of rows starts cuts))));
    }

-- the new worlds of the parts, and empty inboxes
pub opened_with : (core : CoreProgram) (rows : List (List Read)) (starts cuts : List ℕ) (parts : List Part) (worlds : List World) (inboxes : List (List Update)) → IsJob core rows starts cuts →
    parts ≡ by_position (part_count cuts) (part_of rows starts cuts) → worlds ≡ map (λ part. new_world part core) parts → length inboxes ≡ length worlds → ((i : ℕ) → get_or inboxes i [] ≡ []) →
    AreInStep core rows starts cuts worlds inboxes
opened_with core rows starts cuts parts worlds inboxes job are worlds_are count empty =
    opened core rows starts cuts worlds inboxes job world_count each (count ∙ world_count) empty
  where
    part_total : length parts ≡ part_count cuts
    part_total = ap length are ∙ length_by_position (part_count cuts) (part_of rows starts cuts)

    world_count : length worlds ≡ part_count cuts
    world_count = ap length worlds_are ∙ length-map parts (λ part. new_world part core) ∙ part_total

    each : (i : ℕ) (d : World) → i < part_count cuts → get_or worlds i d ≡ new_world (part_of rows starts cuts i) core
    each i d few = ap (λ ws. get_or ws i d) worlds_are
        ∙ get_or-map (λ part. new_world part core) parts i (part_of rows starts cuts 0) d (omega (arith, part_total))
        ∙ ap (λ part. new_world part core) (ap (λ ps. get_or ps i (part_of rows starts cuts 0)) are ∙ at_position (part_count cuts) (part_of rows starts cuts) i (part_of rows starts cuts 0) few)

-- a round of worlds and inboxes that are these
pub round_of : (core : CoreProgram) (rows : List (List Read)) (starts cuts : List ℕ) (worlds were : List World) (inboxes had : List (List Update)) (round : ℕ) (next : List World) (sent : List Sent) → IsJob core rows starts cuts →
    (t : AreInStep core rows starts cuts worlds inboxes) → were ≡ worlds → had ≡ inboxes → length next ≡ length were → length sent ≡ length were →
    ((k : ℕ) (d : World) (s : Sent) → k < length were → IsStepped round (get_or were k d) (get_or had k []) (get_or next k d) (get_or sent k s)) →
    IsRound core rows starts cuts t.epoch round t.now next sent
round_of core rows starts cuts worlds were inboxes had round next sent job t were_are had_are sized count steps =
    let S : List World → List (List Update) → Type 0 = λ ws bs. (k : ℕ) (d : World) (s : Sent) → k < length ws → IsStepped round (get_or ws k d) (get_or bs k []) (get_or next k d) (get_or sent k s) in
    let H : List (List Update) → Type 0 = λ bs. S were bs in
    let W : List World → Type 0 = λ ws. S ws inboxes in
    round_is core rows starts cuts worlds inboxes round next sent job t (sized ∙ ap length were_are) (count ∙ ap length were_are) (subst W were_are (subst H had_are steps))

-- what the round needs of the routes, and of what is sent
pub routes_known : (rows : List (List Read)) (cuts : List ℕ) (routes : List (List ℕ)) (boxes : List (List Update)) → routes ≡ routes_of rows cuts → length boxes ≡ part_count cuts → AreRoutes (length boxes) routes
routes_known rows cuts routes boxes are count = rw (are, count) (routes_fit rows cuts)

pub sent_known : (core : CoreProgram) (rows : List (List Read)) (starts cuts : List ℕ) (epoch round : ℕ) (now : List ℕ) (worlds : List World) (sent given : List Sent) (routes : List (List ℕ)) → IsJob core rows starts cuts →
    IsRound core rows starts cuts epoch round now worlds sent → given ≡ sent → routes ≡ routes_of rows cuts → All (λ s. All (λ u. u.vertex < length routes) s.updates) given
sent_known core rows starts cuts epoch round now worlds sent given routes job r is are =
    let sized : length routes ≡ length rows = ap length are ∙ length_by_position (length rows) (route_of rows cuts) in
    let P : List Sent → Type 0 = λ ss. All (λ s. All (λ u. u.vertex < length routes) s.updates) ss in
    subst P (sym is) (λ k d below i e inside.
    omega (arith, sized, (sent_news (is_fresh epoch 1) rows starts cuts now (renewed core rows starts now) sent job.cut job.fits r.told k d below i e inside).vertex_below))

-- what lies in the inboxes after the round
pub kept_on : (core : CoreProgram) (rows : List (List Read)) (starts cuts : List ℕ) (worlds : List World) (inboxes : List (List Update)) (round : ℕ) (next : List World) (sent given : List Sent) (emptied boxes : List (List Update)) (routes : List (List ℕ)) →
    IsJob core rows starts cuts → (t : AreInStep core rows starts cuts worlds inboxes) → IsRound core rows starts cuts t.epoch round t.now next sent →
    given ≡ sent → routes ≡ routes_of rows cuts → length emptied ≡ length inboxes → length boxes ≡ length emptied →
    ((j : ℕ) → j < length emptied → get_or boxes j [] ≡ mail_for routes j given) → AreInStep core rows starts cuts next boxes
kept_on core rows starts cuts worlds inboxes round next sent given emptied boxes routes job t r is are left sized mail =
    round_kept core rows starts cuts worlds inboxes round next sent boxes job t r (sized ∙ left)
    (λ j inside. mail j (omega (arith, sized)) ∙ ap (λ ts. mail_for ts j given) are ∙ ap (mail_for (routes_of rows cuts) j) is)
