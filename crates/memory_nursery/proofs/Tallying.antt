-- What a nursery in memory keeps, once its spawners came back.
use Rattle.std.proofs.Common.{◌≡◌, ◌∙◌, ℕ, ◌+◌, ◌<◌, ◌≤◌, Bool, true, false, List, [], ◌∷◌, length, map, drop, get_or, refl, ap, subst, arith, None}
use Rattle.std.specs.Prelude.{All, flat_map, nat_lt, slice_index}
use Rattle.std.proofs.lemmas.Bool.Decides.{nat_tests}
use Rattle.std.proofs.lemmas.List.{length-map, length-append, get_or-map, drop-append-le}
use Rattle.std.proofs.lemmas.List.Elements.{All-append, All-head, All-tail, All-nil}
use Rattle.px_io.specs.Causes.{LAST}
use Rattle.link_trait.specs.declared.scripts.Scripted.{Scripted}
use Rattle.link_trait.specs.Counts.{more_by, all_more_by}
use Rattle.link_trait.specs.Plans.{LentAs}
use Rattle.link_trait.specs.Spawners.{Retired, SpawnerView}
use Rattle.link_trait.specs.Nurseries.{NurseryView, AreBack}
use Rattle.link_trait.proofs.Lent.{count_is, mark_is, out_is, worker_is}
use Rattle.link_trait.proofs.Counting.{length_more, more_at, same_at}
use Rattle.memory_nursery.specs.Scripts.{losses_of, refused_starts}
use Rattle.memory_nursery.specs.States.{SpawnerState, NurseryState, next_mark, no_mark, no_plan, taken_back}
use Rattle.memory_nursery.specs.Keeping.{KeepsSpawner, KeepsNursery, IsOfNursery, IsOfSpawner, IsTallied, losses_below, refused_up_to}

-- ---- positions

-- a number of the spawner at a place
pub number_at : (f : SpawnerView → ℕ) (all : List SpawnerState) (w : ℕ) (d : SpawnerState) → w < length all → slice_index (map f (map (λ s. s.spawner) all)) w ≡ f (get_or all w d).spawner
number_at f all w d low =
    get_or-map f (map (λ (s : SpawnerState). s.spawner) all) w d.spawner 0 (omega (arith, low, length-map all (λ (s : SpawnerState). s.spawner)))
    ∙ ap f (get_or-map (λ (s : SpawnerState). s.spawner) all w d d.spawner low)

-- each of the spawners' lists, and so all of them
pub all_lists : (P : Retired → Type 0) (all : List SpawnerState) → All (λ s. All P s.spawner.retired) all → All P (flat_map (λ s. s.retired) (map (λ s. s.spawner) all))
all_lists P [] each = All-nil P
all_lists P (s ∷ all) each = All-append P s.spawner.retired (flat_map (λ (v : SpawnerView). v.retired) (map (λ (s : SpawnerState). s.spawner) all))
    (All-head (λ (s : SpawnerState). All P s.spawner.retired) s all each)
    (all_lists P all (All-tail (λ (s : SpawnerState). All P s.spawner.retired) s all each))

-- a spawner that nobody lent
nothing_lent : SpawnerState
nothing_lent = record { spawner = record { worker = 0; starts = 0; faults = 0; ends = 0; retired = []; lent_as = no_mark; out = None; tells = true; plan = no_plan }; links = 0 }

-- ---- one worker

-- the spawner of a worker as it is when it is back
abbrev at_home : NurseryState → SpawnerState → ℕ → SpawnerState
at_home n s w = record { spawner = record s.spawner { worker = w; lent_as = next_mark n; plan = n.nursery.plan; out = None }; links = s.links }

is_at_home : (n : NurseryState) (s : SpawnerState) (w : ℕ) → s.spawner.worker ≡ w → s.spawner.lent_as ≡ next_mark n → s.spawner.plan ≡ n.nursery.plan → s.spawner.out ≡ None → s ≡ at_home n s w
is_at_home n s w a b c e = rw (← a, ← b, ← c, ← e) refl

-- the counts of a worker whose spawner came back, as of numbers
module _ (n : NurseryState) (w : ℕ) (s : SpawnerState) (old : IsTallied n w) (keeps : KeepsSpawner (at_home n s w)) where
  abbrev lost : List Scripted
  lost = losses_of n.nursery.plan w

  abbrev refused : List ℕ
  refused = refused_starts n.nursery.plan w

  ends_back : more_by (slice_index n.nursery.ends w) s.spawner.ends ≤ slice_index n.nursery.plan.ends w + losses_below (more_by (slice_index n.links w) s.links) lost
  ends_back = omega (arith, old.ends, keeps.ends)

  faults_back : more_by (slice_index n.nursery.faults w) s.spawner.faults ≤ slice_index n.nursery.plan.faults w + refused_up_to (more_by (slice_index n.starts w) s.spawner.starts) refused
  faults_back = omega (arith, old.faults, keeps.faults)

  numbers_back : more_by (slice_index n.nursery.starts w) s.spawner.starts < LAST →
      slice_index n.nursery.plan.starts w + more_by (slice_index n.links w) s.links + more_by (slice_index n.nursery.faults w) s.spawner.faults
      ≤ more_by (slice_index n.nursery.starts w) s.spawner.starts + slice_index n.nursery.plan.faults w
  numbers_back below = omega (arith, below, old.numbers (omega (arith, below)), keeps.numbers)

  later_back : slice_index n.nursery.plan.faults w ≤ more_by (slice_index n.nursery.faults w) s.spawner.faults
  later_back = omega (arith, old.later, old.few)

-- ---- all workers

-- as many spawners come back as were lent
pub how_many : (n : NurseryView) (all : List SpawnerState) → AreBack n (map (λ s. s.spawner) all) → length all ≡ n.count
how_many n all back = count_is (λ (s : SpawnerState). s.spawner) n all back

module _ (n : NurseryState) (all : List SpawnerState) (kept : KeepsNursery n) (back : AreBack n.nursery (map (λ s. s.spawner) all)) (each : All KeepsSpawner all) where
  abbrev new : NurseryState
  new = taken_back n all

  counted : length all ≡ n.nursery.count
  counted = how_many n.nursery all back

  -- the spawner at a place is as it was lent, and home
  home : (w : ℕ) (d : SpawnerState) → w < length all → KeepsSpawner (at_home n (get_or all w d) w)
  home w d low =
      let s : SpawnerState = get_or all w d in
      let its : s.spawner.worker ≡ w = worker_is (λ (s : SpawnerState). s.spawner) n.nursery all back w d low in
      let mark : s.spawner.lent_as ≡ next_mark n = mark_is (λ (s : SpawnerState). s.spawner) n.nursery all back w d low ∙ kept.marked back.lent in
      let out : s.spawner.out ≡ None = out_is (λ (s : SpawnerState). s.spawner) n.nursery all back w d low in
      let keeps : KeepsSpawner s = each w d low in
      subst KeepsSpawner (is_at_home n s w its mark (keeps.plan ∙ ap (λ (m : LentAs). m.plan) mark) out) keeps

  -- where a spawner came back
  at_back : (f : SpawnerView → ℕ) (counts : List ℕ) (w : ℕ) (d : SpawnerState) → length counts ≡ 64 → w < 64 → w < length all →
      slice_index (all_more_by counts (map f (map (λ s. s.spawner) all))) w ≡ more_by (slice_index counts w) (f (get_or all w d).spawner)
  at_back f counts w d size few low =
      more_at counts (map f (map (λ (s : SpawnerState). s.spawner) all)) w (omega (arith, size, few)) (omega (arith, low, length-map (map (λ (s : SpawnerState). s.spawner) all) f, length-map all (λ (s : SpawnerState). s.spawner)))
      ∙ ap (more_by (slice_index counts w)) (number_at f all w d low)

  -- and where none did
  at_none : (f : SpawnerView → ℕ) (counts : List ℕ) (w : ℕ) → length all ≤ w → slice_index (all_more_by counts (map f (map (λ s. s.spawner) all))) w ≡ slice_index counts w
  at_none f counts w past = same_at counts (map f (map (λ (s : SpawnerState). s.spawner) all)) w (omega (arith, past, length-map (map (λ (s : SpawnerState). s.spawner) all) f, length-map all (λ (s : SpawnerState). s.spawner)))

  links_back : (w : ℕ) (d : SpawnerState) → w < 64 → w < length all → slice_index new.links w ≡ more_by (slice_index n.links w) (get_or all w d).links
  links_back w d few low =
      more_at n.links (map (λ (s : SpawnerState). s.links) all) w (omega (arith, kept.link_counts, few)) (omega (arith, low, length-map all (λ (s : SpawnerState). s.links)))
      ∙ ap (more_by (slice_index n.links w)) (get_or-map (λ (s : SpawnerState). s.links) all w d 0 low)

  links_none : (w : ℕ) → length all ≤ w → slice_index new.links w ≡ slice_index n.links w
  links_none w past = same_at n.links (map (λ (s : SpawnerState). s.links) all) w (omega (arith, past, length-map all (λ (s : SpawnerState). s.links)))

  starts_back : (w : ℕ) (d : SpawnerState) → w < 64 → w < length all → slice_index new.starts w ≡ more_by (slice_index n.starts w) (get_or all w d).spawner.starts
  starts_back w d few low =
      more_at n.starts (map (λ (s : SpawnerState). s.spawner.starts) all) w (omega (arith, kept.start_counts, few)) (omega (arith, low, length-map all (λ (s : SpawnerState). s.spawner.starts)))
      ∙ ap (more_by (slice_index n.starts w)) (get_or-map (λ (s : SpawnerState). s.spawner.starts) all w d 0 low)

  starts_none : (w : ℕ) → length all ≤ w → slice_index new.starts w ≡ slice_index n.starts w
  starts_none w past = same_at n.starts (map (λ (s : SpawnerState). s.spawner.starts) all) w (omega (arith, past, length-map all (λ (s : SpawnerState). s.spawner.starts)))

  tallied_back : (w : ℕ) (d : SpawnerState) → w < 64 → w < length all → IsTallied new w
  tallied_back w d few low =
      let s : SpawnerState = get_or all w d in
      let old = kept.tallied w few in
      let keeps = home w d low in
      let ends = at_back (λ (v : SpawnerView). v.ends) n.nursery.ends w d kept.one_each.ends few low in
      let faults = at_back (λ (v : SpawnerView). v.faults) n.nursery.faults w d kept.one_each.faults few low in
      let starts = at_back (λ (v : SpawnerView). v.starts) n.nursery.starts w d kept.one_each.starts few low in
      record {
        ends = rw (ends, links_back w d few low) (ends_back n w s old keeps);
        faults = rw (faults, starts_back w d few low) (faults_back n w s old keeps);
        numbers = rw (starts, faults, links_back w d few low) (numbers_back n w s old keeps);
        later = rw faults (later_back n w s old keeps);
        few = rw faults (omega arith);
      }

  tallied_none : (w : ℕ) → w < 64 → length all ≤ w → IsTallied new w
  tallied_none w few past =
      let old = kept.tallied w few in
      let ends = at_none (λ (v : SpawnerView). v.ends) n.nursery.ends w past in
      let faults = at_none (λ (v : SpawnerView). v.faults) n.nursery.faults w past in
      let starts = at_none (λ (v : SpawnerView). v.starts) n.nursery.starts w past in
      record {
        ends = rw (ends, links_none w past) old.ends;
        faults = rw (faults, starts_none w past) old.faults;
        numbers = rw (starts, faults, links_none w past) old.numbers;
        later = rw faults old.later;
        few = rw faults old.few;
      }

  tallied_new : (w : ℕ) → w < 64 → IsTallied new w
  tallied_new w few = by_place (nat_lt w (length all)) refl
    where
      by_place : (b : Bool) → nat_lt w (length all) ≡ b → IsTallied new w
      by_place true e = tallied_back w nothing_lent few (grind (arith, nat_tests, e))
      by_place false e = tallied_none w few (grind (arith, nat_tests, e))

  -- no worker's number of links falls
  links_grow : (w : ℕ) → w < 64 → slice_index new.links w < LAST → slice_index n.links w ≤ slice_index new.links w
  links_grow w few below = by_place (nat_lt w (length all)) refl
    where
      by_place : (b : Bool) → nat_lt w (length all) ≡ b → slice_index n.links w ≤ slice_index new.links w
      by_place true e = let is = links_back w nothing_lent few (grind (arith, nat_tests, e)) in omega (arith, is, below)
      by_place false e = omega (arith, links_none w (grind (arith, nat_tests, e)))

  old_retired : (r : Retired) → IsOfNursery n r → IsOfNursery new r
  old_retired r its = record {
    worker = its.worker;
    number = λ below. let grown = links_grow r.worker its.worker below in omega (arith, grown, below, its.number (omega (arith, grown, below)));
    script = its.script;
  }

  new_retired : (w : ℕ) (d : SpawnerState) → w < length all → (r : Retired) → IsOfSpawner (at_home n (get_or all w d) w) r → IsOfNursery new r
  new_retired w d low r its =
      let few : w < 64 = omega (arith, low, counted, kept.few) in
      let links : slice_index new.links r.worker ≡ more_by (slice_index n.links w) (get_or all w d).links = ap (slice_index new.links) its.worker ∙ links_back w d few low in
      record {
        worker = omega (arith, its.worker, few);
        number = rw links its.number;
        script = its.script;
      }

  pub return_keeps : KeepsNursery new
  return_keeps = record {
    one_each = record {
      starts = length_more n.nursery.starts _ ∙ kept.one_each.starts;
      faults = length_more n.nursery.faults _ ∙ kept.one_each.faults;
      ends = length_more n.nursery.ends _ ∙ kept.one_each.ends;
    };
    start_counts = length_more n.starts _ ∙ kept.start_counts;
    link_counts = length_more n.links _ ∙ kept.link_counts;
    few = kept.few;
    marked = λ lent. absurd (cc lent);
    tallied = tallied_new;
    before = omega (arith, kept.before, length-append n.nursery.retired (flat_map (λ (v : SpawnerView). v.retired) (map (λ (s : SpawnerState). s.spawner) all)));
    retired = rw (drop-append-le n.nursery.plan.retired n.nursery.retired (flat_map (λ (v : SpawnerView). v.retired) (map (λ (s : SpawnerState). s.spawner) all)) kept.before)
        (All-append (IsOfNursery new) (drop n.nursery.plan.retired n.nursery.retired) (flat_map (λ (v : SpawnerView). v.retired) (map (λ (s : SpawnerState). s.spawner) all))
        (λ k d low. old_retired _ (kept.retired k d low))
        (all_lists (IsOfNursery new) all (λ w d low. λ k e lower. new_retired w d low _ ((home w d low).retired k e lower))));
  }
