-- What a spawner in memory keeps, from one call to the next.
use Rattle.std.proofs.Common.{◌≡◌, ℕ, ◌+◌, ◌^◌, ◌<◌, ◌≤◌, true, false, Bool, List, [], ◌∷◌, ◌++◌, length, refl, ap, subst, arith, Option, None, Some}
use Rattle.std.specs.Prelude.{All, ◌==◌, nat_lt, count_by}
use Rattle.std.proofs.lemmas.Bool.Decides.{nat_tests}
use Rattle.std.proofs.lemmas.List.Elements.{All-push}
use Rattle.px_base.specs.Worlds.{World}
use Rattle.px_io.specs.Causes.{LAST, one_more}
use Rattle.link_trait.specs.declared.scripts.Moment.{Moment}
use Rattle.link_trait.specs.declared.scripts.Scripted.{Scripted}
use Rattle.link_trait.specs.Counts.{more_by}
use Rattle.link_trait.specs.Plans.{LinkMark}
use Rattle.link_trait.specs.Links.{LinkView}
use Rattle.link_trait.specs.Spawners.{Retired, IsLinkOf, discarded, kept_of}
use Rattle.memory_nursery.specs.Scripts.{IsAhead, losses_of, moments_of, refused_starts}
use Rattle.memory_nursery.specs.States.{SpawnerState, next_link, next_start, refuses_next, with_link}
use Rattle.memory_nursery.specs.Keeping.{KeepsLink, KeepsSpawner, IsLast, IsOfSpawner, first_at_large, links_before, losses_below, starts_so_far}
use Rattle.memory_nursery.proofs.Counted.{listed_counts, losses_more, moments_counted, refused_grows, refused_more}

-- ---- a start

module _ (s : SpawnerState) (kept : KeepsSpawner s) (none_out : s.spawner.out ≡ None) where
  abbrev refused_state : SpawnerState
  refused_state = record s { spawner = record s.spawner { starts = s.spawner.starts + 1; faults = one_more s.spawner.faults } }

  abbrev unstarted_state : SpawnerState
  unstarted_state = record s { spawner = record s.spawner { starts = s.spawner.starts + 1 } }

  -- none is out, so the next one is the first that isn't back
  ends_now : s.spawner.ends + losses_below (links_before s) (losses_of s.spawner.plan s.spawner.worker) ≤ losses_below (next_link s) (losses_of s.spawner.plan s.spawner.worker)
  ends_now = subst (λ (o : Option LinkMark). s.spawner.ends + losses_below (links_before s) (losses_of s.spawner.plan s.spawner.worker)
      ≤ losses_below (first_at_large (next_link s) o) (losses_of s.spawner.plan s.spawner.worker)) none_out kept.ends

  abbrev starts : List ℕ
  starts = refused_starts s.spawner.plan s.spawner.worker

  pub refused_keeps : refuses_next s ≡ true → next_start s < 2 ^ 32 → KeepsSpawner refused_state
  refused_keeps listed early = record {
    plan = kept.plan;
    few_links = kept.few_links;
    few_starts = kept.few_starts;
    ends = kept.ends;
    faults = rw next (omega (arith, kept.faults, refused_more (starts_so_far s) starts, subst (λ (n : ℕ). 1 ≤ count_by (λ (start : ℕ). start == n) starts) next (listed_counts (next_start s) starts listed)));
    numbers = omega (arith, kept.numbers);
    retired = λ k d low. let h = kept.retired k d low in record { worker = h.worker; number = h.number; script = h.script };
    out = rw none_out tt;
  }
    where
      next : next_start s ≡ starts_so_far s + 1
      next = omega (arith, early)

  pub unstarted_keeps : KeepsSpawner unstarted_state
  unstarted_keeps = record {
    plan = kept.plan;
    few_links = kept.few_links;
    few_starts = kept.few_starts;
    ends = kept.ends;
    faults = omega (arith, kept.faults, refused_grows (starts_so_far s) (starts_so_far unstarted_state) (refused_starts s.spawner.plan s.spawner.worker) (omega arith));
    numbers = omega (arith, kept.numbers);
    retired = λ k d low. let h = kept.retired k d low in record { worker = h.worker; number = h.number; script = h.script };
    out = rw none_out tt;
  }

  pub started_keeps : KeepsSpawner (with_link s)
  started_keeps = record {
    plan = kept.plan;
    few_links = kept.few_links;
    few_starts = kept.few_starts;
    ends = ends_now;
    faults = unstarted_keeps.faults;
    numbers = omega (arith, kept.numbers);
    retired = λ k d low. let h = kept.retired k d low in record { worker = h.worker; number = λ below. omega (arith, h.number (omega (arith, below)), below); script = h.script };
    out = (refl, omega (arith, kept.few_links), omega arith);
  }

-- ---- a link that comes back

module _ (s : SpawnerState) (link : LinkView) (kept : KeepsSpawner s) (its : IsLinkOf s.spawner link) (keeps : KeepsLink link (moments_of link.mark.plan link.worker link.mark.number)) where
  last : IsLast s (Some link.mark)
  last = subst (IsLast s) its.mark kept.out

  its_losses : losses_of link.mark.plan link.worker ≡ losses_of s.spawner.plan s.spawner.worker
  its_losses = rw (last.0, its.worker) refl

  abbrev losses : List Scripted
  losses = losses_of s.spawner.plan s.spawner.worker

  -- its ends are scripted for its number
  its_ends : link.ends ≤ count_by (λ s. s.link == link.mark.number) losses
  its_ends = omega (arith, keeps.ends, moments_counted link.mark.number (losses_of link.mark.plan link.worker), ap (λ all. count_by (λ s. s.link == link.mark.number) all) its_losses)

  ends_before : s.spawner.ends + losses_below (links_before s) losses ≤ losses_below link.mark.number losses
  ends_before = subst (λ (o : Option LinkMark). s.spawner.ends + losses_below (links_before s) losses ≤ losses_below (first_at_large (next_link s) o) losses) its.mark kept.ends

  all_ends : more_by s.spawner.ends link.ends + losses_below (links_before s) losses ≤ losses_below (next_link s) losses
  all_ends = by_room (nat_lt link.mark.number LAST) refl
    where
      by_room : (b : Bool) → nat_lt link.mark.number LAST ≡ b → more_by s.spawner.ends link.ends + losses_below (links_before s) losses ≤ losses_below (next_link s) losses
      by_room true e =
          let room : link.mark.number < LAST = grind (arith, nat_tests, e) in
          let next : next_link s ≡ link.mark.number + 1 = omega (arith, last.1, room) in
          rw next (omega (arith, its_ends, ends_before, losses_more link.mark.number losses))
      by_room false e =
          let full : LAST ≤ link.mark.number = grind (arith, nat_tests, e) in
          let next : next_link s ≡ link.mark.number = omega (arith, last.1, last.2, full) in
          let none : link.ends ≤ 0 = subst (λ (moments : List Moment). link.ends ≤ length moments) (keeps.late (omega (arith, full))) keeps.ends in
          rw next (omega (arith, none, ends_before))

  pub back_keeps : KeepsSpawner (record s { spawner = discarded s.spawner link })
  back_keeps = record {
    plan = kept.plan;
    few_links = kept.few_links;
    few_starts = kept.few_starts;
    ends = all_ends;
    faults = kept.faults;
    numbers = kept.numbers;
    retired = λ k d low. let h = kept.retired k d low in record { worker = h.worker; number = h.number; script = h.script };
    out = tt;
  }

  -- what is kept of the link is as the link was
  its_record : (peer : Option World) (r : Retired) → kept_of link peer ≡ r ∷ [] → (w : World) × (record { worker = link.worker; mark = link.mark; world = w; calls = link.calls; reports = link.reports } ≡ r)
  its_record None r e = absurd (cc e)
  its_record (Some w) r e = (w, cc e)

  with_record : (r : Retired) → IsOfSpawner s r → KeepsSpawner (record s { spawner = record (discarded s.spawner link) { retired = s.spawner.retired ++ r ∷ [] } })
  with_record r its_own = record {
    plan = kept.plan;
    few_links = kept.few_links;
    few_starts = kept.few_starts;
    ends = all_ends;
    faults = kept.faults;
    numbers = kept.numbers;
    retired = All-push (IsOfSpawner (record s { spawner = record (discarded s.spawner link) { retired = s.spawner.retired ++ r ∷ [] } })) s.spawner.retired r
        (λ k d low. let h = kept.retired k d low in record { worker = h.worker; number = h.number; script = h.script })
        (record { worker = its_own.worker; number = its_own.number; script = its_own.script });
    out = tt;
  }

  its_moments : moments_of link.mark.plan link.worker link.mark.number ≡ moments_of s.spawner.plan link.worker link.mark.number
  its_moments = rw last.0 refl

  pub retired_keeps : (r : Retired) → kept_of link link.peer ≡ r ∷ [] → KeepsSpawner (record s { spawner = record (discarded s.spawner link) { retired = s.spawner.retired ++ r ∷ [] } })
  retired_keeps r e = with_record r (subst (IsOfSpawner s) (its_record link.peer r e).1 (record {
    worker = its.worker;
    number = λ below. omega (arith, last.1, below);
    script = subst (λ (moments : List Moment). All (IsAhead link.calls link.reports) moments) its_moments keeps.ahead;
  }))
