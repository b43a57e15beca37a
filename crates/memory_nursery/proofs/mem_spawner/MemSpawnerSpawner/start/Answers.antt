use Rattle.std.proofs.Common.{◌≡◌, ◌<◌, ◌^◌, ◌∙◌, true, ap, sym, subst, arith, None}
use Rattle.memory_nursery.specs.States.{SpawnerState, next_start, refuses_next}
use Rattle.memory_nursery.specs.Views.{spawner_view}
use Rattle.memory_nursery.proofs.Spawning.{refused_keeps, started_keeps, unstarted_keeps}
use Rattle.memory_nursery.proofs.mem_spawner.MemSpawnerSpawner.start.Goals as goal

pub invariant_of-self : goal.invariant_of-self
invariant_of-self g c =
    let none : (spawner_view c.self.inside).spawner.out ≡ None = ap (λ (s : SpawnerState). s.spawner.out) c.self.view_is ∙ c.requires.none_out in
    let listed : refuses_next (spawner_view c.self.inside) ≡ true = ap refuses_next c.self.view_is ∙ (sym c.refuses_next.ensures.listed ∙ c.if-refuses_next.true) in
    let early : next_start (spawner_view c.self.inside) < 2 ^ 32 = subst (λ (s : SpawnerState). next_start s < 2 ^ 32) (sym c.self.view_is) (c.refuses_next.ensures.early c.if-refuses_next.true) in
    record {
      keeps = rw c.next_count-self-inside.ensures (refused_keeps (spawner_view c.self.inside) c.self.invariant.keeps none listed early);
      losses = c.self.invariant.losses;
      refused = c.self.invariant.refused;
      starts = c.self.invariant.starts;
      links = c.self.invariant.links;
      room = c.self.invariant.room;
    }

pub invariant_of-self-in_err-make_room : goal.invariant_of-self-in_err-make_room
invariant_of-self-in_err-make_room g c =
    let none : (spawner_view c.self.inside).spawner.out ≡ None = ap (λ (s : SpawnerState). s.spawner.out) c.self.view_is ∙ c.requires.none_out in
    record {
      keeps = rw c.make_room.ensures.items (unstarted_keeps (spawner_view c.self.inside) c.self.invariant.keeps none);
      losses = c.self.invariant.losses;
      refused = c.self.invariant.refused;
      starts = c.self.invariant.starts;
      links = c.self.invariant.links;
      room = λ some. omega (arith, c.self.invariant.room some, c.make_room.ensures.len, c.make_room.ensures.capacity);
    }

pub invariant_of-self-in_err-world : goal.invariant_of-self-in_err-world
invariant_of-self-in_err-world g c =
    let none : (spawner_view c.self.inside).spawner.out ≡ None = ap (λ (s : SpawnerState). s.spawner.out) c.self.view_is ∙ c.requires.none_out in
    record {
      keeps = rw c.make_room.ensures.items (unstarted_keeps (spawner_view c.self.inside) c.self.invariant.keeps none);
      losses = c.self.invariant.losses;
      refused = c.self.invariant.refused;
      starts = c.self.invariant.starts;
      links = c.self.invariant.links;
      room = λ some. omega (arith, c.self.invariant.room some, c.make_room.ensures.len, c.make_room.ensures.capacity);
    }

pub invariant_of-self-in_err-link : goal.invariant_of-self-in_err-link
invariant_of-self-in_err-link g c =
    let none : (spawner_view c.self.inside).spawner.out ≡ None = ap (λ (s : SpawnerState). s.spawner.out) c.self.view_is ∙ c.requires.none_out in
    record {
      keeps = rw c.make_room.ensures.items (unstarted_keeps (spawner_view c.self.inside) c.self.invariant.keeps none);
      losses = c.self.invariant.losses;
      refused = c.self.invariant.refused;
      starts = c.self.invariant.starts;
      links = c.self.invariant.links;
      room = λ some. omega (arith, c.self.invariant.room some, c.make_room.ensures.len, c.make_room.ensures.capacity);
    }

pub invariant_of-self-2 : goal.invariant_of-self-2
invariant_of-self-2 g c =
    let none : (spawner_view c.self.inside).spawner.out ≡ None = ap (λ (s : SpawnerState). s.spawner.out) c.self.view_is ∙ c.requires.none_out in
    record {
      keeps = rw (c.make_room.ensures.items, c.saturating_add-number.ensures, c.self.invariant.links) (started_keeps (spawner_view c.self.inside) c.self.invariant.keeps none);
      losses = c.self.invariant.losses;
      refused = c.self.invariant.refused;
      starts = c.self.invariant.starts;
      links = c.self.invariant.links;
      room = λ _. c.in_ok-make_room.ensures.room;
    }
