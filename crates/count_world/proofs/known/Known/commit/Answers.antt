use Rattle.std.proofs.Common.{◌∙◌, length, ap, refl, arith}
use Rattle.std.specs.Vec.{vec_capacity}
use Rattle.count_world.specs.Sets.{is_dying, without}
use Rattle.list_laws.proofs.Sums.{listed_inside}
use Rattle.count_world.proofs.Lowered.{buried, without_size}
use Rattle.count_world.proofs.known.Known.commit.Goals as goal

pub wipe_at-requires : goal.wipe_at-requires
wipe_at-requires c =
    let census = c.args.self.now.census in
    rw (c.as_slice-gone.ensures.value, c.swap.ensures.y_after) (listed_inside (length census.alive.items) (is_dying census.alive.items census.counts.items census.needed) census.dying.items c.requires.census.lists)

pub take_off-requires-clause-members : goal.take_off-requires-clause-members
take_off-requires-clause-members c =
    let census = c.args.self.now.census in
    let inside = listed_inside (length census.alive.items) (is_dying census.alive.items census.counts.items census.needed) census.dying.items c.requires.census.lists in
    rw (c.as_slice-gone.ensures.value, c.swap.ensures.y_after) (λ k d below. omega (arith, inside k d below, ap length c.wipe_at.ensures, without_size c.as_slice-gone.result.now census.alive.items))

pub take_off-requires-clause-masters : goal.take_off-requires-clause-masters
take_off-requires-clause-masters c =
    let census = c.args.self.now.census in
    rw (ap length c.wipe_at.ensures ∙ without_size c.as_slice-gone.result.now census.alive.items) c.requires.masters

pub take_off-requires-clause-census : goal.take_off-requires-clause-census
take_off-requires-clause-census c =
    let census = c.args.self.now.census in
    buried census (record { needed = census.needed; alive = c.wipe_at.new.items; counts = census.counts; dying = c.clear.new.self }) c.requires.census refl
    (c.wipe_at.ensures ∙ ap (λ members. without members census.alive.items) (c.as_slice-gone.ensures.value ∙ ap (λ list. list.items) c.swap.ensures.y_after)) refl c.clear.ensures.items (omega (arith, c.clear.ensures.capacity, ap (λ list. vec_capacity list) c.swap.ensures.x_after, c.requires.room))

pub returns-clause-tables : goal.returns-clause-tables
returns-clause-tables c = λ part tables.
    (let census = c.args.self.now.census in
    record {
      alive = ap length c.take_off.ensures.kept.alive ∙ ap length c.wipe_at.ensures ∙ without_size c.as_slice-gone.result.now census.alive.items ∙ tables.alive;
      readers = tables.readers;
      places = tables.places;
      again = tables.again;
      gone = omega (arith, ap (λ list. vec_capacity list) c.swap.ensures.y_after, c.requires.census.room, tables.alive);
      saved = tables.saved;
      times = tables.times;
    })
