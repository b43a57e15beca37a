use Rattle.std.proofs.Common.{rules, arith, ◌≡◌, ◌∙◌, length, take, drop, ap, sym}
use Rattle.px_base.proofs.WorldsKeep.{updated_fit, renewed_fit}
use Rattle.px_base.specs.ValueSteps.{announcements}
use Rattle.px_base.specs.Worlds.{is_fresh}
use Rattle.placed_parts.proofs.Placing.{mirror_count}
use Rattle.worker_world.proofs.Placing.{all_in_both}
use Rattle.worker_world.proofs.Keeping.{settled_stepped}
use Rattle.worker_world.proofs.Taken.{step_made, put_in_force, still_by_place}
use Rattle.placed_parts.specs.Places.{master_count}
use Rattle.worker_world.specs.Placed.{mirrors_after}
use Rattle.worker_world.specs.Views.{values_of}
use Rattle.worker_world.proofs.value_world.ValueWorld.renew.Goals as goal

pub find_places-found-requires-clause-few : goal.find_places-found-requires-clause-few
find_places-found-requires-clause-few c = omega (arith, ap length c.mirrors-mirrors.ensures, mirror_count c.self.inside.part c.self.invariant.world.fits.part)

pub note-changed-requires-clause-values : goal.note-changed-requires-clause-values
note-changed-requires-clause-values c = all_in_both (master_count c.self.inside.part) c.self.inside.known.values.items c.self.invariant.world.fits.masters.in_range c.self.invariant.world.fits.mirrors.in_range

pub invariant_of-self-2 : goal.invariant_of-self-2
invariant_of-self-2 c =
    let part = c.self.inside.part in
    let core = c.self.inside.core in
    let before = c.self.inside.known.values.items in
    let noted = c.note-changed.ensures.noted in
    let made = put_in_force part core c.args.updates.now c.self.inside.known c.note-changed.new.self c.commit.new.self c.self.invariant.level noted c.commit.ensures.values in
    let mirrors : drop (master_count part) c.commit.new.self.values.items ≡ drop (master_count part) c.note-changed.new.self.values.items = made.mirrors ∙ sym noted.mirrors in
    record {
      world = record {
        fits = record {
          part = c.self.invariant.world.fits.part;
          weights = c.self.invariant.world.fits.weights;
          masters = rw made.masters (renewed_fit part core (take (master_count part) before) (mirrors_after part c.args.updates.now before) (omega (arith, c.self.invariant.world.reads)) c.self.invariant.world.fits.part);
          mirrors = rw made.mirrors (updated_fit part.mirrors c.args.updates.now (length part.mirrors) (drop (master_count part) before) c.requires.values c.self.invariant.world.fits.mirrors);
        };
        reads = c.self.invariant.world.reads;
      };
      placed = still_by_place part core c.note-changed.new.self c.commit.new.self noted.placed c.commit.ensures.tables made.count c.commit.ensures.size;
      level = c.commit.ensures.next;
      settled = record {
        level = λ off. ap (take (master_count part)) (c.commit.ensures.level off);
        each = λ k inside not. settled_stepped part core c.note-changed.new.self.readers c.commit.new.self.due c.note-changed.new.self.values.items c.commit.new.self.values.items k c.self.invariant.world.fits.part inside noted.placed.readers
            c.commit.ensures.told mirrors (rw (noted.masters, noted.mirrors) made.masters) not;
      };
      chunks = c.self.invariant.chunks;
    }

pub returns-clause-ok : goal.returns-clause-ok
returns-clause-ok c =
    let part = c.self.inside.part in
    let count = master_count part in
    let before = c.self.inside.known.values.items in
    let after = c.commit.new.self.values.items in
    let noted = c.note-changed.ensures.noted in
    let made = put_in_force part c.self.inside.core c.args.updates.now c.self.inside.known c.note-changed.new.self c.commit.new.self c.self.invariant.level noted c.commit.ensures.values in
    let fresh = is_fresh c.self.inside.epoch c.args.epoch in
    rw (← c.self.view_is)
    (step_made (values_of c.self.inside) c.args.epoch c.args.round c.args.updates.now (drop count after) (take count after) c.note-changed.result c.from_vec.result (search rules) (search rules)
    made.mirrors
    (rw made.mirrors made.masters)
    (rw made.masters c.note-changed.ensures.changed)
    (c.from_vec.ensures ∙ c.in-Ok.ensures
    ∙ ap (λ values. announcements fresh part values (take count c.note-changed.new.self.next.items)) noted.masters
    ∙ ap (λ values. announcements fresh part (take count before) values) (noted.next ∙ sym made.masters)))
