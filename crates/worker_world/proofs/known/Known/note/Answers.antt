use Rattle.std.proofs.Common.{◌∙◌, take}
use Rattle.placed_parts.specs.Places.{master_count}
use Rattle.worker_world.specs.Placed.{mirrors_after}
use Rattle.worker_world.proofs.Placing.{HasHalves, put_halves, updated_values}
use Rattle.worker_world.proofs.Keeping.{settled_updated}
use Rattle.worker_world.proofs.known.Known.note.Goals as goal

-- the values after the updates
updated : (c : goal.After-renew-arg-1) → HasHalves c.args.part.now (take (master_count c.args.part.now) c.args.self.now.values.items) (mirrors_after c.args.part.now c.args.updates.now c.args.self.now.values.items) c.update.new.self.values.items
updated c = put_halves c.args.part.now c.args.updates.now c.args.self.now.values.items c.update.new.self.values.items c.requires.placed.values c.update.ensures.values

pub renew-requires-clause-placed : goal.renew-requires-clause-placed
renew-requires-clause-placed c =
    let tables = c.update.ensures.tables in
    record {
      readers = rw tables.readers c.requires.placed.readers;
      table = rw tables.table c.requires.placed.table;
      values = (updated c).count;
      next = rw c.update.ensures.next c.requires.placed.next;
      marks = tables.marks ∙ c.requires.placed.marks;
      stamps = rw tables.stamps c.requires.placed.stamps;
    }

pub renew-requires-clause-settled : goal.renew-requires-clause-settled
renew-requires-clause-settled c = record {
  level = λ off. rw (c.update.ensures.next, (updated c).masters) (c.requires.settled.level (c.update.ensures.stays.all off));
  each = λ k inside not. settled_updated c.args.part.now c.args.core.now c.args.self.now.readers c.update.new.self.due c.args.self.now.values.items c.update.new.self.values.items k c.requires.fits inside c.requires.placed.readers
      c.update.ensures.told (updated c).masters not (c.requires.settled.each k inside (c.update.ensures.stays.kept k not));
}

pub renew-requires-clause-values : goal.renew-requires-clause-values
renew-requires-clause-values c = rw c.update.ensures.values (updated_values c.args.part.now c.args.updates.now c.args.self.now.values.items c.requires.placed.values c.requires.carried c.requires.values)
