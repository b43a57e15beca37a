use Rattle.std.proofs.Common.{◌≡◌, ◌∙◌, ◌++◌, refl, take, drop, true}
use Rattle.px_base.specs.ValueSteps.{renewed_masters}
use Rattle.placed_parts.specs.Places.{master_count}
use Rattle.worker_world.proofs.Placing.{HasHalves, renewed_halves}
use Rattle.worker_world.proofs.Renewing.{HasRenewed, listed_renewed}
use Rattle.worker_world.proofs.known.Known.renew.Goals as goal

pub returns-then-self : goal.returns-then-self
returns-then-self c =
    let part = c.args.part.now in
    let m = master_count part in
    let values = c.args.self.now.values.items in
    let next = c.args.self.now.next.items in
    let is : c.renew_masters.new.next.items ≡ renewed_masters part c.args.core.now (take m values) (drop m values) ++ drop m next = rw c.as_slice.ensures.value at c.renew_masters.ensures.renewed in
    let made : HasHalves part (renewed_masters part c.args.core.now (take m values) (drop m values)) (drop m next) c.renew_masters.new.next.items =
    renewed_halves part c.args.core.now (take m values) (drop m values) next c.renew_masters.new.next.items c.requires.fits c.requires.placed.next is in
    record {
      placed = record {
        readers = c.requires.placed.readers;
        table = c.requires.placed.table;
        values = c.requires.placed.values;
        next = made.count;
        marks = c.requires.placed.marks;
        stamps = rw c.renew_masters.ensures.stamps c.requires.placed.stamps;
      };
      values = refl;
      next = made.masters;
      kept = made.mirrors;
      listed = λ off k below none. (let on : c.args.self.now.due.all ≡ true = c.if-self.true in cc);
    }

pub returns-else-self : goal.returns-else-self
returns-else-self c =
    let part = c.args.part.now in
    let due = c.args.self.now.due in
    let made : HasRenewed part c.args.core.now due c.args.self.now.values.items c.args.self.now.next.items c.renew_listed.new.next.items =
    listed_renewed part c.args.core.now due c.args.self.now.values.items c.args.self.now.next.items c.renew_listed.new.next.items c.requires.fits c.requires.placed.next c.renew_listed.ensures.size c.if-self.false
    due.listed c.requires.placed.marks (c.requires.settled.level c.if-self.false) c.requires.settled.each
    (rw (c.as_slice-else-self.ensures.value, c.as_slice-else-self-2.ensures.value) at c.renew_listed.ensures.renewed)
    (rw (c.as_slice-else-self-2.ensures.value) at c.renew_listed.ensures.kept) in
    record {
      placed = record {
        readers = c.requires.placed.readers;
        table = c.requires.placed.table;
        values = c.requires.placed.values;
        next = c.renew_listed.ensures.size ∙ c.requires.placed.next;
        marks = c.requires.placed.marks;
        stamps = rw c.renew_listed.ensures.stamps c.requires.placed.stamps;
      };
      values = refl;
      next = made.masters;
      kept = made.mirrors;
      listed = λ off. made.listed;
    }
