use Rattle.std.proofs.Common.{◌∙◌, length, ap, sym}
use Rattle.std.specs.Prelude.{◌==◌, not}
use Rattle.count_world.specs.Told.{told_updates}
use Rattle.count_world.proofs.Stepped.{stepped, put_back, ready_again}
use Rattle.count_world.proofs.known.Known.step.Goals as goal

pub returns-in-Ok-clause-ok : goal.returns-in-Ok-clause-ok
returns-in-Ok-clause-ok c =
    let part = c.args.part.now in
    let noted = c.prepare.new.self in
    stepped part c.args.fresh c.args.updates.now c.args.self.now noted c.commit.new.self (not c.is_empty.result) c.in-Ok.told.items c.requires.ready.tables.alive c.prepare.ensures
    c.commit.ensures.again c.commit.ensures.readers c.commit.ensures.gone c.commit.ensures.alive c.commit.ensures.counts
    (ap not (c.is_empty.ensures ∙ ap (λ members. length members == 0) c.as_slice-in-Ok.ensures.value))
    (c.in-Ok.ensures.updates ∙ ap (λ mirrors. told_updates mirrors noted.tally.times.items) c.as_slice.ensures)

pub returns-in-Err-clause-kept_counts : goal.returns-in-Err-clause-kept_counts
returns-in-Err-clause-kept_counts c =
    let n = c.prepare.ensures in
    put_back c.args.part.now c.args.fresh c.args.updates.now c.args.self.now c.prepare.new.self c.put_back.new.self.census.counts.items n
    (n.census.census.counts ∙ ap length n.census.alive ∙ sym c.requires.ready.census.counts) c.put_back.ensures.size c.put_back.ensures.counts

pub returns-in-Err-clause-ready : goal.returns-in-Err-clause-ready
returns-in-Err-clause-ready c =
    let part = c.args.part.now in
    let n = c.prepare.ensures in
    let noted = c.prepare.new.self in
    let back = c.put_back.ensures in
    ready_again part c.args.fresh c.args.updates.now c.args.self.now noted c.put_back.new.self c.requires.ready n
    (put_back part c.args.fresh c.args.updates.now c.args.self.now noted c.put_back.new.self.census.counts.items n (n.census.census.counts ∙ ap length n.census.alive ∙ sym c.requires.ready.census.counts) back.size back.counts)
    back.dying back.gone back.needed back.alive back.saved back.again back.readers back.places
    (rw back.tally c.wipe.ensures.clear) (ap (λ tally. length tally.times.items) back.tally ∙ c.wipe.ensures.size ∙ ap length c.updates-told.ensures.times)
