use Rattle.std.proofs.Common.{rules, ◌∙◌, refl}
use Rattle.count_world.specs.Noted.{counts_read}
use Rattle.count_world.specs.Views.{counting_of}
use Rattle.px_base.specs.Worlds.{is_fresh}
use Rattle.count_world.proofs.Counted.{step_made}
use Rattle.count_world.proofs.world.CountWorld.count.Goals as goal

pub returns-clause-ok : goal.returns-clause-ok
returns-clause-ok c =
    let part = c.self.inside.part in
    let old = c.self.inside.known in
    let after = c.step.new.self in
    let step = c.in_ok-changed.ensures.ok in
    let fresh = is_fresh c.self.inside.epoch c.args.epoch in
    rw (← c.self.view_is, c.in_ok-changed.ensures.needed)
    (step_made (counting_of c.self.inside) after.readers c.args.epoch c.args.round c.args.updates.now after.again.items after.gone.items
    (counts_read part fresh c.args.updates.now after.readers after.again.items old.census.counts.items) after.census.alive.items after.census.counts.items c.in_ok-changed.changed c.from_vec.result
    c.self.invariant.world c.in_ok-changed.ensures.ready.tables.readers (search rules) (search rules)
    step.again refl step.gone step.alive step.counts step.some
    (c.from_vec.ensures ∙ step.tells))
