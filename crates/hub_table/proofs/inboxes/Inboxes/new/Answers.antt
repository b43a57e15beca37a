use Rattle.std.proofs.Common.{refl}
use Rattle.hub_table.proofs.Making.{opening_fits}
use Rattle.hub_table.proofs.inboxes.Inboxes.new.Goals as goal

pub invariant_of-result : goal.invariant_of-result
invariant_of-result c = rw (c.in_ok-cuts.ensures, c.of.ensures)
    (opening_fits c.args.cuts.now.ends c.args.routes.now.to c.args.counting _ _ c.requires.cuts c.requires.routes c.in_ok-inboxes.ensures.tables c.in_ok-inboxes.ensures.mails)

pub returns : goal.returns
returns c = rw (c.in_ok-cuts.ensures, c.of.ensures, c.in_ok-inboxes.ensures.mails) refl
