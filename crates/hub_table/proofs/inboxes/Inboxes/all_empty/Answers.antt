use Rattle.std.proofs.Common.{◌∙◌}
use Rattle.hub_table.proofs.Written.{none_waits}
use Rattle.hub_table.proofs.inboxes.Inboxes.all_empty.Goals as goal

pub returns : goal.returns
returns c = rw (← c.self.view_is) (rw c.deref.ensures.value at c.all_empty.ensures ∙ none_waits c.self.inside.inboxes.items)
