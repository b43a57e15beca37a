use Rattle.std.proofs.Common.{◌∙◌, length, ap, sym}
use Rattle.std.specs.Prelude.{sum_by}
use Rattle.list_laws.proofs.Sums.{none_listed}
use Rattle.count_world.proofs.lists.list_again.Goals as goal

pub returns-else-fresh-clause-lists : goal.returns-else-fresh-clause-lists
returns-else-fresh-clause-lists c = rw c.if-fresh.false (λ f. ap (λ ks. sum_by f ks) (c.clear.ensures.items ∙ sym (none_listed (length c.args.alive.now))))
