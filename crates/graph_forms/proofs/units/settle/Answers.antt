use Rattle.graph_forms.proofs.Members.{set_of_sorted}
use Rattle.graph_forms.proofs.units.settle.Goals as goal

pub returns-clause-set : goal.returns-clause-set
returns-clause-set c = set_of_sorted _ _ _ c.sort_unstable.ensures.permutation c.sort_unstable.ensures.sorted c.dedup.ensures.filtered
