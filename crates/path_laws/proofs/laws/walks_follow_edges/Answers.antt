use Rattle.path_laws.proofs.OnEdges.{on_chains, on_paths}
use Rattle.path_laws.proofs.laws.walks_follow_edges.Goals as goal

pub returns-clause-given : goal.returns-clause-given
returns-clause-given c = on_paths

pub returns-clause-simple : goal.returns-clause-simple
returns-clause-simple c = on_chains
