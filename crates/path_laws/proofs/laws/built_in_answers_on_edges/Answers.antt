use Rattle.path_laws.proofs.OnEdges.{bfs_on_edges, components_on_edges, sssp_on_edges, widest_on_edges}
use Rattle.path_laws.proofs.Levels.{levels_on_edges}
use Rattle.path_laws.proofs.laws.built_in_answers_on_edges.Goals as goal

pub returns-clause-bfs : goal.returns-clause-bfs
returns-clause-bfs c = bfs_on_edges

pub returns-clause-sssp : goal.returns-clause-sssp
returns-clause-sssp c = sssp_on_edges

pub returns-clause-widest : goal.returns-clause-widest
returns-clause-widest c = widest_on_edges

pub returns-clause-components : goal.returns-clause-components
returns-clause-components c = components_on_edges

pub returns-clause-levels : goal.returns-clause-levels
returns-clause-levels c = levels_on_edges
