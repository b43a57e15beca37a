use Rattle.std.proofs.Common.{refl}
use Rattle.path_laws.proofs.Distances.{bfs_is, sssp_is}
use Rattle.path_laws.proofs.LeastIds.{components_are}
use Rattle.path_laws.proofs.Widths.{widest_is}
use Rattle.path_laws.proofs.Levels.{levels_are}
use Rattle.path_laws.proofs.laws.built_in_answers.Goals as goal

pub returns-clause-names : goal.returns-clause-names
returns-clause-names c = (refl, refl, refl, refl, refl)

pub returns-clause-bfs : goal.returns-clause-bfs
returns-clause-bfs c = bfs_is

pub returns-clause-sssp : goal.returns-clause-sssp
returns-clause-sssp c = sssp_is

pub returns-clause-widest : goal.returns-clause-widest
returns-clause-widest c = widest_is

pub returns-clause-components : goal.returns-clause-components
returns-clause-components c = components_are

pub returns-clause-levels : goal.returns-clause-levels
returns-clause-levels c = levels_are
