use Rattle.path_laws.proofs.InTexts.{bfs_says, components_say, levels_say, sssp_says, widest_says}
use Rattle.path_laws.proofs.laws.built_in_texts.Goals as goal

pub returns-clause-bfs : goal.returns-clause-bfs
returns-clause-bfs c = bfs_says

pub returns-clause-sssp : goal.returns-clause-sssp
returns-clause-sssp c = sssp_says

pub returns-clause-widest : goal.returns-clause-widest
returns-clause-widest c = widest_says

pub returns-clause-components : goal.returns-clause-components
returns-clause-components c = components_say

pub returns-clause-levels : goal.returns-clause-levels
returns-clause-levels c = levels_say
