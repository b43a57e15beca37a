-- Worked examples of walks and of what values become along them, computed by the checker.
use Rattle.std.proofs.Common.{◌≡◌, ℕ, ◌<◌, ◌-◌, List, [], ◌∷◌, refl, arith}
use Rattle.std.specs.Prelude.{sum}
use Rattle.px_base.specs.declared.TheConstants.{TOP}
use Rattle.px_base.specs.declared.graph.Read.{Read}
use Rattle.px_base.specs.ProgramNames.{components, sssp, widest}
use Rattle.px_base.specs.Programs.{bfs}
use Rattle.px_base.specs.Core.{core_form}
use Rattle.walk_terms.specs.Walks.{IsCarried, IsSourceWalk, IsWalk, carried, core_carried}

-- 1 reads 0 with the weight 5, and 2 reads 1 with the weight 3
abbrev read : ℕ → ℕ → Read
read u w = record { source = u; weight = w }

abbrev rows : List (List Read)
rows = [] ∷ (read 0 5 ∷ []) ∷ (read 1 3 ∷ []) ∷ []

walk : IsWalk rows 0 2 (5 ∷ 3 ∷ [])
walk = (1, (0, omega arith, refl), (2, (0, omega arith, refl), refl))

empty_walk : IsWalk rows 2 2 []
empty_walk = refl

from_source : IsSourceWalk rows (0 ∷ []) 2 (5 ∷ 3 ∷ [])
from_source = (0, refl, walk)

-- a walk doesn't go back over a read
no_way_back : IsWalk rows 1 0 (5 ∷ []) → ⊥
no_way_back (next, (k, below, is), here) = (let none : k < 0 = rw here at below in omega arith)

-- ---- what values become along the walk

reads : carried bfs 0 (5 ∷ 3 ∷ []) ≡ 2
reads = refl

weights : carried sssp 0 (5 ∷ 3 ∷ []) ≡ sum (5 ∷ 3 ∷ [])
weights = refl

least_weight : carried widest TOP (5 ∷ 3 ∷ []) ≡ 3
least_weight = refl

own_id : carried components 7 (5 ∷ 3 ∷ []) ≡ 7
own_id = refl

-- in core values the least is best, so the widest walk counts down from TOP
core_least_weight : core_carried (core_form widest) 0 (5 ∷ 3 ∷ []) ≡ TOP - 3
core_least_weight = refl

-- the cost 8 of the walk is brought to 2 from the start value of 0 by two reads
brought : IsCarried (core_form sssp) rows (0 ∷ TOP ∷ TOP ∷ []) 2 2 8
brought = record { from = 0; weights = 5 ∷ 3 ∷ []; inside = omega arith; walk = walk; short = omega arith; is = refl }
