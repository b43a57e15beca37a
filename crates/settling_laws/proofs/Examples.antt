-- What has settled after so many rounds of small jobs, computed by the checker.
use Rattle.std.proofs.Common.{◌≡◌, ℕ, zero, suc, ◌-◌, true, false, List, [], ◌∷◌, refl, arith, lit≤}
use Rattle.std.proofs.lemmas.List.Elements.{All-from_recursion}
use Rattle.px_base.specs.declared.TheConstants.{TOP}
use Rattle.px_base.specs.Core.{core_form}
use Rattle.px_base.proofs.GraphA.{from, kcore}
use Rattle.px_base.proofs.ExamplesWorlds.{square_rows, ones}
use Rattle.consistent_solver.specs.CoreLists.{renewed_times}
use Rattle.hub_terms.specs.Jobs.{Job}
use Rattle.settling_laws.specs.Settling.{last_settling, IsLowBy, IsShallow, IsGathered, IsRightBy, is_above_layer}
use Rattle.settling_laws.proofs.ExampleJobs.{line_rows, paths, heights, pair}

-- all has settled after three rounds, one fewer than there are vertices
last_round : last_settling paths ≡ 3
last_round = refl

-- ---- locally correcting: each round follows the walks for one read more

abbrev after : ℕ → List ℕ
after k = renewed_times k paths.core paths.rows paths.starts paths.starts

at_once : after 0 ≡ 0 ∷ TOP ∷ TOP ∷ TOP ∷ []
at_once = refl

after_one : after 1 ≡ 0 ∷ 1 ∷ TOP ∷ TOP ∷ []
after_one = refl

after_two : after 2 ≡ 0 ∷ 1 ∷ 2 ∷ TOP ∷ []
after_two = refl

after_three : after 3 ≡ 0 ∷ 1 ∷ 2 ∷ 3 ∷ []
after_three = refl

-- the third vertex has settled after two rounds with the value 2, and not yet with 3
settled : IsLowBy paths 2 2 2
settled = lit≤ tt

too_high : IsLowBy paths 2 2 3 → ⊥
too_high high = omega (arith, high)

-- ---- self-stabilising: each round settles who reads no deeper

first_reads_none : IsShallow line_rows 0 0
first_reads_none = refl

second_reads_one : IsShallow line_rows 1 1
second_reads_one = All-from_recursion (λ r. IsShallow line_rows 0 r.source) (from 0 1 ∷ []) (refl, tt)

not_at_once : IsShallow line_rows 0 1 → ⊥
not_at_once none = cc none

-- the levels 0, 1, 2, 3 in core values
abbrev levels_list : List ℕ
levels_list = TOP ∷ (TOP - 1) ∷ (TOP - 2) ∷ (TOP - 3) ∷ []

gathered : IsGathered heights levels_list
gathered zero inside = refl
gathered (suc zero) inside = refl
gathered (suc (suc zero)) inside = refl
gathered (suc (suc (suc zero))) inside = refl
gathered (suc (suc (suc (suc v)))) inside = absurd (omega (arith, inside))

-- once it has to be right, the second vertex has the level 1
must_be_right : IsRightBy heights 1 1 (TOP - 2) → ⊥
must_be_right right = omega (arith, right second_reads_one levels_list gathered)

-- ---- globally correcting: each round peels one layer off

-- three vertices that read each other, and one that the first reads; two reads of members are needed
abbrev square : Job
square = record { rows = square_rows; core = core_form (kcore 2); starts = ones }

outer : is_above_layer square 0 3 ≡ false
outer = refl

inner : is_above_layer square 3 0 ≡ true
inner = refl

-- Four in a row, two at the ends: the ends are the layer 0, and the two between them the layer 1.
abbrev chain : Job
chain = record { rows = (from 1 1 ∷ []) ∷ (from 0 1 ∷ from 2 1 ∷ []) ∷ (from 1 1 ∷ from 3 1 ∷ []) ∷ (from 2 1 ∷ []) ∷ []; core = core_form (kcore 2); starts = ones }

ends_go_first : is_above_layer chain 0 0 ≡ false
ends_go_first = refl

others_stay : is_above_layer chain 0 1 ≡ true
others_stay = refl

others_go_next : is_above_layer chain 1 1 ≡ false
others_go_next = refl

both_stay : is_above_layer pair 1 0 ≡ true
both_stay = refl
