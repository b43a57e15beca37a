-- How far ahead a worker may go, on four vertices in a line in two parts.
use Rattle.std.proofs.Common.{◌≡◌, ℕ, true, List, [], ◌∷◌, ◌++◌, refl}
use Rattle.std.specs.Prelude.{map}
use Rattle.px_base.specs.declared.wire.Order.TheVariants.{Step}
use Rattle.px_base.proofs.ExamplesWorlds.{halves}
use Rattle.hub_terms.specs.declared.tasks.Limits.{Limits}
use Rattle.hub_terms.specs.Hubs.{turn_of, work, wait}
use Rattle.hub_terms.specs.Systems.{SystemState, opening_system}
use Rattle.hub_terms.proofs.Moves.{Move, give, take, lose, join, state_after_moves}
use Rattle.settling_laws.proofs.ExampleJobs.{paths}

abbrev with_lag : ℕ → Limits
with_lag lag = record { lag = lag; rounds = 12; losses = 0 }

-- both workers joined, and worker 0 alone has answered so many Steps
abbrev ahead : ℕ → List Move → SystemState
ahead lag moves = state_after_moves (opening_system halves (with_lag lag) true paths) (join 0 ∷ join 1 ∷ moves)

abbrev once : List Move
once = give 0 ∷ take 0 ∷ []

-- with lag 0 it waits for the other before its second round
waits : turn_of (ahead 0 once).hub 0 ≡ wait
waits = refl

-- with lag 1 it goes on, and waits before its third
goes_on : turn_of (ahead 1 once).hub 0 ≡ work (Step 1 1 [])
goes_on = refl

waits_later : turn_of (ahead 1 (once ++ once)).hub 0 ≡ wait
waits_later = refl

-- the answer to a Step of an older epoch counts as one round, as any other does
one_round : map (λ w. w.round) (ahead 0 (give 0 ∷ lose 1 ∷ take 0 ∷ [])).hub.members.members ≡ 1 ∷ 0 ∷ []
one_round = refl
