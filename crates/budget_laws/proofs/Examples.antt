-- Runs on four vertices in a line, in two parts: with rounds enough, and with too few.
use Rattle.std.proofs.Common.{◌≡◌, ℕ, true, false, List, [], ◌∷◌, ◌++◌, refl, lit<, lit≤}
use Rattle.std.specs.Prelude.{map}
use Rattle.std.proofs.lemmas.List.Elements.{All-from_recursion, All-nil}
use Rattle.px_base.specs.declared.wire.Answer.TheVariants.{Stepped}
use Rattle.px_base.specs.declared.wire.LossKind.TheVariants.{Ended}
use Rattle.px_base.specs.declared.wire.Order.TheVariants.{Step}
use Rattle.px_base.specs.Values.{IsValue}
use Rattle.px_base.specs.Worlds.{CarriesValues}
use Rattle.partitioner.proofs.Blocks.{block_cuts_are}
use Rattle.px_base.proofs.ExamplesWorlds.{halves, update}
use Rattle.hub_terms.specs.declared.tasks.Limits.{Limits}
use Rattle.hub_terms.specs.declared.stops.Why.TheVariants as why
use Rattle.hub_terms.specs.Hubs.{turn_of, work, wait, done, stop}
use Rattle.hub_terms.specs.Systems.{SystemState, Event, IsRun, give, took, lost, joined, opening_system, state_after, state_after_all}
use Rattle.hub_terms.proofs.Moves as moves
use Rattle.hub_terms.proofs.Moves.{Move, state_after_moves}
use Rattle.settling_laws.proofs.ExampleJobs.{paths, paths_sound}
use Rattle.round_laws.specs.OnTime.{AllowsEnough, AreSpent, RoundsAreWithin, rounds_enough}
use Rattle.budget_laws.specs.Starts.{MayStart, IsReached}
use Rattle.budget_laws.proofs.AllKept.{reached_within, reached_told_spent}

-- ---- how a run may start

abbrev allowing : ℕ → Limits
allowing rounds = record { lag = 0; rounds = rounds; losses = 8 }

few_start : MayStart halves (allowing 2) paths
few_start = record { sound = paths_sound.sound; in_range = record { lag = lit≤ tt; rounds = (lit≤ tt, lit≤ tt); losses = lit≤ tt }; of_graph = block_cuts_are 4 2 (lit≤ tt) (lit≤ tt) }

-- ---- twelve rounds are enough for four vertices

enough : rounds_enough 4 ≡ 12
enough = refl

abbrev turn : ℕ → List Move
turn i = moves.give i ∷ moves.take i ∷ []

abbrev turns : List Move
turns = turn 0 ++ turn 1

abbrev with_twelve : SystemState
with_twelve = opening_system halves (allowing 12) true paths

allows_enough : AllowsEnough with_twelve
allows_enough = lit≤ tt

-- After two rounds of worker 0 and three of worker 1 all is quiet, and after a report of each all is done.
abbrev ended : SystemState
ended = state_after_moves with_twelve (moves.join 0 ∷ moves.join 1 ∷ turns ++ turns ++ turns ++ turns)

is_done : turn_of ended.hub 0 ≡ done
is_done = refl

rounds_made : map (λ w. w.round) ended.hub.members.members ≡ 2 ∷ 3 ∷ []
rounds_made = refl

-- ---- two rounds are too few

-- both workers join, and each answers the Steps of two rounds
abbrev events : List Event
events = joined 0 ∷ joined 1 ∷ give 0 ∷ took 0 (Stepped 1 0 true (update 1 1 ∷ [])) ∷ give 1 ∷ took 1 (Stepped 1 0 true []) ∷ give 0 ∷ took 0 (Stepped 1 1 false []) ∷ give 1 ∷ took 1 (Stepped 1 1 true []) ∷ []

abbrev opened : SystemState
opened = opening_system halves (allowing 2) true paths

abbrev two_rounds : SystemState
two_rounds = state_after_all opened events

-- The last Step of worker 1 changed something, so all isn't quiet, and no round is left.
told_so : turn_of two_rounds.hub 0 ≡ stop why.Budget
told_so = refl

-- each event may come when it comes
run : IsRun opened events
run = ((lit< tt, refl, refl), ((lit< tt, refl, refl), ((lit< tt, refl, refl), ((lit< tt, tt, All-from_recursion (λ u. IsValue u.value) (update 1 1 ∷ []) (lit≤ tt, tt), λ told. refl), ((lit< tt, refl, refl), ((lit< tt, tt, sends_none, λ told. refl), ((lit< tt, refl, refl), ((lit< tt, tt, sends_none, λ told. refl), ((lit< tt, refl, refl), ((lit< tt, tt, sends_none, λ told. refl), tt))))))))))
  where
    sends_none : CarriesValues []
    sends_none = All-nil (λ u. IsValue u.value)

reached : IsReached two_rounds
reached = record { cuts = halves; limits = allowing 2; told = true; job = paths; events = events; start = few_start; run = run; is = refl }

-- its rounds are within the bound, and the rounds that were allowed are spent
within : RoundsAreWithin two_rounds
within = reached_within two_rounds reached (record { told = refl; even = refl })

spent : AreSpent (state_after two_rounds (give 0))
spent = reached_told_spent two_rounds 0 reached (lit< tt, refl, refl) refl

-- ---- while a worker is missing nothing is said of the budget, and a join raises the base

abbrev one_lost : SystemState
one_lost = state_after two_rounds (lost 1 Ended)

waits : turn_of one_lost.hub 0 ≡ wait
waits = refl

abbrev rejoined : SystemState
rejoined = state_after one_lost (joined 1)

new_base : rejoined.hub.members.base ≡ 2
new_base = refl

goes_on : turn_of rejoined.hub 0 ≡ work (Step 2 2 [])
goes_on = refl
