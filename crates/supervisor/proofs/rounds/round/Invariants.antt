use Rattle.std.proofs.Common.{◌≡◌, map}
use Rattle.std.specs.Option.{option_map}
use Rattle.budget_laws.specs.KeptFacts.{KeepsAll}
use Rattle.driver_laws.specs.Seats.{IsInTune, marks_of}
use Rattle.driver_laws.proofs.Tune.{HasMoved}
use Rattle.supervisor.proofs.rounds.round.Given as goal

abbrev pub invariant-loop-i : goal.invariant-loop-i
invariant-loop-i g l = record {
  kept : KeepsAll l.system;
  moved : HasMoved l.fn.system l.system l.i;
  tune : IsInTune l.system (map g.S.Spawner.shown l.spawners.items) (map (option_map g.S.L.Link.shown) l.links.items);
  marks : marks_of (map g.S.Spawner.shown l.spawners.items) ≡ marks_of (map g.S.Spawner.shown l.fn.spawners.items);
}
