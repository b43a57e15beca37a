use Rattle.std.proofs.Common.{◌≡◌, None, map}
use Rattle.std.specs.Option.{option_map}
use Rattle.driver_laws.specs.Seats.{IsInTune, marks_of}
use Rattle.driver_laws.specs.Turns.{IsSameRun, work_left}
use Rattle.supervisor.specs.Teams.{IsTeamOf}
use Rattle.supervisor.proofs.rounds.rounds.Given as goal

abbrev pub invariant-loop : goal.invariant-loop
invariant-loop g l = record {
  team : IsTeamOf l.team l.system;
  free : l.system.hub.halt ≡ None;
  run : IsSameRun l.fn.system l.system;
  tune : IsInTune l.system (map g.S.Spawner.shown l.spawners.items) (map (option_map g.S.L.Link.shown) l.links.items);
  marks : marks_of (map g.S.Spawner.shown l.spawners.items) ≡ marks_of (map g.S.Spawner.shown l.fn.spawners.items);
}

abbrev pub decreases-loop : goal.decreases-loop
decreases-loop g l = work_left l.system.hub
