use Rattle.std.proofs.Common.{◌≡◌, length, map}
use Rattle.std.specs.Option.{option_map}
use Rattle.driver_laws.proofs.Release.{IsReleasing}
use Rattle.supervisor.proofs.release.release_all.Given as goal

abbrev pub invariant-loop-i : goal.invariant-loop-i
invariant-loop-i g l = record {
  count : length l.spawners.items ≡ length l.fn.spawners.items;
  link_count : length l.links.items ≡ length l.fn.links.items;
  released : IsReleasing l.keep (map g.S.Spawner.shown l.fn.spawners.items) (map (option_map g.S.L.Link.shown) l.fn.links.items) l.i (map g.S.Spawner.shown l.spawners.items) (map (option_map g.S.L.Link.shown) l.links.items);
}
