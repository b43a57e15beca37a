-- What the workers of a run are started with.
use Rattle.std.specs.Prelude.{◌≡◌, ◌≤◌}
use Rattle.px_base.specs.Values.{by_position}
use Rattle.hub_terms.specs.Hubs.{worker_count}
use Rattle.hub_terms.specs.Systems.{SystemState, part_at}
use Rattle.supervisor.specs.declared.team.Team.{Team}

-- The team is the one of this run: it has the part of each worker, and the program.
pub record IsTeamOf (team : Team) (s : SystemState) : Type 0 where
  pub parts : team.parts ≡ by_position (worker_count s.hub) (part_at s)
  pub core : team.core ≡ s.job.core
  pub some_chunks : 1 ≤ team.chunks
  pub few_chunks : team.chunks ≤ 64
