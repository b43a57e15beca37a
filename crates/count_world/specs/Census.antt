-- Who is alive, with how many living neighbours, and who is to die.
use Rattle.std.specs.Prelude.{◌≡◌, ◌≤◌, All, length}
use Rattle.std.specs.Vec.{vec_capacity}
use Rattle.count_world.specs.declared.census.Census.{Census}
use Rattle.list_laws.specs.Sets.{IsListOf}
use Rattle.count_world.specs.Sets.{is_dying}
use Rattle.px_base.specs.declared.TheConstants.{MOST_VERTICES}

-- There are a flag of 1 or 0 and a count for each master, and the list has those that are alive with a count below the
-- number needed. It has room for all masters.
pub record IsCensus (c : Census) : Type 0 where
  pub few : length c.alive.items ≤ MOST_VERTICES
  pub flags : All (λ flag. flag ≤ 1) c.alive.items
  pub counts : length c.counts.items ≡ length c.alive.items
  pub room : length c.alive.items ≤ vec_capacity c.dying
  pub lists : IsListOf (length c.alive.items) (is_dying c.alive.items c.counts.items c.needed) c.dying.items

-- Counts have changed, and the list with them.
pub record KeepsCensus (old new : Census) : Type 0 where
  pub census : IsCensus new
  pub alive : new.alive.items ≡ old.alive.items
  pub needed : new.needed ≡ old.needed
