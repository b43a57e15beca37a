-- The two kinds of world in one.
use Rattle.px_base.specs.Worlds.{World, of_counts}
use Rattle.worker_world.specs.declared.world.Kind.{Kind}
use Rattle.worker_world.specs.declared.world.Kind.TheVariants.{Values, Counts}

-- the world that it is
abbrev pub world_of : Kind → World
world_of (Values w) = w
world_of (Counts w) = of_counts w
