use Rattle.std.proofs.Common.{sym, subst}
use Rattle.link_trait.specs.Spawners.{IsLinkOf}
use Rattle.memory_nursery.specs.States.{SpawnerState}
use Rattle.memory_nursery.specs.Views.{spawner_view}
use Rattle.memory_nursery.proofs.Spawning.{retired_keeps}
use Rattle.memory_nursery.proofs.mem_spawner.MemSpawnerSpawner.retire.Goals as goal

pub invariant_of-self : goal.invariant_of-self
invariant_of-self c =
    let its : IsLinkOf (spawner_view c.self.inside).spawner c.args.link = subst (λ (s : SpawnerState). IsLinkOf s.spawner c.args.link) (sym c.self.view_is) c.requires in
    record {
      keeps = rw (c.saturating_add-self-inside.ensures, c.ends.ensures.ends, c.push_reserved.ensures.items) (retired_keeps (spawner_view c.self.inside) c.args.link c.self.invariant.keeps its c.ends.ensures.kept c.to_keep.result c.to_keep.ensures);
      losses = c.self.invariant.losses;
      refused = c.self.invariant.refused;
      starts = c.self.invariant.starts;
      links = c.self.invariant.links;
      room = λ some. absurd (cc some);
    }
