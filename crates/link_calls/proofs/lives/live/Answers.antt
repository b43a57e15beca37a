use Rattle.link_calls.proofs.Ready.{started_is_ready}
use Rattle.link_calls.proofs.lives.live.Goals as goal

pub ask_all-requires-after_bounds : goal.ask_all-requires-after_bounds
ask_all-requires-after_bounds g c κs outlives = started_is_ready c.args.spawner.now.spawner c.start.new.self.spawner c.in_ok-part.part c.program.result c.in-Ok.link c.in-Ok.ensures.ok
