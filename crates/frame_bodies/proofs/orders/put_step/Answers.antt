use Rattle.std.proofs.Common.{append_assoc}
use Rattle.frame_bodies.proofs.orders.put_step.Goals as goal

pub returns : goal.returns
returns c =
    rw (c.put_pairs.ensures, c.put_four-2.ensures.items, c.put_eight.ensures.items, c.put_four.ensures.items) (simp append_assoc)
