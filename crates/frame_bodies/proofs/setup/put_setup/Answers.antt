use Rattle.std.proofs.Common.{append_assoc}
use Rattle.frame_bodies.proofs.setup.put_setup.Goals as goal

pub returns : goal.returns
returns c =
    rw (
      c.put_four-7.ensures.items,
      c.put_four-6.ensures.items,
      c.put_four-5.ensures.items,
      c.put_four-4.ensures.items,
      c.put_program.ensures.items,
      c.put_four-3.ensures.items,
      c.put_four-2.ensures.items,
      c.put_four.ensures.items,
    )
    (simp append_assoc)
