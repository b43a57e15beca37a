use Rattle.std.proofs.Common.{append_assoc}
use Rattle.frame_bodies.proofs.answers.put_stepped.Goals as goal

pub returns : goal.returns
returns c =
    rw (c.put_pairs.ensures, c.put_four-2.ensures.items, c.put.ensures.items, c.changed_code.ensures, c.put_eight.ensures.items, c.put_four.ensures.items)
    (simp append_assoc)
