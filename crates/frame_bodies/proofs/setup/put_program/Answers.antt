use Rattle.std.proofs.Common.{append_assoc}
use Rattle.frame_bodies.proofs.setup.put_program.Goals as goal

pub returns-clause-items : goal.returns-clause-items
returns-clause-items c =
    rw (
      c.put-4.ensures.items,
      c.put_four.ensures.items,
      c.put-3.ensures.items,
      c.put_eight-3.ensures.items,
      c.put-2.ensures.items,
      c.put_eight-2.ensures.items,
      c.put_eight.ensures.items,
      c.put.ensures.items,
      c.own_code.ensures,
      c.form_code-form.ensures,
      c.reads_code-reads.ensures,
      c.start_numbers-start.ensures.code,
      c.start_numbers-start.ensures.first,
      c.start_numbers-start.ensures.second,
      c.along_numbers-along.ensures.code,
      c.along_numbers-along.ensures.number,
      c.fold_numbers-fold.ensures.code,
      c.fold_numbers-fold.ensures.number,
    )
    (simp append_assoc)
