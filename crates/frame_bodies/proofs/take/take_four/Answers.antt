use Rattle.std.proofs.Common.{◌-◌, length, drop, length-drop, arith}
use Rattle.std.proofs.lemmas.List.{take_all}
use Rattle.frame_bodies.proofs.ReadNumbers.{four_read}
use Rattle.frame_bodies.proofs.take.take_four.Goals as goal

pub returns : goal.returns
returns c = (
  rw (take_all (length c.args.bytes.now - 4) (drop 4 c.args.bytes.now) (omega (arith, length-drop 4 c.args.bytes.now)))
      (four_read c.args.bytes.now c.read_u32.result c.if-bytes-lt4.false (λ i. omega (arith, c.type_inv.bytes i)) c.read_u32.ensures),
  omega (arith, c.read_u32.type_inv),
)
