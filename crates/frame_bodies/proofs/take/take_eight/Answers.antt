use Rattle.std.proofs.Common.{◌-◌, length, drop, length-drop, arith}
use Rattle.std.proofs.lemmas.List.{take_all}
use Rattle.frame_bodies.proofs.ReadNumbers.{eight_read}
use Rattle.frame_bodies.proofs.take.take_eight.Goals as goal

pub returns : goal.returns
returns c = (
  rw (take_all (length c.args.bytes.now - 8) (drop 8 c.args.bytes.now) (omega (arith, length-drop 8 c.args.bytes.now)))
      (eight_read c.args.bytes.now c.read_u64.result c.if-bytes-lt8.false (λ i. omega (arith, c.type_inv.bytes i)) c.read_u64.ensures),
  omega (arith, c.read_u64.type_inv),
)
