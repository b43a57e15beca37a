use Rattle.std.proofs.Common.{◌≡◌, ◌≤◌, true, length, sym, ◌∙◌, arith}
use Rattle.px_base.specs.FrameFits.{is_right_header}
use Rattle.px_frames.proofs.Decoders.{whole_front, torn_front}
use Rattle.px_frames.proofs.front.read_front.Goals as goal

pub returns-in-Some : goal.returns-in-Some
returns-in-Some c =
    let long : 8 ≤ length c.args.bytes.now = c.if-bytes-lt-HEADER.false in
    let right : is_right_header c.args.bytes.now ≡ true = sym c.is_right_header.ensures ∙ c.if-not-is_right_header.false in
    whole_front c.args.bytes.now c.in-Some.frame c.word_at.result long (λ i. omega (arith, c.type_inv.bytes i)) right c.word_at.ensures c.if-bytes-length.false
    (rw c.in-Some.is at c.in_ok-frame.ensures)

pub returns-in-None : goal.returns-in-None
returns-in-None c =
    torn_front c.args.bytes.now c.word_at.result c.if-bytes-lt-HEADER.false c.word_at.ensures c.if-bytes-length.false (rw c.in-None.is at c.in_ok-frame.ensures)
