use Rattle.std.proofs.Common.{◌≡◌, ◌++◌, length, ap, arith}
use Rattle.std.proofs.lemmas.List.Elements.{All-push}
use Rattle.px_base.specs.Frames.{pair_bytes}
use Rattle.frame_bodies.specs.Widths.{PairHasRoom}
use Rattle.frame_bodies.proofs.Entries.{read_more}
use Rattle.frame_bodies.proofs.lists.read_pairs.Goals as goal

pub loop-pair-preserved : goal.loop-pair-preserved
loop-pair-preserved c =
    let long : length c.loop-pair.rest.now ≡ length (pair_bytes c.in-Some.pair ++ c.in-Some.after.now) = ap length c.in-Some.ensures.0 in
    rw c.in_ok-push.ensures.items (record {
      read = read_more pair_bytes c.args.bytes.now c.loop-pair.rest.now c.in-Some.after.now c.loop-pair.pairs.items c.in-Some.pair c.loop-pair.invariant.read c.in-Some.ensures.0;
      room = All-push PairHasRoom c.loop-pair.pairs.items c.in-Some.pair c.loop-pair.invariant.room c.in-Some.ensures.1;
      whole = omega (arith, c.loop-pair.invariant.whole, long);
    })
