use Rattle.std.proofs.Common.{◌≡◌, ◌++◌, length, ap, arith}
use Rattle.std.proofs.lemmas.List.Elements.{All-push}
use Rattle.px_base.specs.Frames.{triple_bytes}
use Rattle.frame_bodies.specs.Widths.{TripleHasRoom}
use Rattle.frame_bodies.proofs.Entries.{read_more}
use Rattle.frame_bodies.proofs.lists.read_triples.Goals as goal

pub loop-triple-preserved : goal.loop-triple-preserved
loop-triple-preserved c =
    let long : length c.loop-triple.rest.now ≡ length (triple_bytes c.in-Some.triple ++ c.in-Some.after.now) = ap length c.in-Some.ensures.0 in
    rw c.in_ok-push.ensures.items (record {
      read = read_more triple_bytes c.args.bytes.now c.loop-triple.rest.now c.in-Some.after.now c.loop-triple.triples.items c.in-Some.triple c.loop-triple.invariant.read c.in-Some.ensures.0;
      room = All-push TripleHasRoom c.loop-triple.triples.items c.in-Some.triple c.loop-triple.invariant.room c.in-Some.ensures.1;
      whole = omega (arith, c.loop-triple.invariant.whole, long);
    })
