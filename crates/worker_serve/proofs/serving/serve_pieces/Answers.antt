use Rattle.std.proofs.Common.{◌≡◌, ◌+◌, ◌<◌, [], length, length-append, take, Ok, refl, ap, subst, ◌∙◌, arith}
use Rattle.std.specs.Io.KnownBytes.{Consumes, IsAtEnd}
use Rattle.std.proofs.lemmas.List.{length-take-le}
use Rattle.std.proofs.lemmas.Grind.{common_steps}
use Rattle.worker_serve.specs.Streams.{BYTES, IsPassed}
use Rattle.worker_serve.proofs.Passing.{serving_nothing, serving_more, served_passed, served_whole}
use Rattle.worker_serve.proofs.serving.serve_pieces.Goals as goal

pub loop-room-init : goal.loop-room-init
loop-room-init g c = record {
  space = c.requires;
  so_far = serving_nothing (g.S.Source.left c.args.source.now) (g.K.Sink.written c.args.sink.now) c.new-session.result c.new-session.ensures;
  room = (let none : length c.new-session.result.bytes ≡ 0 = ap (λ t. length t.bytes) c.new-session.ensures in omega (arith, none));
  source = refl;
  ends_told = refl;
  sink = refl;
  wants = refl;
}

pub returns-then-count-eq0-clause-served : goal.returns-then-count-eq0-clause-served
returns-then-count-eq0-clause-served g c =
    (let zero_bytes : c.in-Ok.count ≡ 0 = search c.if-count-eq0.true in
    let none : Consumes (g.S.Source.left c.loop-room.source) (g.S.Source.left c.take_piece.new.source) [] = subst (λ k. Consumes (g.S.Source.left c.loop-room.source) (g.S.Source.left c.take_piece.new.source) (take k c.take_piece.new.space)) zero_bytes c.in-Ok.ensures.moved in
    let at_end : IsAtEnd (g.S.Source.left c.take_piece.new.source) = c.in-Ok.ensures.ended (ap Ok zero_bytes) in
    let some : 0 < c.loop-room.room = grind (arith, common_steps, c.loop-room-test.true) in
    let short : length c.loop-room.session.bytes < BYTES = omega (arith, c.loop-room.invariant.room, some) in
    served_whole (g.S.Source.left c.args.source.now) (g.S.Source.left c.loop-room.source) (g.S.Source.left c.take_piece.new.source) (g.K.Sink.written c.args.sink.now) (g.K.Sink.written c.loop-room.sink) c.loop-room.session c.at_end.result
    c.loop-room.invariant.so_far none at_end short c.at_end.ensures)

pub returns-in-Err-pass-clause-served : goal.returns-in-Err-pass-clause-served
returns-in-Err-pass-clause-served g c =
    served_passed (g.S.Source.left c.args.source.now) (g.S.Source.left c.loop-room.source) (g.S.Source.left c.take_piece.new.source) (g.K.Sink.written c.args.sink.now) (g.K.Sink.written c.loop-room.sink) (g.K.Sink.written c.pass.new.sink)
    c.loop-room.session c.pass.new.session (take c.in-Ok.count c.take_piece.new.space) c.in-Err-pass.end c.loop-room.invariant.so_far c.in-Ok.ensures.moved c.in-Err-pass.ensures.passed

pub loop-room-preserved : goal.loop-room-preserved
loop-room-preserved g c =
    (let passed : IsPassed c.loop-room.session (take c.in-Ok.count c.take_piece.new.space) c.pass.new.session (g.K.Sink.written c.loop-room.sink) (g.K.Sink.written c.pass.new.sink) (Ok tt) = c.in_default.ensures.passed in
    let count : length (take c.in-Ok.count c.take_piece.new.space) ≡ c.in-Ok.count = length-take-le c.in-Ok.count c.take_piece.new.space c.in-Ok.ensures.within in
    let longer : length c.pass.new.session.bytes ≡ length c.loop-room.session.bytes + length (take c.in-Ok.count c.take_piece.new.space) = ap length passed.says.0 ∙ length-append c.loop-room.session.bytes (take c.in-Ok.count c.take_piece.new.space) in
    record {
      space = omega (arith, c.loop-room.invariant.space, c.in-Ok.ensures.size);
      so_far = serving_more (g.S.Source.left c.args.source.now) (g.S.Source.left c.loop-room.source) (g.S.Source.left c.take_piece.new.source) (g.K.Sink.written c.args.sink.now) (g.K.Sink.written c.loop-room.sink) (g.K.Sink.written c.pass.new.sink)
          c.loop-room.session c.pass.new.session (take c.in-Ok.count c.take_piece.new.space) c.loop-room.invariant.so_far c.in-Ok.ensures.moved passed;
      room = omega (arith, c.loop-room.invariant.room, longer, count, c.in-Ok.ensures.fits);
      source = c.in-Ok.ensures.quiet ∙ c.loop-room.invariant.source;
      ends_told = c.in-Ok.ensures.told.goes_on (λ same. let zero : c.in-Ok.count ≡ 0 = cc same in absurd (search (c.if-count-eq0.false, zero))) ∙ c.loop-room.invariant.ends_told;
      sink = c.in_default.ensures.no_write_fault (λ same. cc) ∙ c.loop-room.invariant.sink;
      wants = c.in_default.ensures.spared (λ same. cc) ∙ c.loop-room.invariant.wants;
    })
