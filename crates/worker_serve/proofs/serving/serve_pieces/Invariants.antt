use Rattle.std.proofs.Common.{◌≡◌, ◌+◌, ◌<◌, length}
use Rattle.worker_serve.specs.Streams.{BYTES}
use Rattle.worker_serve.proofs.Passing.{IsServing}
use Rattle.worker_serve.proofs.serving.serve_pieces.Given as goal

-- the session goes on, there is room for the rest of the bytes, and neither a fault nor a want nor an end was counted
abbrev pub invariant-loop-room : goal.invariant-loop-room
invariant-loop-room g l = record {
  space : 0 < length l.space;
  so_far : IsServing (g.S.Source.left l.fn.source) (g.S.Source.left l.source) (g.K.Sink.written l.fn.sink) (g.K.Sink.written l.sink) l.session;
  room : length l.session.bytes + l.room ≡ BYTES;
  source : g.S.Source.faults l.source ≡ g.S.Source.faults l.fn.source;
  ends_told : g.S.Source.ends_told l.source ≡ g.S.Source.ends_told l.fn.source;
  sink : g.K.Sink.faults l.sink ≡ g.K.Sink.faults l.fn.sink;
  wants : g.K.Sink.wants l.sink ≡ g.K.Sink.wants l.fn.sink;
}

abbrev pub decreases-loop-room : goal.decreases-loop-room
decreases-loop-room g l = l.room
