use Rattle.std.proofs.Common.{◌≡◌, flat_map, take}
use Rattle.std.specs.Io.KnownBytes.{Appends}
use Rattle.command_ends.proofs.pieces.put_pieces.Given as goal

-- the pieces before this one are appended, and no fault and no want was counted
abbrev pub invariant-loop-piece : goal.invariant-loop-piece
invariant-loop-piece g l = record {
  so_far : Appends (g.K.Sink.written l.fn.sink) (g.K.Sink.written l.sink) (flat_map (λ piece. piece.now) (take l.piece-index l.pieces));
  faults : g.K.Sink.faults l.sink ≡ g.K.Sink.faults l.fn.sink;
  wants : g.K.Sink.wants l.sink ≡ g.K.Sink.wants l.fn.sink;
}
