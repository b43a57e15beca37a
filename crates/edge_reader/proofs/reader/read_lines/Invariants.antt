use Rattle.std.proofs.Common.{◌≡◌, ◌-◌, ◌^◌}
use Rattle.edge_reader.proofs.WholeInputs.{Progress}
use Rattle.edge_reader.proofs.reader.read_lines.Given as goal

-- all bytes so far are read, and the source has neither failed nor said its end
abbrev pub invariant-loop-count : goal.invariant-loop-count
invariant-loop-count g l = record {
  progress : Progress l.fn.lines.weighted (g.S.Source.left l.fn.source) (g.S.Source.left l.source) l.lines l.scan l.total;
  faults : g.S.Source.faults l.source ≡ g.S.Source.faults l.fn.source;
  ends_told : g.S.Source.ends_told l.source ≡ g.S.Source.ends_told l.fn.source;
}

abbrev pub decreases-loop-count : goal.decreases-loop-count
decreases-loop-count g l = 2 ^ 32 - l.total
