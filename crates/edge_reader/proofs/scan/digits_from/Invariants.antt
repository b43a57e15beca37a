use Rattle.std.proofs.Common.{◌≡◌, ◌≤◌, ◌-◌, length}
use Rattle.std.specs.Prelude.{Some}
use Rattle.edge_reader.specs.Scans.{with_digits, bytes_between}
use Rattle.edge_reader.proofs.scan.digits_from.Given as goal

-- the digits so far write the number
abbrev pub invariant-loop-end : goal.invariant-loop-end
invariant-loop-end l = record {
  within : (l.from ≤ l.end) × (l.end ≤ length l.piece);
  number : with_digits l.fn.number (bytes_between l.piece l.from l.end) ≡ Some l.number;
}

abbrev pub decreases-loop-end : goal.decreases-loop-end
decreases-loop-end l = length l.piece - l.end
