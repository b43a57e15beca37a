use Rattle.std.proofs.Common.{◌≡◌, ℕ, ◌-◌, ◌<◌, ◌≤◌, ◌^◌, List, ◌++◌, length, take}
use Rattle.edge_reader.specs.Lists.{IsFed}
use Rattle.edge_reader.proofs.lines.ReadLines.feed.Given as goal

-- the bytes so far are read
abbrev pub invariant-loop-at : goal.invariant-loop-at
invariant-loop-at l = record {
  within : l.at ≤ length l.piece;
  weighted : l.self.weighted ≡ l.fn.self.weighted;
  fed : (text : List ℕ) → IsFed text l.fn.self l.fn.scan → length (text ++ l.piece) < 2 ^ 32 → IsFed (text ++ take l.at l.piece) l.self l.scan;
}

abbrev pub decreases-loop-at : goal.decreases-loop-at
decreases-loop-at l = length l.piece - l.at
