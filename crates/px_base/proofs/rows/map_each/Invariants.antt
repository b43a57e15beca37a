use Rattle.std.proofs.Common.{◌≡◌, ◌<◌, ◌≤◌, ℕ, length, get_or}
use Rattle.px_base.proofs.rows.map_each.Given as goal

-- the places of the sources so far stand there, and the others as they were
abbrev pub invariant-loop-source : goal.invariant-loop-source
invariant-loop-source g l = record {
  size : length l.source-items ≡ length l.fn.sources.items;
  done : (k : ℕ) → k < l.source-index → goal.F-post g l.place (get_or l.fn.sources.items k 0) (get_or l.source-items k 0);
  rest : (k : ℕ) → l.source-index ≤ k → get_or l.source-items k 0 ≡ get_or l.fn.sources.items k 0;
}
