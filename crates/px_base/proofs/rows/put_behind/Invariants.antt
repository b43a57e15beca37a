use Rattle.std.proofs.Common.{◌≡◌, ◌+◌, ◌++◌, ℕ, map, take}
use Rattle.px_base.proofs.rows.put_behind.Given as goal

-- the starts so far stand behind the others
abbrev pub invariant-loop-start : goal.invariant-loop-start
invariant-loop-start l = l.starts.items ≡ l.fn.starts.items ++ map (λ (s : ℕ). l.base + s) (take l.start-index l.more)
