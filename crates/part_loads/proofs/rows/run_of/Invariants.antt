use Rattle.std.proofs.Common.{◌≡◌, take}
use Rattle.std.specs.Prelude.{All}
use Rattle.part_loads.proofs.rows.run_of.Given as goal

-- those so far have the target
abbrev pub invariant-loop-i : goal.invariant-loop-i
invariant-loop-i l = All (λ t. t.target ≡ l.target) (take l.i l.triples)
