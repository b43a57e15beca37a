use Rattle.std.proofs.Common.{◌≡◌, ◌++◌, map, take, drop}
use Rattle.std.specs.Prelude.{All}
use Rattle.px_base.specs.Values.{IsValue, flip}
use Rattle.value_laws.proofs.values.flip_all.Given as goal

-- the first values are flipped, and the others aren't yet
abbrev pub invariant-loop-value : goal.invariant-loop-value
invariant-loop-value l = record {
  values : All IsValue l.values;
  flipped : l.values ≡ map flip (take l.value-index l.initial.values) ++ drop l.value-index l.initial.values;
}
