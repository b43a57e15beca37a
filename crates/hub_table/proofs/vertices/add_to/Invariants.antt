use Rattle.std.proofs.Common.{◌≡◌, ℕ, ◌<◌, ◌++◌, ◌∷◌, [], cond, length, take, get_or}
use Rattle.px_base.specs.Values.{is_listed}
use Rattle.hub_table.proofs.vertices.add_to.Given as goal

-- the workers of the route so far have the update
abbrev pub invariant-loop-j : goal.invariant-loop-j
invariant-loop-j l = record {
  count : length l.lists.items ≡ length l.fn.lists.items;
  so_far : (k : ℕ) → k < length l.lists.items → get_or l.lists.items k [] ≡ get_or l.fn.lists.items k [] ++ cond (is_listed (take l.j-index l.route) k) (l.v ∷ []) [];
}
