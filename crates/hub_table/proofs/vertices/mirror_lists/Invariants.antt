use Rattle.std.proofs.Common.{◌≡◌, ℕ, ◌<◌, [], length, get_or}
use Rattle.std.specs.Prelude.{filter}
use Rattle.px_base.specs.Values.{is_listed, positions_below}
use Rattle.hub_terms.specs.Inboxes.{route_at}
use Rattle.hub_table.proofs.vertices.mirror_lists.Given as goal

-- the vertices so far are listed
abbrev pub invariant-loop-v : goal.invariant-loop-v
invariant-loop-v l = record {
  count : length l.lists.items ≡ l.count;
  so_far : (k : ℕ) → k < l.count → get_or l.lists.items k [] ≡ filter (λ u. is_listed (route_at l.routes u) k) (positions_below l.v);
}
