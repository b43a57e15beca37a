use Rattle.std.proofs.Common.{◌≡◌, true}
use Rattle.partitioner.specs.Cuts.{vertex_count}
use Rattle.hub_calls.proofs.inbox_tests.clearing.Given as goal

-- the inboxes are of a program that counts, and there are so many vertices
abbrev pub invariant-loop-row : goal.invariant-loop-row
invariant-loop-row g l = (l.inboxes.counting ≡ true) × (l.n ≡ vertex_count l.inboxes.cuts)
