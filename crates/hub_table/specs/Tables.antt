-- All inboxes, and of which vertices updates may come to each.
use Rattle.std.specs.Prelude.{◌≡◌, ℕ, ◌<◌, Bool, true, List, [], length, map, slice_index_or, if◌then◌else◌}
use Rattle.px_base.specs.declared.wire.Update.{Update}
use Rattle.px_base.specs.Values.{is_listed}
use Rattle.px_base.specs.Parts.{IsWorkerCuts, is_master, part_count}
use Rattle.partitioner.specs.Cuts.{vertex_count}
use Rattle.hub_terms.specs.Inboxes.{InboxesState, route_at}
use Rattle.hub_terms.specs.HubInStep.{InboxesFit}
use Rattle.hub_table.specs.Slots.{InboxState}

-- what waits in each inbox
abbrev pub mails : List InboxState → List (List Update)
mails inboxes = map (λ b. b.mail) inboxes

-- the vertices of each inbox
abbrev pub tables : List InboxState → List (List ℕ)
tables inboxes = map (λ b. b.vertices) inboxes

-- There is a list of vertices for each part: where the program counts, those of its masters, and else of its mirrors.
pub record AreTables (cuts : List ℕ) (routes : List (List ℕ)) (counting : Bool) (lists : List (List ℕ)) : Type 0 where
  pub size : length lists ≡ part_count cuts
  pub listed : (j v : ℕ) → j < part_count cuts → is_listed (slice_index_or lists j []) v ≡ (if counting then is_master cuts j v else is_listed (route_at routes v) j)

-- The cuts are for workers, routes name parts, there are such lists of vertices, and what waits for a worker goes to it.
pub record AreInboxes (t : InboxesState) (lists : List (List ℕ)) : Type 0 where
  pub cut : IsWorkerCuts (vertex_count t.cuts) t.cuts
  pub inside : (v j : ℕ) → is_listed (route_at t.routes v) j ≡ true → j < part_count t.cuts
  pub tables : AreTables t.cuts t.routes t.counting lists
  pub fit : InboxesFit t
