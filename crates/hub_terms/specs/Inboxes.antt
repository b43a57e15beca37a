-- The updates that wait for each worker.
use Rattle.std.specs.Prelude.{ℕ, ◌+◌, min, Bool, true, false, ◌==◌, nat_lt, List, [], ◌∷◌, length, filter, fold, replicate, slice_index_or, slice_set, if◌then◌else◌}
use Rattle.std.specs.List.{list_all}
use Rattle.px_base.specs.declared.TheConstants.{TOP}
use Rattle.px_base.specs.declared.wire.Update.{Update}
use Rattle.px_base.specs.Values.{by_position, is_listed}
use Rattle.px_base.specs.Parts.{is_master, part_count}

-- The cuts and the routes of the graph, whether the program counts, and for each worker its inbox: the updates that wait for it,
-- by rising vertex.
pub record InboxesState : Type 0 where
  pub cuts : List ℕ
  pub routes : List (List ℕ)
  pub counting : Bool
  pub boxes : List (List Update)

-- all inboxes are empty before the first event
abbrev pub opening_inboxes : List ℕ → List (List ℕ) → Bool → InboxesState
opening_inboxes cuts routes counting = record { cuts = cuts; routes = routes; counting = counting; boxes = replicate (part_count cuts) [] }

-- what waits for worker j
abbrev pub inbox_at : InboxesState → ℕ → List Update
inbox_at t j = slice_index_or t.boxes j []

-- nothing waits in this inbox
abbrev pub is_empty_box : List Update → Bool
is_empty_box box = length box == 0

-- nothing waits for any worker
abbrev pub all_empty : InboxesState → Bool
all_empty t = list_all is_empty_box t.boxes

-- ---- who gets an update

-- the route of v: the workers that mirror it
abbrev pub route_at : List (List ℕ) → ℕ → List ℕ
route_at routes v = slice_index_or routes v []

-- worker j mirrors v
abbrev pub is_on_route : InboxesState → ℕ → ℕ → Bool
is_on_route t j v = is_listed (route_at t.routes v) j

-- an update of v goes to worker j: of values where j mirrors v, of counts where j has v
abbrev pub is_addressed : InboxesState → ℕ → ℕ → Bool
is_addressed t j v = if t.counting then is_master t.cuts j v else is_on_route t j v

-- ---- one update more

-- a later value takes the place of an earlier one; deltas add up, and stop at TOP
abbrev pub combined_value : Bool → ℕ → ℕ → ℕ
combined_value counting old new = if counting then min (old + new) TOP else new

-- the update as the first one of its vertex
abbrev pub first_update : Bool → Update → Update
first_update counting u = record u { value = combined_value counting 0 u.value }

-- an inbox with one update more; it has one entry for each vertex, by rising vertex
abbrev pub box_with : Bool → Update → List Update → List Update
box_with counting u [] = first_update counting u ∷ []
box_with counting u (w ∷ rest) = let further = box_with counting u rest in
    if nat_lt u.vertex w.vertex then first_update counting u ∷ w ∷ rest
    else if u.vertex == w.vertex then record u { value = combined_value counting w.value u.value } ∷ rest
    else w ∷ further

-- an inbox with all of these updates, one after another
abbrev pub box_with_all : Bool → List Update → List Update → List Update
box_with_all counting updates box = fold (λ so_far u. box_with counting u so_far) box updates

-- ---- what the calls leave

-- worker j is sent the value x of v
abbrev pub with_put : InboxesState → ℕ → ℕ → ℕ → InboxesState
with_put t j v x = record t { boxes = slice_set t.boxes j (box_with false (record { vertex = v; value = x }) (inbox_at t j)) }

-- the owner of v is sent the delta
abbrev pub with_added : InboxesState → ℕ → ℕ → InboxesState
with_added t v delta = record t {
  boxes = by_position (length t.boxes)
      (λ j. if is_master t.cuts j v then box_with true (record { vertex = v; value = delta }) (inbox_at t j) else inbox_at t j);
}

-- each worker is sent those of the updates that go to it
abbrev pub with_updates : InboxesState → List Update → InboxesState
with_updates t updates = record t {
  boxes = by_position (length t.boxes)
      (λ j. box_with_all t.counting (filter (λ u. is_addressed t j u.vertex) updates) (inbox_at t j));
}

-- worker j has taken all that waited for it
abbrev pub with_drained : InboxesState → ℕ → InboxesState
with_drained t j = record t { boxes = slice_set t.boxes j [] }

-- nothing waits any more
abbrev pub with_cleared : InboxesState → InboxesState
with_cleared t = record t { boxes = replicate (length t.boxes) [] }
