-- One inbox: a slot for each vertex of which an update may come, and a list of the slots that are filled.
use Rattle.std.specs.Prelude.{◌≡◌, ℕ, ◌≤◌, Bool, true, false, List, [], ◌∷◌, length, slice_index, slice_index_or, Option, None, Some, unwrap_or}
use Rattle.std.specs.List.Sorted.{IsStrictlyIncreasing}
use Rattle.px_base.specs.declared.TheConstants.{MOST_VERTICES}
use Rattle.px_base.specs.declared.wire.Update.{Update}
use Rattle.list_laws.specs.Sets.{IsListOf}

-- the vertices of which updates may come, and the updates that wait, both by rising vertex
pub record InboxState : Type 0 where
  pub vertices : List ℕ
  pub mail : List Update

-- ---- slots

-- an empty slot
abbrev pub no_value : Option ℕ
no_value = None

-- the value in a slot, or 0
abbrev pub value_of : Option ℕ → ℕ
value_of slot = unwrap_or slot 0

-- the slot has a value
abbrev pub is_some_slot : Option ℕ → Bool
is_some_slot None = false
is_some_slot (Some x) = true

-- the slot at place k has a value
abbrev pub is_filled : List (Option ℕ) → ℕ → Bool
is_filled slots k = is_some_slot (slice_index_or slots k None)

-- ---- the updates in slots

-- the update at a place
abbrev pub update_at : List ℕ → List (Option ℕ) → ℕ → Update
update_at vertices slots k = record { vertex = slice_index vertices k; value = value_of (slice_index_or slots k None) }

-- the update in the slot of v, if there is one, and then the rest
abbrev pub mail_before : ℕ → Option ℕ → List Update → List Update
mail_before v None rest = rest
mail_before v (Some x) rest = record { vertex = v; value = x } ∷ rest

-- the updates in the slots of these vertices
abbrev pub mail_of : List ℕ → List (Option ℕ) → List Update
mail_of [] slots = []
mail_of (v ∷ vertices) [] = []
mail_of (v ∷ vertices) (slot ∷ slots) = mail_before v slot (mail_of vertices slots)

-- There is a slot for each vertex, and the list of those that are filled has room for all.
pub record IsInbox (vertices : List ℕ) (slots : List (Option ℕ)) (used : List ℕ) (space : ℕ) : Type 0 where
  pub rising : IsStrictlyIncreasing vertices
  pub few : length vertices ≤ MOST_VERTICES
  pub size : length slots ≡ length vertices
  pub room : length slots ≤ space
  pub lists : IsListOf (length slots) (is_filled slots) used
