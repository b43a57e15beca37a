-- Paths and chains along edges whose ends are named by ids, and what a text says of each id.
use Rattle.std.specs.Prelude.{◌≡◌, ℕ, ◌<◌, ◌≤◌, ◌⊎◌, ◌↔◌, IsTrue, List, [], ◌∷◌, length, Contains, slice_index}
use Rattle.std.specs.List.Sorted.{IsStrictlyIncreasing}
use Rattle.px_base.specs.Values.{is_listed}
use Rattle.px_base.specs.Lines.{IdEdge, ends_of}
use Rattle.px_base.specs.Text.{answer_text}

-- ---- paths and chains

-- A path leads from a to b along edges of these weights, in this order, each from its source to its target. The empty path
-- leads from each id to itself.
abbrev pub IsIdPath : List IdEdge → ℕ → ℕ → List ℕ → Type 0
IsIdPath edges a b [] = a ≡ b
IsIdPath edges a b (w ∷ weights) = (next : ℕ) × Contains edges (record { source = a; target = next; weight = w }) × IsIdPath edges next b weights

-- a path along edges of these weights leads to b from a source
abbrev pub IsIdSourcePath : List IdEdge → List ℕ → ℕ → List ℕ → Type 0
IsIdSourcePath edges sources b weights = (a : ℕ) × IsTrue (is_listed sources a) × IsIdPath edges a b weights

-- some edge has the ends a and b, in either order
abbrev pub AreJoined : List IdEdge → ℕ → ℕ → Type 0
AreJoined edges a b = (w : ℕ) × (Contains edges (record { source = a; target = b; weight = w }) ⊎ Contains edges (record { source = b; target = a; weight = w }))

-- A chain of edges, each passed in either direction, goes from a by these ids to b, the last of them.
abbrev pub IsIdChain : List IdEdge → ℕ → ℕ → List ℕ → Type 0
IsIdChain edges a b [] = a ≡ b
IsIdChain edges a b (next ∷ ids) = AreJoined edges a next × IsIdChain edges next b ids

-- some chain of edges goes from a to b
abbrev pub AreConnected : List IdEdge → ℕ → ℕ → Type 0
AreConnected edges a b = (ids : List ℕ) × IsIdChain edges a b ids

-- A chain of edges goes up from a by these ids to b, the last of them: each is greater than the one before.
abbrev pub IsIdRise : List IdEdge → ℕ → ℕ → List ℕ → Type 0
IsIdRise edges a b [] = a ≡ b
IsIdRise edges a b (next ∷ ids) = AreJoined edges a next × (a < next) × IsIdRise edges next b ids

-- such a chain goes up by these ids to b from some id
abbrev pub IsIdRiseTo : List IdEdge → ℕ → List ℕ → Type 0
IsIdRiseTo edges b ids = (a : ℕ) × IsIdRise edges a b ids

-- ---- texts

-- x is the least of the ids that pass the test
pub record IsLeastOf (Passes : ℕ → Type 0) (x : ℕ) : Type 0 where
  pub none_less : (a : ℕ) → Passes a → x ≤ a
  pub attained : Passes x

-- The text has one line for each id that is an end of an edge, by rising id, with a value of which this holds.
pub record SaysOfEach (edges : List IdEdge) (Holds : ℕ → ℕ → Type 0) (text : List ℕ) : Type 0 where
  pub ids : List ℕ
  pub rising : IsStrictlyIncreasing ids
  pub members : (id : ℕ) → Contains ids id ↔ Contains (ends_of edges) id
  pub values : List ℕ
  pub one_each : length values ≡ length ids
  pub written : text ≡ answer_text ids values
  pub each : (v : ℕ) → v < length ids → Holds (slice_index ids v) (slice_index values v)
