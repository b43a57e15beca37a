-- The places that the vertices of updates have among the mirrors, and what is at fault where one has none.
use Rattle.std.specs.Prelude.{◌≡◌, ℕ, ◌<◌, List, All, length, map, Option, Some, None}
use Rattle.px_base.specs.declared.wire.Update.{Update}
use Rattle.px_base.specs.declared.wire.StepFault.{StepFault}
use Rattle.px_base.specs.declared.wire.StepFault.TheVariants as fault
use Rattle.px_base.specs.Values.{place_of}
use Rattle.px_base.specs.Worlds.{Refusal, foreign}

-- the k-th is that of the k-th update's vertex
pub record ArePlacesOf (mirrors : List ℕ) (updates : List Update) (places : List ℕ) : Type 0 where
  pub is : places ≡ map (λ u. place_of mirrors u.vertex) updates
  pub inside : All (λ k. k < length mirrors) places

-- The fault is the first vertex that is foreign. Memory may be wanting only where none is.
abbrev pub IsFaultOf : Option Refusal → StepFault → Type 0
IsFaultOf found (fault.Foreign vertex) = found ≡ Some (foreign vertex)
IsFaultOf found fault.Memory = found ≡ None
IsFaultOf found (fault.WrongEpoch had got) = ⊥
