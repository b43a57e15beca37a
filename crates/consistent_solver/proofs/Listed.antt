-- Vertices that wait.
use Rattle.std.proofs.Common.{◌≡◌, ℕ, ◌+◌, ◌<◌, ◌≢◌, ◌∙◌, Bool, true, false, List, [], ◌∷◌, ◌++◌, length, get_or, set, refl, sym, arith, inl, inr, get_or-set_other, get_or-set_same}
use Rattle.std.specs.Prelude.{Contains}
use Rattle.std.proofs.lemmas.List.Elements.{Contains-append_left, Contains-append_cases, Contains-push, Contains-push_cases}
use Rattle.std.proofs.lemmas.Bool.{cases_lt, cases_eq}
use Rattle.consistent_solver.specs.Sweeps.{IsMarked}

-- each marked vertex is listed
abbrev pub AreListed : List Bool → List ℕ → Type 0
AreListed marks queue = (v : ℕ) → IsMarked marks v → Contains queue v

-- what is in a list with one element more in front
behind : (u v : ℕ) (queue : List ℕ) → v ≢ u → Contains (u ∷ queue) v → Contains queue v
behind u v queue apart found = elim (Contains-append_cases (u ∷ []) queue v found) [
  | inl front ↦ elim (Contains-push_cases [] u v front) [
    | inl none ↦ absurd (omega (arith, none.1))
    | inr same ↦ absurd (apart (sym same))
  ]
  | inr back ↦ back
]

pub listed_less : (marks : List Bool) (old queue : List ℕ) (u : ℕ) → u < length marks → old ≡ u ∷ queue → AreListed marks old → AreListed (set marks u false) queue
listed_less marks old queue u inside is listed v marked = elim (cases_eq v u) [
  | inl same ↦ absurd (let no : get_or (set marks u false) v false ≡ false = rw (same, get_or-set_same marks u false false inside) refl in let yes_marked : get_or (set marks u false) v false ≡ true = marked in cc)
  | inr apart ↦ behind u v queue apart (rw is at (listed v (rw (get_or-set_other marks u v false false apart) at marked)))
]

-- ---- the first vertices of a list of marks

pub listed_first : (marks : List Bool) (queue : List ℕ) (v : ℕ) → ((u : ℕ) → u < v → IsMarked marks u → Contains queue u) → (u : ℕ) → u < v + 1 → IsMarked marks u → Contains (queue ++ v ∷ []) u
listed_first marks queue v listed u low marked = elim (cases_lt u v) [
  | inl old ↦ Contains-append_left queue (v ∷ []) u (listed u old marked)
  | inr new ↦ (let same : u ≡ v = omega arith in rw same (Contains-push queue v))
]

pub passed_first : (marks : List Bool) (queue : List ℕ) (v : ℕ) → ((u : ℕ) → u < v → IsMarked marks u → Contains queue u) → get_or marks v false ≡ false →
    (u : ℕ) → u < v + 1 → IsMarked marks u → Contains queue u
passed_first marks queue v listed plain u low marked = elim (cases_lt u v) [
  | inl old ↦ listed u old marked
  | inr new ↦ (let same : u ≡ v = omega arith in let there : get_or marks v false ≡ true = rw same at marked in absurd (let no : true ≡ false = sym there ∙ plain in cc))
]
