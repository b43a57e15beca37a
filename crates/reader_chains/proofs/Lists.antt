-- Laws on the readers of places, for whoever uses the table.
use Rattle.std.proofs.Common.{◌≡◌, ℕ, ◌<◌, ◌≢◌, ◌≤◌, List, [], ◌∷◌, length, set, replicate, arith, inl, inr}
use Rattle.std.specs.Prelude.{All}
use Rattle.std.proofs.lemmas.Bool.Decides.{eqb_tells}
use Rattle.std.proofs.lemmas.Bool.{cases_lt}
use Rattle.std.proofs.lemmas.List.{get_or-set_same, get_or-set_other, get_or-replicate, length-replicate}
use Rattle.std.proofs.lemmas.List.Elements.{All-cons}
use Rattle.std.proofs.Math.ListN.{get_or-eq_default}
use Rattle.reader_chains.specs.Readers.{readers_of}

-- at first no place has a reader
pub none_of : (places k : ℕ) → readers_of (replicate places []) k ≡ []
none_of places k = elim (cases_lt k places) [
  | inl low ↦ get_or-replicate places k [] [] low
  | inr high ↦ past (replicate places []) (omega (arith, high, length-replicate {A = List ℕ} places []))
]
  where
    past : (lists : List (List ℕ)) → length lists ≤ k → readers_of lists k ≡ []
    past lists above = get_or-eq_default lists [] above

-- the place that a reader is added to has it before the others
pub of_added : (readers : List (List ℕ)) (place reader : ℕ) → place < length readers → readers_of (set readers place (reader ∷ readers_of readers place)) place ≡ reader ∷ readers_of readers place
of_added readers place reader inside = get_or-set_same readers place (reader ∷ readers_of readers place) [] inside

-- and each other place has those that it had
pub of_others : (readers : List (List ℕ)) (place reader k : ℕ) → k ≢ place → readers_of (set readers place (reader ∷ readers_of readers place)) k ≡ readers_of readers k
of_others readers place reader k apart = get_or-set_other readers place k (reader ∷ readers_of readers place) [] apart

-- what holds of all readers, and of one more
pub all_added : (P : ℕ → Type 0) (readers : List (List ℕ)) (place reader : ℕ) → place < length readers → ((k : ℕ) → All P (readers_of readers k)) → P reader →
    (k : ℕ) → All P (readers_of (set readers place (reader ∷ readers_of readers place)) k)
all_added P readers place reader inside all holds k = elim (eqb_tells k place) [
  | inl (t, same) ↦ rw same (rw (of_added readers place reader inside) (All-cons P reader (readers_of readers place) holds (all place)))
  | inr (t, apart) ↦ rw (of_others readers place reader k apart) (all k)
]
