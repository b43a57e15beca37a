-- Lists of masters, and what counts lose to them. Masters are named by k and j, their place in the part.
use Rattle.std.specs.Prelude.{◌≡◌, ℕ, ◌+◌, ◌-◌, Bool, true, not, ◌&&◌, ◌||◌, ◌==◌, ◌<◌, nat_lt, List, length, sum_by, slice_index, if◌then◌else◌}
use Rattle.std.specs.List.{list_any}
use Rattle.px_base.specs.declared.wire.Update.{Update}
use Rattle.px_base.specs.Values.{by_position, is_in, is_listed}
use Rattle.reader_chains.specs.declared.readers.Readers.{Readers}
use Rattle.count_world.specs.Readers.{times_listed}

-- alive, with a count below the number needed
abbrev pub is_dying : List ℕ → List ℕ → ℕ → ℕ → Bool
is_dying alive counts needed k = is_in alive k && nat_lt (slice_index counts k) needed

-- alive, with a count that falls below the number needed
abbrev pub falls : ℕ → ℕ → ℕ → ℕ → Bool
falls flag before after needed = (flag == 1) && (not (nat_lt before needed) && nat_lt after needed)

-- dead already, where a Step is fresh
abbrev pub is_told_again : Bool → List ℕ → ℕ → Bool
is_told_again fresh alive k = fresh && not (is_in alive k)

-- each count less what its master reads of the members, by the lists of their readers
abbrev pub counts_off : Readers → List ℕ → List ℕ → List ℕ
counts_off readers members counts = by_position (length counts) (λ j. slice_index counts j - sum_by (λ k. times_listed readers k j) members)

-- the list with 0 at the members
abbrev pub without : List ℕ → List ℕ → List ℕ
without members items = by_position (length items) (λ k. if is_listed members k then 0 else slice_index items k)

-- some update is of master j
abbrev pub is_updated : ℕ → List Update → ℕ → Bool
is_updated low updates j = list_any (λ u. u.vertex == low + j) updates

-- The counts that a Step may change are saved.
abbrev pub AreSaved : Bool → ℕ → List Update → List ℕ → List ℕ → Type 0
AreSaved fresh low updates counts saved = (j : ℕ) → j < length counts → (fresh || is_updated low updates j) ≡ true → slice_index saved j ≡ slice_index counts j
