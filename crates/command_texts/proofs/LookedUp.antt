-- Sources that are looked up one after another.
use Rattle.std.proofs.Common.{◌≡◌, ℕ, zero, suc, add-one, ◌+◌, ◌<◌, Bool, true, false, List, [], ◌∷◌, ◌++◌, take, length, get_or, ap, refl, arith, Some, None}
use Rattle.px_base.specs.Values.{is_listed, place_of}
use Rattle.px_base.specs.Starts.{first_unknown, positions_of}

-- the source at i is no id, and those before it are
pub unknown_at : (ids sources : List ℕ) (i : ℕ) → i < length sources → ((k : ℕ) → k < i → is_listed ids (get_or sources k 0) ≡ true) → is_listed ids (get_or sources i 0) ≡ false →
    first_unknown ids sources ≡ Some (get_or sources i 0)
unknown_at ids [] i below before at = absurd (omega arith)
unknown_at ids (s ∷ ss) zero below before at = rw at refl
unknown_at ids (s ∷ ss) (suc i) below before at =
    let first : is_listed ids s ≡ true = before 0 (omega arith) in
    rw first (unknown_at ids ss i (omega arith) (λ k low. before (suc k) (omega arith)) at)

-- all are ids
pub none_unknown : (ids sources : List ℕ) → ((k : ℕ) → k < length sources → is_listed ids (get_or sources k 0) ≡ true) → first_unknown ids sources ≡ None
none_unknown ids [] all = refl
none_unknown ids (s ∷ ss) all =
    let first : is_listed ids s ≡ true = all 0 (omega arith) in
    rw first (none_unknown ids ss (λ k low. all (suc k) (omega arith)))

-- where none is unknown, each is an id
pub each_known : (ids sources : List ℕ) (i : ℕ) → first_unknown ids sources ≡ None → i < length sources → is_listed ids (get_or sources i 0) ≡ true
each_known ids [] i none below = absurd (omega arith)
each_known ids (s ∷ ss) i none below = by_first (is_listed ids s) refl i none below (λ k. each_known ids ss k)
  where
    by_first : (b : Bool) → is_listed ids s ≡ b → (i : ℕ) → first_unknown ids (s ∷ ss) ≡ None → i < length (s ∷ ss) →
        ((k : ℕ) → first_unknown ids ss ≡ None → k < length ss → is_listed ids (get_or ss k 0) ≡ true) → is_listed ids (get_or (s ∷ ss) i 0) ≡ true
    by_first true is zero none below later = is
    by_first true is (suc i) none below later = later i (rw is at none) (omega arith)
    by_first false is i none below later = absurd (let wrong : Some s ≡ None = rw is at none in cc)

positions_suc : (ids sources : List ℕ) (i : ℕ) → i < length sources →
    positions_of ids (take (suc i) sources) ≡ positions_of ids (take i sources) ++ place_of ids (get_or sources i 0) ∷ []
positions_suc ids [] i below = absurd (omega arith)
positions_suc ids (s ∷ ss) zero below = refl
positions_suc ids (s ∷ ss) (suc i) below = ap (λ l. place_of ids s ∷ l) (positions_suc ids ss i (omega arith))

-- one source more
pub positions_more : (ids sources : List ℕ) (i : ℕ) → i < length sources →
    positions_of ids (take (i + 1) sources) ≡ positions_of ids (take i sources) ++ place_of ids (get_or sources i 0) ∷ []
positions_more ids sources i below = rw add-one (positions_suc ids sources i below)
