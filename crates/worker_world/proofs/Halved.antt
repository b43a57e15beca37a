-- Lists of values that are the same in their first or their second half.
use Rattle.std.proofs.Common.{◌≡◌, ℕ, ◌+◌, ◌<◌, ◌≤◌, ◌∙◌, List, ◌++◌, length, length-take, length-drop, get_or, take, drop, sym, ap, arith}
use Rattle.std.proofs.lemmas.Grind.{same_number_lists}
use Rattle.std.proofs.lemmas.List.{take-append-drop, get_or-take, get_or-drop}

pub take_same : (m : ℕ) (xs ys : List ℕ) → length xs ≡ length ys → ((k : ℕ) → k < m → get_or xs k 0 ≡ get_or ys k 0) → take m xs ≡ take m ys
take_same m xs ys lengths each =
    same_number_lists (take m xs) (take m ys) (omega (arith, length-take m xs, length-take m ys, lengths))
    (λ k below. let inside : k < m = omega (arith, below, length-take m xs) in get_or-take m xs k 0 inside ∙ each k inside ∙ sym (get_or-take m ys k 0 inside))

pub drop_same : (m : ℕ) (xs ys : List ℕ) → length xs ≡ length ys → ((k : ℕ) → m ≤ k → get_or xs k 0 ≡ get_or ys k 0) → drop m xs ≡ drop m ys
drop_same m xs ys lengths each =
    same_number_lists (drop m xs) (drop m ys) (omega (arith, length-drop m xs, length-drop m ys, lengths))
    (λ k below. get_or-drop m xs k 0 ∙ each (m + k) (omega arith) ∙ sym (get_or-drop m ys k 0))

-- a list whose first half is that of one, and whose second is that of another
pub both_same : (m : ℕ) (xs first rest : List ℕ) → length xs ≡ length first → length xs ≡ length rest → ((k : ℕ) → k < m → get_or xs k 0 ≡ get_or first k 0) → ((k : ℕ) → m ≤ k → get_or xs k 0 ≡ get_or rest k 0) →
    xs ≡ take m first ++ drop m rest
both_same m xs first rest one two low high = sym (take-append-drop m xs) ∙ ap (λ list. list ++ drop m xs) (take_same m xs first one low) ∙ ap (λ list. take m first ++ list) (drop_same m xs rest two high)
