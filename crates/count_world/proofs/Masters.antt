-- Sets of masters, and what counts lose to them.
use Rattle.std.proofs.Common.{◌≡◌, ℕ, ◌<◌, ◌∙◌, List, length, get_or, map, sym, arith}
use Rattle.std.proofs.lemmas.List.{length-map, get_or-map}
use Rattle.std.proofs.lemmas.Grind.{same_number_lists}
use Rattle.std.proofs.lemmas.List.FromFn.{fill_by_all}
use Rattle.px_base.specs.Values.{by_position}
use Rattle.px_base.proofs.Positions.{length_by_position, at_position}

-- ---- lists by position

pub by_position_same : {X : Type 0} (m n : ℕ) (f g : ℕ → X) (d : X) → m ≡ n → ((k : ℕ) → k < n → f k ≡ g k) → by_position m f ≡ by_position n g
by_position_same m n f g d size same =
    fill_by_all g (by_position m f) n d (length_by_position m f ∙ size) (λ k below. (let inside : k < m = omega (arith, size, below) in at_position m f k d inside ∙ same k below))

-- ---- what is written over a whole list

pub map_by_place : (f : ℕ → ℕ) (ms xs : List ℕ) → length xs ≡ length ms → ((i : ℕ) → i < length xs → get_or xs i 0 ≡ f (get_or ms i 0)) → xs ≡ map f ms
map_by_place f ms xs size each = same_number_lists xs (map f ms) (size ∙ sym (length-map ms f)) (λ i below. (let inside : i < length ms = omega (arith, below, size) in each i below ∙ sym (get_or-map f ms i 0 0 inside)))
