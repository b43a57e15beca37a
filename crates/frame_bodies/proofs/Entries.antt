-- Entries that are read one after the other.
use Rattle.std.proofs.Common.{◌≡◌, ℕ, List, [], ◌∷◌, ◌++◌, append_assoc, sym, ap, ◌∙◌}
use Rattle.std.specs.Prelude.{flat_map}
use Rattle.std.proofs.lemmas.List.{flat_map_more}

-- one more entry is read
pub read_more : {X : Type 0} (f : X → List ℕ) (bytes rest after : List ℕ) (xs : List X) (x : X) → bytes ≡ flat_map f xs ++ rest → rest ≡ f x ++ after → bytes ≡ flat_map f (xs ++ x ∷ []) ++ after
read_more f bytes rest after xs x e r =
    e ∙ ap (λ (l : List ℕ). flat_map f xs ++ l) r ∙ sym (append_assoc (flat_map f xs) (f x) after)
    ∙ ap (λ (l : List ℕ). l ++ after) (flat_map_more f [] xs x)
