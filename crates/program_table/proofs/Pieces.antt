-- The pieces of a text are the parts of a split.
use Rattle.std.proofs.Common.{◌≡◌, ℕ, Bool, cond, List, [], ◌∷◌, refl, ap, ◌∙◌}
use Rattle.std.specs.List.{slice_split, onto_first}
use Rattle.px_base.specs.Lines.{in_front, pieces_at}

front_is : (b : ℕ) (ps : List (List ℕ)) → onto_first b ps ≡ in_front b ps
front_is b [] = refl
front_is b (p ∷ ps) = refl

pub split_is : (test : ℕ → Bool) (text : List ℕ) → slice_split test text ≡ pieces_at test text
split_is test [] = refl
split_is test (b ∷ bytes) =
    ap (λ ps. cond (test b) ([] ∷ ps) (onto_first b ps)) (split_is test bytes) ∙ ap (λ ps. cond (test b) ([] ∷ pieces_at test bytes) ps) (front_is b (pieces_at test bytes))
