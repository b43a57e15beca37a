-- Updates whose places among the mirrors are looked up.
use Rattle.std.proofs.Common.{◌≡◌, ℕ, zero, suc, ◌+◌, ◌<◌, ◌∙◌, List, [], ◌∷◌, ◌++◌, length, get_or, map, take, ap, sym, arith}
use Rattle.std.proofs.lemmas.List.{get_or-map, length-map, map_more}
use Rattle.std.proofs.lemmas.List.Elements.{All-append}
use Rattle.px_base.specs.declared.wire.Update.{Update}
use Rattle.px_base.specs.Values.{place_of}
use Rattle.count_world.proofs.Foreign.{some_update}
use Rattle.worker_world.specs.Looked.{ArePlacesOf}

pub places_count : (mirrors : List ℕ) (updates : List Update) (places : List ℕ) → ArePlacesOf mirrors updates places → length places ≡ length updates
places_count mirrors updates places are = ap length are.is ∙ length-map updates (λ (u : Update). place_of mirrors u.vertex)

pub place_at : (mirrors : List ℕ) (updates : List Update) (places : List ℕ) (k : ℕ) (d : Update) → ArePlacesOf mirrors updates places → k < length updates → get_or places k 0 ≡ place_of mirrors (get_or updates k d).vertex
place_at mirrors updates places k d are inside = ap (λ list. get_or list k 0) are.is ∙ get_or-map (λ (u : Update). place_of mirrors u.vertex) updates k d 0 inside

pub place_inside : (mirrors : List ℕ) (updates : List Update) (places : List ℕ) (k : ℕ) → ArePlacesOf mirrors updates places → k < length updates → get_or places k 0 < length mirrors
place_inside mirrors updates places k are inside = are.inside k 0 (omega (arith, inside, places_count mirrors updates places are))

-- one update more
pub one_place_more : (mirrors : List ℕ) (updates : List Update) (places new : List ℕ) (i place : ℕ) → i < length updates → ArePlacesOf mirrors (take i updates) places → place ≡ place_of mirrors (get_or updates i some_update).vertex →
    place < length mirrors → new ≡ places ++ place ∷ [] → ArePlacesOf mirrors (take (i + 1) updates) new
one_place_more mirrors updates places new i place more are at inside put = rw put (record {
  is = ap (λ list. list ++ place ∷ []) are.is ∙ ap (λ p. map (λ (u : Update). place_of mirrors u.vertex) (take i updates) ++ p ∷ []) at ∙ sym (map_more (λ (u : Update). place_of mirrors u.vertex) updates i some_update more);
  inside = All-append (λ k. k < length mirrors) places (place ∷ []) are.inside (λ k d below. here k d below);
})
  where
    here : (k d : ℕ) → k < length (place ∷ []) → get_or (place ∷ []) k d < length mirrors
    here zero d below = inside
    here (suc k) d below = absurd (omega (arith, below))
