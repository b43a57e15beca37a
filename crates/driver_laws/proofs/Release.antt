-- The links are taken back one after another.
use Rattle.std.proofs.Common.{◌≡◌, ◌≢◌, ℕ, ◌+◌, ◌<◌, ◌≤◌, Bool, List, length, map, get_or, set, Option, None, arith, refl, sym, ◌∙◌, ap, subst, inl, inr}
use Rattle.std.specs.Prelude.{MatchOption, ⊤}
use Rattle.std.specs.Option.{option_map}
use Rattle.std.proofs.lemmas.List.{map-set, get_or-set_same, get_or-set_other, length-map}
use Rattle.std.proofs.lemmas.Bool.{cases_eq}
use Rattle.link_trait.specs.Links.{LinkView}
use Rattle.link_trait.specs.Spawners.{SpawnerView, IsLinkOf}
use Rattle.driver_laws.specs.Endings.{released}
use Rattle.driver_laws.proofs.Tune.{shown_at}

-- the spawners below the i-th have their links back, and the others are as before
pub record IsReleasing (keep : Bool) (spawners : List SpawnerView) (links : List (Option LinkView)) (i : ℕ) (ps : List SpawnerView) (ls : List (Option LinkView)) : Type 0 where
  pub done : (k : ℕ) (p : SpawnerView) → k < i → get_or ps k p ≡ released keep (get_or spawners k p) (get_or links k None)
  pub left : (k : ℕ) (p : SpawnerView) → i ≤ k → get_or ps k p ≡ get_or spawners k p
  pub links_left : (k : ℕ) → i ≤ k → get_or ls k None ≡ get_or links k None

pub releasing_init : (keep : Bool) (ps : List SpawnerView) (ls : List (Option LinkView)) → IsReleasing keep ps ls 0 ps ls
releasing_init keep ps ls = record { done = λ k p below. absurd (omega arith); left = λ k p above. refl; links_left = λ k above. refl }

releasing_set : (keep : Bool) (spawners : List SpawnerView) (links : List (Option LinkView)) (i : ℕ) (ps : List SpawnerView) (ls : List (Option LinkView)) (q : SpawnerView) (o : Option LinkView) →
    IsReleasing keep spawners links i ps ls → i < length ps → ((p : SpawnerView) → q ≡ released keep (get_or spawners i p) (get_or links i None)) → IsReleasing keep spawners links (i + 1) (set ps i q) (set ls i o)
releasing_set keep spawners links i ps ls q o before inside is = record {
  done = λ k p below. elim (cases_eq k i) [
    | inl e ↦ rw (e, get_or-set_same ps i q p inside) (is p)
    | inr ne ↦ get_or-set_other ps i k q p ne ∙ before.done k p (omega (arith, ne))
  ];
  left = λ k p above. get_or-set_other ps i k q p (apart k above) ∙ before.left k p (omega (arith, above));
  links_left = λ k above. get_or-set_other ls i k o None (apart k above) ∙ before.links_left k (omega (arith, above));
}
  where
    apart : (k : ℕ) → i + 1 ≤ k → k ≢ i
    apart k above e = omega (arith, above, e)

module _ {A L : Type 0} (f : A → SpawnerView) (h : L → LinkView) (keep : Bool) (spawners : List SpawnerView) (links : List (Option LinkView)) (xs : List A) (ls : List (Option L)) (i : ℕ) (x : A) (l : Option L)
    (before : IsReleasing keep spawners links i (map f xs) (map (option_map h) ls)) (inside : i < length xs) (inside' : i < length ls) (is : x ≡ get_or xs i x) (is' : l ≡ get_or ls i l) where
  spawner_is : (p : SpawnerView) → f x ≡ get_or spawners i p
  spawner_is p = sym (shown_at f xs i x p inside is) ∙ before.left i p (omega arith)

  link_is : option_map h l ≡ get_or links i None
  link_is = sym (shown_at (option_map h) ls i l None inside' is') ∙ before.links_left i (omega arith)

  -- the link that is taken back now is the spawner's
  pub releasing_link : MatchOption (get_or links i None) ⊤ (IsLinkOf (get_or spawners i (f x))) → MatchOption (option_map h l) ⊤ (IsLinkOf (f x))
  releasing_link own = subst (λ (o : Option LinkView). MatchOption o ⊤ (IsLinkOf (f x))) (sym link_is) (subst (λ (p : SpawnerView). MatchOption (get_or links i None) ⊤ (IsLinkOf p)) (sym (spawner_is (f x))) own)

  pub releasing_more : (y : A) (k : Option L) → f y ≡ released keep (f x) (option_map h l) → IsReleasing keep spawners links (i + 1) (map f (set xs i y)) (map (option_map h) (set ls i k))
  releasing_more y k now = rw (map-set f xs i y, map-set (option_map h) ls i k)
      (releasing_set keep spawners links i (map f xs) (map (option_map h) ls) (f y) (option_map h k) before (omega (arith, inside, length-map xs f))
      (λ p. now ∙ (ap (λ (q : SpawnerView). released keep q (option_map h l)) (spawner_is p) ∙ ap (released keep (get_or spawners i p)) link_is)))
