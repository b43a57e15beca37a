-- The counts of spawners that come back one after another.
use Rattle.std.proofs.Common.{◌≡◌, ◌∙◌, ℕ, ◌+◌, ◌<◌, ◌≤◌, List, [], ◌∷◌, ◌++◌, length, map, take, drop, set, sym, ap, subst, arith}
use Rattle.std.specs.Prelude.{All, slice_index}
use Rattle.std.proofs.lemmas.List.Elements.{All-push}
use Rattle.std.proofs.lemmas.List.{length-map, map-append}
use Rattle.link_trait.specs.Counts.{more_by, all_more_by}
use Rattle.link_trait.specs.Spawners.{SpawnerView}
use Rattle.link_trait.proofs.Fronts.{back_less, front_more, length_front, room_left}
use Rattle.link_trait.proofs.Counting.{more_push}

-- one kind of count, once the first k have been added
abbrev pub added : (f : SpawnerView → ℕ) → ℕ → List SpawnerView → List ℕ → List ℕ
added f k all before = all_more_by before (map f (take k all))

-- the spawner has kept no link
abbrev pub KeptNothing : SpawnerView → Type 0
KeptNothing s = s.retired ≡ []

-- The first k of the spawners have come back, and the rest is left.
pub record AreAdded (k : ℕ) (all rest : List SpawnerView) (starts faults ends : List ℕ) (now_starts now_faults now_ends : List ℕ) : Type 0 where
  pub within : k ≤ length all
  pub left : rest ≡ drop k all
  pub by_starts : now_starts ≡ added (λ s. s.starts) k all starts
  pub by_faults : now_faults ≡ added (λ s. s.faults) k all faults
  pub by_ends : now_ends ≡ added (λ s. s.ends) k all ends
  pub nothing : All KeptNothing (take k all)

-- one kind of count with the next one
added_more : (f : SpawnerView → ℕ) (k : ℕ) (all next : List SpawnerView) (s : SpawnerView) (before now : List ℕ) → drop k all ≡ s ∷ next → length all ≤ length before → now ≡ added f k all before →
    set now k (more_by (slice_index now k) (f s)) ≡ added f (k + 1) all before
added_more f k all next s before now h fits is =
    let low : k < length all = room_left k all next s h in
    let size : length (map f (take k all)) ≡ k = length-map (take k all) f ∙ length_front k all (omega (arith, low)) in
    let front : take k all ++ s ∷ [] ≡ take (k + 1) all = sym (front_more k all next s h) in
    let pushed : all_more_by before (map f (take k all) ++ f s ∷ []) ≡ set (all_more_by before (map f (take k all))) k (more_by (slice_index (all_more_by before (map f (take k all))) k) (f s)) =
    subst (λ (n : ℕ). all_more_by before (map f (take k all) ++ f s ∷ []) ≡ set (all_more_by before (map f (take k all))) n (more_by (slice_index (all_more_by before (map f (take k all))) n) (f s))) size
    (more_push before (map f (take k all)) (f s) (omega (arith, size, low, fits))) in
    ap (λ (xs : List ℕ). set xs k (more_by (slice_index xs k) (f s))) is
    ∙ (sym pushed ∙ ap (all_more_by before) (sym (map-append f (take k all) (s ∷ [])) ∙ ap (map f) front))

module _ (all : List SpawnerView) (starts faults ends : List ℕ) where
  pub next_low : (k : ℕ) (rest next : List SpawnerView) (s : SpawnerView) (a b c : List ℕ) → AreAdded k all rest starts faults ends a b c → rest ≡ s ∷ next → k < length all
  next_low k rest next s a b c so_far is = room_left k all next s (sym so_far.left ∙ is)

  pub added_next : (k : ℕ) (rest next : List SpawnerView) (s : SpawnerView) (a b c : List ℕ) (x y z : ℕ) → AreAdded k all rest starts faults ends a b c → rest ≡ s ∷ next →
      length all ≤ length starts → length all ≤ length faults → length all ≤ length ends →
      x ≡ more_by (slice_index a k) s.starts → y ≡ more_by (slice_index b k) s.faults → z ≡ more_by (slice_index c k) s.ends → KeptNothing s →
      AreAdded (k + 1) all next starts faults ends (set a k x) (set b k y) (set c k z)
  added_next k rest next s a b c x y z so_far is l m n e f g none =
      let h : drop k all ≡ s ∷ next = sym so_far.left ∙ is in
      record {
        within = omega (arith, room_left k all next s h);
        left = back_less k all next s h;
        by_starts = rw e (added_more (λ (s : SpawnerView). s.starts) k all next s starts a h l so_far.by_starts);
        by_faults = rw f (added_more (λ (s : SpawnerView). s.faults) k all next s faults b h m so_far.by_faults);
        by_ends = rw g (added_more (λ (s : SpawnerView). s.ends) k all next s ends c h n so_far.by_ends);
        nothing = subst (All KeptNothing) (sym (front_more k all next s h)) (All-push KeptNothing (take k all) s so_far.nothing none);
      }
