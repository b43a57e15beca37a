-- Spawners that tell nothing, as they are lent.
use Rattle.std.proofs.Common.{◌≡◌, ◌∙◌, ℕ, ◌+◌, ◌-◌, false, None, List, [], ◌∷◌, ◌++◌, length, map, refl, sym, ap, ap₂, append-nil}
use Rattle.std.specs.Prelude.{All, flat_map}
use Rattle.std.proofs.lemmas.List.Elements.{All-head, All-tail}
use Rattle.link_trait.specs.Counts.{all_more_by}
use Rattle.link_trait.specs.Nurseries.{NurseryView, IsTakenBack}
use Rattle.link_trait.specs.Spawners.{SpawnerView}
use Rattle.px_base.specs.Values.{by_position}
use Rattle.px_base.proofs.Positions.{by_position_more}
use Rattle.link_calls.specs.Silent.{no_plan, one_mark}

-- the spawner of worker k
abbrev pub silent_spawner : ℕ → SpawnerView
silent_spawner k = record { worker = k; starts = 0; faults = 0; ends = 0; retired = []; lent_as = one_mark; out = None; tells = false; plan = no_plan }

-- one more
pub lent_more : (k : ℕ) (all now : List SpawnerView) (s : SpawnerView) → now ≡ all ++ s ∷ [] → all ≡ by_position k silent_spawner → s ≡ silent_spawner k → now ≡ by_position (k + 1) silent_spawner
lent_more k all now s pushed is its = pushed ∙ (ap₂ (λ (xs : List SpawnerView) (x : SpawnerView). xs ++ x ∷ []) is its ∙ sym (by_position_more k silent_spawner))

-- what they show is what they are
pub shown_same : (xs : List SpawnerView) → map (λ (s : SpawnerView). s) xs ≡ xs
shown_same [] = refl
shown_same (x ∷ xs) = ap (λ (rest : List SpawnerView). x ∷ rest) (shown_same xs)

nothing_kept : (all : List SpawnerView) → All (λ s. s.retired ≡ []) all → flat_map (λ s. s.retired) all ≡ []
nothing_kept [] none = refl
nothing_kept (s ∷ all) none = rw (All-head (λ (s : SpawnerView). s.retired ≡ []) s all none) (nothing_kept all (All-tail (λ (s : SpawnerView). s.retired ≡ []) s all none))

-- once all have come back
pub are_back : (n : NurseryView) (all : List SpawnerView) (starts faults ends : List ℕ) (count : ℕ) → n.retired ≡ [] → All (λ s. s.retired ≡ []) all →
    starts ≡ all_more_by n.starts (map (λ s. s.starts) all) → faults ≡ all_more_by n.faults (map (λ s. s.faults) all) → ends ≡ all_more_by n.ends (map (λ s. s.ends) all) → count ≡ length all →
    IsTakenBack n (record n { lent = false; starts = starts; faults = faults; ends = ends; room = n.room - count }) (map (λ (s : SpawnerView). s) all)
are_back n all starts faults ends count empty none a b c d = record { nursery = rw (shown_same all, a, b, c, d, nothing_kept all none, append-nil) refl }
