-- Spawners that come back one after another.
use Rattle.std.proofs.Common.{◌≡◌, ◌∙◌, ℕ, suc, ◌+◌, ◌<◌, ◌≤◌, List, [], ◌∷◌, ◌++◌, length, map, take, drop, get_or, set, refl, sym, ap, subst, arith, append_assoc, append-nil}
use Rattle.std.specs.Prelude.{All, flat_map}
use Rattle.std.proofs.lemmas.List.Elements.{All-push, All-nil}
use Rattle.link_trait.specs.Counts.{more_by, all_more_by}
use Rattle.link_trait.specs.Spawners.{Retired}
use Rattle.link_trait.proofs.Fronts.{all_taken as all_taken_is, back_less, front_more, length_front, room_left}
use Rattle.memory_nursery.specs.States.{SpawnerState}
use Rattle.memory_nursery.specs.Keeping.{KeepsSpawner}
use Rattle.memory_nursery.specs.Tallies.{with_spawner, with_spawners}
use Rattle.memory_nursery.specs.declared.counts.WorkerCounts.{WorkerCounts}

-- ---- the counts

-- there are as many counts as before
pub length_with : (cs : List WorkerCounts) (ss : List SpawnerState) → length (with_spawners cs ss) ≡ length cs
length_with cs [] = refl
length_with [] (s ∷ ss) = refl
length_with (c ∷ cs) (s ∷ ss) = ap (λ (n : ℕ). suc n) (length_with cs ss)

-- with one spawner more
pub with_push : (cs : List WorkerCounts) (ss : List SpawnerState) (s : SpawnerState) (d : WorkerCounts) → length ss < length cs →
    with_spawners cs (ss ++ s ∷ []) ≡ set (with_spawners cs ss) (length ss) (with_spawner (get_or (with_spawners cs ss) (length ss) d) s)
with_push [] [] s d below = absurd (omega (arith, below))
with_push (c ∷ cs) [] s d below = refl
with_push [] (x ∷ ss) s d below = absurd (omega (arith, below))
with_push (c ∷ cs) (x ∷ ss) s d below = ap (λ (rest : List WorkerCounts). with_spawner c x ∷ rest) (with_push cs ss s d (omega (arith, below)))

-- one kind of count of all workers
pub one_kind : (f : WorkerCounts → ℕ) (g : SpawnerState → ℕ) → ((c : WorkerCounts) (s : SpawnerState) → f (with_spawner c s) ≡ more_by (f c) (g s)) →
    (cs : List WorkerCounts) (ss : List SpawnerState) → map f (with_spawners cs ss) ≡ all_more_by (map f cs) (map g ss)
one_kind f g each cs [] = refl
one_kind f g each [] (s ∷ ss) = refl
one_kind f g each (c ∷ cs) (s ∷ ss) = rw each (ap (λ (rest : List ℕ). more_by (f c) (g s) ∷ rest) (one_kind f g each cs ss))

-- ---- lists

lists_more : (xs ys : List SpawnerState) → flat_map (λ s. s.spawner.retired) (xs ++ ys) ≡ flat_map (λ s. s.spawner.retired) xs ++ flat_map (λ s. s.spawner.retired) ys
lists_more [] ys = refl
lists_more (x ∷ xs) ys = ap (λ (rest : List Retired). x.spawner.retired ++ rest) (lists_more xs ys) ∙ sym (append_assoc x.spawner.retired (flat_map (λ (s : SpawnerState). s.spawner.retired) xs) (flat_map (λ (s : SpawnerState). s.spawner.retired) ys))

-- ---- so far

-- The first k of the spawners were taken: their counts are added up, and their lists of retired links have moved.
pub record AreTaken (k : ℕ) (all rest : List SpawnerState) (before now : List WorkerCounts) (old new : List Retired) (len_before len_now room_before room_now : ℕ) : Type 0 where
  pub within : k ≤ length all
  pub left : rest ≡ drop k all
  pub counts : now ≡ with_spawners before (take k all)
  pub retired : new ≡ old ++ flat_map (λ s. s.spawner.retired) (take k all)
  pub len : len_now ≡ len_before + k
  pub room : room_now ≡ room_before
  pub kept : All KeepsSpawner (take k all)

module _ (all : List SpawnerState) (before : List WorkerCounts) (old : List Retired) (len_before room_before : ℕ) where
  -- none so far
  pub none_taken : AreTaken 0 all all before before old old len_before len_before room_before room_before
  none_taken = record { within = omega arith; left = refl; counts = refl; retired = sym (append-nil old); len = omega arith; room = refl; kept = All-nil KeepsSpawner }

  -- there is room for the next one
  pub next_fits : (k : ℕ) (rest next : List SpawnerState) (s : SpawnerState) (now : List WorkerCounts) (new : List Retired) (len_now room_now : ℕ) →
      AreTaken k all rest before now old new len_before len_now room_before room_now → rest ≡ s ∷ next → k < length all
  next_fits k rest next s now new len_now room_now so_far is = room_left k all next s (sym so_far.left ∙ is)

  -- one more
  pub taken_more : (k : ℕ) (rest next : List SpawnerState) (s : SpawnerState) (now after : List WorkerCounts) (new more : List Retired) (len_now len_after room_now room_after : ℕ) (d : WorkerCounts) →
      AreTaken k all rest before now old new len_before len_now room_before room_now → rest ≡ s ∷ next → length all ≤ length before →
      after ≡ set now k (with_spawner (get_or now k d) s) → more ≡ new ++ s.spawner.retired → len_after ≡ len_now + 1 → room_after ≡ room_now → KeepsSpawner s →
      AreTaken (k + 1) all next before after old more len_before len_after room_before room_after
  taken_more k rest next s now after new more len_now len_after room_now room_after d so_far is fits put moved longer same keeps =
      let h : drop k all ≡ s ∷ next = sym so_far.left ∙ is in
      let low : k < length all = room_left k all next s h in
      let size : length (take k all) ≡ k = length_front k all so_far.within in
      let pushed : with_spawners before (take k all ++ s ∷ []) ≡ set (with_spawners before (take k all)) k (with_spawner (get_or (with_spawners before (take k all)) k d) s) =
      subst (λ (n : ℕ). with_spawners before (take k all ++ s ∷ []) ≡ set (with_spawners before (take k all)) n (with_spawner (get_or (with_spawners before (take k all)) n d) s)) size
      (with_push before (take k all) s d (omega (arith, size, low, fits))) in
      record {
        within = omega (arith, low);
        left = back_less k all next s h;
        counts = put ∙ (ap (λ (cs : List WorkerCounts). set cs k (with_spawner (get_or cs k d) s)) so_far.counts ∙ (sym pushed ∙ ap (with_spawners before) (sym (front_more k all next s h))));
        retired = moved ∙ (ap (λ (rs : List Retired). rs ++ s.spawner.retired) so_far.retired
            ∙ (append_assoc old (flat_map (λ (s : SpawnerState). s.spawner.retired) (take k all)) s.spawner.retired
            ∙ ap (λ (rs : List Retired). old ++ rs) (ap (λ (rs : List Retired). flat_map (λ (s : SpawnerState). s.spawner.retired) (take k all) ++ rs) (sym (append-nil s.spawner.retired))
            ∙ (sym (lists_more (take k all) (s ∷ [])) ∙ ap (flat_map (λ (s : SpawnerState). s.spawner.retired)) (sym (front_more k all next s h))))));
        len = omega (arith, so_far.len, longer);
        room = same ∙ so_far.room;
        kept = subst (All KeepsSpawner) (sym (front_more k all next s h)) (All-push KeepsSpawner (take k all) s so_far.kept keeps);
      }

  -- all of them
  pub all_taken : (k : ℕ) (rest : List SpawnerState) (now : List WorkerCounts) (new : List Retired) (len_now room_now : ℕ) →
      AreTaken k all rest before now old new len_before len_now room_before room_now → rest ≡ [] → AreTaken (length all) all [] before now old new len_before len_now room_before room_now
  all_taken k rest now new len_now room_now so_far none =
      let end = all_taken_is k all (sym so_far.left ∙ none) so_far.within in
      let whole : take (length all) all ≡ take k all = ap (λ (n : ℕ). take n all) (sym end.1) in
      record {
        within = omega arith;
        left = sym none ∙ (so_far.left ∙ ap (λ (n : ℕ). drop n all) end.1);
        counts = so_far.counts ∙ ap (with_spawners before) (sym whole);
        retired = so_far.retired ∙ ap (λ (ss : List SpawnerState). old ++ flat_map (λ (s : SpawnerState). s.spawner.retired) ss) (sym whole);
        len = omega (arith, so_far.len, end.1);
        room = so_far.room;
        kept = subst (All KeepsSpawner) (sym whole) so_far.kept;
      }

pub take_whole : {X : Type 0} (all : List X) → take (length all) all ≡ all
take_whole [] = refl
take_whole (x ∷ all) = ap (λ xs. x ∷ xs) (take_whole all)
