-- What a nursery in memory shows, once its spawners came back.
use Rattle.std.proofs.Common.{◌≡◌, ℕ, ◌+◌, ◌-◌, Bool, false, List, ◌++◌, length, map, refl, sym, subst, arith}
use Rattle.std.specs.Prelude.{All, flat_map}
use Rattle.std.proofs.lemmas.List.{length-map}
use Rattle.std.proofs.lemmas.List.Folds.{flat_map-map}
use Rattle.std.proofs.lemmas.Simd.{map-map}
use Rattle.link_trait.specs.Plans.{Plan, LentAs}
use Rattle.link_trait.specs.Spawners.{Retired, SpawnerView}
use Rattle.link_trait.specs.Nurseries.{AreBack}
use Rattle.memory_nursery.specs.States.{SpawnerState, NurseryState, taken_back}
use Rattle.memory_nursery.specs.Keeping.{KeepsSpawner, KeepsNursery}
use Rattle.memory_nursery.specs.Tallies.{nursery_of, with_spawners}
use Rattle.memory_nursery.specs.declared.counts.WorkerCounts.{WorkerCounts}
use Rattle.memory_nursery.proofs.Taking.{one_kind}
use Rattle.memory_nursery.proofs.Tallying.{return_keeps}

-- a number of each spawner, by what it shows
shown : (f : SpawnerView → ℕ) (all : List SpawnerState) → map f (map (λ s. s.spawner) all) ≡ map (λ s. f s.spawner) all
shown f all = map-map f (λ (s : SpawnerState). s.spawner) all

pub back_view : (lent : Bool) (count : ℕ) (mark : LentAs) (counts : List WorkerCounts) (old : List Retired) (room : ℕ) (plan : Plan) (all : List SpawnerState) →
    nursery_of false count mark (with_spawners counts all) (old ++ flat_map (λ s. s.spawner.retired) all) (room - length all) plan ≡ taken_back (nursery_of lent count mark counts old room plan) all
back_view lent count mark counts old room plan all =
    rw (
      shown (λ (v : SpawnerView). v.starts) all,
      shown (λ (v : SpawnerView). v.faults) all,
      shown (λ (v : SpawnerView). v.ends) all,
      flat_map-map (λ (v : SpawnerView). v.retired) (λ (s : SpawnerState). s.spawner) all,
      length-map all (λ (s : SpawnerState). s.spawner),
      one_kind (λ (c : WorkerCounts). c.starts) (λ (s : SpawnerState). s.spawner.starts) (λ c s. refl) counts all,
      one_kind (λ (c : WorkerCounts). c.faults) (λ (s : SpawnerState). s.spawner.faults) (λ c s. refl) counts all,
      one_kind (λ (c : WorkerCounts). c.ends) (λ (s : SpawnerState). s.spawner.ends) (λ c s. refl) counts all,
      one_kind (λ (c : WorkerCounts). c.starts_since) (λ (s : SpawnerState). s.spawner.starts) (λ c s. refl) counts all,
      one_kind (λ (c : WorkerCounts). c.links_since) (λ (s : SpawnerState). s.links) (λ c s. refl) counts all,
    ) refl

-- the same, of the lists as they are now
pub is_back : (lent : Bool) (count : ℕ) (mark : LentAs) (counts now : List WorkerCounts) (old new : List Retired) (len len_now room room_now : ℕ) (plan : Plan) (all : List SpawnerState) →
    now ≡ with_spawners counts all → new ≡ old ++ flat_map (λ s. s.spawner.retired) all → len_now ≡ len + length all → room_now ≡ room →
    nursery_of false count mark now new (room_now - len_now) plan ≡ taken_back (nursery_of lent count mark counts old (room - len) plan) all
is_back lent count mark counts now old new len len_now room room_now plan all a b c d =
    let left : room_now - len_now ≡ (room - len) - length all = omega (arith, c, d) in
    rw (a, b, left) (back_view lent count mark counts old (room - len) plan all)

pub back_keeps : (n new : NurseryState) (all : List SpawnerState) → KeepsNursery n → AreBack n.nursery (map (λ s. s.spawner) all) → All KeepsSpawner all → new ≡ taken_back n all → KeepsNursery new
back_keeps n new all kept back each is = subst KeepsNursery (sym is) (return_keeps n all kept back each)
