-- What a nursery in memory keeps when it is made, given scripts, or lends.
use Rattle.std.proofs.Common.{◌≡◌, ◌∙◌, ℕ, zero, suc, ◌≤◌, Bool, true, false, List, [], ◌∷◌, ◌++◌, length, map, take, drop, replicate, refl, sym, ap, arith}
use Rattle.std.specs.Prelude.{slice_index}
use Rattle.std.proofs.lemmas.List.Elements.{All-nil}
use Rattle.std.proofs.lemmas.Simd.{map-map}
use Rattle.px_base.specs.Values.{positions_below, by_position}
use Rattle.link_trait.specs.declared.scripts.Scripted.{Scripted}
use Rattle.link_trait.specs.declared.scripts.Refusal.{Refusal}
use Rattle.link_trait.specs.Plans.{Plan, LentAs}
use Rattle.link_trait.specs.Spawners.{Retired}
use Rattle.link_trait.specs.Nurseries.{with_room}
use Rattle.memory_nursery.specs.States.{SpawnerState, NurseryState, AreLentBy, bare_nursery, new_nursery, new_spawner_state, next_mark, no_counts, no_mark, plan_now, scripted}
use Rattle.memory_nursery.specs.Keeping.{KeepsNursery, IsOfNursery}
use Rattle.memory_nursery.specs.Tallies.{begun_anew, nursery_of}
use Rattle.memory_nursery.specs.declared.counts.WorkerCounts.{WorkerCounts}

-- ---- lists of zeros

zero_at : (m w : ℕ) → slice_index (replicate m 0) w ≡ 0
zero_at zero w = refl
zero_at (suc m) zero = refl
zero_at (suc m) (suc w) = zero_at m w

kind_of_same : (f : WorkerCounts → ℕ) (m : ℕ) (c : WorkerCounts) → map f (replicate m c) ≡ replicate m (f c)
kind_of_same f zero c = refl
kind_of_same f (suc m) c = ap (λ (rest : List ℕ). f c ∷ rest) (kind_of_same f m c)

all_zero : (cs : List WorkerCounts) → map (λ (c : WorkerCounts). zero) cs ≡ replicate (length cs) 0
all_zero [] = refl
all_zero (c ∷ cs) = ap (λ (rest : List ℕ). zero ∷ rest) (all_zero cs)

nothing_after : {X : Type 0} (xs : List X) → drop (length xs) xs ≡ []
nothing_after [] = refl
nothing_after (x ∷ xs) = nothing_after xs

many : (m : ℕ) → length (replicate {A = ℕ} m 0) ≡ m
many zero = refl
many (suc m) = ap (λ (k : ℕ). suc k) (many m)

zeros : length no_counts ≡ 64
zeros = many 64

-- a list whose first entries were changed is as long as before
pub length_over : {X : Type 0} (f : X → X) (i : ℕ) (xs : List X) → length (map f (take i xs) ++ drop i xs) ≡ length xs
length_over f zero xs = refl
length_over f (suc i) [] = refl
length_over f (suc i) (x ∷ xs) = ap (λ (k : ℕ). suc k) (length_over f i xs)

-- ---- scripts

bare_keeps : KeepsNursery (record { nursery = bare_nursery; starts = no_counts; links = no_counts })
bare_keeps = record {
  one_each = record { starts = zeros; faults = zeros; ends = zeros };
  start_counts = zeros;
  link_counts = zeros;
  few = omega arith;
  marked = λ lent. absurd (cc lent);
  tallied = λ w few. record { ends = omega (arith, zero_at 64 w); faults = omega (arith, zero_at 64 w); numbers = λ below. omega (arith, zero_at 64 w); later = omega arith; few = omega (arith, zero_at 64 w) };
  before = omega arith;
  retired = All-nil (IsOfNursery (record { nursery = bare_nursery; starts = no_counts; links = no_counts }));
}

pub scripted_keeps : (n : NurseryState) (losses : List Scripted) (refusals : List Refusal) → KeepsNursery n → n.nursery.lent ≡ false → KeepsNursery (scripted n losses refusals)
scripted_keeps n losses refusals kept home = record {
  one_each = record { starts = kept.one_each.starts; faults = kept.one_each.faults; ends = kept.one_each.ends };
  start_counts = zeros;
  link_counts = zeros;
  few = kept.few;
  marked = λ lent. absurd (cc (sym home ∙ lent));
  tallied = λ w few. record { ends = omega arith; faults = omega arith; numbers = λ below. omega (arith, zero_at 64 w); later = omega arith; few = (kept.tallied w few).few };
  before = omega arith;
  retired = rw (nothing_after n.nursery.retired) (All-nil (IsOfNursery (scripted n losses refusals)));
}

pub new_keeps : (losses : List Scripted) (refusals : List Refusal) → KeepsNursery (new_nursery losses refusals)
new_keeps losses refusals = scripted_keeps (record { nursery = bare_nursery; starts = no_counts; links = no_counts }) losses refusals bare_keeps refl

new_view : (m : ℕ) (losses : List Scripted) (refusals : List Refusal) → m ≡ 64 →
    nursery_of false 0 no_mark (replicate m (record { starts = 0; faults = 0; ends = 0; starts_since = 0; links_since = 0 })) [] 0 (plan_now bare_nursery losses refusals) ≡ new_nursery losses refusals
new_view m losses refusals size =
    let c : WorkerCounts = record { starts = 0; faults = 0; ends = 0; starts_since = 0; links_since = 0 } in
    rw (
      kind_of_same (λ (c : WorkerCounts). c.starts) m c,
      kind_of_same (λ (c : WorkerCounts). c.faults) m c,
      kind_of_same (λ (c : WorkerCounts). c.ends) m c,
      kind_of_same (λ (c : WorkerCounts). c.starts_since) m c,
      kind_of_same (λ (c : WorkerCounts). c.links_since) m c,
      size,
    ) refl

pub new_is : (room : ℕ) (losses : List Scripted) (refusals : List Refusal) (counts : List WorkerCounts) (retired : List Retired) (mark : LentAs) (plan : Plan) →
    counts ≡ replicate 64 (record { starts = 0; faults = 0; ends = 0; starts_since = 0; links_since = 0 }) → retired ≡ [] → room ≡ 0 → mark ≡ no_mark → plan ≡ plan_now bare_nursery losses refusals →
    nursery_of false 0 mark counts retired room plan ≡ new_nursery losses refusals
new_is room losses refusals counts retired mark plan a b c d e = rw (a, b, c, d, e) (new_view 64 losses refusals refl)

pub anew_view : (lent : Bool) (count : ℕ) (mark : LentAs) (counts : List WorkerCounts) (retired : List Retired) (room : ℕ) (plan : Plan) (losses : List Scripted) (refusals : List Refusal) → length counts ≡ 64 →
    nursery_of lent count mark (map begun_anew counts) retired room (plan_now (nursery_of lent count mark counts retired room plan).nursery losses refusals) ≡ scripted (nursery_of lent count mark counts retired room plan) losses refusals
anew_view lent count mark counts retired room plan losses refusals size =
    rw (
      map-map (λ (c : WorkerCounts). c.starts) begun_anew counts,
      map-map (λ (c : WorkerCounts). c.faults) begun_anew counts,
      map-map (λ (c : WorkerCounts). c.ends) begun_anew counts,
      map-map (λ (c : WorkerCounts). c.starts_since) begun_anew counts,
      map-map (λ (c : WorkerCounts). c.links_since) begun_anew counts,
      all_zero counts,
      size,
    ) refl

pub anew_is : (lent : Bool) (count : ℕ) (mark : LentAs) (counts now : List WorkerCounts) (retired : List Retired) (room : ℕ) (plan noted : Plan) (losses : List Scripted) (refusals : List Refusal) → length counts ≡ 64 →
    now ≡ map begun_anew counts → noted ≡ plan_now (nursery_of lent count mark counts retired room plan).nursery losses refusals →
    nursery_of lent count mark now retired room noted ≡ scripted (nursery_of lent count mark counts retired room plan) losses refusals
anew_is lent count mark counts now retired room plan noted losses refusals size a b = rw (a, b) (anew_view lent count mark counts retired room plan losses refusals size)

-- ---- lending

module _ (n : NurseryState) (kept : KeepsNursery n) (room : ℕ) where
  pub room_keeps : KeepsNursery (record n { nursery = with_room n.nursery room })
  room_keeps = record {
    one_each = record { starts = kept.one_each.starts; faults = kept.one_each.faults; ends = kept.one_each.ends };
    start_counts = kept.start_counts;
    link_counts = kept.link_counts;
    few = kept.few;
    marked = kept.marked;
    tallied = λ w few. let t = kept.tallied w few in record { ends = t.ends; faults = t.faults; numbers = t.numbers; later = t.later; few = t.few };
    before = kept.before;
    retired = λ k d low. let r = kept.retired k d low in record { worker = r.worker; number = r.number; script = r.script };
  }

  abbrev lent : ℕ → NurseryState
  lent count = record n { nursery = record n.nursery { lent = true; count = count; mark = next_mark n; room = room } }

  pub lent_keeps : (count : ℕ) → count ≤ 64 → KeepsNursery (lent count)
  lent_keeps count few = record {
    one_each = record { starts = kept.one_each.starts; faults = kept.one_each.faults; ends = kept.one_each.ends };
    start_counts = kept.start_counts;
    link_counts = kept.link_counts;
    few = few;
    marked = λ lent. refl;
    tallied = λ w few. let t = kept.tallied w few in record { ends = t.ends; faults = t.faults; numbers = t.numbers; later = t.later; few = t.few };
    before = kept.before;
    retired = λ k d low. let r = kept.retired k d low in record { worker = r.worker; number = r.number; script = r.script };
  }

  pub are_lent : (count : ℕ) (all : List SpawnerState) → count ≤ room → all ≡ by_position count (new_spawner_state n) → AreLentBy n (lent count) count all
  are_lent count all fits is = record {
    nursery = refl;
    room = fits;
    spawners = is;
    lent = record {
      nursery = refl;
      room = fits;
      spawners = ap (map (λ (s : SpawnerState). s.spawner)) is ∙ map-map (λ (s : SpawnerState). s.spawner) (new_spawner_state n) (positions_below count);
      one_each = record { starts = kept.one_each.starts; faults = kept.one_each.faults; ends = kept.one_each.ends };
    };
  }
