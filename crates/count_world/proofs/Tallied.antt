-- How often mirrors are told, and the list of those that are told something.
use Rattle.std.proofs.Common.{◌≡◌, ℕ, zero, suc, ◌+◌, ◌<◌, ◌≤◌, ◌∙◌, Bool, true, false, List, [], ◌∷◌, ◌++◌, length, get_or, take, set, map, replicate, refl, sym, ap, arith, length-set, add-zero, inl, inr, Some}
use Rattle.std.specs.Prelude.{◌==◌, ◌&&◌, ◌||◌, nat_lt, filter, slice_index, if◌then◌else◌}
use Rattle.std.specs.Vec.{vec_capacity}
use Rattle.std.proofs.lemmas.Bool.Decides.{nat_tests, eqb_tells}
use Rattle.std.proofs.lemmas.Bool.{cases_lt}
use Rattle.std.proofs.lemmas.List.{get_or-set_same, get_or-set_other, take_all, length-replicate, append-nil, map-append}
use Rattle.std.proofs.Math.ListN.{get_or-eq_default}
use Rattle.px_base.specs.declared.TheConstants.{MOST_VERTICES}
use Rattle.px_base.specs.declared.wire.Update.{Update}
use Rattle.px_base.specs.Values.{positions_below, is_listed, one_if}
use Rattle.px_base.proofs.Positions.{at_position, length_by_position}
use Rattle.count_world.specs.declared.tally.Tally.{Tally}
use Rattle.count_world.specs.Tally.{IsTally, IsClear, RaisesTally, is_told}
use Rattle.list_laws.specs.Sets.{IsListOf}
use Rattle.count_world.specs.Sets.{without}
use Rattle.count_world.specs.Told.{is_place, told_updates}
use Rattle.list_laws.proofs.Sums.{one_more, room_for_one, none_list, listed_is, filter_suc}
use Rattle.count_world.proofs.Telling.{told_one, told_none}
use Rattle.list_laws.proofs.Lists.{at_replicate}

-- one number is raised
pub raised : (old new : Tally) (i : ℕ) → IsTally old → i < length old.times.items → new.times.items ≡ set old.times.items i (slice_index old.times.items i + 1) →
    new.touched.items ≡ old.touched.items ++ (if slice_index old.times.items i == 0 then i ∷ [] else []) → vec_capacity old.touched ≤ vec_capacity new.touched →
    RaisesTally old new (λ j. one_if (is_place (Some i) j))
raised old new i tally inside times touched room =
    let before : ℕ = slice_index old.times.items i in
    let size : length (set old.times.items i (before + 1)) ≡ length old.times.items = length-set old.times.items i (before + 1) in
    let here : slice_index (set old.times.items i (before + 1)) i ≡ before + 1 = get_or-set_same old.times.items i (before + 1) 0 inside in
    record {
      tally = record {
        few = omega (arith, tally.few, ap length times, size);
        room = omega (arith, tally.room, ap length times, size, room);
        lists =
            rw (times, size, touched)
            (one_more (length old.times.items) i (is_told old.times.items) (is_told (set old.times.items i (before + 1))) (before == 0) old.touched.items inside tally.lists
            (apart before) (ap (λ n. nat_lt 0 n) here ∙ now before) (λ j low away. ap (λ n. nat_lt 0 n) (get_or-set_other old.times.items i j (before + 1) 0 away)));
      };
      size = ap length times ∙ size;
      times = λ j low. rw times (at_each j low);
    }
  where
    apart : (n : ℕ) → (nat_lt 0 n && (n == 0)) ≡ false
    apart zero = refl
    apart (suc n) = grind (arith, nat_tests)

    now : (n : ℕ) → nat_lt 0 (n + 1) ≡ (nat_lt 0 n || (n == 0))
    now n = grind (arith, nat_tests)

    at_each : (j : ℕ) → j < length old.times.items → slice_index (set old.times.items i (slice_index old.times.items i + 1)) j ≡ slice_index old.times.items j + one_if (i == j)
    at_each j low = elim (eqb_tells i j) [
      | inl (t, same) ↦ rw (t, ← same) (get_or-set_same old.times.items i (slice_index old.times.items i + 1) 0 inside)
      | inr (t, away) ↦ rw t (get_or-set_other old.times.items i j (slice_index old.times.items i + 1) 0 (λ e. away (sym e)) ∙ sym (add-zero (slice_index old.times.items j)))
    ]

pub room_to_touch : (t : Tally) (i : ℕ) → IsTally t → i < length t.times.items → (slice_index t.times.items i == 0) ≡ true → length t.touched.items < vec_capacity t.touched
room_to_touch t i tally inside is = omega (arith, tally.room, room_for_one (length t.times.items) i (is_told t.times.items) t.touched.items tally.lists inside untold)
  where
    untold : is_told t.times.items i ≡ false
    untold = grind (arith, nat_tests)

pub raises_on : (old mid new : Tally) (one two both : ℕ → ℕ) → RaisesTally old mid one → RaisesTally mid new two → ((i : ℕ) → i < length old.times.items → both i ≡ one i + two i) → RaisesTally old new both
raises_on old mid new one two both first second sums = record {
  tally = second.tally;
  size = second.size ∙ first.size;
  times = λ i below. omega (arith, second.times i (omega (arith, below, first.size)), first.times i below, sums i below);
}

-- ---- nothing is told any more

pub wiped : (times touched : List ℕ) → IsListOf (length times) (is_told times) touched → (i : ℕ) → slice_index (without touched times) i ≡ 0
wiped times touched lists i = elim (cases_lt i (length times)) [
  | inl low ↦ at_position (length times) (λ j. if is_listed touched j then 0 else slice_index times j) i 0 low ∙ by_told (slice_index times i) (is_listed touched i) (listed_is (length times) (is_told times) touched i lists low)
  | inr high ↦ get_or-eq_default (without touched times) 0 (omega (arith, high, length_by_position (length times) (λ j. if is_listed touched j then 0 else slice_index times j)))
]
  where
    by_told : (n : ℕ) (b : Bool) → b ≡ nat_lt 0 n → (if b then 0 else n) ≡ 0
    by_told n true is = refl
    by_told n false is = grind (arith, nat_tests)

pub clear_lists : (times : List ℕ) → ((i : ℕ) → slice_index times i ≡ 0) → IsListOf (length times) (is_told times) []
clear_lists times none = none_list (length times) (is_told times) (λ i below. ap (λ n. nat_lt 0 n) (none i))

pub clear_made : (mirrors : List ℕ) (t : Tally) → t.times.items ≡ replicate (length mirrors) 0 → t.touched.items ≡ [] → length mirrors ≤ vec_capacity t.touched → length mirrors ≤ MOST_VERTICES → IsClear t
clear_made mirrors t times touched room few =
    let size : length t.times.items ≡ length mirrors = ap length times ∙ length-replicate (length mirrors) 0 in
    let none : (i : ℕ) → slice_index t.times.items i ≡ 0 = λ i. rw times (at_replicate (length mirrors) 0 i) in
    record {
      tally = record { few = omega (arith, size, few); room = omega (arith, size, room); lists = rw touched (clear_lists t.times.items none) };
      none = none;
    }

pub wiped_clear : (old new : Tally) → IsTally old → new.times.items ≡ without old.touched.items old.times.items → new.touched.items ≡ [] → vec_capacity new.touched ≡ vec_capacity old.touched → IsClear new
wiped_clear old new tally times touched room =
    let size : length new.times.items ≡ length old.times.items = ap length times ∙ length_by_position (length old.times.items) (λ j. if is_listed old.touched.items j then 0 else slice_index old.times.items j) in
    let none : (i : ℕ) → slice_index new.times.items i ≡ 0 = λ i. rw times (wiped old.times.items old.touched.items tally.lists i) in
    record {
      tally = record { few = omega (arith, size, tally.few); room = omega (arith, size, room, tally.room); lists = rw touched (clear_lists new.times.items none) };
      none = none;
    }

-- ---- in rising order

abbrev pub update_at : List ℕ → List ℕ → ℕ → Update
update_at mirrors times i = record { vertex = get_or mirrors i 0; value = get_or times i 0 }

-- what is told of the first mirrors
told_first : (mirrors times : List ℕ) (k : ℕ) → k ≤ length mirrors → k ≤ length times → map (update_at mirrors times) (filter (is_told times) (positions_below k)) ≡ told_updates (take k mirrors) (take k times)
told_first mirrors times zero inside below = refl
told_first mirrors times (suc k) inside below = by_told (is_told times k) refl (told_first mirrors times k (omega arith) (omega arith))
  where
    some : is_told times k ≡ true → 0 < get_or times k 0
    some is = grind (arith, nat_tests)

    none : is_told times k ≡ false → get_or times k 0 ≤ 0
    none is = grind (arith, nat_tests)

    next : k + 1 ≡ suc k
    next = omega arith

    by_told : (b : Bool) → is_told times k ≡ b → map (update_at mirrors times) (filter (is_told times) (positions_below k)) ≡ told_updates (take k mirrors) (take k times) →
        map (update_at mirrors times) (filter (is_told times) (positions_below (suc k))) ≡ told_updates (take (suc k) mirrors) (take (suc k) times)
    by_told true is before =
        ap (λ ks. map (update_at mirrors times) ks) (filter_suc (is_told times) k ∙ ap (λ b. filter (is_told times) (positions_below k) ++ (if b then k ∷ [] else [])) is)
        ∙ map-append (update_at mirrors times) (filter (is_told times) (positions_below k)) (k ∷ [])
        ∙ ap (λ us. us ++ update_at mirrors times k ∷ []) before
        ∙ sym (rw next at (told_one mirrors times k (omega arith) (omega arith) (some is)))
    by_told false is before =
        ap (λ ks. map (update_at mirrors times) ks) (filter_suc (is_told times) k ∙ ap (λ b. filter (is_told times) (positions_below k) ++ (if b then k ∷ [] else [])) is ∙ append-nil (filter (is_told times) (positions_below k)))
        ∙ before
        ∙ sym (rw next at (told_none mirrors times k (omega arith) (omega arith) (none is)))

pub told_by_place : (mirrors times : List ℕ) → length times ≡ length mirrors → map (update_at mirrors times) (filter (is_told times) (positions_below (length times))) ≡ told_updates mirrors times
told_by_place mirrors times size =
    told_first mirrors times (length times) (omega arith) (omega arith)
    ∙ ap (λ ms. told_updates ms (take (length times) times)) (take_all (length times) mirrors (omega arith))
    ∙ ap (λ ts. told_updates mirrors ts) (take_all (length times) times (omega arith))
