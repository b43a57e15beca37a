-- The table of stamps tells which numbers below the row's length are among its edge values.
use Rattle.std.proofs.Common.{◌≡◌, ℕ, ◌+◌, ◌<◌, ◌≤◌, ◌≢◌, true, false, List, length, get_or, set, take, sym, ◌∙◌, ap, arith, inl, inr}
use Rattle.std.specs.Prelude.{◌==◌, ◌||◌, Any, Contains}
use Rattle.std.proofs.Math.Bool.{or-true, or-false}
use Rattle.std.proofs.lemmas.Bool.{cases_lt, eq-eqb, eqb-true, ne_eqb}
use Rattle.std.proofs.lemmas.Bool.Decides.{eqb_tells}
use Rattle.std.proofs.lemmas.List.{get_or-set_other, get_or-set_same}
use Rattle.std.proofs.lemmas.List.Folds.{Any-from_list_any, list_any_more}
use Rattle.px_base.specs.Values.{is_listed}
use Rattle.px_base.specs.Rules.{mex}
use Rattle.px_base.proofs.Gathers.{mex_is, mex_only, pigeons}
use Rattle.value_laws.specs.GatherLaws.{among}

-- the places below the limit have the stamp just where their number is among the items
abbrev pub Marks : ℕ → ℕ → List ℕ → List ℕ → Type 0
Marks limit stamp stamps items = (k : ℕ) → k < limit → (get_or stamps k 0 == stamp) ≡ is_listed items k

-- one edge value more, which is below the limit
pub marked_more : (limit stamp : ℕ) (stamps items : List ℕ) (i : ℕ) → i < length items → limit ≤ length stamps → get_or items i 0 < limit →
    Marks limit stamp stamps (take i items) → Marks limit stamp (set stamps (get_or items i 0) stamp) (take (i + 1) items)
marked_more limit stamp stamps items i inside room low so_far = λ k below. elim (eqb_tells (get_or items i 0) k) [
  | inl (is, same) ↦
      (let here : get_or items i 0 < length stamps = omega (arith, low, room) in
      let stamped : get_or (set stamps (get_or items i 0) stamp) k 0 ≡ stamp = ap (λ at. get_or (set stamps (get_or items i 0) stamp) at 0) (sym same) ∙ get_or-set_same stamps (get_or items i 0) stamp 0 here in
      eq-eqb (get_or (set stamps (get_or items i 0) stamp) k 0) stamp stamped
      ∙ sym (list_any_more (λ item. item == k) items i 0 inside ∙ ap (λ b. is_listed (take i items) k || b) is ∙ or-true (is_listed (take i items) k)))
  | inr (is, apart) ↦
      (let other : k ≢ get_or items i 0 = λ e. apart (sym e) in
      ap (λ s. s == stamp) (get_or-set_other stamps (get_or items i 0) k stamp 0 other) ∙ so_far k below
      ∙ sym (list_any_more (λ item. item == k) items i 0 inside ∙ ap (λ b. is_listed (take i items) k || b) is ∙ or-false (is_listed (take i items) k)))
]

-- one that isn't
pub passed_over : (limit stamp : ℕ) (stamps items : List ℕ) (i : ℕ) → i < length items → limit ≤ get_or items i 0 →
    Marks limit stamp stamps (take i items) → Marks limit stamp stamps (take (i + 1) items)
passed_over limit stamp stamps items i inside past so_far = λ k below.
    let other : (get_or items i 0 == k) ≡ false = ne_eqb (get_or items i 0) k (λ e. omega (arith, past, e, below)) in
    so_far k below ∙ sym (list_any_more (λ item. item == k) items i 0 inside ∙ ap (λ b. is_listed (take i items) k || b) other ∙ or-false (is_listed (take i items) k))

-- ---- the first place without the stamp

contained : (items : List ℕ) (k : ℕ) → is_listed items k ≡ true → Contains items k
contained items k h =
    let at : Any (λ x. (x == k) ≡ true) items = Any-from_list_any (λ x. x == k) items h in
    let same : at.1 ≡ k = eqb-true at.1 k at.4 in (at.0, at.2, rw same at at.3)

pub first_is_mex : (count stamp m : ℕ) (stamps items : List ℕ) → length items ≡ count → Marks count stamp stamps items → m ≤ count →
    ((k : ℕ) → k < m → (get_or stamps k 0 == stamp) ≡ true) → (m < count → (get_or stamps m 0 == stamp) ≡ false) → m ≡ mex items
first_is_mex count stamp m stamps items same marks inside before here =
    let listed : (k : ℕ) → k < m → is_listed items k ≡ true = λ k below. sym (marks k (omega arith)) ∙ before k below in
    mex_only items m (mex items) (record {
      absent = λ c.
          let is : is_listed items m ≡ true = among items m c in
          elim (cases_lt m count) [
            | inl low ↦ (let other : is_listed items m ≡ false = sym (marks m low) ∙ here low in cc)
            | inr full ↦
                (let room : m + 1 ≤ length items = pigeons (m + 1) items (λ k below. elim (cases_lt k m) [ inl low ↦ listed k low | inr last ↦ (let same : k ≡ m = omega arith in rw same is) ]) in
                absurd (omega arith))
          ];
      each_below = λ k below. contained items k (listed k below);
    }) (mex_is items)
