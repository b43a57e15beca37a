-- Updates in slots.
use Rattle.std.proofs.Common.{◌≡◌, ℕ, zero, suc, ◌+◌, ◌<◌, ◌≤◌, ◌∙◌, Bool, true, false, List, [], ◌∷◌, ◌++◌, length, get_or, set, map, take, replicate, nat_cmp, Option, None, Some, refl, sym, ap, arith, length-set, inl, inr}
use Rattle.std.specs.Prelude.{◌==◌, ◌&&◌, ◌||◌, not, nat_lt, filter, if◌then◌else◌}
use Rattle.std.specs.List.{range_with_len}
use Rattle.std.specs.List.Sorted.{IsStrictlyIncreasing, IsPermutation, IsSorted}
use Rattle.std.proofs.lemmas.Bool.Decides.{nat_tests, eqb_tells}
use Rattle.std.proofs.lemmas.Bool.{cases_lt}
use Rattle.std.proofs.lemmas.List.{length-map, length-replicate, get_or-set_same, get_or-set_other}
use Rattle.std.proofs.Math.ListN.{get_or-eq_default}
use Rattle.std.proofs.lemmas.List.Sums.{passes_at_first}
use Rattle.px_base.specs.declared.TheConstants.{MOST_VERTICES}
use Rattle.px_base.specs.declared.wire.Update.{Update}
use Rattle.px_base.specs.Values.{is_listed, place_of, positions_below}
use Rattle.px_base.proofs.Listed.{rising_apart}
use Rattle.hub_terms.specs.Inboxes.{combined_value, first_update, box_with}
use Rattle.list_laws.specs.Sets.{IsListOf}
use Rattle.hub_table.specs.Slots.{IsInbox, is_filled, is_some_slot, mail_before, mail_of, no_value, update_at, value_of}
use Rattle.list_laws.proofs.Sums.{listed_is, one_more, room_for_one, none_list, length_summed}
use Rattle.list_laws.proofs.Ordered.{in_order, reordered}
use Rattle.list_laws.proofs.Lists.{at_replicate}

-- ---- one update more

-- the numbers rise over any distance
abbrev Apart : List ℕ → Type 0
Apart vs = (i j : ℕ) → i < j → j < length vs → get_or vs i 0 < get_or vs j 0

-- an update of a lower vertex goes to the front
goes_first : (c : Bool) (u : Update) (vs : List ℕ) (ss : List (Option ℕ)) → ((k : ℕ) → k < length vs → u.vertex < get_or vs k 0) → box_with c u (mail_of vs ss) ≡ first_update c u ∷ mail_of vs ss
goes_first c u [] ss above = refl
goes_first c u (w ∷ vs) [] above = refl
goes_first c u (w ∷ vs) (None ∷ ss) above = goes_first c u vs ss (λ k low. above (suc k) (omega arith))
goes_first c u (w ∷ vs) (Some y ∷ ss) above =
    let low : u.vertex < w = above 0 (omega arith) in
    let is : nat_lt u.vertex w ≡ true = grind (arith, nat_tests) in
    rw is refl

pub mail_sent : (c : Bool) (vs : List ℕ) (ss : List (Option ℕ)) (k v x : ℕ) → Apart vs → length ss ≡ length vs → k < length vs → get_or vs k 0 ≡ v →
    mail_of vs (set ss k (Some (combined_value c (value_of (get_or ss k None)) x))) ≡ box_with c (record { vertex = v; value = x }) (mail_of vs ss)
mail_sent c [] ss k v x apart size inside at = absurd (omega arith)
mail_sent c (w ∷ vs) [] k v x apart size inside at = absurd (omega arith)
mail_sent c (w ∷ vs) (None ∷ ss) zero v x apart size inside at =
    rw at (sym (goes_first c (record { vertex = v; value = x }) vs ss (λ j low. (rw at at apart 0 (suc j) (omega arith) (omega arith)))))
mail_sent c (w ∷ vs) (Some y ∷ ss) zero v x apart size inside at =
    let below : nat_lt v v ≡ false = grind (arith, nat_tests) in
    let same : (v == v) ≡ true = grind (arith, nat_tests) in
    rw at (rw (below, same) refl)
mail_sent c (w ∷ vs) (None ∷ ss) (suc k) v x apart size inside at = mail_sent c vs ss k v x (λ i j before low. apart (suc i) (suc j) (omega arith) (omega arith)) (omega arith) (omega arith) at
mail_sent c (w ∷ vs) (Some y ∷ ss) (suc k) v x apart size inside at =
    let low : w < get_or vs k 0 = apart 0 (suc k) (omega arith) (omega arith) in
    let below : nat_lt v w ≡ false = grind (arith, nat_tests) in
    let same : (v == w) ≡ false = grind (arith, nat_tests) in
    rw (below, same) (ap (λ us. record { vertex = w; value = y } ∷ us) (mail_sent c vs ss k v x (λ i j before inner. apart (suc i) (suc j) (omega arith) (omega arith)) (omega arith) (omega arith) at))

-- the slot of the vertex that was found gets the value
pub mail_sent_at : (c : Bool) (vs : List ℕ) (ss : List (Option ℕ)) (k v x : ℕ) (slot : Option ℕ) → IsStrictlyIncreasing vs → length ss ≡ length vs → k ≡ place_of vs v → k < length vs → slot ≡ get_or ss k no_value →
    mail_of vs (set ss k (Some (combined_value c (value_of slot) x))) ≡ box_with c (record { vertex = v; value = x }) (mail_of vs ss)
mail_sent_at c vs ss k v x slot rising size at inside is =
    let low : place_of vs v < length vs = omega (arith, at) in
    let told : (get_or vs (place_of vs v) 0 == v) ≡ true = passes_at_first (λ item. item == v) vs 0 low in
    let here : get_or vs k 0 ≡ v = rw at (elim (eqb_tells (get_or vs (place_of vs v) 0) v) [ inl (t, same) ↦ same | inr (t, apart) ↦ absurd (grind (arith, t, told)) ]) in
    rw is (mail_sent c vs ss k v x (rising_apart vs rising) size inside here)

-- what is filled is on the list
pub filled_listed : (ss : List (Option ℕ)) (used : List ℕ) → IsListOf (length ss) (is_filled ss) used → (k : ℕ) → is_filled ss k ≡ true → is_listed used k ≡ true
filled_listed ss used lists k filled = elim (cases_lt k (length ss)) [
  | inl low ↦ listed_is (length ss) (is_filled ss) used k lists low ∙ filled
  | inr high ↦ (let none : is_filled ss k ≡ false = ap is_some_slot (get_or-eq_default ss no_value high) in absurd (grind (arith, none, filled)))
]

-- ---- none

pub mail_none : (vs : List ℕ) (ss : List (Option ℕ)) → ((k : ℕ) → get_or ss k None ≡ None) → mail_of vs ss ≡ []
mail_none [] ss none = refl
mail_none (v ∷ vs) [] none = refl
mail_none (v ∷ vs) (s ∷ ss) none = let here : s ≡ None = none 0 in rw here (mail_none vs ss (λ k. none (suc k)))

pub mail_made : (vs : List ℕ) (n : ℕ) → mail_of vs (replicate n no_value) ≡ []
mail_made vs n = mail_none vs (replicate n no_value) (at_replicate n no_value)

-- ---- by place

mail_from : (f : ℕ → Update) (p : ℕ → Bool) (a : ℕ) (vs : List ℕ) (ss : List (Option ℕ)) → length ss ≡ length vs → ((k : ℕ) → k < length ss → p (a + k) ≡ is_filled ss k) →
    ((k : ℕ) → k < length ss → f (a + k) ≡ update_at vs ss k) → map f (filter p (range_with_len a (length ss))) ≡ mail_of vs ss
mail_from f p a [] [] size test at = refl
mail_from f p a [] (s ∷ ss) size test at = absurd (omega arith)
mail_from f p a (v ∷ vs) [] size test at = refl
mail_from f p a (v ∷ vs) (s ∷ ss) size test at =
    let none : a + 0 ≡ a = omega arith in
    by_slot s (rw none at (test 0 (omega arith))) (rw none at (at 0 (omega arith)))
    (mail_from f p (a + 1) vs ss (omega arith) (λ k low. (let next : a + 1 + k ≡ a + suc k = omega arith in rw next (test (suc k) (omega arith)))) (λ k low. (let next : a + 1 + k ≡ a + suc k = omega arith in rw next (at (suc k) (omega arith)))))
  where
    by_slot : (s : Option ℕ) → p a ≡ is_some_slot s → f a ≡ record { vertex = v; value = value_of s } → map f (filter p (range_with_len (a + 1) (length ss))) ≡ mail_of vs ss →
        map f (filter p (a ∷ range_with_len (a + 1) (length ss))) ≡ mail_of (v ∷ vs) (s ∷ ss)
    by_slot None is here rest = rw is rest
    by_slot (Some y) is here rest = rw (is, here, rest) refl

pub mail_placed : (vs : List ℕ) (ss : List (Option ℕ)) → length ss ≡ length vs → map (update_at vs ss) (filter (is_filled ss) (positions_below (length ss))) ≡ mail_of vs ss
mail_placed vs ss size = mail_from (update_at vs ss) (is_filled ss) 0 vs ss size (λ k low. (let same : 0 + k ≡ k = omega arith in rw same refl)) (λ k low. (let same : 0 + k ≡ k = omega arith in rw same refl))

pub mail_length : (vs : List ℕ) (ss : List (Option ℕ)) (used : List ℕ) → length ss ≡ length vs → IsListOf (length ss) (is_filled ss) used → length used ≡ length (mail_of vs ss)
mail_length vs ss used size lists =
    sym (length_summed used) ∙ lists (λ k. 1) ∙ length_summed (filter (is_filled ss) (positions_below (length ss)))
    ∙ sym (length-map (filter (is_filled ss) (positions_below (length ss))) (update_at vs ss)) ∙ ap length (mail_placed vs ss size)

-- ---- slot by slot

-- the updates in one slot more
pub mail_next : (vs : List ℕ) (ss : List (Option ℕ)) (k : ℕ) → length ss ≡ length vs → k < length ss →
    mail_of (take (suc k) vs) (take (suc k) ss) ≡ mail_of (take k vs) (take k ss) ++ mail_before (get_or vs k 0) (get_or ss k no_value) []
mail_next [] ss k size inside = absurd (omega arith)
mail_next (v ∷ vs) [] k size inside = absurd (omega arith)
mail_next (v ∷ vs) (s ∷ ss) zero size inside = refl
mail_next (v ∷ vs) (None ∷ ss) (suc k) size inside = mail_next vs ss k (omega arith) (omega arith)
mail_next (v ∷ vs) (Some x ∷ ss) (suc k) size inside = ap (λ us. record { vertex = v; value = x } ∷ us) (mail_next vs ss k (omega arith) (omega arith))

-- there is room for one update more, where there is room for all
pub mail_room : (vs : List ℕ) (ss : List (Option ℕ)) (k : ℕ) → length ss ≡ length vs → k < length ss → is_filled ss k ≡ true → length (mail_of (take k vs) (take k ss)) < length (mail_of vs ss)
mail_room [] ss k size inside is = absurd (omega arith)
mail_room (v ∷ vs) [] k size inside is = absurd (omega arith)
mail_room (v ∷ vs) (None ∷ ss) zero size inside is = cc
mail_room (v ∷ vs) (Some x ∷ ss) zero size inside is = omega arith
mail_room (v ∷ vs) (None ∷ ss) (suc k) size inside is = mail_room vs ss k (omega arith) (omega arith) is
mail_room (v ∷ vs) (Some y ∷ ss) (suc k) size inside is = omega (arith, mail_room vs ss k (omega arith) (omega arith) is)

-- ---- in rising order

pub mail_sorted : (vs : List ℕ) (ss : List (Option ℕ)) (ys : List ℕ) → length ss ≡ length vs → IsListOf (length ss) (is_filled ss) ys → IsSorted nat_cmp ys → map (update_at vs ss) ys ≡ mail_of vs ss
mail_sorted vs ss ys size lists sorted = ap (λ ks. map (update_at vs ss) ks) (in_order (length ss) (is_filled ss) ys lists sorted) ∙ mail_placed vs ss size

-- ---- what an inbox keeps

pub inbox_made : (vs : List ℕ) (space : ℕ) → IsStrictlyIncreasing vs → length vs ≤ MOST_VERTICES → length vs ≤ space → IsInbox vs (replicate (length vs) no_value) [] space
inbox_made vs space rising few room =
    let size : length (replicate (length vs) no_value) ≡ length vs = length-replicate (length vs) no_value in
    record {
      rising = rising;
      few = few;
      size = size;
      room = omega (arith, size, room);
      lists = none_list (length (replicate (length vs) no_value)) (is_filled (replicate (length vs) no_value)) (λ k low. ap is_some_slot (at_replicate (length vs) no_value k));
    }

pub inbox_sent : (vs : List ℕ) (ss : List (Option ℕ)) (used : List ℕ) (space k y : ℕ) → IsInbox vs ss used space → k < length vs →
    IsInbox vs (set ss k (Some y)) (used ++ (if not (is_filled ss k) then k ∷ [] else [])) space
inbox_sent vs ss used space k y inbox inside =
    let same : length (set ss k (Some y)) ≡ length ss = length-set ss k (Some y) in
    let low : k < length ss = omega (arith, inbox.size) in
    record {
      rising = inbox.rising;
      few = inbox.few;
      size = same ∙ inbox.size;
      room = omega (arith, same, inbox.room);
      lists =
          rw same
          (one_more (length ss) k (is_filled ss) (is_filled (set ss k (Some y))) (not (is_filled ss k)) used low inbox.lists
          (never (is_filled ss k)) (ap is_some_slot (get_or-set_same ss k (Some y) None low) ∙ always (is_filled ss k)) (λ j before away. ap is_some_slot (get_or-set_other ss k j (Some y) None away)));
    }
  where
    never : (b : Bool) → (b && not b) ≡ false
    never true = refl
    never false = refl

    always : (b : Bool) → true ≡ (b || not b)
    always true = refl
    always false = refl

-- the same, as the code has it
pub inbox_sent_at : (vs : List ℕ) (ss : List (Option ℕ)) (used more : List ℕ) (space room k y : ℕ) (slot : Option ℕ) (free : Bool) → IsInbox vs ss used space → k < length vs →
    slot ≡ get_or ss k no_value → free ≡ not (is_some_slot slot) → more ≡ used ++ (if free then k ∷ [] else []) → room ≡ space → IsInbox vs (set ss k (Some y)) more room
inbox_sent_at vs ss used more space room k y slot free inbox inside is told added same =
    rw (added, told, is, same) (inbox_sent vs ss used space k y inbox inside)

pub room_to_fill : (vs : List ℕ) (ss : List (Option ℕ)) (used : List ℕ) (space k : ℕ) → IsInbox vs ss used space → k < length vs → is_filled ss k ≡ false → length used < space
room_to_fill vs ss used space k inbox inside free = omega (arith, inbox.room, room_for_one (length ss) k (is_filled ss) used inbox.lists (omega (arith, inbox.size)) free)

pub inbox_emptied : (vs : List ℕ) (ss new : List (Option ℕ)) (used : List ℕ) (space : ℕ) → IsInbox vs ss used space → length new ≡ length ss → ((k : ℕ) → get_or new k None ≡ None) →
    IsInbox vs new [] space
inbox_emptied vs ss new used space inbox same none = record {
  rising = inbox.rising;
  few = inbox.few;
  size = same ∙ inbox.size;
  room = omega (arith, same, inbox.room);
  lists = none_list (length new) (is_filled new) (λ k low. ap is_some_slot (none k));
}

pub inbox_reordered : (vs : List ℕ) (ss : List (Option ℕ)) (used sorted : List ℕ) (space room : ℕ) → IsInbox vs ss used space → IsPermutation used sorted → room ≡ space → IsInbox vs ss sorted room
inbox_reordered vs ss used sorted space room inbox same is = record {
  rising = inbox.rising;
  few = inbox.few;
  size = inbox.size;
  room = omega (arith, is, inbox.room);
  lists = reordered (length ss) (is_filled ss) used sorted same inbox.lists;
}
