-- One update more in an inbox, and the value that an inbox has for a vertex.
use Rattle.std.proofs.Common.{◌≡◌, ℕ, zero, suc, ◌+◌, ◌<◌, ◌≤◌, Bool, true, false, cond, List, [], ◌∷◌, Option, Some, None, length, map, get_or, arith, refl, ap, ◌∙◌, inl, inr, eqb-true}
use Rattle.std.specs.Prelude.{◌==◌, ◌||◌, ◌⊎◌, All, nat_lt, filter, slice_index, if◌then◌else◌, ⊤}
use Rattle.std.specs.List.{find}
use Rattle.std.specs.List.Sorted.{IsStrictlyIncreasing}
use Rattle.std.proofs.lemmas.Bool.{ltb-true, ltb-false}
use Rattle.std.proofs.lemmas.Bool.Decides.{nat_tests}
use Rattle.std.proofs.lemmas.List.Elements.{All-cons, All-nil}
use Rattle.px_base.specs.declared.wire.Update.{Update}
use Rattle.px_base.specs.Values.{IsValue}
use Rattle.px_base.specs.ValueSteps.{newest_value}
use Rattle.px_base.specs.Worlds.{CarriesValues}
use Rattle.px_base.proofs.Listed.{not_equal}
use Rattle.hub_terms.specs.Inboxes.{InboxesState, is_addressed, combined_value, first_update, box_with, box_with_all}
use Rattle.hub_terms.specs.UnderWay.{value_in}
use Rattle.hub_terms.specs.HubInStep.{IsMailOf, IsAddressedTo}
use Rattle.list_laws.proofs.Told.{names}

-- ---- lists of updates by recursion

-- each update is of a vertex above m
abbrev pub AreAbove : ℕ → List Update → Type 0
AreAbove m [] = ⊤
AreAbove m (u ∷ us) = (m < u.vertex) × AreAbove m us

-- P holds of each update, and the vertices rise
abbrev pub IsBox : (Update → Type 0) → List Update → Type 0
IsBox P [] = ⊤
IsBox P (u ∷ us) = P u × AreAbove u.vertex us × IsBox P us

above_less : (m n : ℕ) (us : List Update) → m ≤ n → AreAbove n us → AreAbove m us
above_less m n [] low above = tt
above_less m n (u ∷ us) low above = (omega (arith, low, above.0), above_less m n us low above.1)

-- ---- one update more

abbrev vertex_of : Update → ℕ
vertex_of u = u.vertex

above_with : (counting : Bool) (m : ℕ) (u : Update) (us : List Update) → m < u.vertex → AreAbove m us → AreAbove m (box_with counting u us)
above_with counting m u [] over above = (over, tt)
above_with counting m u (w ∷ us) over above = by_tests (nat_lt u.vertex w.vertex) (u.vertex == w.vertex) (above_with counting m u us over above.1)
  where
    by_tests : (a b : Bool) → AreAbove m (box_with counting u us) →
        AreAbove m (if a then first_update counting u ∷ w ∷ us else if b then record u { value = combined_value counting w.value u.value } ∷ us else w ∷ box_with counting u us)
    by_tests true b rest = (over, above)
    by_tests false true rest = (over, above.1)
    by_tests false false rest = (above.0, rest)

-- P is kept when a value is combined with another
pub record KeptByCombining (P : Update → Type 0) (counting : Bool) (u : Update) : Type 0 where
  pub alone : P (first_update counting u)
  pub more : (w : Update) → P w → P (record u { value = combined_value counting w.value u.value })

pub box_more : (P : Update → Type 0) (counting : Bool) (u : Update) (us : List Update) → KeptByCombining P counting u → IsBox P us → IsBox P (box_with counting u us)
box_more P counting u [] kept box = (kept.alone, tt, tt)
box_more P counting u (w ∷ us) kept box = by_tests (nat_lt u.vertex w.vertex) (u.vertex == w.vertex) refl refl (box_more P counting u us kept box.2)
  where
    by_tests : (a b : Bool) → nat_lt u.vertex w.vertex ≡ a → (u.vertex == w.vertex) ≡ b → IsBox P (box_with counting u us) →
        IsBox P (if a then first_update counting u ∷ w ∷ us else if b then record u { value = combined_value counting w.value u.value } ∷ us else w ∷ box_with counting u us)
    by_tests true b low same rest = let over : u.vertex < w.vertex = ltb-true u.vertex w.vertex low in (kept.alone, (over, above_less u.vertex w.vertex us (omega (arith, over)) box.1), box)
    by_tests false true low same rest = let is : u.vertex ≡ w.vertex = eqb-true u.vertex w.vertex same in (kept.more w box.0, above_less u.vertex w.vertex us (omega (arith, is)) box.1, box.2)
    by_tests false false low apart rest =
        let high : w.vertex ≤ u.vertex = ltb-false u.vertex w.vertex low in
        let over : w.vertex < u.vertex = grind (arith, nat_tests) in
        (box.0, above_with counting w.vertex u us over box.1, rest)

-- a box stays one with those of these updates that pass the test
pub box_all : (P : Update → Type 0) (counting : Bool) (test : Update → Bool) (updates box : List Update) → All (λ u. test u ≡ true → KeptByCombining P counting u) updates → IsBox P box →
    IsBox P (box_with_all counting (filter test updates) box)
box_all P counting test [] box kept is = is
box_all P counting test (u ∷ updates) box kept is = by_first (test u) refl (λ more here. box_all P counting test updates more (λ k d inside. kept (suc k) d (omega arith)) here)
  where
    by_first : (b : Bool) → test u ≡ b → ((more : List Update) → IsBox P more → IsBox P (box_with_all counting (filter test updates) more)) →
        IsBox P (box_with_all counting (cond b (u ∷ filter test updates) (filter test updates)) box)
    by_first true passes rest = rest (box_with counting u box) (box_more P counting u box (kept 0 u (omega arith) passes) is)
    by_first false fails rest = rest box is

-- ---- to and from mail

-- what is asked of each update in the mail of worker j
abbrev pub IsFor : InboxesState → ℕ → Update → Type 0
IsFor t j u = IsAddressedTo t j u × IsValue u.value

above_at : (m : ℕ) (us : List Update) → AreAbove m us → (k : ℕ) → k < length us → m < slice_index (map vertex_of us) k
above_at m [] above k inside = absurd (omega arith)
above_at m (u ∷ us) above zero inside = above.0
above_at m (u ∷ us) above (suc k) inside = above_at m us above.1 k (omega arith)

rises : (P : Update → Type 0) (us : List Update) → IsBox P us → IsStrictlyIncreasing (map vertex_of us)
rises P [] box k inside = absurd (omega arith)
rises P (u ∷ []) box k inside = absurd (omega arith)
rises P (u ∷ w ∷ us) box zero inside = box.1.0
rises P (u ∷ w ∷ us) box (suc k) inside = let one : suc k + 1 ≡ suc (k + 1) = omega arith in rw one (rises P (w ∷ us) box.2 k (omega (arith, inside)))

pub each_of_box : (P : Update → Type 0) (us : List Update) → IsBox P us → All P us
each_of_box P [] box = All-nil P
each_of_box P (u ∷ us) box = All-cons P u us box.0 (each_of_box P us box.2)

pub mail_from_box : (t : InboxesState) (j : ℕ) (us : List Update) → IsBox (IsFor t j) us → IsMailOf t j us
mail_from_box t j us box = record {
  addressed = λ k d inside. (each_of_box (IsFor t j) us box k d inside).0;
  rising = rises (IsFor t j) us box;
  values = λ k d inside. (each_of_box (IsFor t j) us box k d inside).1;
}

all_above : (us : List Update) (m : ℕ) → ((k : ℕ) → k < length us → m < slice_index (map vertex_of us) k) → AreAbove m us
all_above [] m each = tt
all_above (u ∷ us) m each = (each 0 (omega arith), all_above us m (λ k inside. each (suc k) (omega arith)))

-- a list whose vertices rise, of updates with P each
pub box_from : (P : Update → Type 0) (us : List Update) → IsStrictlyIncreasing (map vertex_of us) → All P us → IsBox P us
box_from P [] rising each = tt
box_from P (u ∷ us) rising each = (each 0 u (omega arith), all_above us u.vertex (above_first us u.vertex rising), box_from P us (rest_rises us u.vertex rising) (λ k d inside. each (suc k) d (omega arith)))
  where
    rest_rises : (us : List Update) (m : ℕ) → IsStrictlyIncreasing (m ∷ map vertex_of us) → IsStrictlyIncreasing (map vertex_of us)
    rest_rises us m rising k inside = let one : suc k + 1 ≡ suc (k + 1) = omega arith in rw one at (rising (suc k) (omega (arith, inside)))

    above_first : (us : List Update) (m : ℕ) → IsStrictlyIncreasing (m ∷ map vertex_of us) → (k : ℕ) → k < length us → m < slice_index (map vertex_of us) k
    above_first [] m rising k inside = absurd (omega arith)
    above_first (w ∷ us) m rising zero inside = rising 0 (omega arith)
    above_first (w ∷ us) m rising (suc k) inside =
        let first : m < w.vertex = rising 0 (omega arith) in
        let more : w.vertex < slice_index (map vertex_of us) k = above_first us w.vertex (rest_rises (w ∷ us) m rising) k (omega arith) in omega (arith, first, more)

pub box_from_mail : (t : InboxesState) (j : ℕ) (us : List Update) → IsMailOf t j us → IsBox (IsFor t j) us
box_from_mail t j us mail = box_from (IsFor t j) us mail.rising (λ k d inside. (mail.addressed k d inside, mail.values k d inside))

pub no_mail : (t : InboxesState) (j : ℕ) → IsMailOf t j []
no_mail t j = mail_from_box t j [] tt

-- ---- mail stays mail

combined_is_value : (counting : Bool) (old new : ℕ) → IsValue new → IsValue (combined_value counting old new)
combined_is_value true old new known = omega arith
combined_is_value false old new known = known

addressed_kept : (t : InboxesState) (j : ℕ) (counting : Bool) (u : Update) → IsFor t j u → KeptByCombining (IsFor t j) counting u
addressed_kept t j counting u known = record {
  alone = (known.0, combined_is_value counting 0 u.value known.1);
  more = λ w old. (known.0, combined_is_value counting w.value u.value known.1);
}

-- the mail of worker j stays mail with those of these updates that go to it
pub mail_more : (t : InboxesState) (j : ℕ) (counting : Bool) (updates box : List Update) → CarriesValues updates → IsMailOf t j box →
    IsMailOf t j (box_with_all counting (filter (λ u. is_addressed t j u.vertex) updates) box)
mail_more t j counting updates box values mail = mail_from_box t j (box_with_all counting (filter (λ u. is_addressed t j u.vertex) updates) box)
    (box_all (IsFor t j) counting (λ u. is_addressed t j u.vertex) updates box
    (λ k d inside passes. addressed_kept t j counting (get_or updates k d) (passes, values k d inside)) (box_from_mail t j box mail))

-- ---- the value for a vertex

-- the value of v is that of the update, where it is of v, and else the one before
pub value_with : (u : Update) (box : List Update) (v : ℕ) → value_in (box_with false u box) v ≡ (if u.vertex == v then Some u.value else value_in box v)
value_with u [] v = by_test (u.vertex == v)
  where
    by_test : (b : Bool) → elim (cond b (Some u) None) [ None ↦ None | Some w ↦ Some w.value ] ≡ (if b then Some u.value else None)
    by_test true = refl
    by_test false = refl
value_with u (w ∷ box) v = by_tests (nat_lt u.vertex w.vertex) (u.vertex == w.vertex) refl refl (value_with u box v)
  where
    in_front : (b : Bool) → elim (cond b (Some u) (find (λ u. u.vertex == v) (w ∷ box))) [ None ↦ None | Some w ↦ Some w.value ] ≡ (if b then Some u.value else value_in (w ∷ box) v)
    in_front true = refl
    in_front false = refl

    in_place : (same : u.vertex ≡ w.vertex) (b c : Bool) → (u.vertex == v) ≡ b → (w.vertex == v) ≡ c →
        elim (cond b (Some u) (find (λ u. u.vertex == v) box)) [ None ↦ None | Some w ↦ Some w.value ]
        ≡ (if b then Some u.value else elim (cond c (Some w) (find (λ u. u.vertex == v) box)) [ None ↦ None | Some w ↦ Some w.value ])
    in_place same true c here there = refl
    in_place same false true here there = absurd (grind (arith, nat_tests))
    in_place same false false here there = refl

    behind : (b c : Bool) → (u.vertex == v) ≡ b → (w.vertex == v) ≡ c → (u.vertex == w.vertex) ≡ false → value_in (box_with false u box) v ≡ (if b then Some u.value else value_in box v) →
        elim (cond c (Some w) (find (λ u. u.vertex == v) (box_with false u box))) [ None ↦ None | Some w ↦ Some w.value ]
        ≡ (if b then Some u.value else elim (cond c (Some w) (find (λ u. u.vertex == v) box)) [ None ↦ None | Some w ↦ Some w.value ])
    behind true true here there apart rest = absurd (grind (arith, nat_tests))
    behind false true here there apart rest = refl
    behind b false here there apart rest = rest

    by_tests : (a b : Bool) → nat_lt u.vertex w.vertex ≡ a → (u.vertex == w.vertex) ≡ b → value_in (box_with false u box) v ≡ (if u.vertex == v then Some u.value else value_in box v) →
        value_in (if a then u ∷ w ∷ box else if b then u ∷ box else w ∷ box_with false u box) v ≡ (if u.vertex == v then Some u.value else value_in (w ∷ box) v)
    by_tests true b low same rest = in_front (u.vertex == v)
    by_tests false true low same rest = in_place (eqb-true u.vertex w.vertex same) (u.vertex == v) (w.vertex == v) refl refl
    by_tests false false low apart rest = behind (u.vertex == v) (w.vertex == v) refl refl apart rest

-- each of these updates that is of v has the value x
abbrev pub AreAll : ℕ → ℕ → List Update → Type 0
AreAll v x [] = ⊤
AreAll v x (u ∷ us) = (u.vertex ≡ v → u.value ≡ x) × AreAll v x us

-- the box has x for v, where it had it or one of the updates is of v
pub value_sent : (v x : ℕ) (updates box : List Update) → AreAll v x updates → (names v updates ≡ true) ⊎ (value_in box v ≡ Some x) → value_in (box_with_all false updates box) v ≡ Some x
value_sent v x [] box each (inl none) = cc
value_sent v x [] box each (inr had) = had
value_sent v x (u ∷ updates) box each told = by_test (u.vertex == v) refl told (λ there. value_sent v x updates (box_with false u box) each.1 there)
  where
    by_test : (b : Bool) → (u.vertex == v) ≡ b → ((b || names v updates) ≡ true) ⊎ (value_in box v ≡ Some x) →
        ((names v updates ≡ true) ⊎ (value_in (box_with false u box) v ≡ Some x) → value_in (box_with_all false updates (box_with false u box)) v ≡ Some x) →
        value_in (box_with_all false updates (box_with false u box)) v ≡ Some x
    by_test true here told rest = rest (inr (value_with u box v ∙ rw here (ap Some (each.0 (eqb-true u.vertex v here)))))
    by_test false apart (inl later) rest = rest (inl later)
    by_test false apart (inr had) rest = rest (inr (value_with u box v ∙ rw apart had))

-- the box has for v what it had, where none of the updates is of v
pub value_unsent : (v : ℕ) (updates box : List Update) → names v updates ≡ false → value_in (box_with_all false updates box) v ≡ value_in box v
value_unsent v [] box none = refl
value_unsent v (u ∷ updates) box none = by_test (u.vertex == v) refl none (λ later. value_unsent v updates (box_with false u box) later)
  where
    by_test : (b : Bool) → (u.vertex == v) ≡ b → (b || names v updates) ≡ false → (names v updates ≡ false → value_in (box_with_all false updates (box_with false u box)) v ≡ value_in (box_with false u box) v) →
        value_in (box_with_all false updates (box_with false u box)) v ≡ value_in box v
    by_test true here none rest = cc
    by_test false apart none rest = rest none ∙ (value_with u box v ∙ rw apart refl)

-- ---- the newest value of a mirror

-- the value that is told, or the old one
abbrev pub told_or : Option ℕ → ℕ → ℕ
told_or None old = old
told_or (Some x) old = x

-- what an order leaves of a mirror: the value of its update, or the old one
pub newest_of_box : (P : Update → Type 0) (us : List Update) (m old : ℕ) → IsBox P us → newest_value us m old ≡ told_or (value_in us m) old
newest_of_box P [] m old box = refl
newest_of_box P (u ∷ us) m old box = by_test (u.vertex == m) refl (newest_of_box P us m old box.2)
  where
    none_above : (us : List Update) (n kept : ℕ) → AreAbove n us → m ≤ n → newest_value us m kept ≡ kept
    none_above [] n kept above low = refl
    none_above (w ∷ us) n kept above low = let apart : (w.vertex == m) ≡ false = not_equal w.vertex m (λ e. omega (arith, e, above.0)) in rw apart (none_above us n kept above.1 low)

    by_test : (b : Bool) → (u.vertex == m) ≡ b → newest_value us m old ≡ told_or (value_in us m) old →
        newest_value us m (if b then u.value else old) ≡ told_or (elim (cond b (Some u) (find (λ u. u.vertex == m) us)) [ None ↦ None | Some w ↦ Some w.value ]) old
    by_test true here rest = let is : u.vertex ≡ m = eqb-true u.vertex m here in none_above us u.vertex u.value box.1 (omega (arith, is))
    by_test false apart rest = rest
