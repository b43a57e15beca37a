-- What updates take off a count, in all: in inboxes, and in what is announced.
use Rattle.std.proofs.Common.{◌≡◌, ℕ, zero, suc, ◌+◌, ◌-◌, ◌<◌, ◌≤◌, min, Bool, true, false, cond, List, [], ◌∷◌, length, map, get_or, arith, refl, sym, ap, ◌∙◌, eqb-true}
use Rattle.std.specs.Prelude.{◌&&◌, ◌||◌, ◌==◌, nat_lt, sum_by, filter, if◌then◌else◌}
use Rattle.std.specs.List.{list_any}
use Rattle.std.specs.List.Sorted.{IsStrictlyIncreasing}
use Rattle.std.proofs.lemmas.Bool.{ltb-false}
use Rattle.std.proofs.lemmas.Bool.Decides.{nat_tests}
use Rattle.std.proofs.lemmas.List.{get_or_default}
use Rattle.std.proofs.lemmas.List.Sums.{sum_by-cons}
use Rattle.px_base.specs.declared.TheConstants.{TOP}
use Rattle.px_base.specs.declared.graph.Read.{Read}
use Rattle.px_base.specs.declared.wire.Update.{Update}
use Rattle.px_base.specs.Values.{is_listed, positions_below, one_if}
use Rattle.px_base.specs.Graphs.{row_at, reads_passing}
use Rattle.px_base.specs.Parts.{is_within, reads_from}
use Rattle.px_base.specs.Worlds.{CountWorld}
use Rattle.px_base.specs.CountSteps.{delta_of, times_read, death_announcements, is_master_passing}
use Rattle.px_base.proofs.Listed.{rising_apart}
use Rattle.px_base.proofs.Members.{listed_contains}
use Rattle.hub_terms.specs.Inboxes.{combined_value, first_update, box_with, box_with_all}
use Rattle.list_laws.proofs.Told.{update_to}
use Rattle.list_laws.proofs.Sums.{row_by_master, below_same, sum_zero}
use Rattle.step_laws.proofs.Counting.{passing_cons}

-- what an update of this vertex takes off the count of v
abbrev pub share : ℕ → ℕ → ℕ → ℕ
share vertex v x = if vertex == v then x else 0

pub delta_cons : (u : Update) (us : List Update) (v : ℕ) → delta_of (u ∷ us) v ≡ share u.vertex v u.value + delta_of us v
delta_cons u us v = sum_by-cons (λ (w : Update). if w.vertex == v then w.value else 0) u us

-- ---- inboxes

-- one update more adds its delta, as long as there is room
pub delta_with : (u : Update) (box : List Update) (v : ℕ) → delta_of box v + share u.vertex v u.value ≤ TOP → delta_of (box_with true u box) v ≡ delta_of box v + share u.vertex v u.value
delta_with u [] v room = by_test (u.vertex == v) room (delta_cons (first_update true u) [] v)
  where
    by_test : (b : Bool) → 0 + (if b then u.value else 0) ≤ TOP → delta_of (first_update true u ∷ []) v ≡ (if b then min (0 + u.value) TOP else 0) + 0 → delta_of (first_update true u ∷ []) v ≡ 0 + (if b then u.value else 0)
    by_test true room is = omega (arith, room, is)
    by_test false room is = omega (arith, is)
delta_with u (w ∷ box) v room =
    by_tests (nat_lt u.vertex w.vertex) (u.vertex == w.vertex) refl (delta_with u box v (omega (arith, room, delta_cons w box v)))
  where
    in_front : (b : Bool) → delta_of (w ∷ box) v + (if b then u.value else 0) ≤ TOP → (if b then min (0 + u.value) TOP else 0) + delta_of (w ∷ box) v ≡ delta_of (w ∷ box) v + (if b then u.value else 0)
    in_front true room = omega (arith, room)
    in_front false room = omega arith

    in_place : (b c : Bool) → (u.vertex == v) ≡ b → (w.vertex == v) ≡ c → u.vertex ≡ w.vertex → delta_of (w ∷ box) v + (if b then u.value else 0) ≤ TOP → delta_of (w ∷ box) v ≡ (if c then w.value else 0) + delta_of box v →
        (if b then min (w.value + u.value) TOP else 0) + delta_of box v ≡ delta_of (w ∷ box) v + (if b then u.value else 0)
    in_place true true here there same room is = omega (arith, room, is)
    in_place true false here there same room is = absurd (grind (arith, nat_tests))
    in_place false true here there same room is = absurd (grind (arith, nat_tests))
    in_place false false here there same room is = omega (arith, is)

    by_tests : (a b : Bool) → (u.vertex == w.vertex) ≡ b → delta_of (box_with true u box) v ≡ delta_of box v + share u.vertex v u.value →
        delta_of (if a then first_update true u ∷ w ∷ box else if b then record u { value = combined_value true w.value u.value } ∷ box else w ∷ box_with true u box) v ≡ delta_of (w ∷ box) v + share u.vertex v u.value
    by_tests true b same rest = delta_cons (first_update true u) (w ∷ box) v ∙ in_front (u.vertex == v) room
    by_tests false true same rest = delta_cons (record u { value = combined_value true w.value u.value }) box v ∙ in_place (u.vertex == v) (w.vertex == v) refl refl (eqb-true u.vertex w.vertex same) room (delta_cons w box v)
    by_tests false false same rest = omega (arith, delta_cons w (box_with true u box) v, rest, delta_cons w box v)

pub delta_with_all : (updates box : List Update) (v : ℕ) → delta_of box v + delta_of updates v ≤ TOP → delta_of (box_with_all true updates box) v ≡ delta_of box v + delta_of updates v
delta_with_all [] box v room = omega arith
delta_with_all (u ∷ updates) box v room =
    let more : delta_of (box_with true u box) v ≡ delta_of box v + share u.vertex v u.value = delta_with u box v (omega (arith, room, delta_cons u updates v)) in
    omega (arith, more, delta_cons u updates v, delta_with_all updates (box_with true u box) v (omega (arith, room, more, delta_cons u updates v)))

-- those that pass a test that v passes
pub delta_filter : (q : ℕ → Bool) (us : List Update) (v : ℕ) → q v ≡ true → delta_of (filter (λ u. q u.vertex) us) v ≡ delta_of us v
delta_filter q [] v passes = refl
delta_filter q (u ∷ us) v passes = by_test (q u.vertex) refl (delta_filter q us v passes)
  where
    apart : (b : Bool) → (u.vertex == v) ≡ b → q u.vertex ≡ false → (if b then u.value else 0) ≡ 0
    apart true same fails = absurd (cc (passes, fails, ap q (eqb-true u.vertex v same)))
    apart false other fails = refl

    by_test : (b : Bool) → q u.vertex ≡ b → delta_of (filter (λ u. q u.vertex) us) v ≡ delta_of us v → delta_of (cond b (u ∷ filter (λ u. q u.vertex) us) (filter (λ u. q u.vertex) us)) v ≡ delta_of (u ∷ us) v
    by_test true is rest = omega (arith, delta_cons u (filter (λ u. q u.vertex) us) v, delta_cons u us v, rest)
    by_test false is rest = omega (arith, delta_cons u us v, rest, apart (u.vertex == v) refl is)

-- ---- what is announced

-- of updates to the values of f, without those of value 0, none is of a vertex that isn't listed
delta_unlisted : (f : ℕ → ℕ) (ms : List ℕ) (v : ℕ) → is_listed ms v ≡ false → delta_of (map (update_to f) (filter (λ m. nat_lt 0 (f m)) ms)) v ≡ 0
delta_unlisted f [] v none = refl
delta_unlisted f (m ∷ ms) v none = by_tests (m == v) (nat_lt 0 (f m)) refl none (delta_unlisted f ms v)
  where
    by_tests : (c b : Bool) → (m == v) ≡ c → (c || is_listed ms v) ≡ false → (is_listed ms v ≡ false → delta_of (map (update_to f) (filter (λ m. nat_lt 0 (f m)) ms)) v ≡ 0) →
        delta_of (map (update_to f) (cond b (m ∷ filter (λ m. nat_lt 0 (f m)) ms) (filter (λ m. nat_lt 0 (f m)) ms))) v ≡ 0
    by_tests true b same h rest = absurd (cc h)
    by_tests false true apart h rest = delta_cons (update_to f m) (map (update_to f) (filter (λ m. nat_lt 0 (f m)) ms)) v ∙ (rw apart (let later = rest h in omega (arith, later)))
    by_tests false false apart h rest = rest h

-- of one that is listed in a rising list there is just one, with the value of f
delta_listed : (f : ℕ → ℕ) (ms : List ℕ) (v : ℕ) → IsStrictlyIncreasing ms → is_listed ms v ≡ true → delta_of (map (update_to f) (filter (λ m. nat_lt 0 (f m)) ms)) v ≡ f v
delta_listed f [] v rising listed = cc
delta_listed f (m ∷ ms) v rising listed = by_tests (m == v) (nat_lt 0 (f m)) refl refl listed (delta_listed f ms v rest_rises)
  where
    rest_rises : IsStrictlyIncreasing ms
    rest_rises k inside = let one : suc k + 1 ≡ suc (k + 1) = omega arith in rw one at (rising (suc k) (omega (arith, inside)))

    unlisted : m ≡ v → is_listed ms v ≡ false
    unlisted same = by_listed (is_listed ms v) refl
      where
        by_listed : (b : Bool) → is_listed ms v ≡ b → is_listed ms v ≡ false
        by_listed false is = is
        by_listed true is =
            let found = listed_contains ms v is in
            let low : get_or (m ∷ ms) 0 0 < get_or (m ∷ ms) (suc found.0) 0 = rising_apart (m ∷ ms) rising 0 (suc found.0) (omega arith) (omega (arith, found.1)) in
            let at : get_or ms found.0 0 ≡ v = get_or_default ms found.0 0 v found.1 ∙ found.2 in
            absurd (omega (arith, low, at, same))

    by_tests : (c b : Bool) → (m == v) ≡ c → nat_lt 0 (f m) ≡ b → (c || is_listed ms v) ≡ true → (is_listed ms v ≡ true → delta_of (map (update_to f) (filter (λ m. nat_lt 0 (f m)) ms)) v ≡ f v) →
        delta_of (map (update_to f) (cond b (m ∷ filter (λ m. nat_lt 0 (f m)) ms) (filter (λ m. nat_lt 0 (f m)) ms))) v ≡ f v
    by_tests true true same some h rest =
        let none = delta_unlisted f ms v (unlisted (eqb-true m v same)) in
        delta_cons (update_to f m) (map (update_to f) (filter (λ m. nat_lt 0 (f m)) ms)) v ∙ (rw (same, none) (let is : f m ≡ f v = ap f (eqb-true m v same) in omega (arith, is)))
    by_tests true false same some h rest =
        let none = delta_unlisted f ms v (unlisted (eqb-true m v same)) in
        let zero_here : f m ≤ 0 = ltb-false 0 (f m) some in
        let is : f m ≡ f v = ap f (eqb-true m v same) in omega (arith, none, zero_here, is)
    by_tests false true apart some h rest = delta_cons (update_to f m) (map (update_to f) (filter (λ m. nat_lt 0 (f m)) ms)) v ∙ (rw apart (let later = rest h in omega (arith, later)))
    by_tests false false apart some h rest = rest h

-- what is told of the deaths of the masters that pass the test takes off v what its reads of them are, where v is a mirror;
-- both_ways says that reading is mutual between v and each master
pub told_deaths : (w : CountWorld) (test : ℕ → Bool) (row : List Read) (v : ℕ) → IsStrictlyIncreasing w.part.mirrors → is_listed w.part.mirrors v ≡ true → length w.alive ≡ w.part.high - w.part.low → w.part.low ≤ w.part.high →
    ((k : ℕ) → k < length w.alive → reads_passing (λ u. u == v) (row_at w.part.rows k) ≡ reads_passing (λ u. u == w.part.low + k) row) → delta_of (death_announcements w test) v ≡ reads_passing (is_master_passing w.part test) row
told_deaths w test row v rising listed sized order both_ways =
    let back : w.part.low + length w.alive ≡ w.part.high = omega (arith, sized, order) in
    delta_listed (times_read w test) w.part.mirrors v rising listed
    ∙ (below_same (length w.alive) (λ k. reads_passing (λ u. u == v) (row_at w.part.rows k)) (λ k. reads_passing (λ u. u == w.part.low + k) row) test both_ways
    ∙ (row_by_master test w.part.low (length w.alive) row ∙ ap (λ h. reads_passing (λ u. is_within w.part.low h u && test (u - w.part.low)) row) back))

-- and nothing where it isn't
pub untold_deaths : (w : CountWorld) (test : ℕ → Bool) (v : ℕ) → is_listed w.part.mirrors v ≡ false → delta_of (death_announcements w test) v ≡ 0
untold_deaths w test v none = delta_unlisted (times_read w test) w.part.mirrors v none

none_read : (row : List Read) (v : ℕ) → reads_from v row ≡ false → reads_passing (λ u. u == v) row ≡ 0
none_read [] v none = refl
none_read (r ∷ row) v none = by_first (r.source == v) none (passing_cons (λ u. u == v) r row) (none_read row v)
  where
    by_first : (b : Bool) → (b || reads_from v row) ≡ false → reads_passing (λ u. u == v) (r ∷ row) ≡ one_if b + reads_passing (λ u. u == v) row → (reads_from v row ≡ false → reads_passing (λ u. u == v) row ≡ 0) → reads_passing (λ u. u == v) (r ∷ row) ≡ 0
    by_first true h is rest = absurd (cc h)
    by_first false h is rest = omega (arith, is, rest h)

-- no row of the list has a read of v, where none has
none_in : (rows : List (List Read)) (v k : ℕ) → list_any (reads_from v) rows ≡ false → reads_passing (λ u. u == v) (row_at rows k) ≡ 0
none_in [] v k none = refl
none_in (row ∷ rows) v zero none = none_read row v (first (reads_from v row) (list_any (reads_from v) rows) none)
  where
    first : (a b : Bool) → (a || b) ≡ false → a ≡ false
    first true b h = h
    first false b h = refl
none_in (row ∷ rows) v (suc k) none = none_in rows v k (second (reads_from v row) (list_any (reads_from v) rows) none)
  where
    second : (a b : Bool) → (a || b) ≡ false → b ≡ false
    second true b h = cc
    second false b h = h

-- what is told of deaths, whether v is a mirror or not read at all
pub deaths_told : (w : CountWorld) (test : ℕ → Bool) (row : List Read) (v : ℕ) → IsStrictlyIncreasing w.part.mirrors → (is_listed w.part.mirrors v ≡ false → list_any (reads_from v) w.part.rows ≡ false) →
    length w.alive ≡ w.part.high - w.part.low → w.part.low ≤ w.part.high →
    ((k : ℕ) → k < length w.alive → reads_passing (λ u. u == v) (row_at w.part.rows k) ≡ reads_passing (λ u. u == w.part.low + k) row) → delta_of (death_announcements w test) v ≡ reads_passing (is_master_passing w.part test) row
deaths_told w test row v rising unread sized order both_ways = by_listed (is_listed w.part.mirrors v) refl
  where
    back : w.part.low + length w.alive ≡ w.part.high
    back = omega (arith, sized, order)

    by_listed : (b : Bool) → is_listed w.part.mirrors v ≡ b → delta_of (death_announcements w test) v ≡ reads_passing (is_master_passing w.part test) row
    by_listed true listed = told_deaths w test row v rising listed sized order both_ways
    by_listed false none =
        let nothing : sum_by (λ (k : ℕ). 0) (filter test (positions_below (length w.alive))) ≡ sum_by (λ k. reads_passing (λ u. u == w.part.low + k) row) (filter test (positions_below (length w.alive))) =
        below_same (length w.alive) (λ (k : ℕ). 0) (λ k. reads_passing (λ u. u == w.part.low + k) row) test (λ k below. sym (none_in w.part.rows v k (unread none)) ∙ both_ways k below) in
        untold_deaths w test v none ∙ (sym (sum_zero (filter test (positions_below (length w.alive)))) ∙ (nothing
        ∙ (row_by_master test w.part.low (length w.alive) row ∙ ap (λ h. reads_passing (λ u. is_within w.part.low h u && test (u - w.part.low)) row) back)))
