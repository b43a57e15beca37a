-- What the workers send in a round puts the mirrors right: each update carries its vertex's new value, and each mirror that
-- another value is due to gets one.
use Rattle.std.proofs.Common.{◌≡◌, ℕ, zero, suc, ◌-◌, ◌<◌, Bool, true, false, not, List, [], ◌∷◌, length, map, get_or, refl, sym, ap, ◌∙◌, arith, inl, inr, eqb-true, zero-add}
use Rattle.std.specs.Prelude.{◌==◌, ◌||◌, ◌&&◌, ◌⊎◌, slice_index, filter, All, None, if◌then◌else◌}
use Rattle.std.specs.List.{AllByRecursion, flat_map, list_any}
use Rattle.std.proofs.lemmas.Grind.{same_number_lists}
use Rattle.std.proofs.lemmas.List.{get_or-map, length-map}
use Rattle.std.proofs.lemmas.List.Elements.{recursion_from_All, All-from_recursion, All-append}
use Rattle.std.proofs.lemmas.List.Folds.{list_any-append, list_any_at, list_any_none}
use Rattle.std.proofs.lemmas.List.FromFn.{length-range_with_len, get_or-range_with_len}
use Rattle.std.proofs.lemmas.Map.Views.{any-filter_same}
use Rattle.std.proofs.lemmas.Bool.Decides.{nat_tests}
use Rattle.px_base.specs.declared.graph.Part.{Part}
use Rattle.px_base.specs.declared.wire.Update.{Update}
use Rattle.px_base.specs.Values.{is_listed, positions_below}
use Rattle.px_base.specs.Worlds.{first_foreign}
use Rattle.px_base.specs.ValueSteps.{newest_value, updated_mirrors, has_changed, some_changed, announcements}
use Rattle.px_base.proofs.Positions.{length_by_position, at_position}

-- the update of v to its value
abbrev pub update_to : (ℕ → ℕ) → ℕ → Update
update_to value v = record { vertex = v; value = value v }

-- some update is of m
abbrev pub names : ℕ → List Update → Bool
names m updates = list_any (λ u. u.vertex == m) updates

-- ---- the newest value

-- Updates that carry the value that f has at their vertex leave it at m, if one of them is of m or it is there already.
newest_is : (f : ℕ → ℕ) (updates : List Update) (m old : ℕ) → AllByRecursion (λ u. u.value ≡ f u.vertex) updates → (names m updates ≡ true) ⊎ (old ≡ f m) → newest_value updates m old ≡ f m
newest_is f [] m old right (inl none) = cc
newest_is f [] m old right (inr had) = had
newest_is f (u ∷ us) m old right told = first_newest (u.vertex == m) refl told (λ kept later. newest_is f us m kept right.1 later)
  where
    first_newest : (b : Bool) → (u.vertex == m) ≡ b → ((b || names m us) ≡ true) ⊎ (old ≡ f m) →
        ((kept : ℕ) → (names m us ≡ true) ⊎ (kept ≡ f m) → newest_value us m kept ≡ f m) → newest_value us m (if b then u.value else old) ≡ f m
    first_newest true here told rest = rest u.value (inr (right.0 ∙ ap f (eqb-true u.vertex m here)))
    first_newest false apart (inl later) rest = rest old (inl later)
    first_newest false apart (inr had) rest = rest old (inr had)

-- The mirrors have their values of z, if each update carries its vertex's, and each mirror has an update or its value.
pub mirrors_told : (x z mirrors : List ℕ) (updates : List Update) → All (λ u. u.value ≡ slice_index z u.vertex) updates →
    ((k : ℕ) → k < length mirrors → (names (slice_index mirrors k) updates ≡ true) ⊎ (slice_index x (slice_index mirrors k) ≡ slice_index z (slice_index mirrors k))) →
    updated_mirrors mirrors updates (map (slice_index x) mirrors) ≡ map (slice_index z) mirrors
mirrors_told x z mirrors updates right told =
    let old : List ℕ = map (slice_index x) mirrors in
    let sized : length old ≡ length mirrors = length-map mirrors (slice_index x) in
    same_number_lists (updated_mirrors mirrors updates old) (map (slice_index z) mirrors)
    (length_by_position (length old) (λ k. newest_value updates (slice_index mirrors k) (slice_index old k)) ∙ sized ∙ sym (length-map mirrors (slice_index z)))
    (λ k below.
    let here : k < length old = rw (length_by_position (length old) (λ j. newest_value updates (slice_index mirrors j) (slice_index old j))) at below in
    let inside : k < length mirrors = omega (arith, sized) in
    let m : ℕ = slice_index mirrors k in
    at_position (length old) (λ j. newest_value updates (slice_index mirrors j) (slice_index old j)) k 0 here
    ∙ ap (newest_value updates m) (get_or-map (slice_index x) mirrors k 0 0 inside)
    ∙ newest_is (slice_index z) updates m (slice_index x m) (recursion_from_All (λ u. u.value ≡ slice_index z u.vertex) updates right) (told k inside)
    ∙ sym (get_or-map (slice_index z) mirrors k 0 0 inside))

-- a world that takes each vertex named refuses nothing
none_foreign : (takes : ℕ → Bool) (updates : List Update) → AllByRecursion (λ u. takes u.vertex ≡ true) updates → first_foreign takes updates ≡ None
none_foreign takes [] all = refl
none_foreign takes (u ∷ us) all = let first : takes u.vertex ≡ true = all.0 in rw first (none_foreign takes us all.1)

pub none_refused : (takes : ℕ → Bool) (updates : List Update) → All (λ u. takes u.vertex ≡ true) updates → first_foreign takes updates ≡ None
none_refused takes updates all = none_foreign takes updates (recursion_from_All (λ u. takes u.vertex ≡ true) updates all)

-- ---- lists of lists

each_joined : {X Y : Type 0} (Q : Y → Type 0) (f : X → List Y) (xs : List X) → AllByRecursion (λ x. All Q (f x)) xs → All Q (flat_map f xs)
each_joined Q f [] all = λ k d below. absurd (omega arith)
each_joined Q f (x ∷ xs) all = All-append Q (f x) (flat_map f xs) all.0 (each_joined Q f xs all.1)

-- what holds of each item of each list holds of each item of them all
pub all_joined : {X Y : Type 0} (Q : Y → Type 0) (f : X → List Y) (xs : List X) → All (λ x. All Q (f x)) xs → All Q (flat_map f xs)
all_joined Q f xs all = each_joined Q f xs (recursion_from_All (λ x. All Q (f x)) xs all)

or_true : (a b : Bool) → b ≡ true → (a || b) ≡ true
or_true true b h = refl
or_true false b h = h

-- what passes in one of the lists passes in them all
pub any_joined : {X Y : Type 0} (p : Y → Bool) (f : X → List Y) (xs : List X) (i : ℕ) (d : X) → i < length xs → list_any p (f (get_or xs i d)) ≡ true → list_any p (flat_map f xs) ≡ true
any_joined p f [] i d inside here = absurd (omega arith)
any_joined p f (x ∷ xs) zero d inside here = list_any-append p (f x) (flat_map f xs) ∙ ap (λ b. b || list_any p (flat_map f xs)) here
any_joined p f (x ∷ xs) (suc i) d inside here = list_any-append p (f x) (flat_map f xs) ∙ or_true (list_any p (f x)) (list_any p (flat_map f xs)) (any_joined p f xs i d (omega arith) here)

-- ---- items that pass a test

kept_if : {X : Type 0} (P : X → Type 0) (p : X → Bool) (us : List X) → AllByRecursion (λ u. p u ≡ true → P u) us → AllByRecursion P (filter p us)
kept_if P p [] all = tt
kept_if P p (u ∷ us) all = first_kept (p u) refl all.0 (kept_if P p us all.1)
  where
    first_kept : (b : Bool) → p u ≡ b → (p u ≡ true → P u) → AllByRecursion P (filter p us) → AllByRecursion P (if b then u ∷ filter p us else filter p us)
    first_kept true passes here later = (here passes, later)
    first_kept false passes here later = later

-- what holds of each item that passes holds of all that are kept
pub all_kept : {X : Type 0} (P : X → Type 0) (p : X → Bool) (us : List X) → All (λ u. p u ≡ true → P u) us → All P (filter p us)
all_kept P p us all = All-from_recursion P (filter p us) (kept_if P p us (recursion_from_All (λ u. p u ≡ true → P u) us all))

-- an update of m is kept where m passes
pub named_kept : (m : ℕ) (q : ℕ → Bool) (us : List Update) → q m ≡ true → names m us ≡ true → names m (filter (λ u. q u.vertex) us) ≡ true
named_kept m q us passes named = any-filter_same (λ u. u.vertex == m) (λ u. q u.vertex) true (λ u here. ap q (eqb-true u.vertex m here) ∙ passes) us ∙ named

-- ---- what a part announces

named_map : (value : ℕ → ℕ) (vs : List ℕ) (m : ℕ) → names m (map (update_to value) vs) ≡ is_listed vs m
named_map value [] m = refl
named_map value (v ∷ vs) m = ap (λ b. v == m || b) (named_map value vs m)

and_swap : (a b : Bool) → (a && b) ≡ (b && a)
and_swap true true = refl
and_swap true false = refl
and_swap false true = refl
and_swap false false = refl

-- what is listed among those that pass is listed, and passes
pub listed_filter : (p : ℕ → Bool) (vs : List ℕ) (m : ℕ) → is_listed (filter p vs) m ≡ (is_listed vs m && p m)
listed_filter p vs m = any-filter_same (λ v. v == m) p (p m) (λ v here. ap p (eqb-true v m here)) vs ∙ and_swap (p m) (is_listed vs m)

each_told : (P : Update → Type 0) (value : ℕ → ℕ) (tells : ℕ → Bool) (vs : List ℕ) → AllByRecursion (λ v. P (update_to value v)) vs → AllByRecursion P (map (update_to value) (filter tells vs))
each_told P value tells [] all = tt
each_told P value tells (v ∷ vs) all = first_told (tells v) all.0 (each_told P value tells vs all.1)
  where
    first_told : (b : Bool) → P (update_to value v) → AllByRecursion P (map (update_to value) (filter tells vs)) → AllByRecursion P (map (update_to value) (if b then v ∷ filter tells vs else filter tells vs))
    first_told true here later = (here, later)
    first_told false here later = later

-- what holds of the update of each vertex of the boundary holds of all that is announced
pub all_announced : (P : Update → Type 0) (all : Bool) (part : Part) (before after : List ℕ) →
    All (λ v. P (update_to (λ w. slice_index after (w - part.low)) v)) part.boundary → All P (announcements all part before after)
all_announced P all part before after each =
    All-from_recursion P (announcements all part before after)
    (each_told P (λ w. slice_index after (w - part.low)) (λ v. all || has_changed before after (v - part.low)) part.boundary
    (recursion_from_All (λ v. P (update_to (λ w. slice_index after (w - part.low)) v)) part.boundary each))

pub no_change : (a b : ℕ) → not (a == b) ≡ false → a ≡ b
no_change a b h = grind (arith, nat_tests)

-- a vertex of the boundary is announced, or has its old value
pub announced_or_same : (all : Bool) (part : Part) (before after : List ℕ) (m : ℕ) → is_listed part.boundary m ≡ true →
    (names m (announcements all part before after) ≡ true) ⊎ (slice_index before (m - part.low) ≡ slice_index after (m - part.low))
announced_or_same all part before after m listed = by_test (all || has_changed before after (m - part.low)) refl
  where
    told : names m (announcements all part before after) ≡ (is_listed part.boundary m && (all || has_changed before after (m - part.low)))
    told = named_map (λ w. slice_index after (w - part.low)) (filter (λ v. all || has_changed before after (v - part.low)) part.boundary) m
        ∙ listed_filter (λ v. all || has_changed before after (v - part.low)) part.boundary m

    by_test : (b : Bool) → (all || has_changed before after (m - part.low)) ≡ b →
        (names m (announcements all part before after) ≡ true) ⊎ (slice_index before (m - part.low) ≡ slice_index after (m - part.low))
    by_test true yes_told = inl (told ∙ ap (λ c. c && (all || has_changed before after (m - part.low))) listed ∙ yes_told)
    by_test false not_told = inr (kept all not_told)
      where
        kept : (a : Bool) → (a || has_changed before after (m - part.low)) ≡ false → slice_index before (m - part.low) ≡ slice_index after (m - part.low)
        kept true h = cc
        kept false h = no_change (slice_index before (m - part.low)) (slice_index after (m - part.low)) h

nothing_passes : (vs : List ℕ) (p : ℕ → Bool) → ((v : ℕ) → p v ≡ false) → filter p vs ≡ []
nothing_passes [] p none = refl
nothing_passes (v ∷ vs) p none = rw (none v) (nothing_passes vs p none)

pub unchanged : (a : ℕ) → not (a == a) ≡ false
unchanged a = grind (arith, nat_tests)

-- no master changed where all are as before
pub none_changed : (xs : List ℕ) → some_changed xs xs ≡ false
none_changed xs = list_any_none (has_changed xs xs) (positions_below (length xs)) (λ k d below. unchanged (slice_index xs (get_or (positions_below (length xs)) k d)))

-- a list of which no entry changed is the same
pub no_entry_changed : (before after : List ℕ) → length before ≡ length after → some_changed before after ≡ false → before ≡ after
no_entry_changed before after sized none = same_number_lists before after sized (λ v below. entry v below (has_changed before after v) refl)
  where
    entry : (v : ℕ) → v < length before → (b : Bool) → has_changed before after v ≡ b → slice_index before v ≡ slice_index after v
    entry v below false kept = no_change (slice_index before v) (slice_index after v) kept
    entry v below true changed =
        let inside : v < length after = rw sized at below in
        let here : get_or (positions_below (length after)) v 0 ≡ v = get_or-range_with_len 0 (length after) v 0 inside ∙ zero-add v in
        let some : some_changed before after ≡ true = list_any_at (has_changed before after) (positions_below (length after)) v 0 (rw (length-range_with_len 0 (length after)) inside) (rw here changed) in
        cc

-- nothing is announced where nothing changed and not all is asked for
pub nothing_announced : (part : Part) (values : List ℕ) → announcements false part values values ≡ []
nothing_announced part values = rw (nothing_passes part.boundary (λ v. has_changed values values (v - part.low)) (λ v. unchanged (slice_index values (v - part.low)))) refl

-- where all is asked for, each vertex of the boundary is announced
pub named_all : (part : Part) (before after : List ℕ) (m : ℕ) → is_listed part.boundary m ≡ true → names m (announcements true part before after) ≡ true
named_all part before after m listed = named_map (λ w. slice_index after (w - part.low)) (filter (λ v. true || has_changed before after (v - part.low)) part.boundary) m
    ∙ (listed_filter (λ v. true || has_changed before after (v - part.low)) part.boundary m ∙ ap (λ c. c && true) listed)
