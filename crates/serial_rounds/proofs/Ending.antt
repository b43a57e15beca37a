-- Rounds come to an end, and then the values are the answer.
use Rattle.std.proofs.Common.{◌≡◌, ℕ, zero, suc, add-one, ◌+◌, ◌-◌, ◌<◌, ◌≤◌, Bool, true, false, not, List, [], ◌∷◌, ◌++◌, length, map, take, get_or, refl, sym, ap, ◌∙◌, arith, inl, inr}
use Rattle.std.specs.Prelude.{◌&&◌, ◌⊎◌, ◌==◌, slice_index, slice_range, sum, All}
use Rattle.std.specs.List.{flat_map}
use Rattle.std.proofs.lemmas.Grind.{same_number_lists}
use Rattle.std.proofs.lemmas.Bool.Decides.{nat_tests}
use Rattle.std.proofs.lemmas.List.{append-nil, take_all, length-map, get_or-map}
use Rattle.std.proofs.lemmas.List.Concat.{flat_map-append}
use Rattle.std.proofs.Math.Seq.{take-add, take-suc}
use Rattle.px_base.specs.declared.graph.Read.{Read}
use Rattle.px_base.specs.declared.program.CoreProgram.{CoreProgram}
use Rattle.px_base.specs.declared.wire.Update.{Update}
use Rattle.px_base.specs.Values.{IsValueList}
use Rattle.px_base.specs.Parts.{IsCuts, IsOwner, part_count, part_of, low_of, high_of}
use Rattle.px_base.specs.Worlds.{World, is_fresh, masters_of, epoch_of}
use Rattle.px_base.proofs.Positions.{length_by_position}
use Rattle.partitioner.proofs.Owned.{an_owner, low_below_high, high_inside}
use Rattle.consistent_solver.specs.CoreLists.{IsBelow, IsGreatestCoreConsistent, renewed, renewed_at}
use Rattle.consistent_solver.proofs.Below.{below_anywhere}
use Rattle.consistent_solver.proofs.Reaching.{renewed_lower, still_greatest, sums}
use Rattle.serial_rounds.specs.declared.steps.Sent.{Sent}
use Rattle.serial_rounds.specs.Mail.{is_still}
use Rattle.list_laws.proofs.Ranges.{at_range, length_range}
use Rattle.list_laws.proofs.Told.{nothing_announced, none_changed, no_entry_changed}
use Rattle.serial_rounds.proofs.Mailed.{share, told_by}
use Rattle.serial_rounds.proofs.InStep.{IsJob, AreInStep, IsRound, changes, world_at}

-- ---- changes of a share

share_sized : (cuts : List ℕ) (i n : ℕ) (x : List ℕ) → IsCuts n cuts → i < part_count cuts → length x ≡ n → length (share cuts i x) ≡ high_of cuts i - low_of cuts i
share_sized cuts i n x c few sized = length_range x (low_of cuts i) (high_of cuts i) (low_below_high n cuts i c few) (rw sized (high_inside n cuts i c few))

-- a share of a list that is nowhere greater has no greater entry
share_below : (cuts : List ℕ) (i n : ℕ) (x y : List ℕ) (k : ℕ) → IsCuts n cuts → i < part_count cuts → length x ≡ n → length y ≡ n → IsBelow n y x → slice_index (share cuts i y) k ≤ slice_index (share cuts i x) k
share_below cuts i n x y k c few sized_x sized_y below =
    below_anywhere (high_of cuts i - low_of cuts i) (share cuts i y) (share cuts i x) k (share_sized cuts i n y c few sized_y)
    (λ v inside. rw (at_range y (low_of cuts i) (high_of cuts i) v 0 inside, at_range x (low_of cuts i) (high_of cuts i) v 0 inside)
    (below_anywhere n y x (low_of cuts i + v) sized_y below))

-- two lists with the same shares are the same
same_shares : (n : ℕ) (cuts x y : List ℕ) → IsCuts n cuts → length x ≡ n → length y ≡ n → ((i : ℕ) → i < part_count cuts → share cuts i x ≡ share cuts i y) → x ≡ y
same_shares n cuts x y c sized_x sized_y same = same_number_lists x y (sized_x ∙ sym sized_y) (λ v below. by_owner v (an_owner n cuts v c (omega (arith, sized_x))))
  where
    by_owner : (v : ℕ) → (i : ℕ) × IsOwner cuts v i → slice_index x v ≡ slice_index y v
    by_owner v (i, owner) =
        let place : v - low_of cuts i < high_of cuts i - low_of cuts i = omega (arith, owner.from, owner.to) in
        let back : low_of cuts i + (v - low_of cuts i) ≡ v = omega (arith, owner.from) in
        ap (slice_index x) (sym back) ∙ sym (at_range x (low_of cuts i) (high_of cuts i) (v - low_of cuts i) 0 place)
        ∙ ap (λ s. slice_index s (v - low_of cuts i)) (same i owner.below)
        ∙ at_range y (low_of cuts i) (high_of cuts i) (v - low_of cuts i) 0 place ∙ ap (slice_index y) back

-- ---- all shares are the list

take_range : (x : List ℕ) (a b : ℕ) → a ≤ b → b ≤ length x → take a x ++ slice_range x a b ≡ take b x
take_range x a b rise inside = sym (take-add a (b - a) x) ∙ ap (λ m. take m x) (let whole : a + (b - a) ≡ b = omega arith in whole)

joined_up_to : (n : ℕ) (cuts x : List ℕ) (worlds : List World) (d : World) (k : ℕ) → IsCuts n cuts → length x ≡ n → length worlds ≡ part_count cuts →
    ((i : ℕ) → i < part_count cuts → masters_of (get_or worlds i d) ≡ share cuts i x) → k ≤ part_count cuts → flat_map masters_of (take k worlds) ≡ take (low_of cuts k) x
joined_up_to n cuts x worlds d zero c sized count are most = rw c.first refl
joined_up_to n cuts x worlds d (suc k) c sized count are most =
    let few : k < part_count cuts = omega arith in
    let inside : high_of cuts k ≤ length x = rw sized (high_inside n cuts k c few) in
    ap (flat_map masters_of) (take-suc worlds k d (omega (arith, count)))
    ∙ flat_map-append masters_of (take k worlds) (get_or worlds k d ∷ [])
    ∙ ap (λ l. l ++ flat_map masters_of (get_or worlds k d ∷ [])) (joined_up_to n cuts x worlds d k c sized count are (omega arith))
    ∙ ap (λ l. take (low_of cuts k) x ++ l) (append-nil (masters_of (get_or worlds k d)) ∙ are k few)
    ∙ take_range x (low_of cuts k) (high_of cuts k) (low_below_high n cuts k c few) inside
    ∙ ap (λ m. take (slice_index cuts m) x) (add-one k)

-- the masters of all worlds together have the values of the list
joined_is : (n : ℕ) (cuts x : List ℕ) (worlds : List World) (d : World) → IsCuts n cuts → length x ≡ n → length worlds ≡ part_count cuts →
    ((i : ℕ) → i < part_count cuts → masters_of (get_or worlds i d) ≡ share cuts i x) → flat_map masters_of worlds ≡ x
joined_is n cuts x worlds d c sized count are =
    ap (flat_map masters_of) (sym (take_all (part_count cuts) worlds (omega (arith, count))))
    ∙ joined_up_to n cuts x worlds d (part_count cuts) c sized count are (omega arith)
    ∙ take_all (low_of cuts (part_count cuts)) x (omega (arith, c.last, sized))

-- ---- the work that is left

-- how much of a worker's work can still happen: a round lowers the values of some master, or is the first one
abbrev pub work_of : World → ℕ
work_of w = sum (masters_of w) + (1 - epoch_of w)

-- and of the work of all workers
abbrev pub work_left : List World → ℕ
work_left worlds = sum (map work_of worlds)

fresh_is_early : (epoch : ℕ) → is_fresh epoch 1 ≡ true → epoch ≡ 0
fresh_is_early epoch h = grind (arith, nat_tests)

-- the shares of part i before and after a round
share_fell : (core : CoreProgram) (rows : List (List Read)) (starts cuts now : List ℕ) (i : ℕ) → IsCuts (length rows) cuts → i < part_count cuts → IsValueList (length rows) now →
    (sum (share cuts i (renewed core rows starts now)) < sum (share cuts i now)) ⊎ (share cuts i now ≡ share cuts i (renewed core rows starts now))
share_fell core rows starts cuts now i c few values =
    let sized : length (renewed core rows starts now) ≡ length rows = length_by_position (length rows) (renewed_at core rows starts now) in
    sums (share cuts i now) (share cuts i (renewed core rows starts now))
    (share_sized cuts i (length rows) now c few values.one_each ∙ sym (share_sized cuts i (length rows) (renewed core rows starts now) c few sized))
    (λ k. share_below cuts i (length rows) now (renewed core rows starts now) k c few values.one_each sized (renewed_lower core rows starts now))

never_rises : (a b epoch : ℕ) (xs ys : List ℕ) → a ≡ sum xs → b ≡ sum ys → (sum ys < sum xs) ⊎ (xs ≡ ys) → b + (1 - 1) ≤ a + (1 - epoch)
never_rises a b epoch xs ys is_a is_b (inl less) = omega (arith, is_a, is_b, less)
never_rises a b epoch xs ys is_a is_b (inr same) = omega (arith, is_a, is_b, ap sum same)

-- of a worker that isn't still some work was done
some_fell : (a b epoch : ℕ) (xs ys : List ℕ) (fresh : Bool) → a ≡ sum xs → b ≡ sum ys → (sum ys < sum xs) ⊎ (xs ≡ ys) → (fresh ≡ true → epoch ≡ 0) → (xs ≡ ys → fresh ≡ false → ⊥) → b + (1 - 1) < a + (1 - epoch)
some_fell a b epoch xs ys fresh is_a is_b (inl less) early going = omega (arith, is_a, is_b, less)
some_fell a b epoch xs ys true is_a is_b (inr same) early going = omega (arith, is_a, is_b, ap sum same, early refl)
some_fell a b epoch xs ys false is_a is_b (inr same) early going = absurd (going same refl)

-- a part that doesn't change in a later round sends nothing
still_part : (rows : List (List Read)) (starts cuts : List ℕ) (i epoch : ℕ) (now next : List ℕ) (s : Sent) → s.changed ≡ changes cuts i now next → s.updates ≡ told_by (is_fresh epoch 1) rows starts cuts i now next →
    share cuts i now ≡ share cuts i next → is_fresh epoch 1 ≡ false → is_still s ≡ true
still_part rows starts cuts i epoch now next s changed_is updates_is same later =
    let none : s.changed ≡ false = changed_is ∙ (rw (← same) (none_changed (share cuts i now))) in
    let nothing : s.updates ≡ [] = updates_is ∙ (rw (later, ← same) (nothing_announced (part_of rows starts cuts i) (share cuts i now))) in
    rw (none, nothing) refl

-- what a round does to the work of worker i
work_at : (core : CoreProgram) (rows : List (List Read)) (starts cuts : List ℕ) (worlds : List World) (inboxes : List (List Update)) (round : ℕ) (next : List World) (sent : List Sent) (i : ℕ) (d : World) →
    IsJob core rows starts cuts → (t : AreInStep core rows starts cuts worlds inboxes) → IsRound core rows starts cuts t.epoch round t.now next sent → i < part_count cuts →
    work_of (get_or next i d) ≤ work_of (get_or worlds i d)
work_at core rows starts cuts worlds inboxes round next sent i d job t r few =
    rw (r.worlds_are i d few, t.worlds_are i d few)
    (never_rises (sum (share cuts i t.now)) (sum (share cuts i (renewed core rows starts t.now))) t.epoch (share cuts i t.now) (share cuts i (renewed core rows starts t.now)) refl refl
    (share_fell core rows starts cuts t.now i job.cut few t.values))

work_done : (core : CoreProgram) (rows : List (List Read)) (starts cuts : List ℕ) (worlds : List World) (inboxes : List (List Update)) (round : ℕ) (next : List World) (sent : List Sent) (i : ℕ) (d : World) (s : Sent) →
    IsJob core rows starts cuts → (t : AreInStep core rows starts cuts worlds inboxes) → IsRound core rows starts cuts t.epoch round t.now next sent → i < part_count cuts → is_still (get_or sent i s) ≡ false →
    work_of (get_or next i d) < work_of (get_or worlds i d)
work_done core rows starts cuts worlds inboxes round next sent i d s job t r few going =
    rw (r.worlds_are i d few, t.worlds_are i d few)
    (some_fell (sum (share cuts i t.now)) (sum (share cuts i (renewed core rows starts t.now))) t.epoch (share cuts i t.now) (share cuts i (renewed core rows starts t.now)) (is_fresh t.epoch 1) refl refl
    (share_fell core rows starts cuts t.now i job.cut few t.values) (fresh_is_early t.epoch)
    (λ same later.
    let still : is_still (get_or sent i s) ≡ true = still_part rows starts cuts i t.epoch t.now (renewed core rows starts t.now) (get_or sent i s) (r.changed_are i s few) (r.told.updates_are i s few) same later in
    cc))

-- a round after which not all are still lowers the work that is left
pub round_falls : (core : CoreProgram) (rows : List (List Read)) (starts cuts : List ℕ) (worlds : List World) (inboxes : List (List Update)) (round : ℕ) (next : List World) (sent : List Sent) →
    IsJob core rows starts cuts → (t : AreInStep core rows starts cuts worlds inboxes) → IsRound core rows starts cuts t.epoch round t.now next sent →
    (All (λ s. is_still s ≡ true) sent → ⊥) → work_left next < work_left worlds
round_falls core rows starts cuts worlds inboxes round next sent job t r going = by_sums (sums (map work_of worlds) (map work_of next) sized below)
  where
    none : World
    none = world_at core rows starts cuts 0 0 0 [] []

    sized : length (map work_of worlds) ≡ length (map work_of next)
    sized = length-map worlds work_of ∙ t.world_count ∙ sym (length-map next work_of ∙ r.world_count)

    at : (xs : List World) (k : ℕ) → length xs ≡ part_count cuts → k < part_count cuts → slice_index (map work_of xs) k ≡ work_of (get_or xs k none)
    at xs k count few = get_or-map work_of xs k none 0 (omega (arith, count))

    below : (k : ℕ) → slice_index (map work_of next) k ≤ slice_index (map work_of worlds) k
    below k = below_anywhere (part_count cuts) (map work_of next) (map work_of worlds) k (length-map next work_of ∙ r.world_count)
        (λ v few. rw (at next v r.world_count few, at worlds v t.world_count few) (work_at core rows starts cuts worlds inboxes round next sent v none job t r few))

    each : map work_of worlds ≡ map work_of next → (k : ℕ) (d : Sent) → k < part_count cuts → (b : Bool) → is_still (get_or sent k d) ≡ b → is_still (get_or sent k d) ≡ true
    each same k d few true still = still
    each same k d few false moved =
        absurd (omega (arith, work_done core rows starts cuts worlds inboxes round next sent k none d job t r few moved, at next k r.world_count few, at worlds k t.world_count few, ap (λ l. slice_index l k) same))

    by_sums : (sum (map work_of next) < sum (map work_of worlds)) ⊎ (map work_of worlds ≡ map work_of next) → work_left next < work_left worlds
    by_sums (inl less) = less
    by_sums (inr same) = absurd (going (λ k d inside. each same k d (omega (arith, inside, r.told.count)) (is_still (get_or sent k d)) refl))

not_changed : (s : Sent) → is_still s ≡ true → s.changed ≡ false
not_changed s still = first (s.changed) (length s.updates == 0) still
  where
    first : (a b : Bool) → (not a && b) ≡ true → a ≡ false
    first true b h = cc
    first false b h = refl

-- where all are still after a round, the values of the masters are the answer
pub round_ends : (core : CoreProgram) (rows : List (List Read)) (starts cuts : List ℕ) (worlds : List World) (inboxes : List (List Update)) (round : ℕ) (next : List World) (sent : List Sent) →
    IsJob core rows starts cuts → (t : AreInStep core rows starts cuts worlds inboxes) → IsRound core rows starts cuts t.epoch round t.now next sent →
    All (λ s. is_still s ≡ true) sent → IsGreatestCoreConsistent core rows starts (flat_map masters_of next)
round_ends core rows starts cuts worlds inboxes round next sent job t r still =
    rw joined (rw (← kept) (still_greatest core rows starts t.now t.values t.below (sym kept)))
  where
    none : Sent
    none = record { changed = false; updates = [] }

    empty : World
    empty = world_at core rows starts cuts 0 0 0 [] []

    sized : length (renewed core rows starts t.now) ≡ length rows
    sized = length_by_position (length rows) (renewed_at core rows starts t.now)

    same : (i : ℕ) → i < part_count cuts → share cuts i t.now ≡ share cuts i (renewed core rows starts t.now)
    same i few = no_entry_changed (share cuts i t.now) (share cuts i (renewed core rows starts t.now))
        (share_sized cuts i (length rows) t.now job.cut few t.values.one_each ∙ sym (share_sized cuts i (length rows) (renewed core rows starts t.now) job.cut few sized))
        (sym (r.changed_are i none few) ∙ not_changed (get_or sent i none) (still i none (omega (arith, few, r.told.count))))

    kept : t.now ≡ renewed core rows starts t.now
    kept = same_shares (length rows) cuts t.now (renewed core rows starts t.now) job.cut t.values.one_each sized same

    joined : flat_map masters_of next ≡ renewed core rows starts t.now
    joined = joined_is (length rows) cuts (renewed core rows starts t.now) next empty job.cut sized r.world_count (λ i few. ap masters_of (r.worlds_are i empty few))
