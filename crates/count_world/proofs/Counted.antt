-- What a Step of a world of counts comes to where it isn't refused.
use Rattle.std.proofs.Common.{◌≡◌, ℕ, zero, suc, ◌+◌, ◌-◌, ◌<◌, ◌≤◌, ◌∙◌, Bool, true, false, List, [], ◌∷◌, length, map, refl, sym, ap, subst, arith, None}
use Rattle.std.specs.Prelude.{◌==◌, ◌&&◌, ◌||◌, not, nat_lt, All, Ok, filter, slice_index, sum_by, if◌then◌else◌}
use Rattle.std.specs.List.{list_any}
use Rattle.std.proofs.lemmas.Bool.Decides.{nat_tests}
use Rattle.std.proofs.lemmas.List.{length-map, get_or-map}
use Rattle.std.proofs.lemmas.List.FromFn.{fill_by_all}
use Rattle.px_base.specs.declared.graph.Part.{Part}
use Rattle.px_base.specs.declared.wire.Update.{Update}
use Rattle.px_base.specs.declared.wire.Order.TheVariants.{Step}
use Rattle.px_base.specs.declared.wire.Answer.TheVariants.{Stepped}
use Rattle.px_base.specs.Values.{by_position, positions_below, is_in, is_listed, one_if}
use Rattle.px_base.specs.Graphs.{row_at, reads_passing}
use Rattle.px_base.specs.Parts.{is_within}
use Rattle.px_base.specs.Worlds.{CountWorld, first_foreign, is_fresh}
use Rattle.px_base.specs.CountSteps.{is_master_passing, is_dead, dies, fresh_counts, delta_of, counts_less, world_as_read, after_deaths, is_announced, death_announcements, times_read, count_step}
use Rattle.px_base.proofs.Positions.{length_by_position}
use Rattle.reader_chains.specs.declared.readers.Readers.{Readers}
use Rattle.count_world.specs.Kept.{KeepsCounts}
use Rattle.count_world.specs.Readers.{AreReaders, times_listed, times_in_row}
use Rattle.list_laws.specs.Sets.{IsListOf}
use Rattle.count_world.specs.Sets.{is_dying, is_told_again, counts_off, without}
use Rattle.count_world.specs.Told.{times_of, told_updates}
use Rattle.count_world.proofs.Masters.{by_position_same}
use Rattle.list_laws.proofs.Sums.{row_by_master, listed_is, joined, below_same, sum_none, some_listed}
use Rattle.count_world.proofs.Telling.{told_is}
use Rattle.list_laws.proofs.Sets.{flag_is}

not_earlier : (a b : ℕ) → b ≤ a → nat_lt a b ≡ false
not_earlier a b h = grind (arith, nat_tests)

-- ---- what counts lose

-- each count less the reads in its row of masters that pass the test
abbrev counts_without : Part → (ℕ → Bool) → List ℕ → List ℕ
counts_without part test counts = by_position (length counts) (λ k. slice_index counts k - reads_passing (is_master_passing part test) (row_at part.rows k))

-- what the members' readers take off a count is what its row reads of them
pub lost_to : (part : Part) (readers : Readers) (test : ℕ → Bool) (members : List ℕ) (j : ℕ) → part.low ≤ part.high → AreReaders part readers → IsListOf (part.high - part.low) test members →
    j < part.high - part.low → sum_by (λ k. times_listed readers k j) members ≡ reads_passing (is_master_passing part test) (row_at part.rows j)
lost_to part readers test members j range are lists inside =
    lists (λ k. times_listed readers k j)
    ∙ below_same (part.high - part.low) (λ k. times_listed readers k j) (λ k. times_in_row part k j) test (λ k below. are.times k j below inside)
    ∙ row_by_master test part.low (part.high - part.low) (row_at part.rows j)
    ∙ (let whole : part.low + (part.high - part.low) ≡ part.high = omega arith in ap (λ high. reads_passing (λ u. is_within part.low high u && test (u - part.low)) (row_at part.rows j)) whole)

pub off_is : (part : Part) (readers : Readers) (test : ℕ → Bool) (members counts : List ℕ) → part.low ≤ part.high → AreReaders part readers → IsListOf (part.high - part.low) test members →
    length counts ≡ part.high - part.low → counts_off readers members counts ≡ counts_without part test counts
off_is part readers test members counts range are lists size =
    by_position_same (length counts) (length counts) (λ j. slice_index counts j - sum_by (λ k. times_listed readers k j) members) (λ k. slice_index counts k - reads_passing (is_master_passing part test) (row_at part.rows k)) 0 refl
    (λ j below. ap (λ lost. slice_index counts j - lost) (lost_to part readers test members j range are lists (omega (arith, below, size))))

-- ---- the counts that are read

pub nothing_off : (readers : Readers) (n : ℕ) (members counts : List ℕ) → IsListOf n (λ k. false) members → counts_off readers members counts ≡ counts
nothing_off readers n members counts lists =
    sym (fill_by_all (λ j. slice_index counts j - sum_by (λ k. times_listed readers k j) members) counts (length counts) 0 refl (λ j below. omega (arith, sum_none (λ k. times_listed readers k j) n members lists)))

begun_anew : (w : CountWorld) → KeepsCounts w → counts_without w.part (is_dead w) (map length w.part.rows) ≡ fresh_counts w
begun_anew w keeps =
    let size : length (map length w.part.rows) ≡ length w.alive = length-map w.part.rows length ∙ keeps.fits.rows ∙ sym keeps.alive in
    by_position_same (length (map length w.part.rows)) (length w.alive)
    (λ k. slice_index (map length w.part.rows) k - reads_passing (is_master_passing w.part (is_dead w)) (row_at w.part.rows k))
    (λ k. length (row_at w.part.rows k) - reads_passing (is_master_passing w.part (is_dead w)) (row_at w.part.rows k)) 0 size
    (λ k below.
    (let inside : k < length w.part.rows = omega (arith, below, keeps.alive, keeps.fits.rows) in
    ap (λ n. n - reads_passing (is_master_passing w.part (is_dead w)) (row_at w.part.rows k)) (get_or-map length w.part.rows k [] 0 inside)))

read_is : (w : CountWorld) (readers : Readers) (again : List ℕ) (fresh : Bool) → KeepsCounts w → AreReaders w.part readers → IsListOf (w.part.high - w.part.low) (is_told_again fresh w.alive) again →
    counts_off readers again (if fresh then map length w.part.rows else w.counts) ≡ (if fresh then fresh_counts w else w.counts)
read_is w readers again true keeps are lists =
    off_is w.part readers (is_dead w) again (map length w.part.rows) keeps.fits.range are lists (length-map w.part.rows length ∙ keeps.fits.rows) ∙ begun_anew w keeps
read_is w readers again false keeps are lists = nothing_off readers (w.part.high - w.part.low) again w.counts lists

-- ---- the deaths

living_is : (read : CountWorld) (dying : List ℕ) → All (λ flag. flag ≤ 1) read.alive → IsListOf (length read.alive) (dies read) dying → without dying read.alive ≡ (after_deaths read).alive
living_is read dying flags lists =
    by_position_same (length read.alive) (length read.alive) (λ k. if is_listed dying k then 0 else slice_index read.alive k) (λ k. one_if (is_in read.alive k && not (dies read k))) 0 refl
    (λ k below. ap (λ b. if b then 0 else slice_index read.alive k) (listed_is (length read.alive) (dies read) dying k lists below) ∙ by_death (slice_index read.alive k) (dies read k) (flags k 0 below))
  where
    living : (flag : ℕ) → flag ≤ 1 → flag ≡ one_if ((flag == 1) && true)
    living zero low = refl
    living (suc zero) low = refl
    living (suc (suc n)) low = absurd (omega arith)

    dead : (b : Bool) → one_if (b && false) ≡ 0
    dead true = refl
    dead false = refl

    by_death : (flag : ℕ) (b : Bool) → flag ≤ 1 → (if b then 0 else flag) ≡ one_if ((flag == 1) && not b)
    by_death flag true low = sym (dead (flag == 1))
    by_death flag false low = living flag low

-- ---- what is announced

announced_is : (read : CountWorld) (fresh : Bool) (k : ℕ) → k < length read.alive → is_announced fresh read (after_deaths read) k ≡ (is_told_again fresh read.alive k || dies read k)
announced_is read fresh k below =
    ap (λ b. if fresh then not b else dies read k) (flag_is (length read.alive) (λ j. is_in read.alive j && not (dies read j)) k below)
    ∙ by_kind fresh (is_in read.alive k) (nat_lt (slice_index read.counts k) read.needed)
  where
    by_kind : (fresh alive low : Bool) → (if fresh then not (alive && not (alive && low)) else alive && low) ≡ (fresh && not alive || (alive && low))
    by_kind true true true = refl
    by_kind true true false = refl
    by_kind true false true = refl
    by_kind true false false = refl
    by_kind false true true = refl
    by_kind false true false = refl
    by_kind false false true = refl
    by_kind false false false = refl

never_both : (read : CountWorld) (fresh : Bool) (k : ℕ) → (is_told_again fresh read.alive k && dies read k) ≡ false
never_both read fresh k = by_kind fresh (is_in read.alive k) (nat_lt (slice_index read.counts k) read.needed)
  where
    by_kind : (fresh alive low : Bool) → ((fresh && not alive) && (alive && low)) ≡ false
    by_kind true true low = refl
    by_kind true false low = refl
    by_kind false alive low = refl

times_same : (read : CountWorld) (fresh : Bool) (again dying : List ℕ) (m : ℕ) → IsListOf (length read.alive) (is_told_again fresh read.alive) again → IsListOf (length read.alive) (dies read) dying →
    times_of read.part.rows again m + times_of read.part.rows dying m ≡ times_read (after_deaths read) (is_announced fresh read (after_deaths read)) m
times_same read fresh again dying m first second =
    let f : ℕ → ℕ = λ k. reads_passing (λ u. u == m) (row_at read.part.rows k) in
    let kept : length (after_deaths read).alive ≡ length read.alive = length_by_position (length read.alive) (λ k. one_if (is_in read.alive k && not (dies read k))) in
    ap (λ n. n + sum_by f dying) (first f)
    ∙ ap (λ n. sum_by f (filter (is_told_again fresh read.alive) (positions_below (length read.alive))) + n) (second f)
    ∙ joined f (is_told_again fresh read.alive) (dies read) (is_announced fresh read (after_deaths read)) (length read.alive) (announced_is read fresh) (λ k below. never_both read fresh k)
    ∙ ap (λ n. sum_by f (filter (is_announced fresh read (after_deaths read)) (positions_below n))) (sym kept)

map_same : (one other : ℕ → ℕ) → ((m : ℕ) → one m ≡ other m) → (ms : List ℕ) → map one ms ≡ map other ms
map_same one other same [] = refl
map_same one other same (m ∷ ms) = rw (same m, map_same one other same ms) refl

told_after : (read : CountWorld) (fresh : Bool) (again dying : List ℕ) → IsListOf (length read.alive) (is_told_again fresh read.alive) again → IsListOf (length read.alive) (dies read) dying →
    told_updates read.part.mirrors (map (λ m. times_of read.part.rows again m + times_of read.part.rows dying m) read.part.mirrors) ≡ death_announcements (after_deaths read) (is_announced fresh read (after_deaths read))
told_after read fresh again dying first second =
    ap (λ times. told_updates read.part.mirrors times)
    (map_same (λ m. times_of read.part.rows again m + times_of read.part.rows dying m) (times_read (after_deaths read) (is_announced fresh read (after_deaths read))) (λ m. times_same read fresh again dying m first second) read.part.mirrors)
    ∙ told_is read.part.mirrors (times_read (after_deaths read) (is_announced fresh read (after_deaths read)))

-- ---- the step

read_size : (w : CountWorld) (updates : List Update) (fresh : Bool) → KeepsCounts w → length (counts_less w.part.low updates (if fresh then fresh_counts w else w.counts)) ≡ w.part.high - w.part.low
read_size w updates true keeps =
    length_by_position (length (fresh_counts w)) (λ k. slice_index (fresh_counts w) k - delta_of updates (w.part.low + k))
    ∙ length_by_position (length w.alive) (λ k. length (row_at w.part.rows k) - reads_passing (is_master_passing w.part (is_dead w)) (row_at w.part.rows k))
    ∙ keeps.alive
read_size w updates false keeps = length_by_position (length w.counts) (λ k. slice_index w.counts k - delta_of updates (w.part.low + k)) ∙ keeps.counts

pub step_made : (w : CountWorld) (readers : Readers) (epoch round : ℕ) (updates : List Update) (again dying next alive counts : List ℕ) (changed : Bool) (announced : List Update) →
    KeepsCounts w → AreReaders w.part readers → w.epoch ≤ epoch → first_foreign (is_within w.part.low w.part.high) updates ≡ None →
    IsListOf (w.part.high - w.part.low) (is_told_again (is_fresh w.epoch epoch) w.alive) again →
    next ≡ counts_less w.part.low updates (counts_off readers again (if is_fresh w.epoch epoch then map length w.part.rows else w.counts)) →
    IsListOf (w.part.high - w.part.low) (is_dying w.alive next w.needed) dying →
    alive ≡ without dying w.alive →
    counts ≡ counts_off readers dying next →
    changed ≡ not (length dying == 0) →
    announced ≡ told_updates w.part.mirrors (map (λ m. times_of w.part.rows again m + times_of w.part.rows dying m) w.part.mirrors) →
    count_step w (Step epoch round updates)
    ≡ Ok (record { world = record { part = w.part; needed = w.needed; epoch = epoch; round = round; alive = alive; counts = counts }; answer = Stepped epoch round changed announced })
step_made w readers epoch round updates again dying next alive counts changed announced keeps are later taken first is_next second is_alive is_counts is_changed tells =
    let late : nat_lt epoch w.epoch ≡ false = not_earlier epoch w.epoch later in
    let fresh : Bool = is_fresh w.epoch epoch in
    let read : CountWorld = world_as_read epoch round updates w in
    let after : CountWorld = after_deaths read in
    let n : next ≡ read.counts = is_next ∙ ap (λ cs. counts_less w.part.low updates cs) (read_is w readers again fresh keeps are first) in
    let size : length read.counts ≡ w.part.high - w.part.low = read_size w updates fresh keeps in
    let dying_lists : IsListOf (w.part.high - w.part.low) (dies read) dying = subst (λ cs. IsListOf (w.part.high - w.part.low) (is_dying w.alive cs w.needed) dying) n second in
    let here : IsListOf (length w.alive) (dies read) dying = subst (λ m. IsListOf m (dies read) dying) (sym keeps.alive) dying_lists in
    let there : IsListOf (length w.alive) (is_told_again fresh w.alive) again = subst (λ m. IsListOf m (is_told_again fresh w.alive) again) (sym keeps.alive) first in
    let a : alive ≡ after.alive = is_alive ∙ living_is read dying keeps.flags here in
    let c : counts ≡ after.counts = is_counts ∙ ap (λ cs. counts_off readers dying cs) n ∙ off_is w.part readers (dies read) dying read.counts keeps.fits.range are dying_lists size in
    let ch : changed ≡ list_any (dies read) (positions_below (length w.alive)) = is_changed ∙ some_listed (length w.alive) (dies read) dying here in
    let an : announced ≡ death_announcements after (is_announced fresh read after) = tells ∙ told_after read fresh again dying there here in
    rw (count_step, late, taken, an, ch, c, a) refl
