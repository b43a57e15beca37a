-- What the steps of a peeling keep.
use Rattle.std.proofs.Common.{[], ◌≡◌, ℕ, ◌+◌, ◌-◌, ◌<◌, ◌≤◌, ◌≢◌, Bool, true, false, List, ◌∷◌, ◌++◌, length, map, drop, get_or, set, replicate, refl, sym, ◌∙◌, ap, subst, arith, inl, inr}
use Rattle.std.specs.Prelude.{◌==◌, All, IsTrue, nat_lt, slice_index, if◌then◌else◌}
use Rattle.std.proofs.lemmas.Bool.{cases_eq, eqb-true, ltb-false, ltb-true}
use Rattle.std.proofs.lemmas.Bool.Decides.{eqb_tells}
use Rattle.std.proofs.lemmas.List.{drop_more, get_or_append_left, get_or-map, get_or-replicate, get_or-set_other, get_or-set_same, length-map, length-replicate, length-set, length_push}
use Rattle.std.proofs.lemmas.List.Elements.{All-contains, All-nil, All-push, All-replicate, All-set, All-weaker, Contains-push}
use Rattle.std.proofs.lemmas.List.Sums.{sum_by-set, sum_by_push}
use Rattle.px_base.specs.declared.graph.Read.{Read}
use Rattle.px_base.specs.Values.{is_in}
use Rattle.px_base.specs.Graphs.{RowsFit, reads_passing, row_at}
use Rattle.px_base.specs.Answers.{IsKCore}
use Rattle.core_solver.specs.Mutual.{AreMutual, times_in_row}
use Rattle.core_solver.specs.Peelings.{HaveEnough, HoldsCores, IsPeeling, PeelState, all_alive, times_in_rows, with_dead, with_read_less, with_short_dead, work_left}
use Rattle.core_solver.proofs.Counting.{all_pass, left_is_other, member_inside, passing_grows, passing_without, times_elsewhere, times_here, without_other}

-- ---- a vertex dies

-- one that is short of reads of members is in no set that supports itself
pub cores_stay : (k : ℕ) (rows : List (List Read)) (x : List ℕ) (v : ℕ) → HoldsCores k rows x → is_in x v ≡ true → reads_passing (is_in x) (row_at rows v) < k → HoldsCores k rows (set x v 0)
cores_stay k rows x v h member short = record {
  one_each = length-set x v 0 ∙ h.one_each;
  flags = All-set (λ f. f ≤ 1) x v 0 (omega arith) h.flags;
  greatest = λ other support w within. elim (cases_eq w v) [
    | inl same ↦
        (let grows : reads_passing (is_in other) (row_at rows v) ≤ reads_passing (is_in x) (row_at rows v) = passing_grows (is_in other) (is_in x) (row_at rows v) (h.greatest other support) in
        let enough : k ≤ reads_passing (is_in other) (row_at rows v) = (support v (subst (λ (u : ℕ). IsTrue (is_in other u)) same within)).1 in
        absurd (omega (arith, grows, enough, short)))
    | inr apart ↦ without_other x v w apart ∙ h.greatest other support w within
  ];
}

dies : (k : ℕ) (rows : List (List Read)) (left : List Read) (s : PeelState) (v : ℕ) → AreMutual rows → IsPeeling k rows left s → is_in s.alive v ≡ true → slice_index s.counts v < k →
    IsPeeling k rows left (with_dead s v)
dies k rows left s v both_ways h member short = record {
  cores = cores_stay k rows s.alive v h.cores member (omega (arith, short, h.counted v member));
  one_count_each = h.one_count_each;
  within = All-push (λ w. w < length rows) s.dead v h.within (omega (arith, member_inside s.alive v member, h.cores.one_each));
  counted = λ u living.
      let was : is_in s.alive u ≡ true = sym (without_other s.alive v u (left_is_other s.alive v u member living)) ∙ living in
      omega (arith, h.counted u was, passing_without s.alive v (row_at rows u) member, both_ways u v, sum_by_push (λ w. times_in_row (row_at rows w) u) s.dead v);
}

dead_work : (s : PeelState) (v : ℕ) → is_in s.alive v ≡ true → work_left (with_dead s v) ≡ work_left s
dead_work s v member =
    let one : get_or s.alive v 0 ≡ 1 = eqb-true (get_or s.alive v 0) 1 member in
    omega (arith, one, sum_by-set (λ x. x) s.alive v 0 0 (member_inside s.alive v member), length_push s.dead v)

-- ---- a vertex that may be short

pub record IsChecked (k limit : ℕ) (rows : List (List Read)) (left : List Read) (v : ℕ) (old new : PeelState) : Type 0 where
  pub peeling : IsPeeling k rows left new
  pub enough : HaveEnough k limit new
  pub work : work_left new ≡ work_left old
  pub others : (u : ℕ) → u ≢ v → is_in new.alive u ≡ is_in old.alive u

checked_by : (k limit : ℕ) (rows : List (List Read)) (left : List Read) (s : PeelState) (v : ℕ) (b : Bool) → nat_lt (slice_index s.counts v) k ≡ b → AreMutual rows → IsPeeling k rows left s →
    is_in s.alive v ≡ true → ((u : ℕ) → u < limit → u ≢ v → is_in s.alive u ≡ true → k ≤ slice_index s.counts u) →
    IsChecked k limit rows left v s (if b then with_dead s v else s)
checked_by k limit rows left s v true short both_ways h member rest = record {
  peeling = dies k rows left s v both_ways h member (ltb-true (slice_index s.counts v) k short);
  enough = λ u below living.
      let apart : u ≢ v = left_is_other s.alive v u member living in
      rest u below apart (sym (without_other s.alive v u apart) ∙ living);
  work = dead_work s v member;
  others = λ u apart. without_other s.alive v u apart;
}
checked_by k limit rows left s v false short both_ways h member rest = record {
  peeling = h;
  enough = λ u below living. elim (cases_eq u v) [
    | inl same ↦ omega (arith, ltb-false (slice_index s.counts v) k short, ap (slice_index s.counts) same)
    | inr apart ↦ rest u below apart living
  ];
  work = refl;
  others = λ u apart. refl;
}

pub checked : (k limit : ℕ) (rows : List (List Read)) (left : List Read) (s : PeelState) (v : ℕ) → AreMutual rows → IsPeeling k rows left s →
    is_in s.alive v ≡ true → ((u : ℕ) → u < limit → u ≢ v → is_in s.alive u ≡ true → k ≤ slice_index s.counts u) →
    IsChecked k limit rows left v s (with_short_dead k s v)
checked k limit rows left s v both_ways h member rest = checked_by k limit rows left s v (nat_lt (slice_index s.counts v) k) refl both_ways h member rest

-- ---- a read is taken

-- u counts one read less
abbrev with_count_less : PeelState → ℕ → PeelState
with_count_less s u = record { alive = s.alive; counts = set s.counts u (slice_index s.counts u - 1); dead = s.dead }

count_less : (k : ℕ) (rows : List (List Read)) (r : Read) (left : List Read) (s : PeelState) → r.source < length rows → IsPeeling k rows (r ∷ left) s → IsPeeling k rows left (with_count_less s r.source)
count_less k rows r left s inside h = record {
  cores = h.cores;
  one_count_each = length-set s.counts r.source (slice_index s.counts r.source - 1) ∙ h.one_count_each;
  within = h.within;
  counted = λ u living. elim (eqb_tells r.source u) [
    | inl (is, same) ↦
        (let room : r.source < length s.counts = omega (arith, inside, h.one_count_each) in
        let less : slice_index (set s.counts r.source (slice_index s.counts r.source - 1)) u ≡ slice_index s.counts u - 1 =
        ap (λ w. slice_index (set s.counts r.source (slice_index s.counts r.source - 1)) w) (sym same)
        ∙ get_or-set_same s.counts r.source (slice_index s.counts r.source - 1) 0 room ∙ ap (λ w. slice_index s.counts w - 1) same in
        omega (arith, less, h.counted u living, times_here r left u is))
    | inr (is, apart) ↦
        (let stays : slice_index (set s.counts r.source (slice_index s.counts r.source - 1)) u ≡ slice_index s.counts u =
        get_or-set_other s.counts r.source u (slice_index s.counts r.source - 1) 0 (λ e. apart (sym e)) in
        omega (arith, stays, h.counted u living, times_elsewhere r left u is))
  ];
}

-- a dead vertex has nothing to count
passed_over : (k : ℕ) (rows : List (List Read)) (r : Read) (left : List Read) (s : PeelState) → is_in s.alive r.source ≡ false → IsPeeling k rows (r ∷ left) s → IsPeeling k rows left s
passed_over k rows r left s gone h = record {
  cores = h.cores;
  one_count_each = h.one_count_each;
  within = h.within;
  counted = λ u living. elim (eqb_tells r.source u) [
    | inl (is, same) ↦ absurd (let alive : is_in s.alive r.source ≡ true = ap (is_in s.alive) same ∙ living in cc)
    | inr (is, apart) ↦ omega (arith, h.counted u living, times_elsewhere r left u is)
  ];
}

pub record IsTaken (k : ℕ) (rows : List (List Read)) (left : List Read) (old new : PeelState) : Type 0 where
  pub peeling : IsPeeling k rows left new
  pub enough : HaveEnough k (length rows) new
  pub work : work_left new ≡ work_left old

taken_by : (k : ℕ) (rows : List (List Read)) (r : Read) (left : List Read) (s : PeelState) (b : Bool) → is_in s.alive r.source ≡ b → AreMutual rows → r.source < length rows →
    IsPeeling k rows (r ∷ left) s → HaveEnough k (length rows) s → IsTaken k rows left s (if b then with_short_dead k (with_count_less s r.source) r.source else s)
taken_by k rows r left s true member both_ways inside h enough =
    let done = checked k (length rows) rows left (with_count_less s r.source) r.source both_ways (count_less k rows r left s inside h) member
    (λ u below apart living. rw (get_or-set_other s.counts r.source u (slice_index s.counts r.source - 1) 0 apart) (enough u below living)) in
    record { peeling = done.peeling; enough = done.enough; work = done.work }
taken_by k rows r left s false gone both_ways inside h enough = record { peeling = passed_over k rows r left s gone h; enough = enough; work = refl }

pub taken : (k : ℕ) (rows : List (List Read)) (r : Read) (left : List Read) (s : PeelState) → AreMutual rows → r.source < length rows →
    IsPeeling k rows (r ∷ left) s → HaveEnough k (length rows) s → IsTaken k rows left s (with_read_less k s r.source)
taken k rows r left s both_ways inside h enough = taken_by k rows r left s (is_in s.alive r.source) refl both_ways inside h enough

-- the read at i of a row that is gone through
pub taken_at : (k : ℕ) (rows : List (List Read)) (row : List Read) (i : ℕ) (d : Read) (s new : PeelState) → AreMutual rows → All (λ r. r.source < length rows) row → i < length row →
    IsPeeling k rows (drop i row) s → HaveEnough k (length rows) s → new ≡ with_read_less k s (get_or row i d).source → IsTaken k rows (drop (i + 1) row) s new
taken_at k rows row i d s new both_ways sources inside h enough is =
    subst (λ (t : PeelState). IsTaken k rows (drop (i + 1) row) s t) (sym is)
    (taken k rows (get_or row i d) (drop (i + 1) row) s both_ways (sources i d inside) (subst (λ (left : List Read). IsPeeling k rows left s) (drop_more row i d inside) h) enough)

-- ---- the start

pub all_hold : (k : ℕ) (rows : List (List Read)) → HoldsCores k rows (replicate (length rows) 1)
all_hold k rows = record {
  one_each = length-replicate {A = ℕ} (length rows) 1;
  flags = All-replicate (λ f. f ≤ 1) (length rows) 1 (omega arith);
  greatest = λ other support v within. ap (λ f. f == 1) (get_or-replicate (length rows) v 1 0 (support v within).0);
}

pub all_are_alive : (rows : List (List Read)) (v : ℕ) → v < length rows → is_in (all_alive rows).alive v ≡ true
all_are_alive rows v inside = ap (λ f. f == 1) (get_or-replicate (length rows) v 1 0 inside)

pub starts_peeling : (k : ℕ) (rows : List (List Read)) → RowsFit (length rows) rows → IsPeeling k rows [] (all_alive rows)
starts_peeling k rows fit = record {
  cores = all_hold k rows;
  one_count_each = length-map rows (λ row. length row);
  within = All-nil (λ v. v < length rows);
  counted = λ u living.
      let inside : u < length rows = omega (arith, member_inside (replicate (length rows) 1) u living, length-replicate {A = ℕ} (length rows) 1) in
      let whole : slice_index (map (λ row. length row) rows) u ≡ length (row_at rows u) = get_or-map (λ row. length row) rows u [] 0 inside in
      let pass : reads_passing (is_in (replicate (length rows) 1)) (row_at rows u) ≡ length (row_at rows u) =
      all_pass (is_in (replicate (length rows) 1)) (row_at rows u) (All-weaker (λ r. r.source < length rows) (λ r. is_in (replicate (length rows) 1) r.source ≡ true) (λ r low. all_are_alive rows r.source low) (row_at rows u) (fit.sources u [] inside)) in
      omega (arith, whole, pass);
}

-- ---- the next vertex to peel off

pub popped : (k : ℕ) (rows : List (List Read)) (s : PeelState) (rest : List ℕ) (v : ℕ) → s.dead ≡ rest ++ v ∷ [] → IsPeeling k rows [] s →
    (v < length rows) × IsPeeling k rows (row_at rows v) (record { alive = s.alive; counts = s.counts; dead = rest })
popped k rows s rest v is h =
    let all : All (λ w. w < length rows) (rest ++ v ∷ []) = subst (λ (ws : List ℕ). All (λ w. w < length rows) ws) is h.within in (
      at_end rest v all,
      record {
        cores = h.cores;
        one_count_each = h.one_count_each;
        within = before_end rest v all;
        counted = λ u living. omega (arith, h.counted u living, ap (λ ws. times_in_rows rows ws u) is, sum_by_push (λ w. times_in_row (row_at rows w) u) rest v);
      },
    )
  where
    at_end : (ws : List ℕ) (v : ℕ) → All (λ w. w < length rows) (ws ++ v ∷ []) → v < length rows
    at_end ws v all = All-contains (λ w. w < length rows) (ws ++ v ∷ []) v all (Contains-push ws v)

    before_end : (ws : List ℕ) (v : ℕ) → All (λ w. w < length rows) (ws ++ v ∷ []) → All (λ w. w < length rows) ws
    before_end ws v all = λ i d below. rw (sym (get_or_append_left ws (v ∷ []) d i below)) (all i d (omega (arith, length_push ws v)))

-- ---- the end

pub is_core : (k : ℕ) (rows : List (List Read)) (s : PeelState) → IsPeeling k rows [] s → HaveEnough k (length rows) s → s.dead ≡ [] → IsKCore k rows s.alive
is_core k rows s h enough done = record {
  one_each = h.cores.one_each;
  flags = h.cores.flags;
  supported = λ v living.
      let inside : v < length rows = omega (arith, member_inside s.alive v living, h.cores.one_each) in
      (inside, omega (arith, enough v inside living, h.counted v living, ap (λ ws. times_in_rows rows ws v) done));
  greatest = h.cores.greatest;
}

pub core_as : (k : ℕ) (lent rows : List (List Read)) (x y : List ℕ) → lent ≡ rows → y ≡ x → IsKCore k lent x → IsKCore k rows y
core_as k lent rows x y same is h = subst (λ (xs : List ℕ). IsKCore k rows xs) (sym is) (subst (λ (rs : List (List Read)). IsKCore k rs x) same h)
