-- Of a program that counts: the answer to a Step keeps that each count goes with the deaths elsewhere.
use Rattle.std.proofs.Common.{◌≡◌, ◌≢◌, ℕ, suc, ◌+◌, ◌-◌, ◌<◌, ◌≤◌, Bool, true, false, not, List, [], ◌∷◌, Option, Some, None, length, get_or, arith, refl, sym, ap, subst, ◌∙◌, inl, inr, eqb-true, eq-eqb}
use Rattle.std.specs.Prelude.{◌&&◌, ◌||◌, ◌==◌, All, nat_lt, slice_index, filter, if◌then◌else◌}
use Rattle.std.specs.List.{list_any}
use Rattle.std.proofs.lemmas.List.Elements.{All-map, All-filter}
use Rattle.std.proofs.lemmas.Bool.{cases_eq, cases_lt, ltb-true, ltb-false}
use Rattle.px_base.specs.declared.TheConstants.{TOP}
use Rattle.px_base.specs.declared.graph.Read.{Read}
use Rattle.px_base.specs.declared.graph.Part.{Part}
use Rattle.px_base.specs.declared.wire.Update.{Update}
use Rattle.px_base.specs.declared.wire.Order.TheVariants.{Step}
use Rattle.px_base.specs.Values.{positions_below, is_listed, one_if}
use Rattle.px_base.specs.Graphs.{row_at, reads_passing}
use Rattle.px_base.specs.Classes.{counts_reads}
use Rattle.px_base.specs.Parts.{PartFits, is_within, is_master, is_mirror, reads_from, low_of, high_of}
use Rattle.px_base.specs.Worlds.{World, CountWorld, of_values, of_counts, is_fresh, CarriesValues}
use Rattle.px_base.specs.CountSteps.{is_master_passing, is_dead, fresh_counts, delta_of, counts_less, dies, times_read, death_announcements, is_announced}
use Rattle.px_base.proofs.Positions.{length_by_position, at_position}
use Rattle.std.proofs.lemmas.List.{get_or_past}
use Rattle.std.proofs.lemmas.List.Sums.{get_or-le-sum_by}
use Rattle.hub_terms.specs.Jobs.{Job, IsSymmetric}
use Rattle.hub_terms.specs.declared.workers.MemberState.{MemberState}
use Rattle.hub_terms.specs.Inboxes.{inbox_at, is_addressed, box_with_all}
use Rattle.hub_terms.specs.Hubs.{worker_at, order_at, waiting_at, worker_count}
use Rattle.hub_terms.specs.UnderWay.{updates_now, current_updates}
use Rattle.hub_terms.specs.Systems.{SystemState, world_at, part_at, with_world}
use Rattle.hub_terms.specs.InStep.{IsInStep, IsWorldOf, CountWorldFits}
use Rattle.hub_terms.specs.Valid.{is_dead_master, is_dead_in, is_dead_at, dead_away, dead_beside, delta_on_its_way, IsBalanced, IsCounted}
use Rattle.list_laws.proofs.Ranges.{at_range, listed_range}
use Rattle.step_laws.proofs.Places.{not_master, master_below, mirror_listed}
use Rattle.step_laws.proofs.Counting.{passing_cons, passing_both, read, after, count_after, dead_after}
use Rattle.step_laws.proofs.Deltas.{delta_with_all, delta_filter, deaths_told}
use Rattle.valid_laws.proofs.CountKept.{passing_same, any_same, any_none}
use Rattle.hub_laws.proofs.HubTook.{stepped_hub, stepped_worker}
use Rattle.hub_laws.proofs.HubTook as took
use Rattle.system_laws.proofs.WorldsKept.{world_there, world_elsewhere, world_inside}
use Rattle.list_laws.proofs.Sums.{passing_within}

-- ---- lists

-- of two tests that no source passes both there are no more than reads
pub passing_apart : (f g : ℕ → Bool) (row : List Read) → ((u : ℕ) → f u ≡ true → g u ≡ false) → reads_passing f row + reads_passing g row ≤ length row
passing_apart f g [] apart = omega arith
passing_apart f g (r ∷ row) apart = by_test (f r.source) (g r.source) refl refl (passing_apart f g row apart)
  where
    by_test : (a b : Bool) → f r.source ≡ a → g r.source ≡ b → reads_passing f row + reads_passing g row ≤ length row → reads_passing f (r ∷ row) + reads_passing g (r ∷ row) ≤ suc (length row)
    by_test true true x y rest = absurd (cc (apart r.source x, y))
    by_test true false x y rest = let one : one_if (f r.source) ≡ 1 = ap one_if x in let none : one_if (g r.source) ≡ 0 = ap one_if y in omega (arith, passing_cons f r row, passing_cons g r row, one, none, rest)
    by_test false true x y rest = let none : one_if (f r.source) ≡ 0 = ap one_if x in let one : one_if (g r.source) ≡ 1 = ap one_if y in omega (arith, passing_cons f r row, passing_cons g r row, one, none, rest)
    by_test false false x y rest = let none : one_if (f r.source) ≡ 0 = ap one_if x in let nor : one_if (g r.source) ≡ 0 = ap one_if y in omega (arith, passing_cons f r row, passing_cons g r row, none, nor, rest)

-- where only the test of k can hold
any_one : (f : ℕ → Bool) (k : ℕ) (js : List ℕ) → is_listed js k ≡ true → ((j : ℕ) → j ≢ k → f j ≡ false) → list_any f js ≡ f k
any_one f k [] listed others = cc
any_one f k (j ∷ js) listed others = by_test (j == k) refl listed (any_one f k js)
  where
    or_same : (b : Bool) → (b || b) ≡ b
    or_same true = refl
    or_same false = refl

    or_false : (b : Bool) → (b || false) ≡ b
    or_false true = refl
    or_false false = refl

    by_listed : (b : Bool) → is_listed js k ≡ b → (is_listed js k ≡ true → ((j : ℕ) → j ≢ k → f j ≡ false) → list_any f js ≡ f k) → (f k || list_any f js) ≡ f k
    by_listed true is rest = ap (λ c. f k || c) (rest is others) ∙ or_same (f k)
    by_listed false is rest = ap (λ c. f k || c) (none_else js is) ∙ or_false (f k)
      where
        none_else : (js : List ℕ) → is_listed js k ≡ false → list_any f js ≡ false
        none_else [] is = refl
        none_else (i ∷ js) is = by_first (i == k) refl is (none_else js)
          where
            by_first : (c : Bool) → (i == k) ≡ c → (c || is_listed js k) ≡ false → (is_listed js k ≡ false → list_any f js ≡ false) → (f i || list_any f js) ≡ false
            by_first true same h rest = absurd (cc h)
            by_first false other h rest = rw (others i (λ e. cc (other, eq-eqb i k e)), rest h) refl

    by_test : (b : Bool) → (j == k) ≡ b → (b || is_listed js k) ≡ true → (is_listed js k ≡ true → ((j : ℕ) → j ≢ k → f j ≡ false) → list_any f js ≡ f k) → (f j || list_any f js) ≡ f k
    by_test true same h rest = subst (λ (l : ℕ). (f l || list_any f js) ≡ f k) (sym (eqb-true j k same)) (by_listed (is_listed js k) refl rest)
    by_test false other h rest = rw (others j (λ e. cc (other, eq-eqb j k e))) (rest h others)

filter_none : (q : ℕ → Bool) (us : List Update) → All (λ u. q u.vertex ≡ false) us → filter (λ u. q u.vertex) us ≡ []
filter_none q [] none = refl
filter_none q (u ∷ us) none = let first : q u.vertex ≡ false = none 0 u (omega arith) in rw first (filter_none q us (λ k d inside. none (suc k) d (omega arith)))

-- ---- the deaths at other workers

module _ (s : SystemState) (ok : IsInStep s) where
  abbrev pub cuts : List ℕ
  cuts = s.hub.inboxes.cuts

  -- a master of k is dead in no other world
  pub dead_nowhere : (k j u : ℕ) → k < worker_count s.hub → is_master cuts k u ≡ true → j ≢ k → is_dead_at s j u ≡ false
  dead_nowhere k j u inside master apart = by_world (world_at s j) refl
    where
      and_false : (b : Bool) → (b && false) ≡ false
      and_false true = refl
      and_false false = refl

      by_world : (o : Option World) → world_at s j ≡ o → (not (worker_at s.hub j).due && is_dead_in o u) ≡ false
      by_world None is = and_false (not (worker_at s.hub j).due)
      by_world (Some (of_values w)) is = and_false (not (worker_at s.hub j).due)
      by_world (Some (of_counts w)) is =
          let part : w.part ≡ part_at s j = (ok.worlds j (of_counts w) is).of_part.1 in
          let outside : is_within w.part.low w.part.high u ≡ false = rw part (not_master (length s.job.rows) cuts k j u ok.job.cuts.cut inside (world_inside s j (of_counts w) ok.job is) (λ e. apart (sym e)) master) in
          ap (λ b. not (worker_at s.hub j).due && (b && is_dead w (u - w.part.low))) outside ∙ and_false (not (worker_at s.hub j).due)

  -- what is on its way to a vertex is at most its dead elsewhere
  pub below_away : (core : List ℕ) → IsCounted s core → (i v : ℕ) → i < worker_count s.hub → is_master cuts i v ≡ true → counts_reads s.job.core.program.fold ≡ true → delta_on_its_way s i v ≤ dead_away s i v
  below_away core counted i v inside master counts = by_world (worker_at s.hub i).due (world_at s i) refl refl (counted.balance i v inside master)
    where
      by_world : (d : Bool) (o : Option World) → (worker_at s.hub i).due ≡ d → world_at s i ≡ o → IsBalanced s i v d o → delta_on_its_way s i v ≤ dead_away s i v
      by_world d None due is balance = omega (arith, balance)
      by_world d (Some (of_values w)) due is balance = absurd (cc ((ok.worlds i (of_values w) is).of_part.0, counts))
      by_world true (Some (of_counts w)) due is balance = omega (arith, balance)
      by_world false (Some (of_counts w)) due is balance =
          let of_part = (ok.worlds i (of_counts w) is).of_part in
          let bounds = master_below (length s.job.rows) cuts i v ok.job.cuts.cut inside master in
          let lows : w.part.low ≡ low_of cuts i = ap (λ (p : Part). p.low) of_part.1 in
          let highs : w.part.high ≡ high_of cuts i = ap (λ (p : Part). p.high) of_part.1 in
          let few : v - w.part.low < high_of cuts i - low_of cuts i = omega (arith, bounds.0, bounds.1, lows) in
          let there : v - w.part.low < length w.alive = omega (arith, few, of_part.3.alive, lows, highs) in
          let back : low_of cuts i + (v - w.part.low) ≡ v = omega (arith, bounds.0, lows) in
          let row : row_at w.part.rows (v - w.part.low) ≡ row_at s.job.rows v = ap (λ (p : Part). row_at p.rows (v - w.part.low)) of_part.1 ∙ (at_range s.job.rows (low_of cuts i) (high_of cuts i) (v - w.part.low) [] few ∙ ap (row_at s.job.rows) back) in
          let honest = ok.honest i (of_counts w) is due (v - w.part.low) there in
          let beside : dead_beside (of_counts w) (row_at w.part.rows (v - w.part.low)) ≡ dead_beside (of_counts w) (row_at s.job.rows v) = ap (dead_beside (of_counts w)) row in
          let lengths : length (row_at w.part.rows (v - w.part.low)) ≡ length (row_at s.job.rows v) = ap length row in
          omega (arith, balance, honest, beside, lengths)

-- ---- the answer

balance_more : (s t : SystemState) (i v n : ℕ) (due : Bool) (world : Option World) → t.job ≡ s.job → delta_on_its_way t i v ≡ delta_on_its_way s i v + n → dead_away t i v ≡ dead_away s i v + n → IsBalanced s i v due world → IsBalanced t i v due world
balance_more s t i v n due None jobs deltas aways old = omega (arith, deltas, aways, old)
balance_more s t i v n due (Some (of_values w)) jobs deltas aways old = tt
balance_more s t i v n true (Some (of_counts w)) jobs deltas aways old = omega (arith, deltas, aways, old)
balance_more s t i v n false (Some (of_counts w)) jobs deltas aways old =
    let rows : row_at t.job.rows v ≡ row_at s.job.rows v = ap (λ (job : Job). row_at job.rows v) jobs in
    let beside : dead_beside (of_counts w) (row_at t.job.rows v) ≡ dead_beside (of_counts w) (row_at s.job.rows v) = ap (dead_beside (of_counts w)) rows in
    let lengths : length (row_at t.job.rows v) ≡ length (row_at s.job.rows v) = ap length rows in
    omega (arith, deltas, aways, old, beside, lengths)

module _ (s : SystemState) (core : List ℕ) (ok : IsInStep s) (counted : IsCounted s core) (mutual_rows : IsSymmetric s.job.rows) (k epoch round : ℕ) (sent : List Update) (changed : Bool) (updates : List Update) (inside : k < worker_count s.hub)
    (had : order_at s.hub k ≡ Some (Step epoch round sent)) (values : CarriesValues updates) (c : CountWorld) (mine : world_at s k ≡ Some (of_counts c)) (now : (epoch == s.hub.members.epoch) ≡ true) where
  pub of_mine : IsWorldOf (part_at s k) s.job.core (of_counts c)
  of_mine = (ok.worlds k (of_counts c) mine).of_part

  pub fits : CountWorldFits c
  fits = of_mine.3

  abbrev pub as_read : CountWorld
  as_read = read c epoch round sent fits

  abbrev pub done : CountWorld
  done = after c epoch round sent fits

  abbrev pub fresh : Bool
  fresh = is_fresh c.epoch epoch

  abbrev pub told_of : ℕ → Bool
  told_of = is_announced fresh as_read done

  abbrev pub next : SystemState
  next = with_world s k (Some (of_counts done)) (stepped_hub true s.hub k changed updates)

  place : k < length s.worlds
  place = omega (arith, ok.job.worlds)

  counts : s.hub.inboxes.counting ≡ true
  counts = ok.job.counting ∙ of_mine.0

  lows : c.part.low ≡ low_of s.hub.inboxes.cuts k
  lows = ap (λ (p : Part). p.low) of_mine.1

  highs : c.part.high ≡ high_of s.hub.inboxes.cuts k
  highs = ap (λ (p : Part). p.high) of_mine.1

  is_mine : (u : ℕ) → is_within c.part.low c.part.high u ≡ is_master s.hub.inboxes.cuts k u
  is_mine u = rw of_mine.1 refl

  -- the worker was due exactly where the Step is fresh
  pub due_fresh : (worker_at s.hub k).due ≡ fresh
  due_fresh = by_fresh fresh refl (worker_at s.hub k).due refl
    where
      level : epoch ≡ s.hub.members.epoch
      level = eqb-true epoch s.hub.members.epoch now

      by_fresh : (f : Bool) → fresh ≡ f → (d : Bool) → (worker_at s.hub k).due ≡ d → (worker_at s.hub k).due ≡ fresh
      by_fresh true is true due = due ∙ sym is
      by_fresh false is false due = due ∙ sym is
      by_fresh true is false due = absurd (cc ((ok.worlds k (of_counts c) mine).due.1 (omega (arith, ltb-true c.epoch epoch is, level)), due))
      by_fresh false is true due = absurd (omega (arith, (ok.worlds k (of_counts c) mine).due.0 due, ltb-false c.epoch epoch is, level))

  -- ---- the deaths

  -- those that are dead after the Step were dead for the others, or are told of now
  dead_or_told : (u : ℕ) → one_if (is_dead_master (of_counts done) u) ≡ one_if (is_dead_at s k u) + one_if (is_master_passing c.part told_of u)
  dead_or_told u = subst (λ (o : Option World). one_if (is_dead_master (of_counts done) u) ≡ one_if (not (worker_at s.hub k).due && is_dead_in o u) + one_if (is_master_passing c.part told_of u)) (sym mine)
      (subst (λ (d : Bool). one_if (is_dead_master (of_counts done) u) ≡ one_if (not d && is_dead_master (of_counts c) u) + one_if (is_master_passing c.part told_of u)) (sym due_fresh) (by_fresh fresh))
    where
      by_fresh : (f : Bool) → one_if (is_dead_master (of_counts done) u) ≡ one_if (not f && is_dead_master (of_counts c) u) + one_if (is_master_passing c.part (is_announced f as_read done) u)
      by_fresh true = omega arith
      by_fresh false = dead_after c epoch round sent fits u

  abbrev elsewhere : SystemState → ℕ → ℕ → Bool
  elsewhere t i u = list_any (λ j. not (j == i) && is_dead_at t j u) (positions_below (worker_count s.hub))

  -- nobody else's deaths changed
  pub dead_same : (j u : ℕ) → j ≢ k → is_dead_at next j u ≡ is_dead_at s j u
  dead_same j u apart = rw (took.worker_other s.hub k epoch round sent changed updates ok.hub inside had values true j apart, world_elsewhere s k (Some (of_counts done)) (stepped_hub true s.hub k changed updates) j apart) refl

  pub dead_now : (u : ℕ) → is_dead_at next k u ≡ is_dead_master (of_counts done) u
  dead_now u = rw (took.took_worker s.hub k epoch round sent changed updates ok.hub inside had values true, world_there s k (Some (of_counts done)) (stepped_hub true s.hub k changed updates) place) refl

  apart_tests : (a b : ℕ) → a ≢ b → not (a == b) ≡ true
  apart_tests a b apart = by_test (a == b) refl
    where
      by_test : (t : Bool) → (a == b) ≡ t → not t ≡ true
      by_test true same = absurd (apart (eqb-true a b same))
      by_test false other = refl

  here_listed : is_listed (positions_below (worker_count s.hub)) k ≡ true
  here_listed = listed_range 0 (worker_count s.hub) k (omega arith) (omega arith)

  -- for the masters of another worker, those that are told of are dead elsewhere too
  more_dead : (i u : ℕ) → i ≢ k → one_if (elsewhere next i u) ≡ one_if (elsewhere s i u) + one_if (is_master_passing c.part told_of u)
  more_dead i u apart = by_place (is_master s.hub.inboxes.cuts k u) refl
    where
      only_here : (t : SystemState) → ((j : ℕ) → j ≢ k → is_dead_at t j u ≡ false) → elsewhere t i u ≡ is_dead_at t k u
      only_here t others = any_one (λ j. not (j == i) && is_dead_at t j u) k (positions_below (worker_count s.hub)) here_listed (λ j other. ap (λ b. not (j == i) && b) (others j other) ∙ and_false (not (j == i)))
          ∙ ap (λ b. b && is_dead_at t k u) (apart_tests k i (λ e. apart (sym e)))
        where
          and_false : (b : Bool) → (b && false) ≡ false
          and_false true = refl
          and_false false = refl

      by_place : (b : Bool) → is_master s.hub.inboxes.cuts k u ≡ b → one_if (elsewhere next i u) ≡ one_if (elsewhere s i u) + one_if (is_master_passing c.part told_of u)
      by_place true master =
          let none : (j : ℕ) → j ≢ k → is_dead_at s j u ≡ false = (λ j other. dead_nowhere s ok k j u inside master other) in
          let before : elsewhere s i u ≡ is_dead_at s k u = only_here s none in
          let later : elsewhere next i u ≡ is_dead_master (of_counts done) u = only_here next (λ j other. dead_same j u other ∙ none j other) ∙ dead_now u in
          ap one_if later ∙ (dead_or_told u ∙ ap (λ b. one_if b + one_if (is_master_passing c.part told_of u)) (sym before))
      by_place false outside =
          let out : is_within c.part.low c.part.high u ≡ false = is_mine u ∙ outside in
          let told : is_master_passing c.part told_of u ≡ false = ap (λ b. b && told_of (u - c.part.low)) out in
          let dead : is_dead_master (of_counts done) u ≡ false = ap (λ b. b && is_dead done (u - c.part.low)) out in
          let was : is_dead_at s k u ≡ false = mine_not u out in
          let same : elsewhere next i u ≡ elsewhere s i u = any_same (λ j. not (j == i) && is_dead_at next j u) (λ j. not (j == i) && is_dead_at s j u) (positions_below (worker_count s.hub)) (λ j. elim (cases_eq j k) [
            | inl here ↦ subst (λ (l : ℕ). (not (l == i) && is_dead_at next l u) ≡ (not (l == i) && is_dead_at s l u)) (sym here) (ap (λ b. not (k == i) && b) (dead_now u ∙ (dead ∙ sym was)))
            | inr other ↦ ap (λ b. not (j == i) && b) (dead_same j u other)
          ]) in
          let nothing : one_if (is_master_passing c.part told_of u) ≡ 0 = ap one_if told in
          let equal : one_if (elsewhere next i u) ≡ one_if (elsewhere s i u) = ap one_if same in
          omega (arith, nothing, equal)
        where
          mine_not : (u : ℕ) → is_within c.part.low c.part.high u ≡ false → is_dead_at s k u ≡ false
          mine_not u out = rw mine (ap (λ b. not (worker_at s.hub k).due && (b && is_dead c (u - c.part.low))) out ∙ and_false (not (worker_at s.hub k).due))
            where
              and_false : (b : Bool) → (b && false) ≡ false
              and_false true = refl
              and_false false = refl

  away_more : (i v : ℕ) → i ≢ k → dead_away next i v ≡ dead_away s i v + reads_passing (is_master_passing c.part told_of) (row_at s.job.rows v)
  away_more i v apart = passing_both (elsewhere next i) (elsewhere s i) (is_master_passing c.part told_of) (row_at s.job.rows v) (λ u. more_dead i u apart)

  -- for its own masters nothing changed elsewhere
  away_own : (v : ℕ) → dead_away next k v ≡ dead_away s k v
  away_own v = passing_same (elsewhere next k) (elsewhere s k) (row_at s.job.rows v) (λ u. any_same (λ j. not (j == k) && is_dead_at next j u) (λ j. not (j == k) && is_dead_at s j u) (positions_below (worker_count s.hub)) (λ j. elim (cases_eq j k) [
    | inl here ↦ subst (λ (l : ℕ). (not (l == k) && is_dead_at next l u) ≡ (not (l == k) && is_dead_at s l u)) (sym here) (own (is_dead_at next k u) (is_dead_at s k u) (k == k) (eq-eqb k k refl))
    | inr other ↦ ap (λ b. not (j == k) && b) (dead_same j u other)
  ]))
    where
      own : (x y b : Bool) → b ≡ true → (not b && x) ≡ (not b && y)
      own x y true is = refl
      own x y false is = cc

  -- ---- what is sent of the deaths

  module _ (honest : updates ≡ death_announcements done told_of) where
    part_fits_here : PartFits c.part
    part_fits_here = fits.part

    -- what the updates take off a vertex is what it reads of those that are told of
    told_is : (i v : ℕ) → i < worker_count s.hub → i ≢ k → is_master s.hub.inboxes.cuts i v ≡ true → delta_of updates v ≡ reads_passing (is_master_passing c.part told_of) (row_at s.job.rows v)
    told_is i v few apart master = ap (λ us. delta_of us v) honest ∙ deaths_told done told_of (row_at s.job.rows v) v part_fits_here.mirrors_rise unread sized part_fits_here.range mutual_reads
      where
        inner : v < length s.job.rows
        inner = (master_below (length s.job.rows) s.hub.inboxes.cuts i v ok.job.cuts.cut few master).2

        sized : length done.alive ≡ c.part.high - c.part.low
        sized = length_by_position (length c.alive) _ ∙ fits.alive

        not_own : is_master s.hub.inboxes.cuts k v ≡ false
        not_own = not_master (length s.job.rows) s.hub.inboxes.cuts i k v ok.job.cuts.cut few inside apart master

        unread : is_listed c.part.mirrors v ≡ false → list_any (reads_from v) c.part.rows ≡ false
        unread none = by_test (list_any (reads_from v) c.part.rows) refl
          where
            by_test : (b : Bool) → list_any (reads_from v) c.part.rows ≡ b → list_any (reads_from v) c.part.rows ≡ false
            by_test false is = is
            by_test true is =
                let there : list_any (reads_from v) (part_at s k).rows ≡ true = rw of_mine.1 at is in
                let mirror : is_mirror s.job.rows s.hub.inboxes.cuts k v ≡ true = ap (λ b. not b && list_any (reads_from v) (part_at s k).rows) not_own ∙ there in
                let listed : is_listed c.part.mirrors v ≡ true = ap (λ (p : Part). is_listed p.mirrors v) of_mine.1 ∙ mirror_listed s.job.rows s.hub.inboxes.cuts k v inner mirror in
                absurd (cc (listed, none))

        mutual_reads : (m : ℕ) → m < length done.alive → reads_passing (λ u. u == v) (row_at c.part.rows m) ≡ reads_passing (λ u. u == c.part.low + m) (row_at s.job.rows v)
        mutual_reads m within =
            let room : m < high_of s.hub.inboxes.cuts k - low_of s.hub.inboxes.cuts k = omega (arith, within, sized, lows, highs) in
            let row : row_at c.part.rows m ≡ row_at s.job.rows (c.part.low + m) = ap (λ (p : Part). row_at p.rows m) of_mine.1 ∙ (at_range s.job.rows (low_of s.hub.inboxes.cuts k) (high_of s.hub.inboxes.cuts k) m [] room ∙ ap (λ (l : ℕ). row_at s.job.rows (l + m)) (sym lows)) in
            ap (reads_passing (λ u. u == v)) row ∙ mutual_rows.both_ways v (c.part.low + m)

    row_short : (v : ℕ) → length (row_at s.job.rows v) ≤ TOP
    row_short v = elim (cases_lt v (length s.job.rows)) [
      | inl inner ↦ omega (arith, get_or-le-sum_by (λ (row : List Read). length row) s.job.rows v [] inner, ok.job.sound.reads)
      | inr past ↦ (let none : row_at s.job.rows v ≡ [] = get_or_past s.job.rows v [] past in rw none (omega arith))
    ]

    box_is : (i : ℕ) → i < worker_count s.hub → inbox_at (stepped_hub true s.hub k changed updates).inboxes i ≡ box_with_all true (filter (λ u. is_addressed s.hub.inboxes i u.vertex) updates) (waiting_at s.hub i)
    box_is i few = let room : i < length s.hub.inboxes.boxes = omega (arith, ok.hub.places.boxes) in
        at_position (length s.hub.inboxes.boxes) (λ l. box_with_all s.hub.inboxes.counting (filter (λ u. is_addressed s.hub.inboxes l u.vertex) updates) (waiting_at s.hub l)) i [] room
        ∙ ap (λ b. box_with_all b (filter (λ u. is_addressed s.hub.inboxes i u.vertex) updates) (waiting_at s.hub i)) counts

    -- ---- the masters of another worker

    pub other_balance : (i v : ℕ) → i < worker_count s.hub → i ≢ k → is_master s.hub.inboxes.cuts i v ≡ true → IsBalanced next i v (worker_at next.hub i).due (world_at next i)
    other_balance i v few apart master =
        let told : ℕ = reads_passing (is_master_passing c.part told_of) (row_at s.job.rows v) in
        let for_i : is_addressed s.hub.inboxes i v ≡ true = rw counts master in
        let sent_here : delta_of (filter (λ u. is_addressed s.hub.inboxes i u.vertex) updates) v ≡ told = delta_filter (is_addressed s.hub.inboxes i) updates v for_i ∙ told_is i v few apart master in
        let most : dead_away next i v ≤ length (row_at s.job.rows v) = passing_within (elsewhere next i) (row_at s.job.rows v) in
        let aways : dead_away next i v ≡ dead_away s i v + told = away_more i v apart in
        let low : delta_on_its_way s i v ≤ dead_away s i v = below_away s ok core counted i v few master of_mine.0 in
        let short : length (row_at s.job.rows v) ≤ TOP = row_short v in
        let more : delta_of (box_with_all true (filter (λ u. is_addressed s.hub.inboxes i u.vertex) updates) (waiting_at s.hub i)) v ≡ delta_of (waiting_at s.hub i) v + delta_of (filter (λ u. is_addressed s.hub.inboxes i u.vertex) updates) v =
        delta_with_all (filter (λ u. is_addressed s.hub.inboxes i u.vertex) updates) (waiting_at s.hub i) v (omega (arith, most, aways, low, short, sent_here)) in
        let box : delta_of (waiting_at next.hub i) v ≡ delta_of (waiting_at s.hub i) v + told = ap (λ b. delta_of b v) (box_is i few) ∙ (more ∙ ap (λ n. delta_of (waiting_at s.hub i) v + n) sent_here) in
        let step : delta_of (current_updates next.hub i) v ≡ delta_of (current_updates s.hub i) v = ap (λ o. delta_of (updates_now s.hub.members.epoch o) v) (took.took_other s.hub k epoch round sent changed updates ok.hub inside had values true i apart) in
        let deltas : delta_on_its_way next i v ≡ delta_on_its_way s i v + told = omega (arith, box, step) in
        let old : IsBalanced s i v (worker_at s.hub i).due (world_at s i) = counted.balance i v few master in
        let moved : IsBalanced next i v (worker_at s.hub i).due (world_at s i) = balance_more s next i v told (worker_at s.hub i).due (world_at s i) refl deltas aways old in
        subst (λ (o : Option World). IsBalanced next i v (worker_at next.hub i).due o) (sym (world_elsewhere s k (Some (of_counts done)) (stepped_hub true s.hub k changed updates) i apart))
        (subst (λ (w : MemberState). IsBalanced next i v w.due (world_at s i)) (sym (took.worker_other s.hub k epoch round sent changed updates ok.hub inside had values true i apart)) moved)

    -- ---- its own masters

    -- none of its updates is for itself
    none_own : filter (λ u. is_addressed s.hub.inboxes k u.vertex) updates ≡ []
    none_own = filter_none (is_addressed s.hub.inboxes k) updates (λ m d within. rw counts (sym (is_mine (get_or updates m d).vertex) ∙ outside m d within))
      where
        outside : All (λ u. is_within c.part.low c.part.high u.vertex ≡ false) updates
        outside = subst (λ (us : List Update). All (λ u. is_within c.part.low c.part.high u.vertex ≡ false) us) (sym honest)
            (All-map (λ (u : Update). is_within c.part.low c.part.high u.vertex ≡ false) (λ m. record { vertex = m; value = times_read done told_of m }) (filter (λ m. nat_lt 0 (times_read done told_of m)) c.part.mirrors)
            (All-filter (λ m. nat_lt 0 (times_read done told_of m)) (λ m. is_within c.part.low c.part.high m ≡ false) c.part.mirrors (λ m d within. (part_fits_here.mirrors_outside m d within).1)))

    own_box : delta_of (waiting_at next.hub k) ≡ delta_of (waiting_at s.hub k)
    own_box = ap delta_of (box_is k inside ∙ ap (λ us. box_with_all true us (waiting_at s.hub k)) none_own)

    pub own_balance : (v : ℕ) → is_master s.hub.inboxes.cuts k v ≡ true →
        slice_index done.counts (v - c.part.low) + dead_beside (of_counts done) (row_at s.job.rows v) + dead_away next k v ≡ length (row_at s.job.rows v) + delta_on_its_way next k v
    own_balance v master =
        let bounds = master_below (length s.job.rows) s.hub.inboxes.cuts k v ok.job.cuts.cut inside master in
        let m : ℕ = v - c.part.low in
        let few : m < high_of s.hub.inboxes.cuts k - low_of s.hub.inboxes.cuts k = omega (arith, bounds.0, bounds.1, lows) in
        let there : m < length c.alive = omega (arith, few, fits.alive, lows, highs) in
        let back : c.part.low + m ≡ v = omega (arith, bounds.0, lows) in
        let row : row_at c.part.rows m ≡ row_at s.job.rows v = ap (λ (p : Part). row_at p.rows m) of_mine.1 ∙ (at_range s.job.rows (low_of s.hub.inboxes.cuts k) (high_of s.hub.inboxes.cuts k) m [] few ∙ ap (λ (l : ℕ). row_at s.job.rows (l + m)) (sym lows) ∙ ap (row_at s.job.rows) back) in
        let deaths : ℕ = reads_passing (is_master_passing c.part (dies as_read)) (row_at s.job.rows v) in
        let left : slice_index done.counts m ≡ slice_index as_read.counts m - deaths = count_after c epoch round sent fits m there ∙ ap (λ (r : List Read). slice_index as_read.counts m - reads_passing (is_master_passing c.part (dies as_read)) r) row in
        let split : dead_beside (of_counts done) (row_at s.job.rows v) ≡ dead_beside (of_counts c) (row_at s.job.rows v) + deaths =
        passing_both (is_master_passing c.part (is_dead done)) (is_master_passing c.part (is_dead c)) (is_master_passing c.part (dies as_read)) (row_at s.job.rows v) (dead_after c epoch round sent fits) in
        let apart : dead_beside (of_counts done) (row_at s.job.rows v) + dead_away s k v ≤ length (row_at s.job.rows v) = passing_apart (is_dead_master (of_counts done)) (elsewhere s k) (row_at s.job.rows v) not_both in
        let away : dead_away next k v ≡ dead_away s k v = away_own v in
        let box : delta_of (waiting_at next.hub k) v ≡ delta_of (waiting_at s.hub k) v = ap (λ f. f v) own_box in
        let step : delta_of (current_updates next.hub k) v ≡ 0 = ap (λ o. delta_of (updates_now s.hub.members.epoch o) v) (took.took_order s.hub k epoch round sent changed updates ok.hub inside had values true) in
        by_fresh m deaths there row back left split apart away box step fresh refl
        (subst (λ (d : Bool). IsBalanced s k v d (Some (of_counts c))) due_fresh (subst (λ (o : Option World). IsBalanced s k v (worker_at s.hub k).due o) mine (counted.balance k v inside master)))
      where
        dead_inside : (u : ℕ) → is_dead_master (of_counts done) u ≡ true → is_within c.part.low c.part.high u ≡ true
        dead_inside u dead = first (is_within c.part.low c.part.high u) (is_dead done (u - c.part.low)) dead
          where
            first : (a b : Bool) → (a && b) ≡ true → a ≡ true
            first true b h = refl
            first false b h = h

        not_both : (u : ℕ) → is_dead_master (of_counts done) u ≡ true → elsewhere s k u ≡ false
        not_both u dead = any_none (λ j. not (j == k) && is_dead_at s j u) (positions_below (worker_count s.hub)) (λ j. elim (cases_eq j k) [
          | inl here ↦ ap (λ b. not b && is_dead_at s j u) (eq-eqb j k here)
          | inr other ↦ ap (λ b. not (j == k) && b) (dead_nowhere s ok k j u inside (sym (is_mine u) ∙ dead_inside u dead) other) ∙ and_false (not (j == k))
        ])
          where
            and_false : (b : Bool) → (b && false) ≡ false
            and_false true = refl
            and_false false = refl

        -- of the Step that is answered all that it carries is of this epoch
        had_now : delta_of (current_updates s.hub k) v ≡ delta_of sent v
        had_now = ap (λ o. delta_of (updates_now s.hub.members.epoch o) v) had ∙ ap (λ b. delta_of (if b then sent else []) v) now

        by_fresh : (m deaths : ℕ) → m < length c.alive → row_at c.part.rows m ≡ row_at s.job.rows v → c.part.low + m ≡ v → slice_index done.counts m ≡ slice_index as_read.counts m - deaths →
            dead_beside (of_counts done) (row_at s.job.rows v) ≡ dead_beside (of_counts c) (row_at s.job.rows v) + deaths → dead_beside (of_counts done) (row_at s.job.rows v) + dead_away s k v ≤ length (row_at s.job.rows v) →
            dead_away next k v ≡ dead_away s k v → delta_of (waiting_at next.hub k) v ≡ delta_of (waiting_at s.hub k) v → delta_of (current_updates next.hub k) v ≡ 0 → (f : Bool) → fresh ≡ f → IsBalanced s k v f (Some (of_counts c)) →
            slice_index done.counts m + dead_beside (of_counts done) (row_at s.job.rows v) + dead_away next k v ≡ length (row_at s.job.rows v) + delta_on_its_way next k v
        by_fresh m deaths there row back left split apart away box step true is old =
            let room : m < length (fresh_counts c) = omega (arith, there, length_by_position (length c.alive) (λ j. length (row_at c.part.rows j) - reads_passing (is_master_passing c.part (is_dead c)) (row_at c.part.rows j))) in
            let begun : slice_index as_read.counts m ≡ slice_index (counts_less c.part.low sent (fresh_counts c)) m = ap (λ b. slice_index (counts_less c.part.low sent (if b then fresh_counts c else c.counts)) m) is in
            let less : slice_index (counts_less c.part.low sent (fresh_counts c)) m ≡ slice_index (fresh_counts c) m - delta_of sent (c.part.low + m) = at_position (length (fresh_counts c)) (λ j. slice_index (fresh_counts c) j - delta_of sent (c.part.low + j)) m 0 room in
            let whole : slice_index (fresh_counts c) m ≡ length (row_at c.part.rows m) - dead_beside (of_counts c) (row_at c.part.rows m) =
            at_position (length c.alive) (λ j. length (row_at c.part.rows j) - reads_passing (is_master_passing c.part (is_dead c)) (row_at c.part.rows j)) m 0 there in
            let same : length (row_at c.part.rows m) - dead_beside (of_counts c) (row_at c.part.rows m) ≡ length (row_at s.job.rows v) - dead_beside (of_counts c) (row_at s.job.rows v) = ap (λ (r : List Read). length r - dead_beside (of_counts c) r) row in
            let taken : delta_of sent (c.part.low + m) ≡ delta_of sent v = ap (delta_of sent) back in
            omega (arith, left, split, apart, away, box, step, begun, less, whole, same, taken, old, had_now)
        by_fresh m deaths there row back left split apart away box step false is old =
            let room : m < length c.counts = omega (arith, there, fits.alive, fits.counts) in
            let begun : slice_index as_read.counts m ≡ slice_index (counts_less c.part.low sent c.counts) m = ap (λ b. slice_index (counts_less c.part.low sent (if b then fresh_counts c else c.counts)) m) is in
            let less : slice_index (counts_less c.part.low sent c.counts) m ≡ slice_index c.counts m - delta_of sent (c.part.low + m) = at_position (length c.counts) (λ j. slice_index c.counts j - delta_of sent (c.part.low + j)) m 0 room in
            let taken : delta_of sent (c.part.low + m) ≡ delta_of sent v = ap (delta_of sent) back in
            let place_of_v : v - c.part.low ≡ m = omega (arith, back) in
            let count : slice_index c.counts (v - c.part.low) ≡ slice_index c.counts m = ap (slice_index c.counts) place_of_v in
            omega (arith, left, split, apart, away, box, step, begun, less, taken, count, old, had_now)
