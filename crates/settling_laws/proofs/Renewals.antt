-- After one renewal fewer than there are vertices the start values of a locally correcting program are its answer.
use Rattle.std.proofs.Common.{◌≡◌, ◌≢◌, ℕ, zero, suc, ◌+◌, ◌-◌, ◌<◌, ◌≤◌, max, Bool, true, false, not, List, [], length, map, get_or, refl, sym, ap, ◌∙◌, arith, inl, inr}
use Rattle.std.specs.Prelude.{◌⊎◌, ◌==◌, slice_index, if◌then◌else◌}
use Rattle.std.proofs.lemmas.Bool.{cases_eq, eqb-true, eq-eqb}
use Rattle.std.proofs.lemmas.List.{get_or-map, length-map}
use Rattle.std.proofs.lemmas.List.Elements.{All-map, recursion_from_All, All-from_recursion}
use Rattle.px_base.specs.declared.graph.Read.{Read}
use Rattle.px_base.specs.declared.program.CoreProgram.{CoreProgram}
use Rattle.px_base.specs.declared.TheConstants.{TOP}
use Rattle.px_base.specs.Values.{IsValue, IsWeight, IsValueList, by_position}
use Rattle.px_base.specs.Graphs.{RowsFit, row_at}
use Rattle.px_base.specs.Classes.{is_mex}
use Rattle.px_base.specs.Core.{core_edge_value}
use Rattle.px_base.specs.Rules.{least}
use Rattle.px_base.specs.Laws.{NeverImproves}
use Rattle.px_base.proofs.Positions.{at_position, length_by_position}
use Rattle.px_base.proofs.Gathers.{least_below_each, below_least}
use Rattle.consistent_solver.specs.CoreLists.{IsBelow, IsCoreConsistent, IsGreatestCoreConsistent, gathered_at, renewed, renewed_at, renewed_times}
use Rattle.consistent_solver.proofs.Below.{below_renewed, below_starts, least_gathered, gathered_grows, gathered_below_start}
use Rattle.consistent_solver.proofs.Reaching.{renewed_values, renewed_lower, renewed_last}
use Rattle.settling_laws.proofs.Numbers.{one_for, count_below, count_most, some_passes, fewer, differ, apart_if}

-- what is gathered is at most the edge value of each read of the row
pub gathered_low : (core : CoreProgram) (rows : List (List Read)) (starts x : List ℕ) (v k : ℕ) (d : Read) → is_mex core.program.fold ≡ false → k < length (row_at rows v) →
    gathered_at core rows starts x v ≤ core_edge_value core (slice_index x (get_or (row_at rows v) k d).source) (get_or (row_at rows v) k d).weight
gathered_low core rows starts x v k d plain inside =
    let items : List ℕ = map (λ (r : Read). core_edge_value core (slice_index x r.source) r.weight) (row_at rows v) in
    let room : k < length items = omega (arith, inside, length-map (row_at rows v) (λ (r : Read). core_edge_value core (slice_index x r.source) r.weight)) in
    let low : least (slice_index starts v) items ≤ get_or items k 0 = All-from_recursion (λ y. least (slice_index starts v) items ≤ y) items (least_below_each (slice_index starts v) items) k 0 room in
    let at : get_or items k 0 ≡ core_edge_value core (slice_index x (get_or (row_at rows v) k d).source) (get_or (row_at rows v) k d).weight =
    get_or-map (λ (r : Read). core_edge_value core (slice_index x r.source) r.weight) (row_at rows v) k d 0 inside in
    rw (least_gathered core (slice_index x) (slice_index starts v) (row_at rows v) plain) (omega (arith, low, at))

module _ (core : CoreProgram) (rows : List (List Read)) (starts a : List ℕ) (plain : is_mex core.program.fold ≡ false) (never : NeverImproves core) (fits : RowsFit (length rows) rows) (g : IsGreatestCoreConsistent core rows starts a) where
  abbrev n : ℕ
  n = length rows

  -- ---- where no vertex comes to its value in a renewal, all have it

  module _ (x : List ℕ) (values : IsValueList n x) (above : IsBelow n a x)
      (stuck : (v : ℕ) → v < n → slice_index (renewed core rows starts x) v ≡ slice_index a v → slice_index x v ≡ slice_index a v) where
    -- at vertices with another value than the answer, a list that is somewhat above it
    abbrev raised_at : ℕ → ℕ → ℕ
    raised_at c v = if slice_index x v == slice_index a v then slice_index a v else max (slice_index a v) (suc c)

    module _ (c : ℕ) (low : (v : ℕ) → v < n → slice_index x v ≢ slice_index a v → c ≤ slice_index a v) where
      abbrev raised : List ℕ
      raised = by_position n (raised_at c)

      raised_is : (v : ℕ) → v < n → slice_index raised v ≡ raised_at c v
      raised_is v inside = at_position n (raised_at c) v 0 inside

      done_is : (v : ℕ) → v < n → slice_index x v ≡ slice_index a v → slice_index raised v ≡ slice_index a v
      done_is v inside same = raised_is v inside ∙ ap (λ b. if b then slice_index a v else max (slice_index a v) (suc c)) (eq-eqb (slice_index x v) (slice_index a v) same)

      other_is : (v : ℕ) → v < n → slice_index x v ≢ slice_index a v → slice_index raised v ≡ max (slice_index a v) (suc c)
      other_is v inside apart = raised_is v inside ∙ by_test (slice_index x v == slice_index a v) refl
        where
          by_test : (b : Bool) → (slice_index x v == slice_index a v) ≡ b → (if b then slice_index a v else max (slice_index a v) (suc c)) ≡ max (slice_index a v) (suc c)
          by_test true is = absurd (apart (eqb-true (slice_index x v) (slice_index a v) is))
          by_test false is = refl

      within : (v : ℕ) → v < n → (slice_index a v ≤ slice_index raised v) × (slice_index raised v ≤ slice_index x v)
      within v inside = elim (cases_eq (slice_index x v) (slice_index a v)) [
        | inl same ↦ (omega (arith, done_is v inside same), omega (arith, done_is v inside same, same))
        | inr apart ↦ (omega (arith, other_is v inside apart), omega (arith, other_is v inside apart, apart, above v inside, low v inside apart))
      ]

      raised_values : IsValueList n raised
      raised_values = record {
        one_each = length_by_position n (raised_at c);
        in_range = λ v d below. (let inside : v < n = omega (arith, below, length_by_position n (raised_at c)) in
            let most : IsValue (slice_index x v) = values.in_range v 0 (omega (arith, inside, values.one_each)) in
            let same : get_or raised v d ≡ slice_index raised v = at_position n (raised_at c) v d inside ∙ sym (raised_is v inside) in
            omega (arith, same, (within v inside).1, most));
      }

      raised_above : IsBelow n a raised
      raised_above v inside = (within v inside).0

      -- a vertex with the least such value reads no less than one more
      item_high : (v k : ℕ) (d : Read) → v < n → slice_index x v ≢ slice_index a v → slice_index a v ≡ c → k < length (row_at rows v) →
          suc c ≤ core_edge_value core (slice_index raised (get_or (row_at rows v) k d).source) (get_or (row_at rows v) k d).weight
      item_high v k d inside apart here room =
          let r : Read = get_or (row_at rows v) k d in
          let inner : r.source < n = fits.sources v [] inside k d room in
          elim (cases_eq (slice_index x r.source) (slice_index a r.source)) [
            | inl same ↦
                (let kept : slice_index raised r.source ≡ slice_index x r.source = done_is r.source inner same ∙ sym same in
                let new : slice_index (renewed core rows starts x) v ≡ renewed_at core rows starts x v = at_position n (renewed_at core rows starts x) v 0 inside in
                let least_is : slice_index a v ≤ slice_index (renewed core rows starts x) v = below_renewed core rows starts a x plain g.consistent values above v inside in
                let differs : slice_index (renewed core rows starts x) v ≢ slice_index a v = (λ e. apart (stuck v inside e)) in
                let edge : core_edge_value core (slice_index raised r.source) r.weight ≡ core_edge_value core (slice_index x r.source) r.weight = ap (λ y. core_edge_value core y r.weight) kept in
                let more : suc c ≤ gathered_at core rows starts x v = omega (arith, here, new, least_is, differs) in
                omega (arith, edge, more, gathered_low core rows starts x v k d plain room))
            | inr other ↦
                (let known : IsValue (slice_index raised r.source) = raised_values.in_range r.source 0 (omega (arith, inner, raised_values.one_each)) in
                let weight : IsWeight r.weight = fits.weights v [] inside k d room in
                omega (arith, other_is r.source inner other, never (slice_index raised r.source) r.weight known weight))
          ]

      raised_consistent : IsCoreConsistent core rows starts raised
      raised_consistent = record {
        values = raised_values;
        each = λ v inside. elim (cases_eq (slice_index x v) (slice_index a v)) [
          | inl same ↦ omega (arith, done_is v inside same, g.consistent.each v inside, gathered_grows core rows starts a raised v plain g.consistent.values.one_each raised_values raised_above)
          | inr apart ↦ elim (cases_eq (slice_index a v) c) [
            | inl here ↦
                (let new : slice_index (renewed core rows starts x) v ≡ renewed_at core rows starts x v = at_position n (renewed_at core rows starts x) v 0 inside in
                let least_is : slice_index a v ≤ slice_index (renewed core rows starts x) v = below_renewed core rows starts a x plain g.consistent values above v inside in
                let differs : slice_index (renewed core rows starts x) v ≢ slice_index a v = (λ e. apart (stuck v inside e)) in
                let start : suc c ≤ slice_index starts v = omega (arith, here, new, least_is, differs, gathered_below_start core rows starts x v plain) in
                let items : suc c ≤ gathered_at core rows starts raised v = rw (least_gathered core (slice_index raised) (slice_index starts v) (row_at rows v) plain)
                (below_least (suc c) (slice_index starts v) (map (λ (r : Read). core_edge_value core (slice_index raised r.source) r.weight) (row_at rows v)) start
                (recursion_from_All (λ y. suc c ≤ y) (map (λ (r : Read). core_edge_value core (slice_index raised r.source) r.weight) (row_at rows v))
                (All-map (λ y. suc c ≤ y) (λ (r : Read). core_edge_value core (slice_index raised r.source) r.weight) (row_at rows v) (λ k d room. item_high v k d inside apart here room)))) in
                omega (arith, other_is v inside apart, here, items))
            | inr higher ↦ omega (arith, other_is v inside apart, low v inside apart, higher, g.consistent.each v inside, gathered_grows core rows starts a raised v plain g.consistent.values.one_each raised_values raised_above)
          ]
        ];
      }

      lifted : (v : ℕ) → v < n → slice_index x v ≢ slice_index a v → suc c ≤ slice_index a v
      lifted v inside apart = omega (arith, g.greatest raised raised_consistent v inside, other_is v inside apart)

    lows : (c : ℕ) → (v : ℕ) → v < n → slice_index x v ≢ slice_index a v → c ≤ slice_index a v
    lows zero v inside apart = omega arith
    lows (suc c) v inside apart = lifted c (lows c) v inside apart

    pub all_done : (v : ℕ) → v < n → slice_index x v ≡ slice_index a v
    all_done v inside = elim (cases_eq (slice_index x v) (slice_index a v)) [
      | inl same ↦ same
      | inr apart ↦ absurd (omega (arith, lows (suc (slice_index a v)) v inside apart))
    ]

  -- ---- each renewal brings one vertex at least to its value

  module _ (valued : IsValueList n starts) where
    abbrev after : ℕ → List ℕ
    after k = renewed_times k core rows starts starts

    -- what holds of the list after each renewal
    record IsOnItsWay (x : List ℕ) : Type 0 where
      values : IsValueList n x
      above : IsBelow n a x

    on_its_way : (k : ℕ) → IsOnItsWay (after k)
    on_its_way zero = record { values = valued; above = below_starts core rows starts a plain g.consistent }
    on_its_way (suc k) = let old = on_its_way k in rw (renewed_last k core rows starts starts) (record {
      values = renewed_values core rows starts (after k) old.values;
      above = below_renewed core rows starts a (after k) plain g.consistent old.values old.above;
    })

    pub after_values : (k : ℕ) → IsValueList n (after k)
    after_values k = (on_its_way k).values

    abbrev wrong : List ℕ → ℕ → Bool
    wrong x v = not (slice_index x v == slice_index a v)

    -- One renewal takes a list with no value lower than the answer to one with fewer vertices that have another value, or all have
    -- theirs.
    nearer : (x : List ℕ) → IsOnItsWay x → (count_below n (wrong (renewed core rows starts x)) < count_below n (wrong x)) ⊎ ((v : ℕ) → v < n → slice_index (renewed core rows starts x) v ≡ slice_index a v)
    nearer x way = elim (fewer n (wrong (renewed core rows starts x)) (wrong x) fewer_wrong) [
      | inl less ↦ inl less
      | inr same ↦ inr (λ v inside. omega (arith, bounds v inside, all_done x way.values way.above (stuck_if same.1) v inside))
    ]
      where
        bounds : (v : ℕ) → v < n → (slice_index a v ≤ slice_index (renewed core rows starts x) v) × (slice_index (renewed core rows starts x) v ≤ slice_index x v)
        bounds v inside = (below_renewed core rows starts a x plain g.consistent way.values way.above v inside, renewed_lower core rows starts x v inside)

        fewer_wrong : (v : ℕ) → v < n → wrong (renewed core rows starts x) v ≡ true → wrong x v ≡ true
        fewer_wrong v inside is = differ (slice_index x v) (slice_index a v) (λ e. apart_if (slice_index (renewed core rows starts x) v) (slice_index a v) is (omega (arith, bounds v inside, e)))

        stuck_if : ((v : ℕ) → v < n → wrong x v ≡ true → wrong (renewed core rows starts x) v ≡ true) →
            (v : ℕ) → v < n → slice_index (renewed core rows starts x) v ≡ slice_index a v → slice_index x v ≡ slice_index a v
        stuck_if same v inside is = elim (cases_eq (slice_index x v) (slice_index a v)) [
          | inl done ↦ done
          | inr apart ↦ absurd (apart_if (slice_index (renewed core rows starts x) v) (slice_index a v) (same v inside (differ (slice_index x v) (slice_index a v) apart)) is)
        ]

    -- The start values are those that one renewal makes of the highest values, so one vertex has its value at the start.
    abbrev tops : List ℕ
    tops = by_position n (λ v. TOP)

    top_is : (v : ℕ) → v < n → slice_index tops v ≡ TOP
    top_is v inside = at_position n (λ u. TOP) v 0 inside

    tops_way : IsOnItsWay tops
    tops_way = record {
      values = record {
        one_each = length_by_position n (λ v. TOP);
        in_range = λ v d below. (let inside : v < n = omega (arith, below, length_by_position n (λ v. TOP)) in rw (at_position n (λ u. TOP) v d inside) (omega arith));
      };
      above = λ v inside. (let room : v < length a = omega (arith, inside, g.consistent.values.one_each) in let low : IsValue (slice_index a v) = g.consistent.values.in_range v 0 room in omega (arith, low, top_is v inside));
    }

    tops_renewed : (v : ℕ) → v < n → slice_index (renewed core rows starts tops) v ≡ slice_index starts v
    tops_renewed v inside =
        let new : slice_index (renewed core rows starts tops) v ≡ renewed_at core rows starts tops v = at_position n (renewed_at core rows starts tops) v 0 inside in
        let room : v < length starts = omega (arith, inside, valued.one_each) in
        let start : IsValue (slice_index starts v) = valued.in_range v 0 room in
        let items : slice_index starts v ≤ gathered_at core rows starts tops v = rw (least_gathered core (slice_index tops) (slice_index starts v) (row_at rows v) plain)
        (below_least (slice_index starts v) (slice_index starts v) (map (λ (r : Read). core_edge_value core (slice_index tops r.source) r.weight) (row_at rows v)) (omega arith)
        (recursion_from_All (λ y. slice_index starts v ≤ y) (map (λ (r : Read). core_edge_value core (slice_index tops r.source) r.weight) (row_at rows v))
        (All-map (λ y. slice_index starts v ≤ y) (λ (r : Read). core_edge_value core (slice_index tops r.source) r.weight) (row_at rows v)
        (λ k d within. (let r : Read = get_or (row_at rows v) k d in
        let top : slice_index tops r.source ≡ TOP = top_is r.source (fits.sources v [] inside k d within) in
        let known : IsValue (slice_index tops r.source) = omega (arith, top) in
        omega (arith, start, top, never (slice_index tops r.source) r.weight known (fits.weights v [] inside k d within))))))) in
        omega (arith, new, items, gathered_below_start core rows starts tops v plain, start, top_is v inside)

    wrong_same : (x y : List ℕ) → ((v : ℕ) → v < n → slice_index x v ≡ slice_index y v) → (m : ℕ) → m ≤ n → count_below m (wrong x) ≡ count_below m (wrong y)
    wrong_same x y same zero most = refl
    wrong_same x y same (suc m) most = let here : one_for (wrong x m) ≡ one_for (wrong y m) = ap (λ z. one_for (not (z == slice_index a m))) (same m (omega (arith, most))) in
        omega (arith, here, wrong_same x y same m (omega (arith, most)))

    reached : (k : ℕ) → (count_below n (wrong (after k)) + suc k ≤ n) ⊎ ((v : ℕ) → v < n → slice_index (after k) v ≡ slice_index a v)
    reached zero = elim (nearer tops tops_way) [
      | inl less ↦ inl (omega (arith, less, count_most n (wrong tops), wrong_same (renewed core rows starts tops) starts tops_renewed n (omega arith)))
      | inr done ↦ inr (λ v inside. sym (tops_renewed v inside) ∙ done v inside)
    ]
    reached (suc k) = rw (renewed_last k core rows starts starts) (by_done (reached k))
      where
        by_done : (count_below n (wrong (after k)) + suc k ≤ n) ⊎ ((v : ℕ) → v < n → slice_index (after k) v ≡ slice_index a v) →
            (count_below n (wrong (renewed core rows starts (after k))) + suc (suc k) ≤ n) ⊎ ((v : ℕ) → v < n → slice_index (renewed core rows starts (after k)) v ≡ slice_index a v)
        by_done (inr done) = inr (λ v inside. omega (
          arith,
          below_renewed core rows starts a (after k) plain g.consistent (on_its_way k).values (on_its_way k).above v inside,
          renewed_lower core rows starts (after k) v inside,
          done v inside,
        ))
        by_done (inl few) = elim (nearer (after k) (on_its_way k)) [
          | inl less ↦ inl (omega (arith, less, few))
          | inr done ↦ inr done
        ]

    -- so after n - 1 of them each has it
    pub settled_after : (v : ℕ) → v < n → slice_index (after (n - 1)) v ≡ slice_index a v
    settled_after v inside = elim (reached (n - 1)) [
      | inr done ↦ done v inside
      | inl none ↦ elim (cases_eq (slice_index (after (n - 1)) v) (slice_index a v)) [
        | inl same ↦ same
        | inr apart ↦ absurd (omega (arith, none, some_passes n (wrong (after (n - 1))) v inside (differ (slice_index (after (n - 1)) v) (slice_index a v) apart)))
      ]
    ]
