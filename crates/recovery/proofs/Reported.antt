-- The list of all values holds what the workers have reported.
use Rattle.std.proofs.Common.{◌≡◌, ◌≢◌, ℕ, suc, ◌+◌, ◌-◌, ◌<◌, ◌≤◌, Bool, true, false, List, [], ◌∷◌, ◌++◌, Option, Some, None, length, take, drop, get_or, set, arith, refl, sym, ap, subst, ◌∙◌, inl, inr, length-append, length-take, length-drop, get_or-set_same, get_or-set_other, append_assoc}
use Rattle.std.specs.Prelude.{◌&&◌, All, is_some, slice_range, unwrap_or}
use Rattle.std.specs.List.{flat_map, list_all}
use Rattle.std.proofs.lemmas.Bool.{cases_eq, cases_lt}
use Rattle.std.proofs.lemmas.List.{drop-drop, get_or_past}
use Rattle.std.proofs.lemmas.List.Elements.{All-append, All-nil}
use Rattle.std.proofs.lemmas.List.Folds.{drop_split}
use Rattle.std.proofs.lemmas.Slice.{between_is, take-put_mid_below, drop-put_mid, between-put_mid}
use Rattle.std.proofs.Math.ListN.{replicate}
use Rattle.std.proofs.Math.Seq.{drop-length}
use borrow.Rule.Slice.PartMut.{put_mid}
use Rattle.px_base.specs.Values.{IsValue}
use Rattle.px_base.specs.Parts.{IsCuts, part_count, low_of, high_of}
use Rattle.partitioner.specs.Cuts.{vertex_count}
use Rattle.partitioner.proofs.Owned.{low_below_high, high_inside, high_before_low}
use Rattle.list_laws.proofs.Lists.{at_replicate}
use Rattle.recovery.specs.Reports.{HoldsReports, overwritten}

-- ---- one list more

some_same : {X : Type 0} (x y : X) → Some x ≡ Some y → x ≡ y
some_same x y h = cc h

pub none_held : (ends : List ℕ) (n : ℕ) (values : List ℕ) → length values ≡ vertex_count ends → HoldsReports ends (replicate n None) values
none_held ends n values size = record { size = size; held = λ i xs is. absurd (cc (is, at_replicate {X = Option (List ℕ)} n None i)) }

mid_is : (values : List ℕ) (low high : ℕ) (xs : List ℕ) → low ≤ high → overwritten values low high xs ≡ put_mid low (high - low) values xs
mid_is values low high xs range =
    let whole : low + (high - low) ≡ high = omega arith in
    append_assoc (take low values) xs (drop high values) ∙ ap (λ rest. take low values ++ (xs ++ rest)) (sym (drop-drop (high - low) low values ∙ ap (λ k. drop k values) whole))

module _ (ends : List ℕ) (n : ℕ) (cut : IsCuts n ends) (values xs : List ℕ) (i : ℕ) (inside : i < part_count ends) (size : length values ≡ n) (due : length xs ≡ high_of ends i - low_of ends i) where
  abbrev low : ℕ
  low = low_of ends i

  abbrev high : ℕ
  high = high_of ends i

  abbrev new : List ℕ
  new = overwritten values low high xs

  range : low ≤ high
  range = low_below_high n ends i cut inside

  room : high ≤ n
  room = high_inside n ends i cut inside

  pub new_size : length new ≡ n
  new_size = omega (arith, length-append (take low values ++ xs) (drop high values), length-append (take low values) xs, length-take low values, length-drop high values, range, room, size, due)

  part_same : slice_range new low high ≡ xs
  part_same = ap (λ (l : List ℕ). slice_range l low high) (mid_is values low high xs range) ∙ between-put_mid low (high - low) values xs high (omega (arith, range, room, size)) due

  part_before : (a b : ℕ) → b ≤ low → slice_range new a b ≡ slice_range values a b
  part_before a b before =
      between_is new a b
      ∙ ap (λ l. drop a (take b l)) (mid_is values low high xs range)
      ∙ ap (drop a) (take-put_mid_below low (high - low) values xs b before (omega (arith, range, room, size)))
      ∙ sym (between_is values a b)

  part_after : (a b : ℕ) → high ≤ a → slice_range new a b ≡ slice_range values a b
  part_after a b after =
      ap (λ (l : List ℕ). slice_range l a b) (mid_is values low high xs range)
      ∙ ap (take (b - a)) (drop-put_mid low (high - low) values xs a (omega (arith, range, after)) (omega (arith, range, room, size)) due)

  pub part_other : (j : ℕ) → j ≢ i → j < part_count ends → slice_range new (low_of ends j) (high_of ends j) ≡ slice_range values (low_of ends j) (high_of ends j)
  part_other j apart below = elim (cases_lt j i) [
    | inl before ↦ part_before (low_of ends j) (high_of ends j) (high_before_low n ends j i cut before inside)
    | inr from ↦ (let after : i < j = by_least from in part_after (low_of ends j) (high_of ends j) (high_before_low n ends i j cut after below))
  ]
    where
      by_least : i ≤ j → i < j
      by_least from = elim (cases_lt i j) [ inl less ↦ less | inr most ↦ (let same : j ≡ i = omega (arith, from, most) in absurd (apart same)) ]

  pub one_held : (reported : List (Option (List ℕ))) → length reported ≡ part_count ends → n ≡ vertex_count ends → HoldsReports ends reported values → HoldsReports ends (set reported i (Some xs)) new
  one_held reported count last had = record {
    size = new_size ∙ last;
    held = λ j ys is. elim (cases_eq j i) [
      | inl same ↦ (
          let here : Some xs ≡ Some ys = sym (get_or-set_same reported i (Some xs) None (omega (arith, inside, count))) ∙ (ap (λ k. get_or (set reported i (Some xs)) k None) (sym same) ∙ is) in
          subst (λ k. slice_range new (low_of ends k) (high_of ends k) ≡ ys) (sym same) (part_same ∙ some_same xs ys here))
      | inr apart ↦ (
          let there : get_or reported j None ≡ Some ys = sym (get_or-set_other reported i j (Some xs) None apart) ∙ is in
          part_other j apart (reported_inside j ys there) ∙ had.held j ys there)
    ];
  }
    where
      reported_inside : (j : ℕ) (ys : List ℕ) → get_or reported j None ≡ Some ys → j < part_count ends
      reported_inside j ys is = elim (cases_lt j (length reported)) [
        | inl below ↦ omega (arith, below, count)
        | inr past ↦ absurd (cc (is, get_or_past reported j None past))
      ]

-- ---- all lists

-- all reported lists, one after another
abbrev pub joined : List (Option (List ℕ)) → List ℕ
joined = flat_map (λ values. unwrap_or values [])

-- where each reported value is one, all are
pub joined_values : (reported : List (Option (List ℕ))) → ((i : ℕ) (xs : List ℕ) → get_or reported i None ≡ Some xs → All IsValue xs) → All IsValue (joined reported)
joined_values [] each = All-nil IsValue
joined_values (None ∷ reported) each = joined_values reported (λ i xs is. each (suc i) xs is)
joined_values (Some values ∷ reported) each = All-append IsValue values (joined reported) (each 0 values refl) (joined_values reported (λ i xs is. each (suc i) xs is))

and_both : (a b : Bool) → (a && b) ≡ true → (a ≡ true) × (b ≡ true)
and_both true b h = (refl, h)
and_both false b h = cc

module _ (ends : List ℕ) (reported : List (Option (List ℕ))) (values : List ℕ) (cut : IsCuts (vertex_count ends) ends) (holds : HoldsReports ends reported values) (count : length reported ≡ part_count ends) where
  -- those of the workers from k on
  from : (rs : List (Option (List ℕ))) (k : ℕ) → k + length rs ≡ part_count ends → ((j : ℕ) → j < length rs → get_or rs j None ≡ get_or reported (k + j) None) → list_all is_some rs ≡ true →
      joined rs ≡ drop (get_or ends k 0) values
  from [] k size same all =
      let last : k ≡ length ends - 1 = omega (arith, size) in
      sym (ap (λ m. drop (get_or ends m 0) values) last ∙ ap (λ m. drop m values) (sym holds.size) ∙ drop-length values)
  from (None ∷ rs) k size same all = cc
  from (Some xs ∷ rs) k size same all =
      let next : k + 1 + length rs ≡ part_count ends = omega (arith, size) in
      let zeroth : k + 0 ≡ k = omega arith in
      let here : get_or reported k None ≡ Some xs = ap (λ m. get_or reported m None) (sym zeroth) ∙ sym (same 0 (omega arith)) in
      let rest : joined rs ≡ drop (get_or ends (k + 1) 0) values = from rs (k + 1) next (λ j inside. (let one : k + suc j ≡ k + 1 + j = omega arith in same (suc j) (omega (arith, inside)) ∙ ap (λ m. get_or reported m None) one)) all in
      ap (λ l. xs ++ l) rest
      ∙ ap (λ l. l ++ drop (get_or ends (k + 1) 0) values) (sym (holds.held k xs here))
      ∙ sym (drop_split values (get_or ends k 0) (get_or ends (k + 1) 0) (low_below_high (vertex_count ends) ends k cut (omega (arith, size))))

  pub values_are : list_all is_some reported ≡ true → joined reported ≡ values
  values_are all = from reported 0 (omega (arith, count)) (λ j inside. (let this : 0 + j ≡ j = omega arith in ap (λ m. get_or reported m None) (sym this))) all ∙ ap (λ k. drop k values) cut.first
