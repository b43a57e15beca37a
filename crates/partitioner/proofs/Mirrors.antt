-- The mirrors of a part by the set of what it reads, and the bits of all parts by their mirrors.
use Rattle.std.proofs.Common.{◌≡◌, ℕ, ◌+◌, ◌*◌, ◌/◌, ◌<◌, ◌≤◌, Bool, true, false, List, [], ◌∷◌, ◌++◌, length, get_or, take, refl, sym, ap, subst, ◌∙◌, arith, eqb-true, eq-eqb}
use Rattle.std.specs.Prelude.{All, ◌==◌, ◌&&◌, ◌||◌, not, nat_lt, filter, slice_range, Result, Ok, Err, IfOk}
use Rattle.std.specs.List.{list_any}
use Rattle.std.proofs.lemmas.List.Elements.{filter_agree}
use Rattle.std.proofs.lemmas.List.Folds.{list_any_more}
use Rattle.std.proofs.lemmas.Map.Views.{any-filter_same}
use Rattle.px_base.specs.declared.graph.Read.{Read}
use Rattle.px_base.specs.Values.{by_position, is_listed, positions_below}
use Rattle.px_base.specs.Parts.{is_mirror, is_within, low_of, high_of, mirrors_of, part_rows, reads_from}
use Rattle.partitioner.specs.Bits.{holds}
use Rattle.px_base.proofs.Positions.{by_position_more}
use Rattle.partitioner.proofs.BitWords.{part_more}
use Rattle.partitioner.proofs.Fitting.{mirrors_below, part_holds}
use Rattle.partitioner.proofs.Found.{PassesAt, passing, position_has}
use Rattle.partitioner.proofs.Ranges.{gap}

-- a vertex that some row reads is below the number of vertices
read_below : (n : ℕ) (rows : List (List Read)) (u : ℕ) → All (λ row. All (λ r. r.source < n) row) rows → list_any (reads_from u) rows ≡ true → u < n
read_below n rows u sources h =
    let row : (k : ℕ) × PassesAt (reads_from u) rows [] k = passing (reads_from u) rows [] h in
    let d : Read = record { source = 0; weight = 0 } in
    let read : (i : ℕ) × PassesAt (λ r. r.source == u) (get_or rows row.0 []) d i = passing (λ r. r.source == u) (get_or rows row.0 []) d row.1.passes in
    let is : (get_or (get_or rows row.0 []) read.0 d).source ≡ u = eqb-true (get_or (get_or rows row.0 []) read.0 d).source u read.1.passes in
    omega (arith, sources row.0 [] row.1.inside read.0 d read.1.inside, is)

second : (a b : Bool) → (a && b) ≡ true → b ≡ true
second true b h = h
second false b h = absurd (cc)

no_true : (b : Bool) → (b ≡ true → ⊥) → b ≡ false
no_true true h = absurd (h refl)
no_true false h = refl

pub held_below : (n : ℕ) (own : List (List Read)) (words : List ℕ) (out : ℕ → Bool) → All (λ row. All (λ r. r.source < n) row) own → ((u : ℕ) → holds words u ≡ (out u && list_any (reads_from u) own)) →
    (u : ℕ) → holds words u ≡ true → u < n
held_below n own words out sources is u h = read_below n own u sources (second (out u) (list_any (reads_from u) own) (sym (is u) ∙ h))

pub held_fit : (n m : ℕ) (rows own : List (List Read)) (words named : List ℕ) (out : ℕ → Bool) → n ≤ m → named ≡ words → All (λ row. All (λ r. r.source < n) row) own →
    ((u : ℕ) → holds words u ≡ (out u && list_any (reads_from u) own)) → (u : ℕ) → holds named u ≡ true → u < m
held_fit n m rows own words named out small same sources is u h = omega (arith, held_below n own words out sources is u (ap (λ ws. holds ws u) (sym same) ∙ h))

-- the positions in the set of a part are its mirrors
pub held_are : (n : ℕ) (rows own : List (List Read)) (words cuts : List ℕ) (j : ℕ) → length rows ≡ n → n ≤ 64 * length words → own ≡ part_rows rows cuts j → All (λ row. All (λ r. r.source < n) row) own →
    ((u : ℕ) → holds words u ≡ (not (is_within (low_of cuts j) (high_of cuts j) u) && list_any (reads_from u) own)) → filter (holds words) (positions_below (64 * length words)) ≡ mirrors_of rows cuts j
held_are n rows own words cuts j size wide same sources is =
    gap (holds words) n (64 * length words) wide (λ k from to. no_true (holds words k) (λ h. absurd (omega (arith, held_below n own words (λ u. not (is_within (low_of cuts j) (high_of cuts j) u)) sources is k h))))
    ∙ filter_agree (holds words) (is_mirror rows cuts j) (λ u. is u ∙ ap (λ rs. not (is_within (low_of cuts j) (high_of cuts j) u) && list_any (reads_from u) rs) same) (positions_below n)
    ∙ ap (λ m. filter (is_mirror rows cuts j) (positions_below m)) (sym size)

-- the same of a call's result, where the cuts and the set are named as the calls name them
pub mirrors_named : {T E : Type 0} (r : Result T E) (items : T → List ℕ) (n : ℕ) (rows : List (List Read)) (words named cuts ends : List ℕ) (j : ℕ) → length rows ≡ n → length words ≡ n / 64 + 1 → named ≡ words → ends ≡ cuts →
    All (λ row. All (λ r. r.source < n) row) rows →
    ((u : ℕ) → holds words u ≡ (not (is_within (low_of ends j) (high_of ends j) u) && list_any (reads_from u) (slice_range rows (low_of ends j) (high_of ends j)))) →
    IfOk r (λ found. items found ≡ filter (holds named) (positions_below (64 * length named))) → IfOk r (λ found. items found ≡ mirrors_of rows cuts j)
mirrors_named (Err e) items n rows words named cuts ends j size wide same same_cuts sources is found = tt
mirrors_named (Ok t) items n rows words named cuts ends j size wide same same_cuts sources is found =
    let P : List ℕ → Type 0 = λ cs. (u : ℕ) → holds words u ≡ (not (is_within (low_of cs j) (high_of cs j) u) && list_any (reads_from u) (slice_range rows (low_of cs j) (high_of cs j))) in
    found ∙ ap (λ ws. filter (holds ws) (positions_below (64 * length ws))) same
    ∙ held_are n rows (part_rows rows cuts j) words cuts j size (omega (arith, wide)) refl (part_holds (λ row. All (λ r. r.source < n) row) rows (low_of cuts j) (high_of cuts j) sources) (subst P same_cuts is)

-- ---- the bits of all parts

-- a vertex is listed among the mirrors exactly where it is one
pub listed_mirror : (n : ℕ) (rows : List (List Read)) (cuts : List ℕ) (j u : ℕ) → length rows ≡ n → All (λ row. All (λ r. r.source < n) row) (part_rows rows cuts j) → is_listed (mirrors_of rows cuts j) u ≡ is_mirror rows cuts j u
listed_mirror n rows cuts j u size sources =
    any-filter_same (λ item. item == u) (is_mirror rows cuts j) (is_mirror rows cuts j u) (λ k same. ap (is_mirror rows cuts j) (eqb-true k u same)) (positions_below (length rows))
    ∙ below_is (is_mirror rows cuts j u) (λ h. position_has (λ item. item == u) (length rows) u
    (omega (arith, size, read_below n (part_rows rows cuts j) u sources (second (not (is_within (low_of cuts j) (high_of cuts j) u)) (list_any (reads_from u) (part_rows rows cuts j)) h))) (eq_same u))
  where
    below_is : (a : Bool) {b : Bool} → (a ≡ true → b ≡ true) → (a && b) ≡ a
    below_is true h = h refl
    below_is false h = refl

    eq_same : (v : ℕ) → (v == v) ≡ true
    eq_same v = eq-eqb v v refl

spread : (a q r e : Bool) → ((a || (q && r)) || (q && e)) ≡ (a || (q && (r || e)))
spread true q r e = refl
spread false true r e = refl
spread false false r e = refl

-- one position more whose bit is set
pub one_set_more : (now next before q : Bool) (u i : ℕ) (us : List ℕ) (d : ℕ) → i < length us → now ≡ (before || (q && is_listed (take i us) u)) → next ≡ (now || (q && get_or us i d == u)) →
    next ≡ (before || (q && is_listed (take (i + 1) us) u))
one_set_more now next before q u i us d below was is =
    is ∙ ap (λ b. b || (q && get_or us i d == u)) was ∙ spread before q (is_listed (take i us) u) (get_or us i d == u)
    ∙ ap (λ b. before || (q && b)) (sym (list_any_more (λ item. item == u) us i d below))

pub mirrors_in_words : (n : ℕ) (rows : List (List Read)) (cuts named words : List ℕ) (j : ℕ) → length rows ≡ n → length words ≡ n → named ≡ mirrors_of rows cuts j → All (λ u. u < length words) named
mirrors_in_words n rows cuts named words j size wide is =
    let P : List ℕ → Type 0 = λ us. All (λ u. u < length words) us in
    let below : P (mirrors_of rows cuts j) = λ k d inside. omega (arith, mirrors_below rows cuts j k d inside) in
    subst P (sym is) below

pub one_list_more : (rows : List (List Read)) (cuts : List ℕ) (j : ℕ) (before now : List (List ℕ)) (list found : List ℕ) → before ≡ by_position j (mirrors_of rows cuts) → list ≡ found → found ≡ mirrors_of rows cuts j →
    now ≡ before ++ list ∷ [] → now ≡ by_position (j + 1) (mirrors_of rows cuts)
one_list_more rows cuts j before now list found was same is more =
    more ∙ ap (λ ls. ls ++ list ∷ []) was ∙ ap (λ l. by_position j (mirrors_of rows cuts) ++ l ∷ []) (same ∙ is) ∙ sym (by_position_more j (mirrors_of rows cuts))

-- the bits of one part more
pub bits_more : (n : ℕ) (rows : List (List Read)) (cuts : List ℕ) (j u k : ℕ) (named : List ℕ) (now next : Bool) → length rows ≡ n → All (λ row. All (λ r. r.source < n) row) rows → named ≡ mirrors_of rows cuts j →
    now ≡ (nat_lt k j && is_mirror rows cuts k u) → next ≡ (now || (k == j && is_listed named u)) → next ≡ (nat_lt k (j + 1) && is_mirror rows cuts k u)
bits_more n rows cuts j u k named now next size sources is was more =
    let own : All (λ row. All (λ r. r.source < n) row) (part_rows rows cuts j) = part_holds (λ row. All (λ r. r.source < n) row) rows (low_of cuts j) (high_of cuts j) sources in
    part_more now next (λ i. is_mirror rows cuts i u) j k was (more ∙ ap (λ us. now || (k == j && is_listed us u)) is ∙ ap (λ b. now || (k == j && b)) (listed_mirror n rows cuts j u size own))
