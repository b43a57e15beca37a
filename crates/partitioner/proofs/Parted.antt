-- The parts, one after another, each with the next list of mirrors.
use Rattle.std.proofs.Common.{◌≡◌, ℕ, ◌+◌, ◌-◌, ◌^◌, ◌<◌, List, [], ◌∷◌, ◌++◌, length, get_or, refl, sym, ap, subst, ◌∙◌, arith, length-append, append_assoc}
use Rattle.std.specs.Prelude.{All, ◌==◌, not, filter}
use Rattle.std.specs.List.{range_with_len}
use Rattle.std.proofs.Math.Seq.{get_or-append_seam}
use Rattle.px_base.specs.declared.graph.Read.{Read}
use Rattle.px_base.specs.declared.graph.Part.{Part}
use Rattle.px_base.specs.Values.{by_position}
use Rattle.px_base.specs.Parts.{low_of, high_of, part_count, part_of, part_rows, mirrors_of}
use Rattle.px_base.proofs.Positions.{by_position_more, length_by_position, at_position}
use Rattle.partitioner.specs.Pieces.{part_with}
use Rattle.partitioner.proofs.Fitting.{mirrors_below}
use Rattle.partitioner.proofs.Routed.{AreMirrorWords, boundary_by_bits}

-- the parts so far: one for each list of mirrors that is done
pub record ArePartsSoFar (rows : List (List Read)) (starts cuts : List ℕ) (lists done todo : List (List ℕ)) (made : List Part) : Type 0 where
  pub split : lists ≡ done ++ todo
  pub parts : made ≡ by_position (length done) (part_of rows starts cuts)

pub next_place : (rows : List (List Read)) (starts cuts : List ℕ) (lists done todo : List (List ℕ)) (made : List Part) (i : ℕ) → ArePartsSoFar rows starts cuts lists done todo made → i ≡ length made → i ≡ length done
next_place rows starts cuts lists done todo made i so_far at = at ∙ ap length so_far.parts ∙ length_by_position (length done) (part_of rows starts cuts)

pub list_count : (lists : List (List ℕ)) (n : ℕ) (f : ℕ → List ℕ) → lists ≡ by_position n f → length lists ≡ n
list_count lists n f is = ap length is ∙ length_by_position n f

pub list_at : (lists : List (List ℕ)) (n : ℕ) (f : ℕ → List ℕ) → lists ≡ by_position n f → (k : ℕ) → k < n → get_or lists k [] ≡ f k
list_at lists n f is k low = ap (λ ls. get_or ls k []) is ∙ at_position n f k [] low

-- the next list is that of the next part
pub next_low : (lists done todo : List (List ℕ)) (list : List ℕ) (count i : ℕ) → lists ≡ done ++ list ∷ todo → length lists ≡ count → i ≡ length done → i < count
next_low lists done todo list count i is size at = omega (arith, ap length is, length-append done (list ∷ todo))

pub next_list : (lists done todo : List (List ℕ)) (list : List ℕ) → lists ≡ done ++ list ∷ todo → list ≡ get_or lists (length done) []
next_list lists done todo list is = sym (ap (λ ls. get_or ls (length done) []) is ∙ get_or-append_seam done list todo [])

pub next_mirrors : (rows : List (List Read)) (starts cuts : List ℕ) (lists done todo : List (List ℕ)) (list : List ℕ) → lists ≡ done ++ list ∷ todo → length lists ≡ part_count cuts →
    ((k : ℕ) → k < part_count cuts → get_or lists k [] ≡ mirrors_of rows cuts k) → list ≡ mirrors_of rows cuts (length done)
next_mirrors rows starts cuts lists done todo list is size mirrors =
    next_list lists done todo list is ∙ mirrors (length done) (next_low lists done todo list (part_count cuts) (length done) is size refl)

pub next_below : (rows : List (List Read)) (starts cuts : List ℕ) (lists done todo : List (List ℕ)) (list mirrors : List ℕ) → lists ≡ done ++ list ∷ todo → length lists ≡ part_count cuts →
    ((k : ℕ) → k < part_count cuts → get_or lists k [] ≡ mirrors_of rows cuts k) → length starts ≡ length rows → mirrors ≡ list → All (λ u. u < length starts) mirrors
next_below rows starts cuts lists done todo list mirrors is size each wide same =
    let P : List ℕ → Type 0 = λ us. All (λ u. u < length starts) us in
    let below : P (mirrors_of rows cuts (length done)) = λ k d inside. omega (arith, mirrors_below rows cuts (length done) k d inside) in
    subst P (sym (same ∙ next_mirrors rows starts cuts lists done todo list is size each)) below

-- the next part is made of its rows
next_part : (rows : List (List Read)) (starts cuts words mirrors : List ℕ) (i : ℕ) → mirrors ≡ mirrors_of rows cuts i → AreMirrorWords words rows cuts → ((u : ℕ) → get_or words u 0 < 2 ^ 64) →
    part_with (part_rows rows cuts i) starts cuts i mirrors (filter (λ u. not (get_or words u 0 == 0)) (range_with_len (low_of cuts i) (high_of cuts i - low_of cuts i))) ≡ part_of rows starts cuts i
next_part rows starts cuts words mirrors i is bits fits = rw (is, boundary_by_bits rows words cuts i bits fits) refl

pub one_part_more : (rows : List (List Read)) (starts cuts words mirrors : List ℕ) (i : ℕ) (lists done todo : List (List ℕ)) (list : List ℕ) (made now : List Part) (part : Part) →
    AreMirrorWords words rows cuts → ((u : ℕ) → get_or words u 0 < 2 ^ 64) → length lists ≡ part_count cuts → ((k : ℕ) → k < part_count cuts → get_or lists k [] ≡ mirrors_of rows cuts k) →
    ArePartsSoFar rows starts cuts lists done (list ∷ todo) made → i ≡ length done → mirrors ≡ list →
    part ≡ part_with (part_rows rows cuts i) starts cuts i mirrors (filter (λ u. not (get_or words u 0 == 0)) (range_with_len (low_of cuts i) (high_of cuts i - low_of cuts i))) →
    now ≡ made ++ part ∷ [] →
    ArePartsSoFar rows starts cuts lists (done ++ list ∷ []) todo now
one_part_more rows starts cuts words mirrors i lists done todo list made now part bits fits size each so_far at same is more =
    let f : ℕ → Part = part_of rows starts cuts in
    let count : length (done ++ list ∷ []) ≡ length done + 1 = length-append done (list ∷ []) in
    let mirrors_are : mirrors ≡ mirrors_of rows cuts i = same ∙ next_mirrors rows starts cuts lists done todo list so_far.split size each ∙ ap (mirrors_of rows cuts) (sym at) in
    let part_is : part ≡ f (length done) = is ∙ next_part rows starts cuts words mirrors i mirrors_are bits fits ∙ ap f at in
    record {
      split = so_far.split ∙ sym (append_assoc done (list ∷ []) todo);
      parts = more ∙ ap (λ ps. ps ++ part ∷ []) so_far.parts ∙ ap (λ p. by_position (length done) f ++ p ∷ []) part_is ∙ sym (by_position_more (length done) f) ∙ ap (λ m. by_position m f) (sym count);
    }

pub parts_done : (rows : List (List Read)) (starts cuts : List ℕ) (lists done todo : List (List ℕ)) (made : List Part) (n : ℕ) → ArePartsSoFar rows starts cuts lists done todo made → todo ≡ [] → length lists ≡ n →
    made ≡ by_position n (part_of rows starts cuts)
parts_done rows starts cuts lists done todo made n so_far none size =
    let count : length done ≡ n = omega (arith, ap length so_far.split, length-append done todo, ap length none, size) in
    so_far.parts ∙ ap (λ m. by_position m (part_of rows starts cuts)) count

pub none_left : {X : Type 0} (xs : List X) (n : ℕ) → n ≡ length xs → n ≡ 0 → xs ≡ []
none_left [] n size none = refl
none_left (x ∷ xs) n size none = absurd (omega (arith, size, none))
