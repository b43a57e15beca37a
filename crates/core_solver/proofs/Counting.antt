-- How many reads of a row pass a test, and how often it reads a vertex.
use Rattle.std.proofs.Common.{◌≡◌, ℕ, ◌+◌, ◌<◌, ◌≤◌, ◌≢◌, Bool, true, false, List, [], ◌∷◌, length, set, refl, ◌∙◌, ap, arith, inl, inr}
use Rattle.std.specs.Prelude.{◌==◌, All}
use Rattle.std.proofs.lemmas.Bool.{cases_lt}
use Rattle.std.proofs.lemmas.Bool.Decides.{eqb_tells}
use Rattle.std.proofs.lemmas.List.{get_or-set_other, get_or-set_same, get_or_past}
use Rattle.std.proofs.lemmas.List.Elements.{All-head, All-tail}
use Rattle.std.proofs.lemmas.List.Sums.{sum_by-cons, sum_by-le-sum_by}
use Rattle.px_base.specs.declared.graph.Read.{Read}
use Rattle.px_base.specs.Values.{is_in, one_if}
use Rattle.px_base.specs.Graphs.{reads_passing}
use Rattle.core_solver.specs.Mutual.{times_in_row}

-- ---- tests

one_of : (b c : Bool) → (b ≡ true → c ≡ true) → one_if b ≤ one_if c
one_of true c h = rw (h refl) (omega arith)
one_of false c h = omega arith

pub passing_grows : (p q : ℕ → Bool) (row : List Read) → ((u : ℕ) → p u ≡ true → q u ≡ true) → reads_passing p row ≤ reads_passing q row
passing_grows p q row more = sum_by-le-sum_by (λ r. one_if (p r.source)) (λ r. one_if (q r.source)) row (λ r. one_of (p r.source) (q r.source) (more r.source))

pub all_pass : (p : ℕ → Bool) (row : List Read) → All (λ r. p r.source ≡ true) row → reads_passing p row ≡ length row
all_pass p [] h = refl
all_pass p (r ∷ row) h =
    let here : one_if (p r.source) ≡ 1 = ap one_if (All-head (λ r. p r.source ≡ true) r row h) in
    omega (arith, here, all_pass p row (All-tail (λ r. p r.source ≡ true) r row h), sum_by-cons (λ r. one_if (p r.source)) r row)

-- ---- members

pub member_inside : (x : List ℕ) (v : ℕ) → is_in x v ≡ true → v < length x
member_inside x v member = elim (cases_lt v (length x)) [
  | inl below ↦ below
  | inr past ↦ absurd (let none : is_in x v ≡ false = ap (λ f. f == 1) (get_or_past x v 0 past) in cc)
]

pub without_itself : (x : List ℕ) (v : ℕ) → is_in x v ≡ true → is_in (set x v 0) v ≡ false
without_itself x v member = ap (λ f. f == 1) (get_or-set_same x v 0 0 (member_inside x v member))

pub without_other : (x : List ℕ) (v u : ℕ) → u ≢ v → is_in (set x v 0) u ≡ is_in x u
without_other x v u apart = ap (λ f. f == 1) (get_or-set_other x v u 0 0 apart)

-- who is left is another
pub left_is_other : (x : List ℕ) (v u : ℕ) → is_in x v ≡ true → is_in (set x v 0) u ≡ true → u ≢ v
left_is_other x v u member left = λ same.
    let gone : is_in (set x v 0) u ≡ false = ap (λ w. is_in (set x v 0) w) same ∙ without_itself x v member in
    cc

one_less : (x : List ℕ) (v source : ℕ) → is_in x v ≡ true → one_if (is_in x source) ≡ one_if (is_in (set x v 0) source) + one_if (source == v)
one_less x v source member = elim (eqb_tells source v) [
  | inl (is, same) ↦
      (let before : one_if (is_in x source) ≡ 1 = ap (λ w. one_if (is_in x w)) same ∙ ap one_if member in
      let after : one_if (is_in (set x v 0) source) ≡ 0 = ap (λ w. one_if (is_in (set x v 0) w)) same ∙ ap one_if (without_itself x v member) in
      let here : one_if (source == v) ≡ 1 = ap one_if is in
      omega (arith, before, after, here))
  | inr (is, apart) ↦
      (let after : one_if (is_in (set x v 0) source) ≡ one_if (is_in x source) = ap one_if (without_other x v source apart) in
      let here : one_if (source == v) ≡ 0 = ap one_if is in
      omega (arith, after, here))
]

-- a member less takes the reads of it
pub passing_without : (x : List ℕ) (v : ℕ) (row : List Read) → is_in x v ≡ true → reads_passing (is_in x) row ≡ reads_passing (is_in (set x v 0)) row + times_in_row row v
passing_without x v [] member = refl
passing_without x v (r ∷ row) member =
    omega (
      arith,
      passing_without x v row member,
      one_less x v r.source member,
      sum_by-cons (λ r. one_if (is_in x r.source)) r row,
      sum_by-cons (λ r. one_if (is_in (set x v 0) r.source)) r row,
      sum_by-cons (λ r. one_if (r.source == v)) r row,
    )

-- ---- the first read of a row

pub times_here : (r : Read) (row : List Read) (u : ℕ) → (r.source == u) ≡ true → times_in_row (r ∷ row) u ≡ 1 + times_in_row row u
times_here r row u is = sum_by-cons (λ s. one_if (s.source == u)) r row ∙ ap (λ b. one_if b + times_in_row row u) is

pub times_elsewhere : (r : Read) (row : List Read) (u : ℕ) → (r.source == u) ≡ false → times_in_row (r ∷ row) u ≡ times_in_row row u
times_elsewhere r row u is = sum_by-cons (λ s. one_if (s.source == u)) r row ∙ ap (λ b. one_if b + times_in_row row u) is ∙ omega arith
