-- The core: vertices that are short of reads are taken out one after another, until there are none.
use Rattle.std.proofs.Common.{◌≡◌, ℕ, zero, suc, ◌+◌, ◌<◌, ◌≤◌, true, false, List, length, get_or, set, replicate, sym, subst, arith, inl, inr}
use Rattle.std.specs.Prelude.{◌⊎◌, IsTrue, sum}
use Rattle.std.proofs.lemmas.Bool.{cases_Bool, cases_lt, eqb-true}
use Rattle.std.proofs.lemmas.List.Sums.{sum_by-set}
use Rattle.px_base.specs.declared.graph.Read.{Read}
use Rattle.px_base.specs.Values.{is_in}
use Rattle.px_base.specs.Graphs.{reads_passing, row_at}
use Rattle.px_base.specs.Answers.{IsKCore}
use Rattle.core_solver.specs.Peelings.{HoldsCores}
use Rattle.core_solver.proofs.Counting.{member_inside}
use Rattle.core_solver.proofs.Peeled.{all_hold, cores_stay}

-- each member below n has k reads of members
abbrev IsSupportedBelow : ℕ → List (List Read) → List ℕ → ℕ → Type 0
IsSupportedBelow k rows x n = (v : ℕ) → v < n → IsTrue (is_in x v) → k ≤ reads_passing (is_in x) (row_at rows v)

-- some member is short of them
record HasShort (k : ℕ) (rows : List (List Read)) (x : List ℕ) : Type 0 where
  vertex : ℕ
  member : IsTrue (is_in x vertex)
  short : reads_passing (is_in x) (row_at rows vertex) < k

one_more : (k : ℕ) (rows : List (List Read)) (x : List ℕ) (n : ℕ) → IsSupportedBelow k rows x n → (IsTrue (is_in x n) → k ≤ reads_passing (is_in x) (row_at rows n)) → IsSupportedBelow k rows x (suc n)
one_more k rows x n below here = λ v low member. elim (cases_lt v n) [
  | inl lower ↦ below v lower member
  | inr last ↦
      (let same : v ≡ n = omega arith in
      subst (λ (w : ℕ). k ≤ reads_passing (is_in x) (row_at rows w)) (sym same) (here (subst (λ (w : ℕ). IsTrue (is_in x w)) same member)))
]

supported_or : (k : ℕ) (rows : List (List Read)) (x : List ℕ) (n : ℕ) → IsSupportedBelow k rows x n ⊎ HasShort k rows x
supported_or k rows x zero = inl (λ v low member. absurd (omega arith))
supported_or k rows x (suc n) = elim (supported_or k rows x n) [
  | inr found ↦ inr found
  | inl below ↦ elim (cases_Bool (is_in x n)) [
    | inr out ↦ inl (one_more k rows x n below (λ member. absurd (let gone : is_in x n ≡ false = out in cc)))
    | inl member ↦ elim (cases_lt (reads_passing (is_in x) (row_at rows n)) k) [
      | inl short ↦ inr (record { vertex = n; member = member; short = short })
      | inr enough ↦ inl (one_more k rows x n below (λ m. enough))
    ]
  ]
]

supported_is_core : (k : ℕ) (rows : List (List Read)) (x : List ℕ) → HoldsCores k rows x → IsSupportedBelow k rows x (length rows) → IsKCore k rows x
supported_is_core k rows x h all = record {
  one_each = h.one_each;
  flags = h.flags;
  supported = λ v member.
      let inside : v < length rows = omega (arith, member_inside x v member, h.one_each) in
      (inside, all v inside member);
  greatest = h.greatest;
}

sum_without : (x : List ℕ) (v : ℕ) → is_in x v ≡ true → sum (set x v 0) + 1 ≡ sum x
sum_without x v member =
    let one : get_or x v 0 ≡ 1 = eqb-true (get_or x v 0) 1 member in
    omega (arith, one, sum_by-set (λ f. f) x v 0 0 (member_inside x v member))

core_within : (k : ℕ) (rows : List (List Read)) (members : ℕ) (x : List ℕ) → sum x ≤ members → HoldsCores k rows x → (y : List ℕ) × IsKCore k rows y
core_within k rows zero x few h = elim (supported_or k rows x (length rows)) [
  | inl all ↦ (x, supported_is_core k rows x h all)
  | inr found ↦ absurd (omega (arith, few, sum_without x found.vertex found.member))
]
core_within k rows (suc members) x few h = elim (supported_or k rows x (length rows)) [
  | inl all ↦ (x, supported_is_core k rows x h all)
  | inr found ↦ core_within k rows members (set x found.vertex 0) (omega (arith, few, sum_without x found.vertex found.member)) (cores_stay k rows x found.vertex h found.member found.short)
]

pub core_exists : (k : ℕ) (rows : List (List Read)) → (x : List ℕ) × IsKCore k rows x
core_exists k rows = core_within k rows (sum (replicate (length rows) 1)) (replicate (length rows) 1) (omega arith) (all_hold k rows)
