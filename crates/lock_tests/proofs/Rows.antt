-- What holds of each element by its place, where one goes from a list to another.
use Rattle.std.proofs.Common.{◌≡◌, ℕ, zero, suc, ◌+◌, ◌<◌, List, [], ◌∷◌, ◌++◌, length, sym, refl, ap, ◌∙◌, subst, arith, length-append, Some, None}
use Rattle.std.specs.List.{slice_get}

module _ {A : Type 0} (Q : A → ℕ → Type 0) where
  -- the elements are those from place n on
  abbrev pub From : ℕ → List A → Type 0
  From n xs = (i : ℕ) (x : A) → slice_get xs i ≡ Some x → Q x (n + i)

  pub first_is : (n : ℕ) (ys : List A) (x : A) (xs : List A) → ys ≡ x ∷ xs → From n ys → Q x n
  first_is n ys x xs is from = subst (Q x) (omega arith) (from 0 x (ap (λ l. slice_get l 0) is))

  pub rest_are : (n m : ℕ) (ys : List A) (x : A) (xs : List A) → ys ≡ x ∷ xs → m ≡ n + 1 → From n ys → From m xs
  rest_are n m ys x xs is more from i z e = subst (Q z) (omega arith) (from (suc i) z (ap (λ l. slice_get l (suc i)) is ∙ e))

  goes : (xs : List A) (x : A) (n i : ℕ) (z : A) → From n xs → Q x (n + length xs) → slice_get (xs ++ x ∷ []) i ≡ Some z → Q z (n + i)
  goes [] x n zero z from last e = let same : x ≡ z = cc in subst (λ a. Q a (n + 0)) same last
  goes [] x n (suc i) z from last e = absurd (let no : None ≡ Some z = e in cc)
  goes (y ∷ ys) x n zero z from last e = from 0 z e
  goes (y ∷ ys) x n (suc i) z from last e = let next : n + 1 + i ≡ n + suc i = omega arith in let long : n + suc (length ys) ≡ n + 1 + length ys = omega arith in
      subst (Q z) next (goes ys x (n + 1) i z (rest_are n (n + 1) (y ∷ ys) y ys refl refl from) (subst (Q x) long last) e)

  pub with_last : (xs ys : List A) (x : A) → ys ≡ xs ++ x ∷ [] → From 0 xs → Q x (length xs) → From 0 ys
  with_last xs ys x is from last i z e = goes xs x 0 i z from (subst (Q x) (omega arith) last) (ap (λ l. slice_get l i) (sym is) ∙ e)

  pub from_start : (xs : List A) → From 0 xs → (i : ℕ) (x : A) → slice_get xs i ≡ Some x → Q x i
  from_start xs from i x e = subst (Q x) (omega arith) (from i x e)

pub one_more : {A : Type 0} (xs ys : List A) (x : A) → ys ≡ xs ++ x ∷ [] → length ys ≡ length xs + 1
one_more xs ys x is = ap length is ∙ (let e = length-append xs (x ∷ []) in omega arith)

pub element : {A : Type 0} (l : List A) (k : ℕ) → k < length l → (a : A) × (slice_get l k ≡ Some a)
element [] k h = absurd (omega arith)
element (x ∷ xs) zero h = (x, refl)
element (x ∷ xs) (suc k) h = element xs k (omega arith)
