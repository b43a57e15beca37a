-- How many losses are of links below a number, and how many refusals of starts up to one.
use Rattle.std.proofs.Common.{◌≡◌, ℕ, zero, suc, ◌+◌, ◌-◌, ◌≤◌, Bool, true, false, List, [], ◌∷◌, length, refl, arith, ◌∙◌}
use Rattle.std.specs.Prelude.{nat_lt, nat_le, ◌==◌, count_by, filter, if◌then◌else◌}
use Rattle.std.proofs.lemmas.Bool.Decides.{nat_tests}
use Rattle.std.proofs.lemmas.List.{length-map}
use Rattle.std.proofs.lemmas.List.Sums.{sum_by-cons, length-filter, count_by-le-length}
use Rattle.px_base.specs.Values.{is_listed}
use Rattle.link_trait.specs.declared.scripts.Scripted.{Scripted}
use Rattle.memory_nursery.specs.Scripts.{moments_in}
use Rattle.memory_nursery.specs.Keeping.{losses_below, refused_up_to}

-- 1 where the test holds, else 0
abbrev one : Bool → ℕ
one b = if b then 1 else 0

below_more : (x n : ℕ) → one (nat_lt x (n + 1)) ≡ one (nat_lt x n) + one (x == n)
below_more x n = grind (arith, nat_tests)

up_to_more : (x n : ℕ) → one (nat_le x (n + 1)) ≡ one (nat_le x n) + one (x == n + 1)
up_to_more x n = grind (arith, nat_tests)

-- ---- losses

-- those below the next number are those below this one, and those of this one
pub losses_more : (n : ℕ) (losses : List Scripted) → losses_below (n + 1) losses ≡ losses_below n losses + count_by (λ s. s.link == n) losses
losses_more n [] = refl
losses_more n (s ∷ losses) =
    let a = sum_by-cons (λ (s : Scripted). one (nat_lt s.link (n + 1))) s losses in
    let b = sum_by-cons (λ (s : Scripted). one (nat_lt s.link n)) s losses in
    let c = sum_by-cons (λ (s : Scripted). one (s.link == n)) s losses in
    omega (arith, a, b, c, below_more s.link n, losses_more n losses)

-- as many moments as there are losses of the number
pub moments_counted : (n : ℕ) (losses : List Scripted) → length (moments_in losses n) ≡ count_by (λ s. s.link == n) losses
moments_counted n losses = length-map (filter (λ (s : Scripted). s.link == n) losses) (λ (s : Scripted). s.moment) ∙ length-filter (λ (s : Scripted). s.link == n) losses

-- not more than all
pub losses_within : (n : ℕ) (losses : List Scripted) → losses_below n losses ≤ length losses
losses_within n losses = count_by-le-length (λ (s : Scripted). nat_lt s.link n) losses

-- ---- refusals

pub refused_more : (n : ℕ) (starts : List ℕ) → refused_up_to (n + 1) starts ≡ refused_up_to n starts + count_by (λ start. start == n + 1) starts
refused_more n [] = refl
refused_more n (x ∷ starts) =
    let a = sum_by-cons (λ (x : ℕ). one (nat_le x (n + 1))) x starts in
    let b = sum_by-cons (λ (x : ℕ). one (nat_le x n)) x starts in
    let c = sum_by-cons (λ (x : ℕ). one (x == n + 1)) x starts in
    omega (arith, a, b, c, up_to_more x n, refused_more n starts)

-- a refusal that is listed counts
pub listed_counts : (n : ℕ) (starts : List ℕ) → is_listed starts n ≡ true → 1 ≤ count_by (λ start. start == n) starts
listed_counts n [] listed = absurd (cc listed)
listed_counts n (x ∷ starts) listed = by_first (x == n) refl (λ rest. listed_counts n starts rest)
  where
    by_first : (b : Bool) → (x == n) ≡ b → (is_listed starts n ≡ true → 1 ≤ count_by (λ start. start == n) starts) → 1 ≤ count_by (λ start. start == n) (x ∷ starts)
    by_first true e later = let c = sum_by-cons (λ (x : ℕ). one (x == n)) x starts in let f : one (x == n) ≡ 1 = rw e refl in omega (arith, c, f)
    by_first false e later =
        let c = sum_by-cons (λ (x : ℕ). one (x == n)) x starts in
        let rest : is_listed starts n ≡ true = rw e at listed in
        omega (arith, c, later rest)

-- no fewer up to a later number
pub refused_later : (m : ℕ) (n : ℕ) (starts : List ℕ) → refused_up_to n starts ≤ refused_up_to (n + m) starts
refused_later zero n starts = let e : n + zero ≡ n = omega arith in rw e (omega arith)
refused_later (suc m) n starts = let e : n + suc m ≡ (n + m) + 1 = omega arith in rw e (omega (arith, refused_later m n starts, refused_more (n + m) starts))

pub refused_grows : (n m : ℕ) (starts : List ℕ) → n ≤ m → refused_up_to n starts ≤ refused_up_to m starts
refused_grows n m starts fits = let e : n + (m - n) ≡ m = omega (arith, fits) in rw (← e) (refused_later (m - n) n starts)

pub refused_within : (n : ℕ) (starts : List ℕ) → refused_up_to n starts ≤ length starts
refused_within n starts = count_by-le-length (λ (x : ℕ). nat_le x n) starts
