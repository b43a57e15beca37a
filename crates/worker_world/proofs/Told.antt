-- Readers that are told, and masters that stay due.
use Rattle.std.proofs.Common.{◌≡◌, ℕ, suc, ◌+◌, ◌<◌, ◌≢◌, ◌∙◌, Bool, true, false, List, [], ◌∷◌, length, get_or, set, refl, sym, ap, arith, inl, inr, take, drop, drop-cons, add-one, get_or-set_same, get_or-set_other}
use Rattle.std.specs.Prelude.{◌==◌, ◌||◌, slice_index, All}
use Rattle.std.proofs.lemmas.Bool.Decides.{eqb_tells}
use Rattle.std.proofs.lemmas.Bool.{eq-eqb}
use Rattle.std.proofs.lemmas.List.Folds.{list_any_at, list_any_more}
use Rattle.px_base.specs.Values.{is_listed}
use Rattle.px_base.proofs.Listed.{not_equal}
use Rattle.worker_world.specs.declared.due.Due.{Due}
use Rattle.reader_chains.specs.declared.readers.Readers.{Readers}
use Rattle.worker_world.specs.Due.{StaysDue, IsTold, AreTold}

pub stays_on : (one two three : Due) → StaysDue one two → StaysDue two three → StaysDue one three
stays_on one two three g h = record { size = h.size ∙ g.size; all = λ off. g.all (h.all off); kept = λ k not. g.kept k (h.kept k not) }

-- whoever isn't the first reader is after it
pub after_first : (reader k : ℕ) (left rest : List ℕ) → left ≡ reader ∷ rest → is_listed left k ≡ true → reader ≢ k → is_listed rest k ≡ true
after_first reader k left rest is listed apart = sym (ap (λ b. b || is_listed rest k) (not_equal reader k apart)) ∙ ap (λ list. is_listed list k) (sym is) ∙ listed

-- ---- one value more

-- a value put in, whose readers are told
pub told_more : (places : ℕ) (readers : Readers) (old new : Due) (before values : List ℕ) (s value : ℕ) → s < length values → AreTold places readers old before values → StaysDue old new →
    IsTold readers new s (slice_index values s) value → AreTold places readers new before (set values s value)
told_more places readers old new before values s value inside told stays this other below k reads not = elim (eqb_tells other s) [
  | inl (t, same) ↦ rw same (get_or-set_same values s value 0 inside ∙ this k (rw same at reads) not ∙ told s (rw same at below) k (rw same at reads) (stays.kept k not))
  | inr (t, apart) ↦ get_or-set_other values s other value 0 apart ∙ told other below k reads (stays.kept k not)
]

-- ---- masters that are listed

-- whoever stands in the rest of a list, and isn't its first item, stands after it
pub listed_after : (masters : List ℕ) (i k : ℕ) → i < length masters → is_listed (drop (i + 1) masters) k ≡ false → get_or masters i 0 ≢ k → is_listed (drop i masters) k ≡ false
listed_after masters i k inside none apart = rw (drop-cons masters i 0 inside) (ap (λ b. b || is_listed (drop (suc i) masters) k) (not_equal (get_or masters i 0) k apart) ∙ (rw add-one at none))

only_left : (b c : Bool) → c ≡ false → (b || c) ≡ true → b ≡ true
only_left true c none is = refl
only_left false c none is = cc

-- whoever stands in a list up to an item, and isn't that item, stands before it
pub listed_before : (masters : List ℕ) (i k : ℕ) → i < length masters → is_listed (take (i + 1) masters) k ≡ true → get_or masters i 0 ≢ k → is_listed (take i masters) k ≡ true
listed_before masters i k inside listed apart =
    only_left (is_listed (take i masters) k) (get_or masters i 0 == k) (not_equal (get_or masters i 0) k apart) (sym (list_any_more (λ x. x == k) masters i 0 inside) ∙ listed)

-- each item is listed
pub item_listed : (masters : List ℕ) (i : ℕ) → i < length masters → is_listed masters (get_or masters i 0) ≡ true
item_listed masters i inside = list_any_at (λ x. x == get_or masters i 0) masters i 0 inside (eq-eqb (get_or masters i 0) (get_or masters i 0) refl)

-- what no item is isn't listed
pub none_listed : (masters : List ℕ) (k : ℕ) → All (λ x. x < k) masters → is_listed masters k ≡ false
none_listed [] k below = refl
none_listed (x ∷ xs) k below =
    let other : (x == k) ≡ false = not_equal x k (λ e. absurd (omega (arith, below 0 0 (omega arith), e))) in
    rw other (none_listed xs k (λ i d inside. below (suc i) d (omega arith)))
