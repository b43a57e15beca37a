-- The digits of a number, one after the other.
use Rattle.std.proofs.Common.{[], ◌≡◌, ℕ, ◌+◌, ◌-◌, ◌*◌, ◌<◌, ◌≤◌, ◌^◌, Bool, true, false, cond, List, ◌∷◌, ◌++◌, length, take, drop, refl, sym, ap, ◌∙◌, arith, get_or}
use Rattle.std.specs.Prelude.{◌==◌, ◌≢◌, Option, Some, None, nat_lt}
use Rattle.std.specs.Char.{is_ascii_digit}
use Rattle.std.specs.List.{fold, AllByRecursion}
use Rattle.std.proofs.lemmas.Bool.Decides.{nat_tests}
use Rattle.std.proofs.lemmas.List.{take_more, get_or-drop, length-drop}
use Rattle.px_base.specs.Lines.{is_blank}
use Rattle.edge_reader.specs.declared.scan.Scan.{Scan}
use Rattle.edge_reader.specs.declared.scan.Stage.{Stage}
use Rattle.edge_reader.specs.declared.scan.Stage.TheVariants.{Source, Target, Weight}
use Rattle.edge_reader.specs.Scans.{with_digit, with_digits, on_some, in_field, in_source, in_target, in_weight, next_byte, TakesDigits, bytes_between}

no_return : (b : ℕ) → is_ascii_digit b ≡ true → (b == 13) ≡ false
no_return b h = grind (arith, nat_tests)

no_blank : (b : ℕ) → is_ascii_digit b ≡ true → is_blank b ≡ false
no_blank b h = grind (arith, nat_tests)

no_newline : (b : ℕ) → is_ascii_digit b ≡ true → b ≢ 10
no_newline b h = λ e. grind (arith, nat_tests)

digit_is_next : (w : Bool) (s : Scan) (b : ℕ) → s.held ≡ false → is_ascii_digit b ≡ true → next_byte w s b ≡ in_field w s.stage s b
digit_is_next w s b free digit = rw (no_return b digit, free, no_blank b digit) refl

is_digit_by : (n b m : ℕ) (t : Bool) → is_ascii_digit b ≡ t → cond t (cond (nat_lt (n * 10 + (b - 48)) (2 ^ 32)) (Some (n * 10 + (b - 48))) None) None ≡ Some m → t ≡ true
is_digit_by n b m true e h = refl
is_digit_by n b m false e h = cc

-- a byte that goes on with a number is a digit
goes_on : (n b m : ℕ) → with_digit n b ≡ Some m → is_ascii_digit b ≡ true
goes_on n b m h = is_digit_by n b m (is_ascii_digit b) refl h

-- ---- digits in each field

-- the scan with the number of its field
record Field (stage : Stage) (put : ℕ → Scan → Scan) : Type 0 where
  held : (n : ℕ) (s : Scan) → (put n s).held ≡ false
  one : (w : Bool) (n b m : ℕ) (s : Scan) → with_digit n b ≡ Some m → in_field w (put n s).stage (put n s) b ≡ put m s

one_more : (stage : Stage) (put : ℕ → Scan → Scan) → Field stage put → (w : Bool) (n b m : ℕ) (s : Scan) → with_digit n b ≡ Some m → next_byte w (put n s) b ≡ put m s
one_more stage put f w n b m s h = digit_is_next w (put n s) b (f.held n s) (goes_on n b m h) ∙ f.one w n b m s h

taken_at : (stage : Stage) (put : ℕ → Scan → Scan) → Field stage put → (w : Bool) (n b : ℕ) (bs : List ℕ) (m : ℕ) (s : Scan) (o : Option ℕ) → with_digit n b ≡ o → on_some o (λ k. with_digits k bs) ≡ Some m →
    ((k : ℕ) → with_digits k bs ≡ Some m → fold (next_byte w) (put k s) bs ≡ put m s) → fold (next_byte w) (put n s) (b ∷ bs) ≡ put m s
taken_at stage put f w n b bs m s None e h rest = cc
taken_at stage put f w n b bs m s (Some k) e h rest = ap (λ t. fold (next_byte w) t bs) (one_more stage put f w n b k s e) ∙ rest k h

taken : (stage : Stage) (put : ℕ → Scan → Scan) → Field stage put → (w : Bool) (bs : List ℕ) (n m : ℕ) (s : Scan) → with_digits n bs ≡ Some m → fold (next_byte w) (put n s) bs ≡ put m s
taken stage put f w [] n m s h = let same : n ≡ m = cc in ap (λ k. put k s) same
taken stage put f w (b ∷ bs) n m s h = taken_at stage put f w n b bs m s (with_digit n b) refl h (λ k more. taken stage put f w bs k m s more)

none_ends_at : (n b : ℕ) (bs : List ℕ) (m : ℕ) (o : Option ℕ) → with_digit n b ≡ o → on_some o (λ k. with_digits k bs) ≡ Some m → ((k : ℕ) → with_digits k bs ≡ Some m → AllByRecursion (λ x. x ≢ 10) bs) → AllByRecursion (λ x. x ≢ 10) (b ∷ bs)
none_ends_at n b bs m None e h rest = cc
none_ends_at n b bs m (Some k) e h rest = (no_newline b (goes_on n b k e), rest k h)

none_ends : (bs : List ℕ) (n m : ℕ) → with_digits n bs ≡ Some m → AllByRecursion (λ x. x ≢ 10) bs
none_ends [] n m h = tt
none_ends (b ∷ bs) n m h = none_ends_at n b bs m (with_digit n b) refl h (λ k more. none_ends bs k m more)

abbrev source_put : ℕ → Scan → Scan
source_put n s = record s { stage = Source; held = false; source = n }

abbrev target_put : ℕ → Scan → Scan
target_put n s = record s { stage = Target; held = false; target = n }

abbrev weight_put : ℕ → Scan → Scan
weight_put n s = record s { stage = Weight; held = false; weight = n }

source_field : Field Source source_put
source_field = record { held = λ n s. refl; one = λ w n b m s h. rw (h, in_source) refl }

target_field : Field Target target_put
target_field = record { held = λ n s. refl; one = λ w n b m s h. rw (h, in_target) refl }

weight_field : Field Weight weight_put
weight_field = record { held = λ n s. refl; one = λ w n b m s h. rw (h, in_weight) refl }

abbrev record_at : Stage → Scan → Scan
record_at stage s = record s { stage = stage; held = false }

abbrev record_held : Bool → Scan → Scan
record_held h s = record s { held = h }

back : (s : Scan) (stage : Stage) → s.held ≡ false → s.stage ≡ stage → record_at stage s ≡ s
back s stage free at = ap (λ t. record_at t s) (sym at) ∙ ap (λ h. record_held h s) (sym free)

pub source_takes : (s : Scan) (bytes : List ℕ) (m : ℕ) → s.held ≡ false → s.stage ≡ Source → with_digits s.source bytes ≡ Some m → TakesDigits s (record s { source = m }) bytes
source_takes s bytes m free at h =
    let old : source_put s.source s ≡ s = back s Source free at in
    let new : source_put m s ≡ record s { source = m } = back (record s { source = m }) Source free at in
    record { taken = λ w. sym new ∙ sym (taken Source source_put source_field w bytes s.source m s h) ∙ ap (λ t. fold (next_byte w) t bytes) old; inside = none_ends bytes s.source m h }

pub target_takes : (s : Scan) (bytes : List ℕ) (m : ℕ) → s.held ≡ false → s.stage ≡ Target → with_digits s.target bytes ≡ Some m → TakesDigits s (record s { target = m }) bytes
target_takes s bytes m free at h =
    let old : target_put s.target s ≡ s = back s Target free at in
    let new : target_put m s ≡ record s { target = m } = back (record s { target = m }) Target free at in
    record { taken = λ w. sym new ∙ sym (taken Target target_put target_field w bytes s.target m s h) ∙ ap (λ t. fold (next_byte w) t bytes) old; inside = none_ends bytes s.target m h }

pub weight_takes : (s : Scan) (bytes : List ℕ) (m : ℕ) → s.held ≡ false → s.stage ≡ Weight → with_digits s.weight bytes ≡ Some m → TakesDigits s (record s { weight = m }) bytes
weight_takes s bytes m free at h =
    let old : weight_put s.weight s ≡ s = back s Weight free at in
    let new : weight_put m s ≡ record s { weight = m } = back (record s { weight = m }) Weight free at in
    record { taken = λ w. sym new ∙ sym (taken Weight weight_put weight_field w bytes s.weight m s h) ∙ ap (λ t. fold (next_byte w) t bytes) old; inside = none_ends bytes s.weight m h }

-- ---- the run of digits

digits_push_at : (n b : ℕ) (bs : List ℕ) (c m : ℕ) (o : Option ℕ) → with_digit n b ≡ o → on_some o (λ k. with_digits k bs) ≡ Some m → (k : ℕ) → with_digit m c ≡ Some k →
    ((j : ℕ) → with_digits j bs ≡ Some m → with_digits j (bs ++ c ∷ []) ≡ Some k) → on_some o (λ j. with_digits j (bs ++ c ∷ [])) ≡ Some k
digits_push_at n b bs c m None e h k more rest = cc
digits_push_at n b bs c m (Some j) e h k more rest = rest j h

digits_push : (bs : List ℕ) (n c m k : ℕ) → with_digits n bs ≡ Some m → with_digit m c ≡ Some k → with_digits n (bs ++ c ∷ []) ≡ Some k
digits_push [] n c m k h more = let same : n ≡ m = cc in ap (λ x. on_some (with_digit x c) (λ j. Some j)) same ∙ ap (λ o. on_some o (λ j. Some j)) more
digits_push (b ∷ bs) n c m k h more = digits_push_at n b bs c m (with_digit n b) refl h k more (λ j rest. digits_push bs j c m k rest more)

pub run_more : (n : ℕ) (piece : List ℕ) (from end m k : ℕ) → from ≤ end → end < length piece → with_digits n (bytes_between piece from end) ≡ Some m → with_digit m (get_or piece end 0) ≡ Some k →
    with_digits n (bytes_between piece from (end + 1)) ≡ Some k
run_more n piece from end m k after below h more =
    let count : end + 1 - from ≡ end - from + 1 = omega arith in
    let sum : from + (end - from) ≡ end = omega arith in
    let inside : end - from < length (drop from piece) = omega (arith, length-drop from piece) in
    let last : get_or (drop from piece) (end - from) 0 ≡ get_or piece end 0 = get_or-drop from piece (end - from) 0 ∙ ap (λ q. get_or piece q 0) sum in
    let grown : bytes_between piece from (end + 1) ≡ bytes_between piece from end ++ get_or piece end 0 ∷ [] =
    ap (λ q. take q (drop from piece)) count ∙ take_more (drop from piece) (end - from) 0 inside ∙ ap (λ q. bytes_between piece from end ++ q ∷ []) last in
    ap (with_digits n) grown ∙ digits_push (bytes_between piece from end) n (get_or piece end 0) m k h more
