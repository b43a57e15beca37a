-- Known bytes that grow by one piece after another.
use Rattle.std.proofs.Common.{◌≡◌, ℕ, zero, suc, ◌<◌, List, [], ◌∷◌, ◌++◌, take, drop, length, flat_map, get_or, append_assoc, ◌∙◌, ap, sym, refl, inl, inr, arith}
use Rattle.std.specs.Prelude.{◌≢◌, Option, Some, None, Result, Ok, Err, OnErr, OnOk}
use Rattle.std.specs.Io.KnownBytes.{Appends}
use Rattle.std.proofs.lemmas.List.{take-append-le, take-append-drop, take_all}
use Rattle.px_io.specs.Causes.{Rose, AppendsPrefix}
use Rattle.px_io.specs.declared.ends.PutFault.{PutFault}
use Rattle.px_io.specs.declared.ends.PutFault.TheVariants as kind
use Rattle.command_ends.specs.Lines.{IsLineAdded}

pub on_any_err : {T E P : Type 0} (r : Result T E) → P → OnErr r P
on_any_err (Ok x) p = tt
on_any_err (Err e) p = p

-- what stands after the first pieces begins with the next piece
after_pieces : {X : Type 0} (f : X → List ℕ) (e : X) (xs : List X) (i : ℕ) → i < length xs →
    (rest : List ℕ) × (flat_map f xs ≡ flat_map f (take i xs) ++ (f (get_or xs i e) ++ rest))
after_pieces f e [] i inside = absurd (omega (arith, inside))
after_pieces f e (x ∷ xs) zero inside = (flat_map f xs, refl)
after_pieces f e (x ∷ xs) (suc i) inside =
    let more = after_pieces f e xs i (omega (arith, inside)) in
    (more.0, ap (λ t. f x ++ t) more.1 ∙ sym (append_assoc (f x) (flat_map f (take i xs)) (f (get_or xs i e) ++ more.0)))

front : (a b : List ℕ) → take (length a) (a ++ b) ≡ a
front a b = rw (take-append-le (length a) a b (omega arith)) (take_all (length a) a (omega arith))

pub prefix_of_all : {X : Type 0} (f : X → List ℕ) (e : X) (xs : List X) (i : ℕ) (a b c : Option (List ℕ)) → i < length xs →
    Appends a b (flat_map f (take i xs)) → AppendsPrefix b c (f (get_or xs i e)) → AppendsPrefix a c (flat_map f xs)
prefix_of_all f e xs i None b c inside h p = record { count = 0; appended = tt }
prefix_of_all f e xs i (Some old) None c inside h p = absurd h
prefix_of_all f e xs i (Some old) (Some now) None inside h p = absurd p.appended
prefix_of_all f e xs i (Some old) (Some now) (Some new) inside h p =
    let so_far = flat_map f (take i xs) in
    let piece = f (get_or xs i e) in
    let begun = so_far ++ take p.count piece in
    let after = after_pieces f e xs i inside in
    let all : flat_map f xs ≡ begun ++ (drop p.count piece ++ after.0) = after.1 ∙ rw (append_assoc so_far (take p.count piece) (drop p.count piece ++ after.0), ← (append_assoc (take p.count piece) (drop p.count piece) after.0), take-append-drop p.count piece) refl in
    record { count = length begun; appended = rw (all, front begun (drop p.count piece ++ after.0), p.appended, h, append_assoc) refl }

-- the line of one number
pub one_number : (before number after : List ℕ) → before ++ (number ++ (after ++ 10 ∷ [])) ≡ (before ++ (number ++ after)) ++ 10 ∷ []
one_number before number after = rw (append_assoc before (number ++ after) (10 ∷ []), append_assoc number after (10 ∷ [])) refl

-- the line of two numbers
pub two_numbers : (before first between last : List ℕ) → before ++ (first ++ (between ++ (last ++ 10 ∷ []))) ≡ (before ++ (first ++ (between ++ last))) ++ 10 ∷ []
two_numbers before first between last = rw (append_assoc before (first ++ (between ++ last)) (10 ∷ []), append_assoc first (between ++ last) (10 ∷ []), append_assoc between last (10 ∷ [])) refl

all_is_prefix : (line : List ℕ) (old new : Option (List ℕ)) → Appends old new line → AppendsPrefix old new line
all_is_prefix line old new all = record { count = length line; appended = rw (take_all (length line) line (omega arith)) all }

-- what the answer of a call that puts pieces says of the line
pub line_added : (line : List ℕ) (old new : Option (List ℕ)) (faults faults_now wants wants_now : ℕ) (result : Result (Unit {0}) PutFault) →
    OnOk result (Appends old new line) → OnErr result (AppendsPrefix old new line) →
    (result ≡ Err kind.Failed → Rose faults faults_now) → (result ≡ Err kind.Memory → Rose wants wants_now) →
    (result ≢ Err kind.Failed → faults_now ≡ faults) → (result ≢ Err kind.Memory → wants_now ≡ wants) →
    IsLineAdded line old new faults faults_now wants wants_now
line_added line old new faults faults_now wants wants_now (Ok x) ok err failed wanted quiet spared =
    record { partly = all_is_prefix line old new ok; whole = inl (ok, quiet (λ same. cc), spared (λ same. cc)) }
line_added line old new faults faults_now wants wants_now (Err kind.Failed) ok err failed wanted quiet spared =
    record { partly = err; whole = inr (inl (failed refl, spared (λ same. cc))) }
line_added line old new faults faults_now wants wants_now (Err kind.Memory) ok err failed wanted quiet spared =
    record { partly = err; whole = inr (inr (quiet (λ same. cc), wanted refl)) }
