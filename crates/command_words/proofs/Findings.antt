-- What the code has found so far. The facts on each option and each flag stand first; the others hold for all of them.
use Rattle.std.proofs.Common.{◌≡◌, ℕ, ◌+◌, Bool, true, false, List, [], ◌∷◌, length, refl, sym, ap, ◌∙◌, zero-add, arith}
use Rattle.std.specs.Prelude.{◌||◌, bytes_eq, Option, Some, None, is_some, if◌then◌else◌}
use Rattle.std.specs.List.{list_any}
use Rattle.std.proofs.Math.Bool.{or-false}
use Rattle.std.proofs.lemmas.Slice.Eq.{bytes_eq-Decides}
use Rattle.command_words.specs.declared.table.OptionName.{OptionName}
use Rattle.command_words.specs.declared.table.OptionName.TheVariants.{Workers}
use Rattle.command_words.specs.declared.table.FlagName.{FlagName}
use Rattle.command_words.specs.declared.table.FlagName.TheVariants.{Unweighted}
use Rattle.command_words.specs.declared.found.Found.{Found}
use Rattle.command_words.specs.declared.found.TheConstants.{NOTHING}
use Rattle.command_words.specs.CommandTable.{option_text, flag_text}
use Rattle.command_words.specs.CommandWords.{Item, option, flag, positional, positionals_of, number_given, is_given}
use Rattle.command_words.specs.Judging.{number_found, flag_found, number_put, flag_put, with_number, with_flag, found_in}

-- the first of the two numbers that is there
abbrev pub first_number : Option ℕ → Option ℕ → Option ℕ
first_number (Some n) later = Some n
first_number None later = later

-- what is found together with what these items give
abbrev pub after : Found → List Item → Found
after found items = record {
  workers = first_number found.workers (number_given Workers items);
  unweighted = found.unweighted || is_given Unweighted items;
  positionals = found.positionals + length (positionals_of items);
}

-- ---- of each option and flag: a new one has a clause here, and those with two of them end with one for all others

-- the findings with these parts
made : Option ℕ → Bool → ℕ → Found
made workers unweighted positionals = record { workers = workers; unweighted = unweighted; positionals = positionals }

made_of : (f : Found) → made f.workers f.unweighted f.positionals ≡ f
unfolding made
made_of f = refl

-- two findings are the same where all their parts are
same_found : (f g : Found) → ((o : OptionName) → number_found f o ≡ number_found g o) → ((x : FlagName) → flag_found f x ≡ flag_found g x) → f.positionals ≡ g.positionals → f ≡ g
same_found f g numbers flags positionals =
    let workers : f.workers ≡ g.workers = numbers Workers in
    let unweighted : f.unweighted ≡ g.unweighted = flags Unweighted in
    let parts : made f.workers f.unweighted f.positionals ≡ made g.workers g.unweighted g.positionals = cc in
    sym (made_of f) ∙ parts ∙ made_of g

number_after : (found : Found) (items : List Item) (o : OptionName) → number_found (after found items) o ≡ first_number (number_found found o) (number_given o items)
number_after found items Workers = refl

flag_after : (found : Found) (items : List Item) (f : FlagName) → flag_found (after found items) f ≡ (flag_found found f || is_given f items)
flag_after found items Unweighted = refl

-- the option that is put, and the others
number_after_number : (found : Found) (o : OptionName) (n : ℕ) (p : OptionName) →
    number_found (number_put found o n) p ≡ (if bytes_eq (option_text o) (option_text p) then Some n else number_found found p)
number_after_number found Workers n Workers = refl

flag_after_number : (found : Found) (o : OptionName) (n : ℕ) (f : FlagName) → flag_found (number_put found o n) f ≡ flag_found found f
flag_after_number found Workers n Unweighted = refl

positionals_after_number : (found : Found) (o : OptionName) (n : ℕ) → (number_put found o n).positionals ≡ found.positionals
positionals_after_number found Workers n = refl

-- the flag that is put, and the others
number_after_flag : (found : Found) (f : FlagName) (o : OptionName) → number_found (flag_put found f) o ≡ number_found found o
number_after_flag found Unweighted Workers = refl

flag_after_flag : (found : Found) (f g : FlagName) → flag_found (flag_put found f) g ≡ (if bytes_eq (flag_text f) (flag_text g) then true else flag_found found g)
flag_after_flag found Unweighted Unweighted = refl

positionals_after_flag : (found : Found) (f : FlagName) → (flag_put found f).positionals ≡ found.positionals
positionals_after_flag found Unweighted = refl

-- another count of positionals
number_after_word : (found : Found) (k : ℕ) (o : OptionName) → number_found (record found { positionals = k }) o ≡ number_found found o
number_after_word found k Workers = refl

flag_after_word : (found : Found) (k : ℕ) (f : FlagName) → flag_found (record found { positionals = k }) f ≡ flag_found found f
flag_after_word found k Unweighted = refl

-- no option is a flag
apart : (o : OptionName) (f : FlagName) → bytes_eq (option_text o) (flag_text f) ≡ false
apart Workers Unweighted = refl

other : (f : FlagName) (o : OptionName) → bytes_eq (flag_text f) (option_text o) ≡ false
other Unweighted Workers = refl

no_number_yet : (o : OptionName) → number_found NOTHING o ≡ None
no_number_yet Workers = refl

no_flag_yet : (f : FlagName) → flag_found NOTHING f ≡ false
no_flag_yet Unweighted = refl

given_numbers : (items : List Item) (o : OptionName) → number_found (found_in items) o ≡ number_given o items
given_numbers items Workers = refl

given_flags : (items : List Item) (f : FlagName) → flag_found (found_in items) f ≡ is_given f items
given_flags items Unweighted = refl

-- ---- the names that stood before

-- these names stood before, as far as the code has found them
pub record AreNamesOf (before : List (List ℕ)) (found : Found) : Type 0 where
  pub numbers : (o : OptionName) → list_any (λ earlier. bytes_eq earlier (option_text o)) before ≡ is_some (number_found found o)
  pub flags : (f : FlagName) → list_any (λ earlier. bytes_eq earlier (flag_text f)) before ≡ flag_found found f

or_some : (b : Bool) (n : ℕ) (x : Option ℕ) → (b || is_some x) ≡ is_some (if b then Some n else x)
or_some true n x = refl
or_some false n x = refl

or_true : (b x : Bool) → (b || x) ≡ (if b then true else x)
or_true true x = refl
or_true false x = refl

names_with_number : (before : List (List ℕ)) (found : Found) (o : OptionName) (n : ℕ) → AreNamesOf before found → AreNamesOf (option_text o ∷ before) (number_put found o n)
names_with_number before found o n names = record {
  numbers = λ p. ap (λ t. bytes_eq (option_text o) (option_text p) || t) (names.numbers p) ∙ or_some (bytes_eq (option_text o) (option_text p)) n (number_found found p) ∙ sym (ap is_some (number_after_number found o n p));
  flags = λ f. ap (λ t. t || list_any (λ earlier. bytes_eq earlier (flag_text f)) before) (apart o f) ∙ names.flags f ∙ sym (flag_after_number found o n f);
}

names_with_flag : (before : List (List ℕ)) (found : Found) (f : FlagName) → AreNamesOf before found → AreNamesOf (flag_text f ∷ before) (flag_put found f)
names_with_flag before found f names = record {
  numbers = λ o. ap (λ t. t || list_any (λ earlier. bytes_eq earlier (option_text o)) before) (other f o) ∙ names.numbers o ∙ sym (ap is_some (number_after_flag found f o));
  flags = λ g. ap (λ t. bytes_eq (flag_text f) (flag_text g) || t) (names.flags g) ∙ or_true (bytes_eq (flag_text f) (flag_text g)) (flag_found found g) ∙ sym (flag_after_flag found f g);
}

pub names_stay : (before : List (List ℕ)) (found : Found) (k : ℕ) → AreNamesOf before found → AreNamesOf before (record found { positionals = k })
names_stay before found k names = record {
  numbers = λ o. names.numbers o ∙ sym (ap is_some (number_after_word found k o));
  flags = λ f. names.flags f ∙ sym (flag_after_word found k f);
}

pub no_names : AreNamesOf [] NOTHING
no_names = record { numbers = λ o. sym (ap is_some (no_number_yet o)); flags = λ f. sym (no_flag_yet f) }

-- ---- items more

no_number : (o : Option ℕ) → is_some o ≡ false → o ≡ None
no_number None e = refl
no_number (Some n) e = cc

-- an option that isn't found yet comes to the same as an item more
number_more : (b : Bool) (n : ℕ) (x later : Option ℕ) → (b ≡ true → x ≡ None) → first_number (if b then Some n else x) later ≡ first_number x (if b then Some n else later)
number_more true n x later absent = sym (ap (λ t. first_number t (Some n)) (absent refl))
number_more false n x later absent = refl

flag_more : (b x later : Bool) → ((if b then true else x) || later) ≡ (x || (if b then true else later))
flag_more true true later = refl
flag_more true false later = refl
flag_more false x later = refl

after_number : (before : List (List ℕ)) (found : Found) (o : OptionName) (n : ℕ) (items : List Item) → AreNamesOf before found → is_some (number_found found o) ≡ false →
    after (number_put found o n) items ≡ after found (option o n ∷ items)
after_number before found o n items names new = same_found (after (number_put found o n) items) (after found (option o n ∷ items))
    (λ p. number_after (number_put found o n) items p ∙ ap (λ t. first_number t (number_given p items)) (number_after_number found o n p)
    ∙ number_more (bytes_eq (option_text o) (option_text p)) n (number_found found p) (number_given p items) (absent p) ∙ sym (number_after found (option o n ∷ items) p))
    (λ f. flag_after (number_put found o n) items f ∙ ap (λ t. t || is_given f items) (flag_after_number found o n f) ∙ sym (flag_after found (option o n ∷ items) f))
    (ap (λ k. k + length (positionals_of items)) (positionals_after_number found o n))
  where
    absent : (p : OptionName) → bytes_eq (option_text o) (option_text p) ≡ true → number_found found p ≡ None
    absent p e =
        let same : option_text o ≡ option_text p = (bytes_eq-Decides (option_text o) (option_text p)).0 e in
        no_number (number_found found p) (sym (names.numbers p) ∙ ap (λ text. list_any (λ earlier. bytes_eq earlier text) before) (sym same) ∙ names.numbers o ∙ new)

after_flag : (found : Found) (f : FlagName) (items : List Item) → after (flag_put found f) items ≡ after found (flag f ∷ items)
after_flag found f items = same_found (after (flag_put found f) items) (after found (flag f ∷ items))
    (λ o. number_after (flag_put found f) items o ∙ ap (λ t. first_number t (number_given o items)) (number_after_flag found f o) ∙ sym (number_after found (flag f ∷ items) o))
    (λ g. flag_after (flag_put found f) items g ∙ ap (λ t. t || is_given g items) (flag_after_flag found f g)
    ∙ flag_more (bytes_eq (flag_text f) (flag_text g)) (flag_found found g) (is_given g items) ∙ sym (flag_after found (flag f ∷ items) g))
    (ap (λ k. k + length (positionals_of items)) (positionals_after_flag found f))

-- what is found once an option or a flag with this name is taken, which wasn't there before
pub record Taken (before : List (List ℕ)) (found : Found) (taken : Option Found) (item : Item) (name : List ℕ) : Type 0 where
  pub next : Found
  pub is : taken ≡ Some next
  pub same : next.positionals ≡ found.positionals
  pub given : (items : List Item) → after next items ≡ after found (item ∷ items)
  pub names : AreNamesOf (name ∷ before) next

pub number_again : (found : Found) (o : OptionName) (n : ℕ) → is_some (number_found found o) ≡ true → with_number found o n ≡ None
number_again found o n e = ap (λ b. if b then None else Some (number_put found o n)) e

pub number_new : (before : List (List ℕ)) (found : Found) (o : OptionName) (n : ℕ) → AreNamesOf before found → is_some (number_found found o) ≡ false →
    Taken before found (with_number found o n) (option o n) (option_text o)
number_new before found o n names e = record {
  next = number_put found o n;
  is = ap (λ b. if b then None else Some (number_put found o n)) e;
  same = positionals_after_number found o n;
  given = λ items. after_number before found o n items names e;
  names = names_with_number before found o n names;
}

pub flag_again : (found : Found) (f : FlagName) → flag_found found f ≡ true → with_flag found f ≡ None
flag_again found f e = ap (λ b. if b then None else Some (flag_put found f)) e

pub flag_new : (before : List (List ℕ)) (found : Found) (f : FlagName) → AreNamesOf before found → flag_found found f ≡ false →
    Taken before found (with_flag found f) (flag f) (flag_text f)
flag_new before found f names e = record {
  next = flag_put found f;
  is = ap (λ b. if b then None else Some (flag_put found f)) e;
  same = positionals_after_flag found f;
  given = λ items. after_flag found f items;
  names = names_with_flag before found f names;
}

-- ---- no items, and all items

first_none : (o : Option ℕ) → first_number o None ≡ o
first_none None = refl
first_none (Some n) = refl

pub nothing_more : (found : Found) → after found [] ≡ found
nothing_more found = same_found (after found []) found
    (λ o. number_after found [] o ∙ first_none (number_found found o))
    (λ f. flag_after found [] f ∙ or-false (flag_found found f))
    (omega arith)

pub a_word_more : (found : Found) (word : List ℕ) (items : List Item) → after (record found { positionals = found.positionals + 1 }) items ≡ after found (positional word ∷ items)
a_word_more found word items =
    let next : Found = record found { positionals = found.positionals + 1 } in
    same_found (after next items) (after found (positional word ∷ items))
    (λ o. number_after next items o ∙ ap (λ t. first_number t (number_given o items)) (number_after_word found (found.positionals + 1) o) ∙ sym (number_after found (positional word ∷ items) o))
    (λ f. flag_after next items f ∙ ap (λ t. t || is_given f items) (flag_after_word found (found.positionals + 1) f) ∙ sym (flag_after found (positional word ∷ items) f))
    (omega arith)

pub from_start : (items : List Item) → after NOTHING items ≡ found_in items
from_start items = same_found (after NOTHING items) (found_in items)
    (λ o. number_after NOTHING items o ∙ ap (λ t. first_number t (number_given o items)) (no_number_yet o) ∙ sym (given_numbers items o))
    (λ f. flag_after NOTHING items f ∙ ap (λ t. t || is_given f items) (no_flag_yet f) ∙ sym (given_flags items f))
    (zero-add (length (positionals_of items)))
