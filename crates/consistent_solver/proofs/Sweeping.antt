-- What sweeps in place keep, and what they have found once nothing changes.
use Rattle.std.proofs.Common.{◌≡◌, ℕ, ◌+◌, ◌<◌, ◌≤◌, ◌≢◌, ◌∙◌, min, Bool, true, false, List, [], ◌∷◌, length, get_or, set, refl, ap, arith, inl, inr, get_or-set_other, get_or-set_same}
use Rattle.std.specs.Prelude.{◌⊎◌, All, Contains, slice_index, Ok}
use Rattle.std.proofs.lemmas.List.{length-set, get_or-map, length-map, get_or_past}
use Rattle.std.proofs.lemmas.List.Elements.{All-contains, All-from_recursion, All-map, All-set, Contains-get_or, recursion_from_All}
use Rattle.std.proofs.lemmas.Bool.{cases_lt, cases_eq}
use Rattle.px_base.specs.declared.graph.Read.{Read}
use Rattle.px_base.specs.declared.program.Program.{Program}
use Rattle.px_base.specs.declared.program.CoreProgram.{CoreProgram}
use Rattle.px_base.specs.declared.program.Class.TheVariants.{LocallyCorrecting}
use Rattle.px_base.specs.Values.{IsValue, IsValueList, IsWeight}
use Rattle.px_base.specs.Graphs.{RowsFit, row_at}
use Rattle.px_base.specs.Classes.{class_of, is_mex}
use Rattle.px_base.specs.Core.{core_edge_value, core_form}
use Rattle.px_base.specs.Answers.{IsGreatestConsistent}
use Rattle.px_base.specs.Rules.{least}
use Rattle.px_base.proofs.Gathers.{below_least, least_below_each, least_below_start}
use Rattle.consistent_solver.specs.CoreLists.{IsBelow, IsCoreConsistent, IsGreatestCoreConsistent, gathered_at}
use Rattle.consistent_solver.specs.Sweeps.{AreTold, IsLowered, IsMarked, IsSettled, IsSwept, TellsNothing, core_edge_values, lowered_at}
use Rattle.consistent_solver.proofs.Below.{least_gathered, gathered_grows, below_starts}
use Rattle.consistent_solver.proofs.Turning.{greatest_from, no_mex, turned}

-- a row with a read is one of the rows
pub read_inside : (rows : List (List Read)) (u : ℕ) (r : Read) → Contains (row_at rows u) r → u < length rows
read_inside rows u r found = elim (cases_lt u (length rows)) [
  | inl low ↦ low
  | inr past ↦ absurd (omega (arith, found.1, ap length (get_or_past rows u [] past)))
]

-- what is at most the least from one start, and at most another start, is at most the least from that
least_from : (a s t : ℕ) (items : List ℕ) → a ≤ t → a ≤ least s items → a ≤ least t items
least_from a s t [] low below = low
least_from a s t (x ∷ xs) low below = least_from a (min s x) (min t x) xs (omega (arith, low, below, least_below_start (min s x) xs)) below

gathered_is : (core : CoreProgram) (rows : List (List Read)) (starts x : List ℕ) (v : ℕ) → is_mex core.program.fold ≡ false →
    gathered_at core rows starts x v ≡ least (slice_index starts v) (core_edge_values core x (row_at rows v))
gathered_is core rows starts x v plain = least_gathered core (slice_index x) (slice_index starts v) (row_at rows v) plain

-- a consistent list is at most what a vertex is lowered to
below_lowered : (core : CoreProgram) (rows : List (List Read)) (starts y x : List ℕ) (v : ℕ) → is_mex core.program.fold ≡ false →
    IsCoreConsistent core rows starts y → IsValueList (length rows) x → IsBelow (length rows) y x → v < length rows → slice_index y v ≤ lowered_at core rows x v
below_lowered core rows starts y x v plain c values below inside =
    least_from (slice_index y v) (slice_index starts v) (slice_index x v) (core_edge_values core x (row_at rows v)) (below v inside)
    (let gathered : slice_index y v ≤ gathered_at core rows starts x v = omega (arith, c.each v inside, gathered_grows core rows starts y x v plain c.values.one_each values below) in
    rw (gathered_is core rows starts x v plain) at gathered)

-- ---- one write

written : (n : ℕ) (P : ℕ → ℕ → Type 0) (x : List ℕ) (v next : ℕ) → length x ≡ n → ((u : ℕ) → u < n → P u (slice_index x u)) → P v next → (u : ℕ) → u < n → P u (slice_index (set x v next) u)
written n P x v next sized old new u inside = elim (cases_lt u v) [
  | inl low ↦ (let other : u ≢ v = omega arith in rw (get_or-set_other x v u next 0 other) (old u inside))
  | inr high ↦ elim (cases_lt v u) [
    | inl above ↦ (let other : u ≢ v = omega arith in rw (get_or-set_other x v u next 0 other) (old u inside))
    | inr here ↦ (let same : u ≡ v = omega arith in let within : v < length x = omega (arith, inside, sized) in rw (same, get_or-set_same x v next 0 within) new)
  ]
]

-- ---- what is read

-- what a vertex is lowered to is at most each edge value of its row
lowered_below : (core : CoreProgram) (x : List ℕ) (own : ℕ) (row : List Read) (r : Read) → Contains row r →
    least own (core_edge_values core x row) ≤ core_edge_value core (slice_index x r.source) r.weight
lowered_below core x own row r found =
    let value_of : Read → ℕ = λ read. core_edge_value core (slice_index x read.source) read.weight in
    let items : List ℕ = core_edge_values core x row in
    let within : found.0 < length row = found.1 in
    let at : get_or items found.0 (value_of r) ≡ value_of r = get_or-map value_of row found.0 r (value_of r) within ∙ ap value_of found.2 in
    let each : All (λ item. least own items ≤ item) items = All-from_recursion (λ item. least own items ≤ item) items (least_below_each own items) in
    rw at at (each found.0 (value_of r) (omega (arith, within, length-map row value_of)))

-- so a list that is consistent, and is at most x, is at most each edge value of x
pub below_read : (core : CoreProgram) (rows : List (List Read)) (starts y x : List ℕ) (u : ℕ) (r : Read) → is_mex core.program.fold ≡ false →
    IsCoreConsistent core rows starts y → IsValueList (length rows) x → IsBelow (length rows) y x → u < length rows → Contains (row_at rows u) r →
    slice_index y u ≤ core_edge_value core (slice_index x r.source) r.weight
below_read core rows starts y x u r plain c values below inside found =
    omega (arith, below_lowered core rows starts y x u plain c values below inside, lowered_below core x (slice_index x u) (row_at rows u) r found)

-- ---- sweeps

pub lowered_more : (core : CoreProgram) (rows : List (List Read)) (x y z : List ℕ) → IsLowered core rows x y → IsLowered core rows y z → IsLowered core rows x z
lowered_more core rows x y z h k = record {
  values = k.values;
  lower = λ v inside. omega (arith, h.lower v inside, k.lower v inside);
  above = λ starts w c below. k.above starts w c (h.above starts w c below);
}

pub lowered_none : (core : CoreProgram) (rows : List (List Read)) (x : List ℕ) → IsValueList (length rows) x → IsLowered core rows x x
lowered_none core rows x values = record { values = values; lower = λ v inside. omega arith; above = λ starts y c below. below }

-- nothing is swept yet
pub none_swept : (core : CoreProgram) (rows : List (List Read)) (x : List ℕ) (marks : List Bool) → IsValueList (length rows) x → length marks ≡ length rows → IsSwept core rows 0 x x marks false
none_swept core rows x marks values sized = record {
  lowered = lowered_none core rows x values;
  one_each = sized;
  told = λ u r low found. absurd (omega arith);
  none = λ h v low. absurd (omega arith);
}

-- before the first sweep, where each has heard of those that aren't marked
pub before_sweeps : (core : CoreProgram) (rows : List (List Read)) (x : List ℕ) (marks : List Bool) → RowsFit (length rows) rows → IsValueList (length rows) x → length marks ≡ length rows → AreTold core rows marks x →
    IsSwept core rows (length rows) x x marks true
before_sweeps core rows x marks fit values sized are = record {
  lowered = lowered_none core rows x values;
  one_each = sized;
  told = λ u r low found. elim (are.each u r found) [
    | inl marked ↦ inl (All-contains (λ read. read.source < length rows) (row_at rows u) r (fit.sources u [] low) found, marked)
    | inr heard ↦ inr heard
  ];
  none = λ h v low. absurd (let no : true ≡ false = h in cc);
}

-- in the beginning, where each that isn't marked tells nothing
pub told_nothing : (core : CoreProgram) (rows : List (List Read)) (x : List ℕ) (marks : List Bool) → RowsFit (length rows) rows → IsValueList (length rows) x →
    ((v : ℕ) → v < length rows → IsMarked marks v ⊎ TellsNothing core (slice_index x v)) → AreTold core rows marks x
told_nothing core rows x marks fit values others = record {
  each = λ u r found.
      let inside : u < length rows = read_inside rows u r found in
      let source : r.source < length rows = All-contains (λ read. read.source < length rows) (row_at rows u) r (fit.sources u [] inside) found in
      let weight : IsWeight r.weight = All-contains (λ read. IsWeight read.weight) (row_at rows u) r (fit.weights u [] inside) found in
      let value : IsValue (slice_index x u) = values.in_range u 0 (omega (arith, inside, values.one_each)) in
      elim (others r.source source) [
        | inl marked ↦ inl marked
        | inr nothing ↦ inr (omega (arith, nothing r.weight weight, value))
      ];
}

-- one sweep after others
pub swept_again : (core : CoreProgram) (rows : List (List Read)) (x y z : List ℕ) (marks : List Bool) (changed : Bool) → IsLowered core rows x y →
    IsSwept core rows (length rows) y z marks changed → IsSwept core rows (length rows) x z marks changed
swept_again core rows x y z marks changed h s = record { lowered = lowered_more core rows x y z h s.lowered; one_each = s.one_each; told = s.told; none = s.none }

-- the next vertex falls
pub swept_lower : (core : CoreProgram) (rows : List (List Read)) (v : ℕ) (before now : List ℕ) (marks : List Bool) (changed : Bool) (next : ℕ) → is_mex core.program.fold ≡ false → v < length rows →
    IsSwept core rows v before now marks changed → next ≡ lowered_at core rows now v → next < slice_index now v → IsSwept core rows (v + 1) before (set now v next) (set marks v true) true
swept_lower core rows v before now marks changed next plain inside s is less =
    let l : IsLowered core rows before now = s.lowered in
    let within : v < length now = omega (arith, inside, l.values.one_each) in
    let marked : v < length marks = omega (arith, inside, s.one_each) in
    let value : IsValue next = omega (arith, less, l.values.in_range v 0 within) in
    record {
      lowered = record {
        values = record { one_each = length-set now v next ∙ l.values.one_each; in_range = All-set IsValue now v next value l.values.in_range };
        lower = written (length rows) (λ u value. value ≤ slice_index before u) now v next l.values.one_each l.lower (omega (arith, less, l.lower v inside));
        above = λ starts y c below.
            written (length rows) (λ u value. slice_index y u ≤ value) now v next l.values.one_each (l.above starts y c below)
            (rw is (below_lowered core rows starts y now v plain c l.values (l.above starts y c below) inside));
      };
      one_each = length-set marks v true ∙ s.one_each;
      told = λ u r low found. elim (cases_eq r.source v) [
        | inl here ↦ inl (omega (arith, here), rw here (get_or-set_same marks v true false marked))
        | inr other ↦ elim (cases_lt u v) [
          | inl old ↦ elim (s.told u r old found) [
            | inl known ↦ inl (omega (arith, known.0), rw (get_or-set_other marks v r.source true false other) known.1)
            | inr heard ↦ (let apart : u ≢ v = omega arith in inr (rw (get_or-set_other now v u next 0 apart, get_or-set_other now v r.source next 0 other) heard))
          ]
          | inr new ↦
              (let same : u ≡ v = omega arith in
              let read : Contains (row_at rows v) r = rw same at found in
              let heard : next ≤ core_edge_value core (slice_index now r.source) r.weight = omega (arith, is, lowered_below core now (slice_index now v) (row_at rows v) r read) in
              inr (rw (same, get_or-set_same now v next 0 within, get_or-set_other now v r.source next 0 other) heard))
        ]
      ];
      none = λ h. absurd (let no : true ≡ false = h in cc);
    }

-- the next vertex stays
pub swept_still : (core : CoreProgram) (rows : List (List Read)) (v : ℕ) (before now : List ℕ) (marks : List Bool) (changed : Bool) (next : ℕ) → v < length rows →
    IsSwept core rows v before now marks changed → next ≡ lowered_at core rows now v → slice_index now v ≤ next → IsSwept core rows (v + 1) before now (set marks v false) changed
swept_still core rows v before now marks changed next inside s is high = record {
  lowered = s.lowered;
  one_each = length-set marks v false ∙ s.one_each;
  told = λ u r low found. elim (cases_lt u v) [
    | inl old ↦ elim (s.told u r old found) [
      | inl known ↦ (let apart : r.source ≢ v = omega (arith, known.0) in inl (omega (arith, known.0), rw (get_or-set_other marks v r.source false false apart) known.1))
      | inr heard ↦ inr heard
    ]
    | inr new ↦
        (let same : u ≡ v = omega arith in
        let read : Contains (row_at rows v) r = rw same at found in
        let heard : slice_index now v ≤ core_edge_value core (slice_index now r.source) r.weight = omega (arith, high, is, lowered_below core now (slice_index now v) (row_at rows v) r read) in
        inr (rw same heard))
  ];
  none = λ h u low. elim (cases_eq u v) [
    | inl same ↦ rw (same, get_or-set_same marks v false false (omega (arith, inside, s.one_each))) refl
    | inr apart ↦ rw (get_or-set_other marks v u false false apart) (s.none h u (omega (arith, low, apart)))
  ];
}

-- ---- nobody has to be told any more

pub told_still : (core : CoreProgram) (rows : List (List Read)) (marks : List Bool) (x : List ℕ) → AreTold core rows marks x → ((v : ℕ) → IsMarked marks v → ⊥) →
    (v : ℕ) → v < length rows → slice_index x v ≤ lowered_at core rows x v
told_still core rows marks x told none v inside =
    let value_of : Read → ℕ = λ read. core_edge_value core (slice_index x read.source) read.weight in
    let row : List Read = row_at rows v in
    below_least (slice_index x v) (slice_index x v) (core_edge_values core x row) (omega arith)
    (recursion_from_All (λ item. slice_index x v ≤ item) (core_edge_values core x row) (All-map (λ item. slice_index x v ≤ item) value_of row
    (λ k d low. elim (told.each v (get_or row k d) (Contains-get_or row k d low)) [
      | inl marked ↦ absurd (none (get_or row k d).source marked)
      | inr heard ↦ heard
    ])))

-- what whole sweeps leave
pub swept_told : (core : CoreProgram) (rows : List (List Read)) (before after : List ℕ) (marks : List Bool) (changed : Bool) → IsSwept core rows (length rows) before after marks changed →
    AreTold core rows marks after
swept_told core rows before after marks changed s = record {
  each = λ u r found. elim (s.told u r (read_inside rows u r found) found) [ inl known ↦ inl known.1 | inr heard ↦ inr heard ];
}

-- sweeps that end with one that changes nothing are enough
pub swept_settled : (core : CoreProgram) (rows : List (List Read)) (before after : List ℕ) (marks : List Bool) → IsSwept core rows (length rows) before after marks false → IsSettled core rows before after
swept_settled core rows before after marks s = record {
  lowered = s.lowered;
  still = told_still core rows marks after (swept_told core rows before after marks false s) (λ v marked. elim (cases_lt v (length rows)) [
    | inl low ↦ (let no : get_or marks v false ≡ false = s.none refl v low in cc)
    | inr past ↦ (let no : get_or marks v false ≡ false = get_or_past marks v false (omega (arith, past, s.one_each)) in cc)
  ]);
}

-- ---- the end

-- What the starts settle to is the greatest consistent list.
pub settled_greatest : (core : CoreProgram) (rows : List (List Read)) (starts x : List ℕ) → is_mex core.program.fold ≡ false →
    IsSettled core rows starts x → IsGreatestCoreConsistent core rows starts x
settled_greatest core rows starts x plain s = record {
  consistent = record {
    values = s.lowered.values;
    each = λ v inside. rw (gathered_is core rows starts x v plain)
        (least_from (slice_index x v) (slice_index x v) (slice_index starts v) (core_edge_values core x (row_at rows v)) (s.lowered.lower v inside) (s.still v inside));
  };
  greatest = λ y c. s.lowered.above starts y c (below_starts core rows starts y plain c);
}

-- Start values that are turned, settled and turned back are the program's answer.
pub solved : (q : Program) (rows : List (List Read)) (starts : List ℕ) (core : CoreProgram) (before settled after : List ℕ) → class_of q ≡ Ok LocallyCorrecting → RowsFit (length rows) rows → IsValueList (length rows) starts →
    core ≡ core_form q → before ≡ turned core starts → IsSettled core rows before settled → after ≡ turned core settled → IsGreatestConsistent q rows starts after
solved q rows starts core before settled after class fits valued core_is before_is s after_is =
    let end : IsSettled (core_form q) rows (turned (core_form q) starts) settled = rw (before_is, core_is) at s in
    rw (after_is, core_is) (greatest_from q rows starts settled class fits valued (settled_greatest (core_form q) rows (turned (core_form q) starts) settled (no_mex q class) end))
