-- Lists of start values.
use Rattle.std.proofs.Common.{◌≡◌, ℕ, ◌+◌, ◌<◌, Bool, true, false, List, length, get_or, take, replicate, refl, ap, ◌∙◌, arith, inl, inr}
use Rattle.std.specs.Prelude.{◌==◌, ◌||◌, All, map, slice_index, if◌then◌else◌}
use Rattle.std.proofs.lemmas.List.{length-map, get_or-map, length-replicate, get_or-replicate}
use Rattle.std.proofs.lemmas.List.Folds.{list_any_more}
use Rattle.std.proofs.lemmas.List.FromFn.{fill_by_all}
use Rattle.px_base.specs.declared.program.Start.{Start}
use Rattle.px_base.specs.declared.program.Start.TheVariants.{Source, Each, OwnId}
use Rattle.px_base.specs.declared.program.CoreProgram.{CoreProgram}
use Rattle.px_base.specs.Core.{core_value, start_value}
use Rattle.px_base.specs.RowTexts.{IsRowStart, IsRowValue}
use Rattle.px_base.specs.Starts.{starts_of}
use Rattle.px_base.specs.Values.{IsValue, IsValueList, by_position, flip, is_listed}
use Rattle.px_base.proofs.Positions.{length_by_position, at_position}
use Rattle.program_table.specs.StartRanges.{IsValueStart}

either_way : (a b : Bool) (x y : ℕ) → (if a || b then x else y) ≡ (if b then x else (if a then x else y))
either_way true true x y = refl
either_way true false x y = refl
either_way false b x y = refl

-- one source more
pub source_more : (sources : List ℕ) (i v x y d : ℕ) → i < length sources →
    (if is_listed (take (i + 1) sources) v then x else y) ≡ (if get_or sources i d == v then x else (if is_listed (take i sources) v then x else y))
source_more sources i v x y d below = rw (list_any_more (λ s. s == v) sources i d below) (either_way (is_listed (take i sources) v) (get_or sources i d == v) x y)

-- what stands where y stood everywhere before the sources were written
pub source_starts_are : (n x y : ℕ) (old new sources : List ℕ) → old ≡ by_position n (λ v. y) → length new ≡ length old →
    ((v : ℕ) → v < length old → get_or new v 0 ≡ (if is_listed sources v then x else get_or old v 0)) → new ≡ by_position n (λ v. if is_listed sources v then x else y)
source_starts_are n x y old new sources begun size each =
    let count : length old ≡ n = ap length begun ∙ length_by_position n (λ v. y) in
    fill_by_all (λ v. if is_listed sources v then x else y) new n 0 (size ∙ count)
    (λ k below.
    let inside : k < length old = omega arith in
    let before : get_or old k 0 ≡ y = ap (λ l. get_or l k 0) begun ∙ at_position n (λ v. y) k 0 below in
    each k inside ∙ ap (λ z. if is_listed sources k then x else z) before)

pub same_starts_are : (n x : ℕ) → replicate n x ≡ by_position n (λ v. x)
same_starts_are n x = fill_by_all (λ v. x) (replicate n x) n 0 (length-replicate n x) (λ k below. get_or-replicate n k x 0 below)

pub own_starts_are : (ids : List ℕ) → ids ≡ by_position (length ids) (slice_index ids)
own_starts_are ids = fill_by_all (slice_index ids) ids (length ids) 0 refl (λ k below. refl)

start_is_value : (start : Start) (b : Bool) (id : ℕ) → IsValueStart start → IsValue id → IsValue (start_value start b id)
start_is_value (Source x y) true id range small = range.0
start_is_value (Source x y) false id range small = range.1
start_is_value (Each x) b id range small = range
start_is_value OwnId b id range small = small

value_of_row : (x : ℕ) → IsRowValue x → IsValue x
value_of_row x (inl small) = omega (arith, small)
value_of_row x (inr top) = omega (arith, top)

-- what a row can say of a start is a value
pub row_start_is_value : (start : Start) → IsRowStart start → IsValueStart start
row_start_is_value (Source x y) range = (value_of_row x range.0, value_of_row y range.1)
row_start_is_value (Each x) range = value_of_row x range
row_start_is_value OwnId range = tt

-- start values are values
pub starts_are_values : (start : Start) (ids sources : List ℕ) → IsValueStart start → All IsValue ids → IsValueList (length ids) (starts_of start ids sources)
starts_are_values start ids sources range small =
    let at : ℕ → ℕ = λ v. start_value start (is_listed sources v) (slice_index ids v) in
    record {
      one_each = length_by_position (length ids) at;
      in_range = λ k d below.
          let inside : k < length ids = rw (length_by_position (length ids) at) at below in
          rw (at_position (length ids) at k d inside) (start_is_value start (is_listed sources k) (slice_index ids k) range (small k 0 inside));
    }

turned : (b : Bool) (x : ℕ) → IsValue x → IsValue (if b then flip x else x)
turned true x small = omega arith
turned false x small = small

core_is_value : (core : CoreProgram) (x : ℕ) → IsValue x → IsValue (core_value core x)
core_is_value core x small = turned core.flipped x small

-- core values are values
pub core_starts_are_values : (core : CoreProgram) (starts : List ℕ) → All IsValue starts → IsValueList (length starts) (map (core_value core) starts)
core_starts_are_values core starts small = record {
  one_each = length-map starts (core_value core);
  in_range = λ k d below.
      let inside : k < length starts = rw (length-map starts (core_value core)) at below in
      rw (get_or-map (core_value core) starts k 0 d inside) (core_is_value core (get_or starts k 0) (small k 0 inside));
}
