-- Start values by position, for rows with one for each id.
use Rattle.std.proofs.Common.{◌≡◌, ℕ, ◌<◌, List, length, sym, ◌∙◌, subst, arith}
use Rattle.std.specs.Prelude.{slice_index}
use Rattle.px_base.specs.declared.graph.Read.{Read}
use Rattle.px_base.specs.declared.program.Start.{Start}
use Rattle.px_base.specs.Values.{IsValue, IsValueList, is_listed}
use Rattle.px_base.specs.Core.{start_value}
use Rattle.px_base.specs.Graphs.{RowsFit}
use Rattle.px_base.specs.Starts.{starts_of}
use Rattle.px_base.proofs.Positions.{at_position, length_by_position}

-- the start value of the vertex at v
abbrev pub start_of : Start → List ℕ → List ℕ → ℕ → ℕ
start_of start ids sources v = start_value start (is_listed sources v) (slice_index ids v)

pub own_rows : (n : ℕ) (rows : List (List Read)) → RowsFit n rows → RowsFit (length rows) rows
own_rows n rows fits = subst (λ (m : ℕ). RowsFit m rows) (sym fits.one_each) fits

pub start_at : (start : Start) (rows : List (List Read)) (ids sources : List ℕ) (u : ℕ) → RowsFit (length ids) rows → u < length rows →
    slice_index (starts_of start ids sources) u ≡ start_of start ids sources u
start_at start rows ids sources u fits inside = at_position (length ids) (start_of start ids sources) u 0 (omega (arith, fits.one_each, inside))

pub starts_are_values : (start : Start) (rows : List (List Read)) (ids sources : List ℕ) → RowsFit (length ids) rows →
    ((u : ℕ) → u < length ids → IsValue (start_of start ids sources u)) → IsValueList (length rows) (starts_of start ids sources)
starts_are_values start rows ids sources fits each = record {
  one_each = length_by_position (length ids) (start_of start ids sources) ∙ sym fits.one_each;
  in_range = λ u d below.
      let inside : u < length ids = rw (length_by_position (length ids) (start_of start ids sources)) at below in
      rw (at_position (length ids) (start_of start ids sources) u d inside) (each u inside);
}
