-- What the readers of a vertex become once they are told of its value.
use Rattle.std.proofs.Common.{◌≡◌, ℕ, ◌+◌, ◌<◌, ◌≤◌, ◌∙◌, Bool, true, false, List, [], length, get_or, set, refl, sym, ap, arith, inl, inr, get_or-set_other, get_or-set_same}
use Rattle.std.specs.Prelude.{All, Contains, slice_index, sum}
use Rattle.std.proofs.lemmas.List.{length-set, get_or_default}
use Rattle.std.proofs.lemmas.List.Elements.{All-from_get_or, Contains-get_or}
use Rattle.std.proofs.lemmas.List.Sums.{sum_by-set}
use Rattle.std.proofs.lemmas.Bool.{cases_lt, cases_eq}
use Rattle.px_base.specs.declared.graph.Read.{Read}
use Rattle.px_base.specs.declared.program.CoreProgram.{CoreProgram}
use Rattle.px_base.specs.Values.{IsValue, IsValueList}
use Rattle.px_base.specs.Graphs.{row_at}
use Rattle.px_base.specs.Classes.{is_mex}
use Rattle.px_base.specs.Core.{core_edge_value}
use Rattle.consistent_solver.specs.declared.waiting.Waiting.{Waiting}
use Rattle.row_blocks.specs.Telling.{readers_of}
use Rattle.row_blocks.proofs.Readers.{reader_reads}
use Rattle.consistent_solver.specs.Readers.{entry_at, read_of, reader_of}
use Rattle.consistent_solver.specs.Sweeps.{AreTold, HasTold, IsLowered, IsMarked, IsSettled, IsWaitingList}
use Rattle.consistent_solver.proofs.Sweeping.{below_read, read_inside, lowered_more, told_still}

-- ---- marks

marked_more : (marks : List Bool) (u v : ℕ) → u < length marks → IsMarked marks v → IsMarked (set marks u true) v
marked_more marks u v inside marked = elim (cases_eq v u) [
  | inl same ↦ rw (same, get_or-set_same marks u true false inside) refl
  | inr apart ↦ rw (get_or-set_other marks u v true false apart) marked
]

-- ---- one reader after another

-- the next reader falls
pub told_lower : (core : CoreProgram) (c : ℕ) (entries : List Read) (k : ℕ) (before now : List ℕ) (marks marks_now : List Bool) (offered : ℕ) →
    (entry_at entries k).source < length now → (entry_at entries k).source < length marks_now →
    HasTold core c entries k before now marks marks_now → offered ≡ core_edge_value core c (entry_at entries k).weight → offered < slice_index now (entry_at entries k).source →
    HasTold core c entries (k + 1) before (set now (entry_at entries k).source offered) marks (set marks_now (entry_at entries k).source true)
told_lower core c entries k before now marks marks_now offered within marked h is less =
    let u : ℕ = (entry_at entries k).source in
    let at_most : (v : ℕ) → slice_index (set now u offered) v ≤ slice_index now v = λ v. elim (cases_eq v u) [
      | inl same ↦ rw (same, get_or-set_same now u offered 0 within) (omega (arith, less))
      | inr apart ↦ rw (get_or-set_other now u v offered 0 apart) (omega arith)
    ] in
    record {
      one_each = length-set now u offered ∙ h.one_each;
      lower = λ v. omega (arith, at_most v, h.lower v);
      told = λ j low. elim (cases_lt j k) [
        | inl old ↦ omega (arith, at_most (entry_at entries j).source, h.told j old)
        | inr new ↦ (let here : j ≡ k = omega arith in rw (here, get_or-set_same now u offered 0 within) (omega (arith, is)))
      ];
      due = λ v. elim (cases_eq v u) [
        | inl same ↦ inr (k, omega arith, sym same, rw (same, get_or-set_same now u offered 0 within) is)
        | inr apart ↦ rw (get_or-set_other now u v offered 0 apart) (elim (h.due v) [ inl old ↦ inl old | inr new ↦ inr (new.0, omega (arith, new.1), new.2, new.3) ])
      ];
      fell = λ v. elim (cases_eq v u) [
        | inl same ↦ inr (rw (same, get_or-set_same marks_now u true false marked) refl)
        | inr apart ↦ rw (get_or-set_other now u v offered 0 apart) (elim (h.fell v) [ inl old ↦ inl old | inr known ↦ inr (marked_more marks_now u v marked known) ])
      ];
      kept = λ v known. marked_more marks_now u v marked (h.kept v known);
    }

-- the next reader stays
pub told_same : (core : CoreProgram) (c : ℕ) (entries : List Read) (k : ℕ) (before now : List ℕ) (marks marks_now : List Bool) (offered : ℕ) →
    HasTold core c entries k before now marks marks_now → offered ≡ core_edge_value core c (entry_at entries k).weight → slice_index now (entry_at entries k).source ≤ offered →
    HasTold core c entries (k + 1) before now marks marks_now
told_same core c entries k before now marks marks_now offered h is high = record {
  one_each = h.one_each;
  lower = h.lower;
  told = λ j low. elim (cases_lt j k) [
    | inl old ↦ h.told j old
    | inr new ↦ (let here : j ≡ k = omega arith in rw here (omega (arith, is, high)))
  ];
  due = λ v. elim (h.due v) [ inl old ↦ inl old | inr new ↦ inr (new.0, omega (arith, new.1), new.2, new.3) ];
  fell = h.fell;
  kept = h.kept;
}

-- what is written lowers the sum
pub sum_lower : (now : List ℕ) (u offered : ℕ) → u < length now → offered < slice_index now u → sum (set now u offered) + 1 ≤ sum now
sum_lower now u offered within less = omega (arith, less, sum_by-set (λ x. x) now u offered 0 within)

-- ---- all readers of a vertex

-- the entry at a place among the readers is in the list of them
entry_in : (entries : List Read) (k : ℕ) → k < length entries → Contains entries (entry_at entries k)
entry_in entries k low = Contains-get_or entries k (reader_of 0 0) low

-- lists stay consistent
pub told_lowered : (core : CoreProgram) (rows : List (List Read)) (v c : ℕ) (before after : List ℕ) (marks marks_after : List Bool) → is_mex core.program.fold ≡ false →
    v < length rows → IsValueList (length rows) before → slice_index before v ≡ c →
    HasTold core c (readers_of rows v) (length (readers_of rows v)) before after marks marks_after → IsLowered core rows before after
told_lowered core rows v c before after marks marks_after plain inside values is h = record {
  values = record {
    one_each = h.one_each ∙ values.one_each;
    in_range = All-from_get_or IsValue after 0 (λ k low. omega (arith, h.lower k, values.in_range k 0 (omega (arith, low, h.one_each))));
  };
  lower = λ u low. h.lower u;
  above = λ starts y c_y below u low. elim (h.due u) [
    | inl same ↦ rw same (below u low)
    | inr new ↦
        (let entries : List Read = readers_of rows v in
        let e : Read = entry_at entries new.0 in
        let read : Contains (row_at rows e.source) (read_of v e.weight) = (reader_reads rows v e.source e.weight).0 (entry_in entries new.0 new.1) in
        let here : Contains (row_at rows u) (read_of v e.weight) = rw new.2 at read in
        let most : slice_index y u ≤ core_edge_value core (slice_index before v) e.weight = below_read core rows starts y before u (read_of v e.weight) plain c_y values below low here in
        let told : slice_index y u ≤ core_edge_value core c e.weight = rw is at most in
        omega (arith, told, new.3))
  ];
}

-- everybody has heard who had before, and now the readers of v too
pub told_more : (core : CoreProgram) (rows : List (List Read)) (v c : ℕ) (before after : List ℕ) (marks marks_after : List Bool) →
    v < length rows → slice_index before v ≡ c → AreTold core rows marks before →
    HasTold core c (readers_of rows v) (length (readers_of rows v)) before after (set marks v false) marks_after → AreTold core rows marks_after after
told_more core rows v c before after marks marks_after inside is t h = record {
  each = λ u read found. elim (cases_eq read.source v) [
    | inl here ↦
        (let entries : List Read = readers_of rows v in
        let there : Contains (row_at rows u) (read_of v read.weight) = (let f : Contains (row_at rows u) (read_of read.source read.weight) = found in rw here at f) in
        let entry : Contains entries (reader_of u read.weight) = (reader_reads rows v u read.weight).1 there in
        let at : entry_at entries entry.0 ≡ reader_of u read.weight = get_or_default entries entry.0 (reader_of 0 0) (reader_of u read.weight) entry.1 ∙ entry.2 in
        let heard : slice_index after u ≤ core_edge_value core c read.weight = rw at at (h.told entry.0 entry.1) in
        elim (h.fell v) [
          | inl same ↦ (let now : slice_index after v ≡ c = same ∙ is in inr (rw (here, now) heard))
          | inr marked ↦ inl (rw here marked)
        ])
    | inr apart ↦ elim (t.each u read found) [
      | inl marked ↦ inl (h.kept read.source (rw (get_or-set_other marks v read.source false false apart) marked))
      | inr heard ↦ elim (h.fell read.source) [
        | inl same ↦ inr (rw same (omega (arith, heard, h.lower u)))
        | inr marked ↦ inl marked
      ]
    ]
  ];
}

-- the readers of a vertex are vertices
pub readers_inside : (rows : List (List Read)) (v : ℕ) → All (λ e. e.source < length rows) (readers_of rows v)
readers_inside rows v k d low =
    let e : Read = get_or (readers_of rows v) k d in
    read_inside rows e.source (read_of v e.weight) ((reader_reads rows v e.source e.weight).0 (Contains-get_or (readers_of rows v) k d low))

-- ---- the end

-- a list that is settled after it was lowered
pub settled_more : (core : CoreProgram) (rows : List (List Read)) (x y z : List ℕ) → IsLowered core rows x y → IsSettled core rows y z → IsSettled core rows x z
settled_more core rows x y z h s = record { lowered = lowered_more core rows x y z h s.lowered; still = s.still }

-- nobody waits any more
pub nobody_waits : (core : CoreProgram) (rows : List (List Read)) (before after : List ℕ) (waiting : Waiting) → IsLowered core rows before after →
    IsWaitingList (length rows) waiting → AreTold core rows waiting.marks.items after → waiting.queue.items ≡ [] → IsSettled core rows before after
nobody_waits core rows before after waiting lowered list told none = record {
  lowered = lowered;
  still = told_still core rows waiting.marks.items after told (λ v marked. (
      let found : Contains waiting.queue.items v = list.listed v marked in
      omega (arith, found.1, ap length none)));
}
