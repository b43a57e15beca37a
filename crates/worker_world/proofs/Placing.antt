-- Values by place.
use Rattle.std.proofs.Common.{◌≡◌, ℕ, ◌+◌, ◌-◌, ◌<◌, ◌≤◌, Bool, true, false, List, [], ◌∷◌, ◌++◌, length, length-append, length-take, length-drop, get_or, take, drop, map, refl, sym, ap, subst, arith, ◌∙◌}
use Rattle.std.specs.Prelude.{All, slice_index, replicate, if◌then◌else◌, IsFalse, IsTrue}
use Rattle.std.proofs.lemmas.List.{take-append-drop, get_or-take, get_or-drop, get_or-map, length-map, length-replicate}
use Rattle.std.proofs.lemmas.List.Elements.{All-append, All-take}
use Rattle.std.proofs.Math.Seq.{take-append_seam, drop-append_seam}
use Rattle.px_base.specs.declared.TheConstants.{MOST_READS}
use Rattle.px_base.specs.declared.graph.Part.{Part}
use Rattle.px_base.specs.declared.graph.Read.{Read}
use Rattle.px_base.specs.declared.program.CoreProgram.{CoreProgram}
use Rattle.px_base.specs.Values.{place_of}
use Rattle.px_base.specs.Classes.{is_mex, keeps, counts_reads}
use Rattle.px_base.specs.Core.{core_edge_value, core_gather, core_pull}
use Rattle.px_base.specs.Rules.{least, mex}
use Rattle.px_base.specs.Parts.{PartFits, is_within, is_known}
use Rattle.px_base.specs.Pulls.{known_value, master_pull}
use Rattle.px_base.specs.Graphs.{row_at, read_count, HasWeights}
use Rattle.px_base.specs.ValueSteps.{newest_value, renewed_value, renewed_masters}
use Rattle.px_base.specs.Worlds.{CarriesValues, ValueWorld, ValueWorldFits, new_value_world, new_world, of_values}
use Rattle.worker_world.specs.Kept.{KeepsLimits}
use Rattle.px_base.specs.declared.wire.Update.{Update}
use Rattle.px_base.specs.Values.{IsValue, IsValueList}
use Rattle.px_base.proofs.WorldsKeep.{updated_fit, new_world_fits}
use Rattle.px_base.specs.declared.graph.Read.{Read}
use Rattle.placed_parts.specs.Places.{master_count, place_in, placed_read, placed_row}
use Rattle.worker_world.specs.Placed.{placed_items, first_values, mirrors_after}
use Rattle.placed_parts.proofs.Placing.{place_within}
use Rattle.px_base.proofs.Positions.{length_by_position}
use Rattle.px_base.proofs.Ranges.{within_bounds}

-- ---- one read

-- the value at its place is the one known of it
pub value_at_place : (part : Part) (values : List ℕ) (u : ℕ) →
    get_or values (place_in part u) 0 ≡ known_value part (take (master_count part) values) (drop (master_count part) values) u
value_at_place part values u = by_range (is_within part.low part.high u) refl
  where
    by_range : (b : Bool) → is_within part.low part.high u ≡ b →
        get_or values (if b then u - part.low else master_count part + place_of part.mirrors u) 0
        ≡ (if b then get_or (take (master_count part) values) (u - part.low) 0 else get_or (drop (master_count part) values) (place_of part.mirrors u) 0)
    by_range true is = let inside : u - part.low < master_count part = omega (arith, (within_bounds part.low part.high u is).0, (within_bounds part.low part.high u is).1) in sym (get_or-take (master_count part) values (u - part.low) 0 inside)
    by_range false is = sym (get_or-drop (master_count part) values (place_of part.mirrors u) 0)

-- ---- one row

same_items : (part : Part) (core : CoreProgram) (values : List ℕ) (row : List Read) →
    placed_items core values (placed_row part row)
    ≡ map (λ r. core_edge_value core (known_value part (take (master_count part) values) (drop (master_count part) values) r.source) r.weight) row
same_items part core values [] = refl
same_items part core values (r ∷ row) = rw (value_at_place part values r.source, same_items part core values row) refl

-- what the row gathers, where what it reads is found by place
pub gathered_is : (part : Part) (core : CoreProgram) (values : List ℕ) (start : ℕ) (row : List Read) →
    core_gather core start (placed_items core values (placed_row part row)) ≡ core_pull core (known_value part (take (master_count part) values) (drop (master_count part) values)) start row
gathered_is part core values start row = ap (core_gather core start) (same_items part core values row)

pub least_gathers : (core : CoreProgram) (start : ℕ) (items : List ℕ) → IsFalse (is_mex core.program.fold) → least start items ≡ core_gather core start items
least_gathers core start items fold = rw fold refl

pub mex_gathers : (core : CoreProgram) (start : ℕ) (items : List ℕ) → IsTrue (is_mex core.program.fold) → mex items ≡ core_gather core start items
mex_gathers core start items fold = rw fold refl

pub places_within : (part : Part) (row : List Read) → All (λ r. is_known part r.source ≡ true) row → All (λ r. r.source < master_count part + length part.mirrors) (placed_row part row)
places_within part row known = λ k d below. (let inside : k < length row = omega (arith, below, length-map row (placed_read part)) in
    rw (get_or-map (placed_read part) row k (record { source = 0; weight = 0 }) d inside) (place_within part (get_or row k (record { source = 0; weight = 0 })).source (known k (record { source = 0; weight = 0 }) inside)))

-- ---- all rows

pub row_places_within : (part : Part) (k : ℕ) (row : List Read) → PartFits part → k < length part.rows → row ≡ placed_row part (row_at part.rows k) →
    All (λ r. r.source < master_count part + length part.mirrors) row
row_places_within part k row fits inside is = rw is (places_within part (row_at part.rows k) (fits.sources k [] inside))

-- a new value that is made by place
pub renewed_by_place : (part : Part) (core : CoreProgram) (values : List ℕ) (k pulled : ℕ) → PartFits part → k < length part.rows →
    pulled ≡ core_gather core (slice_index part.starts k) (placed_items core values (placed_row part (row_at part.rows k))) →
    renewed_value core (slice_index values k) pulled
    ≡ renewed_value core (slice_index (take (master_count part) values) k) (master_pull part core (take (master_count part) values) (drop (master_count part) values) k)
renewed_by_place part core values k pulled fits inside is =
    let first : k < master_count part = omega (arith, inside, fits.rows) in
    rw (is, gathered_is part core values (slice_index part.starts k) (row_at part.rows k), get_or-take (master_count part) values k 0 first) refl

-- ---- all values

pub take_first : (m : ℕ) (first rest : List ℕ) → length first ≡ m → take m (first ++ rest) ≡ first
take_first m first rest is = rw (← is) (take-append_seam first rest)

pub drop_first : (m : ℕ) (first rest : List ℕ) → length first ≡ m → drop m (first ++ rest) ≡ rest
drop_first m first rest is = rw (← is) (drop-append_seam first rest)

-- a list of the values of masters and mirrors, made of these two
pub record HasHalves (part : Part) (first rest values : List ℕ) : Type 0 where
  pub count : length values ≡ master_count part + length part.mirrors
  pub masters : take (master_count part) values ≡ first
  pub mirrors : drop (master_count part) values ≡ rest

halves : (part : Part) (masters mirrors values : List ℕ) → length masters ≡ master_count part → length mirrors ≡ length part.mirrors → values ≡ masters ++ mirrors → HasHalves part masters mirrors values
halves part masters mirrors values first rest is = rw is (record {
  count = omega (arith, length-append masters mirrors);
  masters = take_first (master_count part) masters mirrors first;
  mirrors = drop_first (master_count part) masters mirrors first;
})

first_half : (part : Part) (values : List ℕ) → length values ≡ master_count part + length part.mirrors → length (take (master_count part) values) ≡ master_count part
first_half part values count = omega (arith, length-take (master_count part) values)

second_half : (part : Part) (values : List ℕ) → length values ≡ master_count part + length part.mirrors → length (drop (master_count part) values) ≡ length part.mirrors
second_half part values count = omega (arith, length-drop (master_count part) values)

-- after updates
pub put_halves : (part : Part) (updates : List Update) (before after : List ℕ) → length before ≡ master_count part + length part.mirrors →
    after ≡ take (master_count part) before ++ mirrors_after part updates before → HasHalves part (take (master_count part) before) (mirrors_after part updates before) after
put_halves part updates before after count is =
    halves part (take (master_count part) before) (mirrors_after part updates before) after (first_half part before count)
    (length_by_position (length (drop (master_count part) before)) (λ k. newest_value updates (slice_index part.mirrors k) (slice_index (drop (master_count part) before) k)) ∙ second_half part before count)
    is

-- after a renewal
pub renewed_halves : (part : Part) (core : CoreProgram) (masters mirrors before after : List ℕ) → PartFits part → length before ≡ master_count part + length part.mirrors →
    after ≡ renewed_masters part core masters mirrors ++ drop (master_count part) before → HasHalves part (renewed_masters part core masters mirrors) (drop (master_count part) before) after
renewed_halves part core masters mirrors before after fits count is =
    halves part (renewed_masters part core masters mirrors) (drop (master_count part) before) after
    (length_by_position (length part.rows) (λ k. renewed_value core (slice_index masters k) (master_pull part core masters mirrors k)) ∙ fits.rows)
    (second_half part before count)
    is

pub updated_values : (part : Part) (updates : List Update) (before : List ℕ) → length before ≡ master_count part + length part.mirrors → CarriesValues updates → All IsValue before →
    All IsValue (take (master_count part) before ++ mirrors_after part updates before)
updated_values part updates before count carried known =
    let old : IsValueList (length part.mirrors) (drop (master_count part) before) = record {
      one_each = omega (arith, length-drop (master_count part) before, count);
      in_range = λ k d below. rw (get_or-drop (master_count part) before k d) (known (master_count part + k) d (omega (arith, below, length-drop (master_count part) before)));
    } in
    let new : IsValueList (length part.mirrors) (mirrors_after part updates before) = updated_fit part.mirrors updates (length part.mirrors) (drop (master_count part) before) carried old in
    All-append IsValue (take (master_count part) before) (mirrors_after part updates before) (All-take IsValue (master_count part) before known) new.in_range

pub all_in_both : (m : ℕ) (values : List ℕ) → All IsValue (take m values) → All IsValue (drop m values) → All IsValue values
all_in_both m values first rest = subst (λ list. All IsValue list) (take-append-drop m values) (All-append IsValue (take m values) (drop m values) first rest)

-- ---- a new world

length_first : (core : CoreProgram) (starts : List ℕ) → length (first_values core starts) ≡ length starts
length_first core starts = by_own (keeps core.program.own)
  where
    by_own : (b : Bool) → length (if b then starts else replicate (length starts) 0) ≡ length starts
    by_own true = refl
    by_own false = length-replicate (length starts) 0

pub first_count : (part : Part) (core : CoreProgram) → PartFits part → length (first_values core part.starts ++ first_values core part.mirror_starts) ≡ master_count part + length part.mirrors
first_count part core fits = omega (arith, length-append (first_values core part.starts) (first_values core part.mirror_starts), length_first core part.starts, length_first core part.mirror_starts, fits.starts, fits.mirror_starts)

-- a world of these values that has made no step
abbrev pub fresh_world : Part → CoreProgram → List ℕ → ValueWorld
fresh_world part core values = record {
  part = part;
  core = core;
  epoch = 0;
  round = 0;
  masters = take (master_count part) values;
  mirrors = drop (master_count part) values;
}

-- where its values are the first ones, it is the new world
pub fresh_is_new : (part : Part) (core : CoreProgram) (values : List ℕ) → PartFits part → values ≡ first_values core part.starts ++ first_values core part.mirror_starts → fresh_world part core values ≡ new_value_world part core
fresh_is_new part core values fits is =
    let count : length (first_values core part.starts) ≡ master_count part = length_first core part.starts ∙ fits.starts in
    let masters : take (master_count part) values ≡ first_values core part.starts = rw is (take_first (master_count part) (first_values core part.starts) (first_values core part.mirror_starts) count) in
    let mirrors : drop (master_count part) values ≡ first_values core part.mirror_starts = rw is (drop_first (master_count part) (first_values core part.starts) (first_values core part.mirror_starts) count) in
    rw (masters, mirrors) refl

-- and keeps the limits
pub fresh_keeps : (part : Part) (core : CoreProgram) (values : List ℕ) → PartFits part → HasWeights part.rows → read_count part.rows ≤ MOST_READS →
    values ≡ first_values core part.starts ++ first_values core part.mirror_starts → KeepsLimits (fresh_world part core values)
fresh_keeps part core values fits weights reads is = record {
  fits = subst (λ w. ValueWorldFits w) (sym (fresh_is_new part core values fits is)) (new_world_fits part core fits weights);
  reads = reads;
}

-- what is no count makes a world of values
pub value_kind : (part : Part) (core : CoreProgram) → IsFalse (counts_reads core.program.fold) → new_world part core ≡ of_values (new_value_world part core)
value_kind part core fold = rw fold refl
