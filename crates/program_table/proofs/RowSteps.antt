-- A row whose six fields are right says their program.
use Rattle.std.proofs.Common.{◌≡◌, ℕ, Bool, false, List, length, sym, ap, ◌∙◌}
use Rattle.std.specs.Prelude.{nat_lt, if◌then◌else◌, Result, Ok, Err}
use Rattle.px_base.specs.declared.program.Form.{Form}
use Rattle.px_base.specs.declared.program.Reads.{Reads}
use Rattle.px_base.specs.declared.program.Start.{Start}
use Rattle.px_base.specs.declared.program.Along.{Along}
use Rattle.px_base.specs.declared.program.Fold.{Fold}
use Rattle.px_base.specs.declared.program.Own.{Own}
use Rattle.px_base.specs.declared.program.Program.{Program}
use Rattle.px_base.specs.declared.row_fault.RowFault.{RowFault}
use Rattle.px_base.specs.declared.row_fault.RowFault.TheVariants.{Trailing}
use Rattle.px_base.specs.Rows.{and_then, field_at, form_shapes, reads_shapes, start_shapes, along_shapes, fold_shapes, own_shapes, row_of_fields}

-- ---- one step

goes : {X Y : Type 0} (r : Result X RowFault) (next : X → Result Y RowFault) (x : X) (s : Result Y RowFault) → Ok x ≡ r → s ≡ next x → s ≡ and_then r next
goes r next x s e rest = rest ∙ ap (λ t. and_then t next) e

-- ---- what the fields after each one come to

abbrev after_own : List (List ℕ) → Form → Reads → Start → Along → Fold → Own → Result Program RowFault
after_own fields form reads start along fold own =
    if nat_lt 6 (length fields) then Err Trailing else Ok (record { form = form; reads = reads; start = start; along = along; fold = fold; own = own })

abbrev after_fold : List (List ℕ) → Form → Reads → Start → Along → Fold → Result Program RowFault
after_fold fields form reads start along fold = and_then (field_at fields 6 own_shapes) (after_own fields form reads start along fold)

abbrev after_along : List (List ℕ) → Form → Reads → Start → Along → Result Program RowFault
after_along fields form reads start along = and_then (field_at fields 5 fold_shapes) (after_fold fields form reads start along)

abbrev after_start : List (List ℕ) → Form → Reads → Start → Result Program RowFault
after_start fields form reads start = and_then (field_at fields 4 along_shapes) (after_along fields form reads start)

abbrev after_reads : List (List ℕ) → Form → Reads → Result Program RowFault
after_reads fields form reads = and_then (field_at fields 3 start_shapes) (after_start fields form reads)

abbrev after_form : List (List ℕ) → Form → Result Program RowFault
after_form fields form = and_then (field_at fields 2 reads_shapes) (after_reads fields form)

-- ---- six right fields

pub whole : (fields : List (List ℕ)) (p : Program) → Ok p.form ≡ field_at fields 1 form_shapes → Ok p.reads ≡ field_at fields 2 reads_shapes → Ok p.start ≡ field_at fields 3 start_shapes →
    Ok p.along ≡ field_at fields 4 along_shapes → Ok p.fold ≡ field_at fields 5 fold_shapes → Ok p.own ≡ field_at fields 6 own_shapes → nat_lt 6 (length fields) ≡ false → Ok p ≡ row_of_fields fields
whole fields p form reads start along fold own last =
    let end : Bool → Result Program RowFault = λ b. if b then Err Trailing else Ok p in
    goes (field_at fields 1 form_shapes) (after_form fields) p.form (Ok p) form
    (goes (field_at fields 2 reads_shapes) (after_reads fields p.form) p.reads (Ok p) reads
    (goes (field_at fields 3 start_shapes) (after_start fields p.form p.reads) p.start (Ok p) start
    (goes (field_at fields 4 along_shapes) (after_along fields p.form p.reads p.start) p.along (Ok p) along
    (goes (field_at fields 5 fold_shapes) (after_fold fields p.form p.reads p.start p.along) p.fold (Ok p) fold
    (goes (field_at fields 6 own_shapes) (after_own fields p.form p.reads p.start p.along p.fold) p.own (Ok p) own (sym (ap end last)))))))
