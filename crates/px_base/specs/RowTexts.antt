-- The canonical row of a program: `; ` between fields, one blank between words, numbers without leading zeros.
use Rattle.std.specs.Prelude.{◌≡◌, ℕ, ◌^◌, ◌<◌, ◌⊎◌, ⊤, List, ◌++◌, codes, decimal}
use Rattle.px_base.specs.declared.TheConstants.{TOP}
use Rattle.px_base.specs.declared.program.Form.{Form}
use Rattle.px_base.specs.declared.program.Form.TheVariants.{Given, Back, Simple}
use Rattle.px_base.specs.declared.program.Rank.TheVariants.{ById, ByDegree}
use Rattle.px_base.specs.declared.program.Reads.{Reads}
use Rattle.px_base.specs.declared.program.Reads.TheVariants as reads_kind
use Rattle.px_base.specs.declared.program.Start.{Start}
use Rattle.px_base.specs.declared.program.Start.TheVariants.{Source, Each, OwnId}
use Rattle.px_base.specs.declared.program.Along.{Along}
use Rattle.px_base.specs.declared.program.Along.TheVariants.{Same, Plus, PlusWeight, FloorWeight, CapWeight, Minus}
use Rattle.px_base.specs.declared.program.Fold.{Fold}
use Rattle.px_base.specs.declared.program.Fold.TheVariants.{Least, Greatest, Mex, Count}
use Rattle.px_base.specs.declared.program.Own.{Own}
use Rattle.px_base.specs.declared.program.Own.TheVariants as own_kind
use Rattle.px_base.specs.declared.program.Program.{Program}
use Rattle.px_base.specs.Text.{value_text}

-- ---- the words of each field

abbrev pub form_text : Form → List ℕ
form_text Given = codes "given"
form_text Back = codes "back"
form_text Simple = codes "simple"

abbrev pub reads_text : Reads → List ℕ
reads_text reads_kind.All = codes "all"
reads_text (reads_kind.Earlier ById) = codes "earlier id"
reads_text (reads_kind.Earlier ByDegree) = codes "earlier degree"

abbrev pub start_text : Start → List ℕ
start_text (Source at_source elsewhere) = codes "source " ++ value_text at_source ++ codes " " ++ value_text elsewhere
start_text (Each x) = codes "each " ++ value_text x
start_text OwnId = codes "id"

abbrev pub along_text : Along → List ℕ
along_text Same = codes "same"
along_text (Plus n) = codes "plus " ++ decimal n
along_text PlusWeight = codes "plus weight"
along_text FloorWeight = codes "floor weight"
along_text CapWeight = codes "cap weight"
along_text (Minus n) = codes "minus " ++ decimal n

abbrev pub fold_text : Fold → List ℕ
fold_text Least = codes "least"
fold_text Greatest = codes "greatest"
fold_text Mex = codes "mex"
fold_text (Count k) = codes "count " ++ decimal k

abbrev pub own_text : Own → List ℕ
own_text own_kind.Keep = codes "keep"
own_text own_kind.Drop = codes "drop"

-- ---- a row

-- the first three fields, and the last three
abbrev pub front_text : Program → List ℕ
front_text p = form_text p.form ++ codes "; " ++ reads_text p.reads ++ codes "; " ++ start_text p.start

abbrev pub back_text : Program → List ℕ
back_text p = codes "; " ++ along_text p.along ++ codes "; " ++ fold_text p.fold ++ codes "; " ++ own_text p.own

-- the canonical row
abbrev pub row_text : Program → List ℕ
row_text p = front_text p ++ back_text p

-- ---- what a row can say

-- a number below 2 ^ 32, or TOP
abbrev pub IsRowValue : ℕ → Type 0
IsRowValue x = (x < 2 ^ 32) ⊎ (x ≡ TOP)

abbrev pub IsRowStart : Start → Type 0
IsRowStart (Source at_source elsewhere) = IsRowValue at_source × IsRowValue elsewhere
IsRowStart (Each x) = IsRowValue x
IsRowStart OwnId = ⊤

abbrev pub IsRowAlong : Along → Type 0
IsRowAlong Same = ⊤
IsRowAlong (Plus n) = n < 2 ^ 32
IsRowAlong PlusWeight = ⊤
IsRowAlong FloorWeight = ⊤
IsRowAlong CapWeight = ⊤
IsRowAlong (Minus n) = n < 2 ^ 32

abbrev pub IsRowFold : Fold → Type 0
IsRowFold Least = ⊤
IsRowFold Greatest = ⊤
IsRowFold Mex = ⊤
IsRowFold (Count k) = k < 2 ^ 32

-- the numbers of the program are such as a row can have
pub record IsRowProgram (p : Program) : Type 0 where
  pub start : IsRowStart p.start
  pub along : IsRowAlong p.along
  pub fold : IsRowFold p.fold
