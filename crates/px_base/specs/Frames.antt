-- The bytes that spell each frame.
use Rattle.std.specs.Prelude.{ℕ, Bool, true, false, List, [], ◌∷◌, ◌++◌, length, flat_map}
use Rattle.std.specs.Int.{bytes_high_first}
use Rattle.px_base.specs.declared.program.Form.{Form}
use Rattle.px_base.specs.declared.program.Form.TheVariants.{Given, Back, Simple}
use Rattle.px_base.specs.declared.program.Rank.TheVariants.{ById, ByDegree}
use Rattle.px_base.specs.declared.program.Reads.{Reads}
use Rattle.px_base.specs.declared.program.Reads.TheVariants as reads_kind
use Rattle.px_base.specs.declared.program.Start.{Start}
use Rattle.px_base.specs.declared.program.Start.TheVariants.{Source, Each, OwnId}
use Rattle.px_base.specs.declared.program.Along.{Along}
use Rattle.px_base.specs.declared.program.Along.TheVariants.{Same, Plus, PlusWeight, FloorWeight, CapWeight, Minus}
use Rattle.px_base.specs.declared.program.Fold.{Fold}
use Rattle.px_base.specs.declared.program.Fold.TheVariants.{Least, Greatest, Mex, Count}
use Rattle.px_base.specs.declared.program.Own.{Own}
use Rattle.px_base.specs.declared.program.Own.TheVariants as own
use Rattle.px_base.specs.declared.program.Program.{Program}
use Rattle.px_base.specs.declared.wire.Update.{Update}
use Rattle.px_base.specs.declared.wire.Order.TheVariants.{Step, Report}
use Rattle.px_base.specs.declared.wire.Answer.TheVariants.{Stepped, Reported}
use Rattle.px_base.specs.declared.frame.Setup.{Setup}
use Rattle.px_base.specs.declared.frame.Triple.{Triple}
use Rattle.px_base.specs.declared.frame.Frame.{Frame}
use Rattle.px_base.specs.declared.frame.Frame.TheVariants as frame

-- ---- numbers

-- a number in four or eight bytes, the most significant byte first
abbrev pub four_bytes : ℕ → List ℕ
four_bytes n = bytes_high_first 4 n

abbrev pub eight_bytes : ℕ → List ℕ
eight_bytes n = bytes_high_first 8 n

-- ---- bodies

abbrev pub pair_bytes : Update → List ℕ
pair_bytes u = four_bytes u.vertex ++ eight_bytes u.value

abbrev pub triple_bytes : Triple → List ℕ
triple_bytes t = four_bytes t.target ++ four_bytes t.source ++ four_bytes t.weight

-- A code is one byte.
abbrev pub form_code : Form → ℕ
form_code Given = 0
form_code Back = 1
form_code Simple = 2

abbrev pub reads_code : Reads → ℕ
reads_code reads_kind.All = 0
reads_code (reads_kind.Earlier ById) = 1
reads_code (reads_kind.Earlier ByDegree) = 2

-- a start is a code and two values
abbrev pub start_code : Start → ℕ
start_code (Source a b) = 0
start_code (Each a) = 1
start_code OwnId = 2

abbrev pub start_first : Start → ℕ
start_first (Source a b) = a
start_first (Each a) = a
start_first OwnId = 0

abbrev pub start_second : Start → ℕ
start_second (Source a b) = b
start_second (Each a) = 0
start_second OwnId = 0

-- an edge function is a code and a number
abbrev pub along_code : Along → ℕ
along_code Same = 0
along_code (Plus n) = 1
along_code PlusWeight = 2
along_code FloorWeight = 3
along_code CapWeight = 4
along_code (Minus n) = 5

abbrev pub along_number : Along → ℕ
along_number Same = 0
along_number (Plus n) = n
along_number PlusWeight = 0
along_number FloorWeight = 0
along_number CapWeight = 0
along_number (Minus n) = n

-- a fold is a code and a number
abbrev pub fold_code : Fold → ℕ
fold_code Least = 0
fold_code Greatest = 1
fold_code Mex = 2
fold_code (Count k) = 3

abbrev pub fold_number : Fold → ℕ
fold_number Least = 0
fold_number Greatest = 0
fold_number Mex = 0
fold_number (Count k) = k

abbrev pub own_code : Own → ℕ
own_code own.Keep = 0
own_code own.Drop = 1

abbrev pub program_bytes : Program → List ℕ
program_bytes p = form_code p.form ∷ reads_code p.reads
    ∷ start_code p.start ∷ eight_bytes (start_first p.start) ++ eight_bytes (start_second p.start)
    ++ along_code p.along ∷ eight_bytes (along_number p.along)
    ++ fold_code p.fold ∷ four_bytes (fold_number p.fold)
    ++ own_code p.own ∷ []

abbrev pub setup_bytes : Setup → List ℕ
setup_bytes s = four_bytes s.index ++ four_bytes s.low ++ four_bytes s.high ++ program_bytes s.program
    ++ four_bytes s.chunks ++ four_bytes s.mirrors ++ four_bytes s.boundary ++ four_bytes s.reads

abbrev pub changed_code : Bool → ℕ
changed_code false = 0
changed_code true = 1

-- the kind of a frame, as it stands in the header
abbrev pub kind_of : Frame → ℕ
kind_of (frame.Setup s) = 1
kind_of (frame.Starts values) = 2
kind_of (frame.Mirrors pairs) = 3
kind_of (frame.Boundary vertices) = 4
kind_of (frame.Reads triples) = 5
kind_of frame.Ready = 6
kind_of (frame.Order (Step epoch round updates)) = 7
kind_of (frame.Order (Report epoch)) = 8
kind_of (frame.Answer (Stepped epoch round changed updates)) = 9
kind_of (frame.Answer (Reported epoch values)) = 10

-- what follows the header
abbrev pub body_of : Frame → List ℕ
body_of (frame.Setup s) = setup_bytes s
body_of (frame.Starts values) = flat_map eight_bytes values
body_of (frame.Mirrors pairs) = flat_map pair_bytes pairs
body_of (frame.Boundary vertices) = flat_map four_bytes vertices
body_of (frame.Reads triples) = flat_map triple_bytes triples
body_of frame.Ready = []
body_of (frame.Order (Step epoch round updates)) = four_bytes epoch ++ eight_bytes round ++ four_bytes (length updates) ++ flat_map pair_bytes updates
body_of (frame.Order (Report epoch)) = four_bytes epoch
body_of (frame.Answer (Stepped epoch round changed updates)) = four_bytes epoch ++ eight_bytes round ++ changed_code changed ∷ four_bytes (length updates) ++ flat_map pair_bytes updates
body_of (frame.Answer (Reported epoch values)) = four_bytes epoch ++ four_bytes (length values) ++ flat_map eight_bytes values

-- The header of 8 bytes and then the body. The header has a mark, a version, the kind, a 0, and the length of the body.
abbrev pub spelling : Frame → List ℕ
spelling f = 80 ∷ 1 ∷ kind_of f ∷ 0 ∷ four_bytes (length (body_of f)) ++ body_of f
