-- Rows and their first faults, and names.
use Rattle.std.proofs.Common.{◌≡◌, refl}
use Rattle.std.specs.Prelude.{codes, Ok, Err, Some, None}
use Rattle.std.specs.Fmt.{digits}
use Rattle.px_base.specs.declared.row_fault.RowFault.TheVariants.{Missing, Unknown, Number, Trailing}
use Rattle.px_base.specs.Rows.{row_read}
use Rattle.px_base.specs.RowTexts.{row_text}
use Rattle.px_base.specs.ProgramNames.{builtin_of}
use Rattle.px_base.proofs.GraphA.{bfs, sssp, widest, colour, colour_by_degree, kcore}

bfs_row : row_read (codes "given; all; source 0 inf; plus 1; least; keep") ≡ Ok bfs
bfs_row = refl

sssp_row : row_read (codes "given;all;source  0  inf ; plus weight;least;keep") ≡ Ok sssp
sssp_row = refl

widest_row : row_read (codes "given; all; source inf 0; cap weight; greatest; keep") ≡ Ok widest
widest_row = refl

colour_row : row_read (codes "simple; earlier degree; each 0; same; mex; drop") ≡ Ok colour_by_degree
colour_row = refl

core_row : row_read (codes "simple; all; each 1; same; count 002; keep") ≡ Ok (kcore 2)
core_row = refl

no_second : row_read (codes "given;") ≡ Err (Missing 2)
no_second = refl

no_first : row_read (codes ";") ≡ Err (Missing 1)
no_first = refl

bad_number : row_read (codes "given; all; source 0 x; plus y; least; keep") ≡ Err (Number 3)
bad_number = refl

shape_of_start : row_read (codes "given; all; source 0; plus y; least; keep") ≡ Err (Unknown 3)
shape_of_start = refl

minus_weight : row_read (codes "given; all; id; minus weight; least; keep") ≡ Err (Number 4)
minus_weight = refl

great_number : row_read (codes "given; all; id; plus 4294967296; least; keep") ≡ Err (Number 4)
great_number = refl

four_words : row_read (codes "given; all; source 0 inf 1; same; least; keep") ≡ Err (Unknown 3)
four_words = refl

seventh : row_read (codes "given; all; id; same; least; keep;") ≡ Err Trailing
seventh = refl

earlier_fault : row_read (codes "given; all; id; same; least; kept;") ≡ Err (Unknown 6)
earlier_fault = refl

-- a tab is no blank
tab : row_read (codes "given; all; id; same; least; \tkeep") ≡ Err (Unknown 6)
tab = refl

-- ---- names

bfs_name : builtin_of (codes "bfs") ≡ Some bfs
bfs_name = refl

colour_name : builtin_of (codes "colour") ≡ Some colour
colour_name = refl

core_name : builtin_of (codes "kcore:0000000002") ≡ Some (kcore 2)
core_name = refl

greatest_core : builtin_of (codes "kcore:4294967295") ≡ Some (kcore 4294967295)
greatest_core = refl

core_above : builtin_of (codes "kcore:4294967296") ≡ None
core_above = refl

core_of_eleven_digits : builtin_of (codes "kcore:00000000002") ≡ None
core_of_eleven_digits = refl

core_without_number : builtin_of (codes "kcore:") ≡ None
core_without_number = refl

blank_before : builtin_of (codes " bfs") ≡ None
blank_before = refl

-- ---- canonical rows

bfs_text : row_text bfs ≡ codes "given; all; source 0 inf; plus 1; least; keep"
unfolding digits
bfs_text = refl

colour_text : row_text colour_by_degree ≡ codes "simple; earlier degree; each 0; same; mex; drop"
unfolding digits
colour_text = refl

core_text : row_text (kcore 4294967295) ≡ codes "simple; all; each 1; same; count 4294967295; keep"
unfolding digits
core_text = refl
