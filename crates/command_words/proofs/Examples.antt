-- Command lines, and what they ask for.
use Rattle.std.proofs.Common.{◌≡◌, true, false, [], ◌∷◌, refl}
use Rattle.std.specs.Prelude.{codes, Some, None, Ok, Err}
use Rattle.px_base.specs.declared.row_fault.RowFault.TheVariants.{Missing}
use Rattle.px_base.specs.Programs.{bfs}
use Rattle.px_base.specs.ProgramNames.{sssp, components, kcore}
use Rattle.command_words.specs.declared.command.ProgramFault.TheVariants.{Unknown, BadRow}
use Rattle.command_words.specs.declared.command.Command.TheVariants.{Run, Solve, Classify, Parts, Worker}
use Rattle.command_words.specs.CommandWords.{command_of, program_of}

-- ---- words of the grammar

one_source : command_of (codes "run" ∷ codes "bfs" ∷ codes "1" ∷ []) ≡ Some (Run (record { program = Ok bfs; sources = 1 ∷ []; workers = 2 }))
unfolding command_of program_of
one_source = refl

three_workers : command_of (codes "run" ∷ codes "--workers" ∷ codes "3" ∷ codes "bfs" ∷ codes "1" ∷ codes "2" ∷ []) ≡ Some (Run (record { program = Ok bfs; sources = 1 ∷ 2 ∷ []; workers = 3 }))
unfolding command_of program_of
three_workers = refl

joined : command_of (codes "run" ∷ codes "bfs" ∷ codes "--workers=64" ∷ []) ≡ Some (Run (record { program = Ok bfs; sources = []; workers = 64 }))
unfolding command_of program_of
joined = refl

between : command_of (codes "run" ∷ codes "bfs" ∷ codes "1" ∷ codes "--workers" ∷ codes "0000000000000000003" ∷ codes "2" ∷ codes "1" ∷ []) ≡ Some (Run (record { program = Ok bfs; sources = 1 ∷ 2 ∷ 1 ∷ []; workers = 3 }))
unfolding command_of program_of
between = refl

unweighted : command_of (codes "solve" ∷ codes "sssp" ∷ codes "--unweighted" ∷ codes "7" ∷ codes "007" ∷ []) ≡ Some (Solve (record { program = Ok sssp; sources = 7 ∷ 7 ∷ []; unweighted = true }))
unfolding command_of program_of
unweighted = refl

greatest_source : command_of (codes "solve" ∷ codes "sssp" ∷ codes "00000000004294967295" ∷ []) ≡ Some (Solve (record { program = Ok sssp; sources = 4294967295 ∷ []; unweighted = false }))
unfolding command_of program_of
greatest_source = refl

a_row : command_of (codes "classify" ∷ codes "given; all; source 0 inf; plus 1; least; keep" ∷ []) ≡ Some (Classify (Ok bfs))
unfolding command_of program_of
a_row = refl

a_bad_row : command_of (codes "classify" ∷ codes "given;" ∷ []) ≡ Some (Classify (Err (BadRow (Missing 2))))
unfolding command_of program_of
a_bad_row = refl

no_program : command_of (codes "classify" ∷ codes "walk" ∷ []) ≡ Some (Classify (Err Unknown))
unfolding command_of program_of
no_program = refl

parts_of : command_of (codes "parts" ∷ codes "--unweighted" ∷ codes "components" ∷ codes "--workers=1" ∷ []) ≡ Some (Parts (record { program = Ok components; workers = 1; unweighted = true }))
unfolding command_of program_of
parts_of = refl

core : command_of (codes "parts" ∷ codes "kcore:3" ∷ []) ≡ Some (Parts (record { program = Ok (kcore 3); workers = 2; unweighted = false }))
unfolding command_of program_of
core = refl

a_worker : command_of (codes "worker" ∷ []) ≡ Some Worker
unfolding command_of
a_worker = refl

-- ---- other words

no_words : command_of ([]) ≡ None
unfolding command_of
no_words = refl

unknown_command : command_of (codes "walk" ∷ []) ≡ None
unfolding command_of
unknown_command = refl

command_alone : command_of (codes "run" ∷ []) ≡ None
unfolding command_of
command_alone = refl

words_before_program : command_of (codes "run" ∷ codes "walk" ∷ codes "x" ∷ []) ≡ None
unfolding command_of
words_before_program = refl

next_word_whatever_it_is : command_of (codes "run" ∷ codes "--workers" ∷ codes "bfs" ∷ codes "1" ∷ []) ≡ None
unfolding command_of
next_word_whatever_it_is = refl

too_many_workers : command_of (codes "run" ∷ codes "bfs" ∷ codes "--workers" ∷ codes "65" ∷ []) ≡ None
unfolding command_of
too_many_workers = refl

no_workers : command_of (codes "run" ∷ codes "bfs" ∷ codes "--workers" ∷ codes "0" ∷ []) ≡ None
unfolding command_of
no_workers = refl

workers_twice : command_of (codes "run" ∷ codes "bfs" ∷ codes "--workers=2" ∷ codes "--workers" ∷ codes "2" ∷ []) ≡ None
unfolding command_of
workers_twice = refl

flag_twice : command_of (codes "solve" ∷ codes "bfs" ∷ codes "--unweighted" ∷ codes "--unweighted" ∷ []) ≡ None
unfolding command_of
flag_twice = refl

option_without_value : command_of (codes "run" ∷ codes "bfs" ∷ codes "--workers" ∷ []) ≡ None
unfolding command_of
option_without_value = refl

joined_without_value : command_of (codes "run" ∷ codes "bfs" ∷ codes "--workers=" ∷ []) ≡ None
unfolding command_of
joined_without_value = refl

empty_value : command_of (codes "run" ∷ codes "bfs" ∷ codes "--workers" ∷ [] ∷ []) ≡ None
unfolding command_of
empty_value = refl

program_twice : command_of (codes "classify" ∷ codes "bfs" ∷ codes "bfs" ∷ []) ≡ None
unfolding command_of
program_twice = refl

parts_with_source : command_of (codes "parts" ∷ codes "bfs" ∷ codes "1" ∷ []) ≡ None
unfolding command_of
parts_with_source = refl

two_dashes : command_of (codes "run" ∷ codes "bfs" ∷ codes "--" ∷ codes "1" ∷ []) ≡ None
unfolding command_of
two_dashes = refl

one_dash : command_of (codes "run" ∷ codes "-" ∷ codes "1" ∷ []) ≡ None
unfolding command_of
one_dash = refl

help : command_of (codes "run" ∷ codes "--help" ∷ []) ≡ None
unfolding command_of
help = refl

empty_word : command_of (codes "run" ∷ codes "bfs" ∷ [] ∷ []) ≡ None
unfolding command_of
empty_word = refl

empty_program : command_of (codes "run" ∷ [] ∷ []) ≡ None
unfolding command_of
empty_program = refl

short_name : command_of (codes "run" ∷ codes "bfs" ∷ codes "--work" ∷ codes "2" ∷ []) ≡ None
unfolding command_of
short_name = refl

longer_name : command_of (codes "run" ∷ codes "bfs" ∷ codes "--workerss=2" ∷ []) ≡ None
unfolding command_of
longer_name = refl

flag_with_value : command_of (codes "solve" ∷ codes "bfs" ∷ codes "--unweighted=1" ∷ []) ≡ None
unfolding command_of
flag_with_value = refl

option_of_another : command_of (codes "solve" ∷ codes "bfs" ∷ codes "--workers" ∷ codes "2" ∷ []) ≡ None
unfolding command_of
option_of_another = refl

flag_of_another : command_of (codes "run" ∷ codes "sssp" ∷ codes "--unweighted" ∷ codes "1" ∷ []) ≡ None
unfolding command_of
flag_of_another = refl

long_source : command_of (codes "run" ∷ codes "bfs" ∷ codes "00000000000000000000001" ∷ []) ≡ None
unfolding command_of
long_source = refl

source_above : command_of (codes "run" ∷ codes "bfs" ∷ codes "4294967296" ∷ []) ≡ None
unfolding command_of
source_above = refl

great_source : command_of (codes "run" ∷ codes "bfs" ∷ codes "99999999999999999999" ∷ []) ≡ None
unfolding command_of
great_source = refl

negative_source : command_of (codes "run" ∷ codes "bfs" ∷ codes "-1" ∷ []) ≡ None
unfolding command_of
negative_source = refl

signed_source : command_of (codes "run" ∷ codes "bfs" ∷ codes "+1" ∷ []) ≡ None
unfolding command_of
signed_source = refl

worker_with_word : command_of (codes "worker" ∷ codes "x" ∷ []) ≡ None
unfolding command_of
worker_with_word = refl

worker_with_option : command_of (codes "worker" ∷ codes "--workers" ∷ codes "2" ∷ []) ≡ None
unfolding command_of
worker_with_option = refl

worker_with_flag : command_of (codes "worker" ∷ codes "--unweighted" ∷ []) ≡ None
unfolding command_of
worker_with_flag = refl
