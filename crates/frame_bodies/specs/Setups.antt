-- The bytes of a program, by its codes and numbers.
use Rattle.std.specs.Prelude.{◌≡◌, ℕ, List, [], ◌∷◌, ◌++◌}
use Rattle.px_base.specs.declared.program.Program.{Program}
use Rattle.px_base.specs.Frames.{four_bytes, eight_bytes, form_code, reads_code, own_code, program_bytes}
use Rattle.px_base.specs.FrameFits.{IsWord}
use Rattle.frame_bodies.specs.declared.setup.ProgramNumbers.{ProgramNumbers}
use Rattle.frame_bodies.specs.Codes.{HasStartNumbers, HasAlongNumbers, HasFoldNumbers}
use Rattle.frame_bodies.specs.Widths.{IsLong, ProgramHasRoom}

abbrev pub program_numbers_bytes : ProgramNumbers → List ℕ
program_numbers_bytes n = n.form ∷ n.reads
    ∷ n.start ∷ eight_bytes n.first ++ eight_bytes n.second
    ++ n.along ∷ eight_bytes n.number
    ++ n.fold ∷ four_bytes n.count
    ++ n.own ∷ []

pub record NumbersHaveRoom (n : ProgramNumbers) : Type 0 where
  pub first : IsLong n.first
  pub second : IsLong n.second
  pub number : IsLong n.number
  pub count : IsWord n.count

-- the bytes begin with the program's
pub record IsProgramFront (bytes : List ℕ) (p : Program) (rest : List ℕ) : Type 0 where
  pub room : ProgramHasRoom p
  pub is : bytes ≡ program_bytes p ++ rest

-- the program is written by these codes and numbers
pub record HasNumbers (p : Program) (n : ProgramNumbers) : Type 0 where
  pub form : form_code p.form ≡ n.form
  pub reads : reads_code p.reads ≡ n.reads
  pub start : HasStartNumbers p.start n.start n.first n.second
  pub along : HasAlongNumbers p.along n.along n.number
  pub fold : HasFoldNumbers p.fold n.fold n.count
  pub own : own_code p.own ≡ n.own
