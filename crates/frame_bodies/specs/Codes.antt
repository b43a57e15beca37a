-- The codes and numbers by which parts of a program are written.
use Rattle.std.specs.Prelude.{◌≡◌, ℕ}
use Rattle.px_base.specs.declared.program.Start.{Start}
use Rattle.px_base.specs.declared.program.Along.{Along}
use Rattle.px_base.specs.declared.program.Fold.{Fold}
use Rattle.px_base.specs.Frames.{start_code, start_first, start_second, along_code, along_number, fold_code, fold_number}

pub record HasStartNumbers (start : Start) (c a b : ℕ) : Type 0 where
  pub code : start_code start ≡ c
  pub first : start_first start ≡ a
  pub second : start_second start ≡ b

pub record HasAlongNumbers (along : Along) (c n : ℕ) : Type 0 where
  pub code : along_code along ≡ c
  pub number : along_number along ≡ n

pub record HasFoldNumbers (fold : Fold) (c n : ℕ) : Type 0 where
  pub code : fold_code fold ≡ c
  pub number : fold_number fold ≡ n
