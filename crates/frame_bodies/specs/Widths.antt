-- Frames whose numbers have room in their bytes. Each value of the Rust types is one, and so is each frame that fits.
use Rattle.std.specs.Prelude.{ℕ, ◌^◌, ◌<◌, length, All, ⊤}
use Rattle.px_base.specs.declared.program.Program.{Program}
use Rattle.px_base.specs.declared.wire.Update.{Update}
use Rattle.px_base.specs.declared.wire.Order.TheVariants.{Step, Report}
use Rattle.px_base.specs.declared.wire.Answer.TheVariants.{Stepped, Reported}
use Rattle.px_base.specs.declared.frame.Setup.{Setup}
use Rattle.px_base.specs.declared.frame.Triple.{Triple}
use Rattle.px_base.specs.declared.frame.Frame.{Frame}
use Rattle.px_base.specs.declared.frame.Frame.TheVariants as frame
use Rattle.px_base.specs.Frames.{start_first, start_second, along_number, fold_number}
use Rattle.px_base.specs.FrameFits.{IsWord}

-- a number of eight bytes
abbrev pub IsLong : ℕ → Type 0
IsLong n = n < 2 ^ 64

pub record ProgramHasRoom (p : Program) : Type 0 where
  pub first : IsLong (start_first p.start)
  pub second : IsLong (start_second p.start)
  pub number : IsLong (along_number p.along)
  pub count : IsWord (fold_number p.fold)

pub record SetupHasRoom (s : Setup) : Type 0 where
  pub index : IsWord s.index
  pub low : IsWord s.low
  pub high : IsWord s.high
  pub program : ProgramHasRoom s.program
  pub chunks : IsWord s.chunks
  pub mirrors : IsWord s.mirrors
  pub boundary : IsWord s.boundary
  pub reads : IsWord s.reads

abbrev pub PairHasRoom : Update → Type 0
PairHasRoom u = IsWord u.vertex × IsLong u.value

abbrev pub TripleHasRoom : Triple → Type 0
TripleHasRoom t = IsWord t.target × IsWord t.source × IsWord t.weight

-- the numbers of the frame have room in their bytes
abbrev pub HasRoom : Frame → Type 0
HasRoom (frame.Setup s) = SetupHasRoom s
HasRoom (frame.Starts values) = All IsLong values
HasRoom (frame.Mirrors pairs) = All PairHasRoom pairs
HasRoom (frame.Boundary vertices) = All IsWord vertices
HasRoom (frame.Reads triples) = All TripleHasRoom triples
HasRoom frame.Ready = ⊤
HasRoom (frame.Order (Step epoch round updates)) = IsWord epoch × IsLong round × IsWord (length updates) × All PairHasRoom updates
HasRoom (frame.Order (Report epoch)) = IsWord epoch
HasRoom (frame.Answer (Stepped epoch round changed updates)) = IsWord epoch × IsLong round × IsWord (length updates) × All PairHasRoom updates
HasRoom (frame.Answer (Reported epoch values)) = IsWord epoch × IsWord (length values) × All IsLong values
