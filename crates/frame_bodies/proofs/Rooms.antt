-- A frame that fits has room for its numbers.
use Rattle.std.proofs.Common.{ℕ, ◌^◌, ◌<◌, List, inl, inr, arith}
use Rattle.std.specs.Prelude.{All}
use Rattle.std.proofs.lemmas.List.Elements.{All-weaker}
use Rattle.px_base.specs.declared.program.Start.{Start}
use Rattle.px_base.specs.declared.program.Start.TheVariants.{Source, Each, OwnId}
use Rattle.px_base.specs.declared.program.Along.{Along}
use Rattle.px_base.specs.declared.program.Along.TheVariants.{Same, Plus, PlusWeight, FloorWeight, CapWeight, Minus}
use Rattle.px_base.specs.declared.program.Fold.{Fold}
use Rattle.px_base.specs.declared.program.Fold.TheVariants.{Least, Greatest, Mex, Count}
use Rattle.px_base.specs.declared.wire.Update.{Update}
use Rattle.px_base.specs.declared.wire.Order.TheVariants.{Step, Report}
use Rattle.px_base.specs.declared.wire.Answer.TheVariants.{Stepped, Reported}
use Rattle.px_base.specs.declared.frame.Setup.{Setup}
use Rattle.px_base.specs.declared.frame.Triple.{Triple}
use Rattle.px_base.specs.declared.frame.Frame.{Frame}
use Rattle.px_base.specs.declared.frame.Frame.TheVariants as frame
use Rattle.px_base.specs.Values.{IsValue}
use Rattle.px_base.specs.Frames.{start_first, start_second, along_number, fold_number}
use Rattle.px_base.specs.FrameFits.{IsVertex, IsWord, SetupFits, FrameFits}
use Rattle.px_base.specs.RowTexts.{IsRowValue, IsRowStart, IsRowAlong, IsRowFold}
use Rattle.frame_bodies.specs.Widths.{IsLong, SetupHasRoom, PairHasRoom, TripleHasRoom, HasRoom}

row_value_small : (a : ℕ) → IsRowValue a → a < 2 ^ 64
row_value_small a (inl e) = omega arith
row_value_small a (inr h) = omega arith

start_small : (s : Start) → IsRowStart s → (start_first s < 2 ^ 64) × (start_second s < 2 ^ 64)
start_small (Source a b) h = (row_value_small a h.0, row_value_small b h.1)
start_small (Each a) h = (row_value_small a h, omega arith)
start_small OwnId h = (omega arith, omega arith)

along_small : (a : Along) → IsRowAlong a → along_number a < 2 ^ 64
along_small Same h = omega arith
along_small (Plus n) h = omega arith
along_small PlusWeight h = omega arith
along_small FloorWeight h = omega arith
along_small CapWeight h = omega arith
along_small (Minus n) h = omega arith

fold_small : (f : Fold) → IsRowFold f → fold_number f < 2 ^ 32
fold_small Least h = omega arith
fold_small Greatest h = omega arith
fold_small Mex h = omega arith
fold_small (Count k) h = h

setup_room : (s : Setup) → SetupFits s → SetupHasRoom s
setup_room s h =
    let starts = start_small s.program.start h.program.start in
    record {
      index = omega (arith, h.index);
      low = omega (arith, h.range, h.room);
      high = omega (arith, h.room);
      program = record { first = starts.0; second = starts.1; number = along_small s.program.along h.program.along; count = fold_small s.program.fold h.program.fold };
      chunks = omega (arith, h.chunks.1);
      mirrors = omega (arith, h.mirrors);
      boundary = omega (arith, h.boundary);
      reads = omega (arith, h.reads);
    }

values_room : (xs : List ℕ) → All IsValue xs → All IsLong xs
values_room xs h = All-weaker IsValue IsLong (λ x k. omega arith) xs h

pairs_room : (us : List Update) → All (λ u. IsVertex u.vertex × IsValue u.value) us → All PairHasRoom us
pairs_room us h = All-weaker (λ (u : Update). IsVertex u.vertex × IsValue u.value) PairHasRoom (λ u k. (omega arith, omega arith)) us h

-- a frame that fits has room
pub room : (f : Frame) → FrameFits f → HasRoom f
room (frame.Setup s) h = setup_room s h
room (frame.Starts xs) h = values_room xs h.1
room (frame.Mirrors us) h = pairs_room us h.1.each
room (frame.Boundary xs) h = All-weaker IsVertex IsWord (λ x k. omega arith) xs h.2
room (frame.Reads ts) h =
    All-weaker (λ (t : Triple). IsVertex t.target × IsVertex t.source × IsWord t.weight) TripleHasRoom (λ t k. (omega arith, omega arith, omega arith)) ts h.2
room frame.Ready h = tt
room (frame.Order (Step e r us)) h = (h.0, h.1, omega (arith, h.2), pairs_room us h.3.each)
room (frame.Order (Report e)) h = h
room (frame.Answer (Stepped e r c us)) h = (h.0, h.1, omega (arith, h.2), pairs_room us h.3.each)
room (frame.Answer (Reported e xs)) h = (h.0, omega (arith, h.1), values_room xs h.2)
