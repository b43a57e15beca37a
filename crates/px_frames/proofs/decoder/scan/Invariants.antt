use Rattle.std.proofs.Common.{◌-◌, length}
use Rattle.px_frames.specs.Decodings.{ScansTo}
use Rattle.px_frames.proofs.decoder.scan.Given as goal

-- the frames up to here were added
abbrev pub invariant-loop-frame : goal.invariant-loop-frame
invariant-loop-frame l = ScansTo l.bytes l.fn.waiting.items l.waiting.items l.at

abbrev pub decreases-loop-frame : goal.decreases-loop-frame
decreases-loop-frame l = length l.bytes - l.at
