use Rattle.std.proofs.Common.{◌≡◌, true, take}
use Rattle.std.specs.Prelude.{All}
use Rattle.worker_world.specs.Readers.{HasGrown, is_reader}
use Rattle.worker_world.proofs.readers.add_places.Given as goal

-- the reader is added to the places so far
abbrev pub invariant-loop-place : goal.invariant-loop-place
invariant-loop-place l = record {
  grown : HasGrown l.reader l.fn.readers l.readers;
  reads : All (λ s. is_reader l.readers s l.reader ≡ true) (take l.place-index l.places);
}
