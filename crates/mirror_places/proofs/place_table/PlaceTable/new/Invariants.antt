use Rattle.mirror_places.proofs.Tabling.{IsBegun}
use Rattle.mirror_places.proofs.place_table.PlaceTable.new.Given as goal

-- the blocks of the positions so far have their entries
abbrev pub invariant-loop-k : goal.invariant-loop-k
invariant-loop-k l = IsBegun l.positions l.starts.items l.k
