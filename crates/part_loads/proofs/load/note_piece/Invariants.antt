use Rattle.part_loads.specs.Loads.{with_piece}
use Rattle.part_loads.proofs.load.note_piece.Given as goal

abbrev pub ghost-go_to : goal.ghost-go_to
ghost-go_to a = with_piece a.self.now a.by.now
