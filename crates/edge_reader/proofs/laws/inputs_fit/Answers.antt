use Rattle.edge_reader.proofs.InputFits.{input_fits}
use Rattle.edge_reader.proofs.laws.inputs_fit.Goals as goal

pub returns : goal.returns
returns c = input_fits
