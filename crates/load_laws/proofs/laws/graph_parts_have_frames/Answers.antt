use Rattle.load_laws.proofs.GraphParts.{loadable}
use Rattle.load_laws.proofs.laws.graph_parts_have_frames.Goals as goal

pub returns : goal.returns
returns c = loadable
