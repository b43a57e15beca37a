use Rattle.load_laws.proofs.WholeLoads as loads
use Rattle.load_laws.proofs.laws.parts_have_frames.Goals as goal

pub returns-clause-setup : goal.returns-clause-setup
returns-clause-setup c = loads.setup_fits

pub returns-clause-frames : goal.returns-clause-frames
returns-clause-frames c = loads.frames_fit

pub returns-clause-order : goal.returns-clause-order
returns-clause-order c = loads.in_order

pub returns-clause-part : goal.returns-clause-part
returns-clause-part c = loads.part_is

pub returns-clause-whole : goal.returns-clause-whole
returns-clause-whole c = loads.whole
