use Rattle.px_frames.proofs.Apart.{spellings_apart, one_reading, longest}
use Rattle.px_frames.proofs.laws.spellings_are_apart.Goals as goal

pub returns-clause-apart : goal.returns-clause-apart
returns-clause-apart c = spellings_apart

pub returns-clause-reading : goal.returns-clause-reading
returns-clause-reading c = one_reading

pub returns-clause-longest : goal.returns-clause-longest
returns-clause-longest c = longest
