use Rattle.settling_laws.proofs.ByWalks.{sound_none_lower, sound_some_brings}
use Rattle.settling_laws.proofs.laws.walks_settle.Goals as goal

pub returns-clause-none_less : goal.returns-clause-none_less
returns-clause-none_less c = sound_none_lower

pub returns-clause-brought : goal.returns-clause-brought
returns-clause-brought c = sound_some_brings
