use Rattle.hub_laws.proofs.HubChanged as changed
use Rattle.hub_laws.proofs.HubEvents.{answered_in_step}
use Rattle.hub_laws.proofs.HubGave as gave
use Rattle.hub_laws.proofs.Opening.{hub_opens}
use Rattle.hub_laws.proofs.laws.hubs_stay_in_step.Goals as goal

pub returns-clause-opens : goal.returns-clause-opens
returns-clause-opens c = hub_opens

pub returns-clause-gave : goal.returns-clause-gave
returns-clause-gave c = gave.gave_in_step

pub returns-clause-took : goal.returns-clause-took
returns-clause-took c = answered_in_step

pub returns-clause-lost : goal.returns-clause-lost
returns-clause-lost c = λ hub i kind ok inside live. changed.lost_in_step hub i kind ok inside live

pub returns-clause-joined : goal.returns-clause-joined
returns-clause-joined c = λ hub i ok inside missing free. changed.joined_in_step hub i ok inside missing free

pub returns-clause-halted : goal.returns-clause-halted
returns-clause-halted c = changed.halted_in_step
