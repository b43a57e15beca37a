use Rattle.phoenix_cli.proofs.Served.{all_served, none_unknown, read_failed, write_failed, no_read_failed, no_write_failed, no_want}
use Rattle.phoenix_cli.proofs.serving.serve_frames.Goals as goal

pub returns-clause-run : goal.returns-clause-run
returns-clause-run g c = record { why = c.serve.result; is = c.outcome_of.ensures; served = c.serve.ensures.served }

pub returns-clause-read_fault : goal.returns-clause-read_fault
returns-clause-read_fault g c = λ e. c.serve.ensures.read_fault (read_failed c.serve.result c.outcome_of.result c.outcome_of.ensures e)

pub returns-clause-write_fault : goal.returns-clause-write_fault
returns-clause-write_fault g c = λ e. c.serve.ensures.write_fault (write_failed c.serve.result c.outcome_of.result c.outcome_of.ensures e)

pub returns-clause-no_fault : goal.returns-clause-no_fault
returns-clause-no_fault g c = λ other. c.serve.ensures.no_fault (no_read_failed c.serve.result c.outcome_of.result c.outcome_of.ensures other)

pub returns-clause-no_write_fault : goal.returns-clause-no_write_fault
returns-clause-no_write_fault g c = λ other. c.serve.ensures.no_write_fault (no_write_failed c.serve.result c.outcome_of.result c.outcome_of.ensures other)

pub returns-clause-ended : goal.returns-clause-ended
returns-clause-ended g c = λ e. c.serve.ensures.ended (all_served c.serve.result c.outcome_of.result c.outcome_of.ensures e)

pub returns-clause-known : goal.returns-clause-known
returns-clause-known g c = none_unknown c.serve.result c.outcome_of.result c.outcome_of.ensures

pub returns-clause-not_ended : goal.returns-clause-not_ended
returns-clause-not_ended g c = λ e. c.serve.ensures.not_ended (read_failed c.serve.result c.outcome_of.result c.outcome_of.ensures e)

pub returns-clause-spared : goal.returns-clause-spared
returns-clause-spared g c = λ other. c.serve.ensures.spared (no_want c.serve.result c.outcome_of.result c.outcome_of.ensures other)
