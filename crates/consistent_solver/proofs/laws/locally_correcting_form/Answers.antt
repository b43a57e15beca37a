use Rattle.consistent_solver.proofs.Turning.{keeps_own, no_mex, no_count}
use Rattle.consistent_solver.proofs.laws.locally_correcting_form.Goals as goal

pub returns-clause-keeps : goal.returns-clause-keeps
returns-clause-keeps c = keeps_own

pub returns-clause-no_mex : goal.returns-clause-no_mex
returns-clause-no_mex c = no_mex

pub returns-clause-no_count : goal.returns-clause-no_count
returns-clause-no_count c = no_count
