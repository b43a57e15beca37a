use Rattle.px_base.proofs.Uniqueness.{one_consistent}
use Rattle.consistent_solver.proofs.Turning.{consistent_turned, greatest_turned, program_exists, program_fixed, program_reached}
use Rattle.consistent_solver.proofs.laws.greatest_consistent_list.Goals as goal

pub returns-clause-exists : goal.returns-clause-exists
returns-clause-exists c = program_exists

pub returns-clause-only : goal.returns-clause-only
returns-clause-only c = one_consistent

pub returns-clause-consistent : goal.returns-clause-consistent
returns-clause-consistent c = consistent_turned

pub returns-clause-turned : goal.returns-clause-turned
returns-clause-turned c = greatest_turned

pub returns-clause-fixed : goal.returns-clause-fixed
returns-clause-fixed c = program_fixed

pub returns-clause-reached : goal.returns-clause-reached
returns-clause-reached c = program_reached
