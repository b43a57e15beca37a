use Rattle.std.proofs.Common.{arith, length}
use Rattle.supervisor_rows.proofs.Building.{built_job}
use Rattle.supervisor_rows.proofs.jobs.job_of.Goals as goal

pub returns : goal.returns
returns c = record {
  sound = built_job c.in_ok-program.program c.in_ok-graph.graph c.core_form.result c.in_ok-starts_of.field-0.items c.from_vec-starts.result (length c.in_ok-list.list.ids) c.in_ok-program.ensures.accepted c.in_ok-program.ensures.program
      c.in_ok-graph.ensures.built c.in_ok-graph.ensures.size c.in_ok-graph.ensures.rows c.in_ok-graph.ensures.reads c.in_ok-list.ensures.vertices c.in_ok-starts_of.ensures c.from_vec-starts.ensures c.core_form.ensures;
  workers = (omega arith, omega arith);
  limits = c.limits_fit.ensures c.if-not-limits_fit.false;
  chunks = (omega arith, omega arith);
}
