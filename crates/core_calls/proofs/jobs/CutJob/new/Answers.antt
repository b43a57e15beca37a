use Rattle.std.proofs.Common.{length}
use Rattle.core_calls.proofs.Building.{is_cut_job}
use Rattle.core_calls.proofs.jobs.CutJob.new.Goals as goal

pub invariant_of-result : goal.invariant_of-result
invariant_of-result c = is_cut_job c.in_ok-program.program c.in_ok-graph.graph c.core_form-core.result c.in_ok-starts.starts.items c.in_ok-cuts.cuts.ends (length c.in_ok-list.list.ids)
    c.in_ok-program.ensures.accepted c.in_ok-program.ensures.program c.in_ok-graph.ensures.built c.in_ok-graph.ensures.size c.in_ok-graph.ensures.rows c.in_ok-graph.ensures.reads
    c.in_ok-list.ensures.vertices c.in_ok-starts.ensures c.core_form-core.ensures c.in_ok-cuts.ensures.cuts
