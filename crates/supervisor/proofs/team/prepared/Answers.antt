use Rattle.std.proofs.Common.{refl, ◌≡◌, ◌∙◌, List, ℕ, ap, sym, length}
use Rattle.px_base.specs.Parts.{part_count, part_of}
use Rattle.px_base.specs.Values.{by_position}
use Rattle.hub_terms.specs.Hubs.{HubState}
use Rattle.hub_terms.specs.Jobs.{job_of}
use Rattle.hub_terms.specs.Systems.{SystemState, opening_system}
use Rattle.driver_laws.proofs.Opening.{route_each, routes_are, team_parts}
use Rattle.supervisor.proofs.team.prepared.Goals as goal

pub new-requires-clause-routes : goal.new-requires-clause-routes
new-requires-clause-routes c = routes_are c.args.job.now.graph.rows c.in_ok-cuts.cuts.ends c.in_ok-parts.routes.to c.in_ok-parts.ensures.routes

pub new-requires-clause-one_each : goal.new-requires-clause-one_each
new-requires-clause-one_each c = route_each c.args.job.now.graph.rows c.row_count.result c.in_ok-cuts.cuts.ends c.in_ok-parts.routes.to c.in_ok-parts.ensures.routes
    c.row_count.ensures c.in_ok-cuts.ensures.cuts

pub returns-clause-team : goal.returns-clause-team
returns-clause-team c =
    let job = c.args.job.now in
    let ends = c.in_ok-cuts.cuts.ends in
    let made : c.new-system.result ≡ opening_system c.in_ok-hub.hub.inboxes.cuts c.in_ok-hub.hub.members.limits c.args.told (job_of job.graph job.core job.starts) = rw (← c.as_slice-starts.ensures) c.new-system.ensures in
    let opens : c.new-system.result ≡ opening_system ends job.limits c.args.told (job_of job.graph job.core job.starts) =
    made ∙ ap (λ (h : HubState). opening_system h.inboxes.cuts h.members.limits c.args.told (job_of job.graph job.core job.starts)) c.in_ok-hub.ensures in
    record {
      parts = team_parts c.new-system.result ends job.limits c.args.told (job_of job.graph job.core job.starts) job.graph.rows c.in_ok-parts.parts opens refl
          (c.in_ok-parts.ensures.parts ∙ ap (λ (starts : List ℕ). by_position (part_count ends) (part_of job.graph.rows starts ends)) c.as_slice-starts.ensures);
      core = sym (ap (λ (s : SystemState). s.job.core) opens);
      some_chunks = c.requires.chunks.0;
      few_chunks = c.requires.chunks.1;
    }
