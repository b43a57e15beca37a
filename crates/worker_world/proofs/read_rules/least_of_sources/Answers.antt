use Rattle.std.proofs.Common.{◌∙◌, ◌<◌, length, ap}
use Rattle.px_base.specs.Rules.{least}
use Rattle.worker_world.proofs.Sources.{all_sources, source_items}
use Rattle.worker_world.proofs.read_rules.least_of_sources.Goals as goal

pub least_at-requires-clause-places : goal.least_at-requires-clause-places
least_at-requires-clause-places g c = all_sources (λ s. s < length c.args.values.now) c.args.row.now c.sources.result.now c.sources.ensures c.requires.places

pub returns : goal.returns
returns g c = c.least_at.ensures ∙ ap (least c.args.start) (source_items (g.E.SourceRule.source_value c.args.rule.now) c.args.values.now c.args.row.now c.sources.result.now c.sources.ensures)
