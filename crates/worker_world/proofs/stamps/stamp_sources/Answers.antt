use Rattle.std.proofs.Common.{◌∙◌, ◌<◌, length, ap}
use Rattle.px_base.specs.Values.{is_listed}
use Rattle.worker_world.proofs.Sources.{all_sources, source_items}
use Rattle.worker_world.proofs.stamps.stamp_sources.Goals as goal

pub stamp_at-requires-clause-places : goal.stamp_at-requires-clause-places
stamp_at-requires-clause-places g c = all_sources (λ s. s < length c.args.values.now) c.args.row.now c.sources.result.now c.sources.ensures c.requires.places

pub returns-clause-stamped : goal.returns-clause-stamped
returns-clause-stamped g c k below =
    c.stamp_at.ensures.stamped k below
    ∙ ap (λ items. is_listed items k) (source_items (g.E.SourceRule.source_value c.args.rule.now) c.args.values.now c.args.row.now c.sources.result.now c.sources.ensures)
