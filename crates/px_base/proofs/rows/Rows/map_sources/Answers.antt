use Rattle.std.proofs.Common.{◌∙◌, ap}
use Rattle.px_base.specs.FlatRows.{rows_in, with_sources}
use Rattle.px_base.proofs.FlatMaps.{rows_to_sources, flat_same_size, rows_in-map}
use Rattle.px_base.proofs.rows.Rows.map_sources.Goals as goal

pub map_each-requires : goal.map_each-requires
map_each-requires g c =
    rows_to_sources (λ u. goal.F-pre g c.args.place u) c.self.inside.starts.items c.self.inside.sources.items c.self.inside.weights.items c.self.invariant
    (rw (← c.self.view_is) at c.requires)

pub invariant_of-self : goal.invariant_of-self
invariant_of-self g c =
    flat_same_size c.self.inside.starts.items c.self.inside.sources.items c.self.inside.weights.items c.map_each.new.sources.items c.map_each.ensures.size c.self.invariant

pub returns : goal.returns
returns g c = λ f is.
    ap (λ sources. rows_in c.self.inside.starts.items sources c.self.inside.weights.items) (c.map_each.ensures.each f is)
    ∙ rows_in-map f c.self.inside.starts.items c.self.inside.sources.items c.self.inside.weights.items
    ∙ ap (with_sources f) c.self.view_is
