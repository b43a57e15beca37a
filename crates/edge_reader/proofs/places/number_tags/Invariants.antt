use Rattle.edge_reader.proofs.Numbering.{Numbered}
use Rattle.edge_reader.proofs.places.number_tags.Given as goal

-- the tags so far are numbered
abbrev pub invariant-loop-tag : goal.invariant-loop-tag
invariant-loop-tag l = Numbered l.fn.ends l.tags l.ends l.ids.items l.tag-index
