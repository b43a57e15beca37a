use Rattle.std.proofs.Common.{sym, ◌∙◌}
use Rattle.std.proofs.lemmas.Bool.{false≢true}
use Rattle.part_loads.proofs.Parts.{fits_if_whole, weights_of, whole_of, words_kept, part_is}
use Rattle.part_loads.proofs.load.Load.finish.Goals as goal

pub returns-then-not-part_fits-clause-refused : goal.returns-then-not-part_fits-clause-refused
returns-then-not-part_fits-clause-refused c =
    rw (← c.self.view_is) (λ whole. false≢true (sym c.if-not-part_fits.true ∙ c.part_fits.ensures.1
    (fits_if_whole c.self.inside.given c.self.inside.setup c.self.inside.last c.self.inside.entries c.in_ok-part.part c.self.invariant c.in_ok-part.ensures.part whole)))

pub returns-clause-whole : goal.returns-clause-whole
returns-clause-whole c =
    rw (← c.self.view_is)
    (whole_of c.self.inside.given c.self.inside.setup c.self.inside.last c.self.inside.entries c.in_ok-part.part c.self.invariant
    (c.are_counted.ensures.0 c.if-not-are_counted.false) (c.are_rows.ensures.0 c.if-not-are_rows.false) c.in_ok-part.ensures.part (c.part_fits.ensures.0 c.if-not-part_fits.false))

pub returns-clause-weights : goal.returns-clause-weights
returns-clause-weights c =
    weights_of c.self.inside.given c.self.inside.setup c.self.inside.last c.self.inside.entries c.in_ok-part.part c.self.invariant c.in_ok-part.ensures.part

pub joined_part-requires-clause-words : goal.joined_part-requires-clause-words
joined_part-requires-clause-words c = words_kept c.self.inside.given c.self.inside.setup c.self.inside.last c.self.inside.entries c.self.invariant

pub returns-clause-part : goal.returns-clause-part
returns-clause-part c =
    rw (← c.self.view_is) (c.in_ok-part.ensures.part ∙ part_is c.self.inside.given c.self.inside.setup c.self.inside.last c.self.inside.entries c.self.invariant)
