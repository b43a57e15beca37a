use Rattle.std.proofs.Common.{sym, ◌∙◌, arith}
use Rattle.part_loads.proofs.Keeps.{keeps_more, not_earlier, not_piece}
use Rattle.part_loads.proofs.load.Load.add.Goals as goal
use Rattle.part_loads.proofs.load.Load.add.Goals.{then-not-is_piece-via-then-not-is_piece, then-not-is_piece-via-else-not-is_piece+then-kind-self}

pub returns-then-not-is_piece-clause-refused : goal.returns-then-not-is_piece-clause-refused
returns-then-not-is_piece-clause-refused c =
    rw (← c.self.view_is) (elim c.then-not-is_piece.branch [
      | then-not-is_piece-via-then-not-is_piece w ↦ λ same order. not_piece c.self.inside.given.pieces c.args.frame (sym c.is_piece.ensures ∙ w.if-not-is_piece.true) order
      | then-not-is_piece-via-else-not-is_piece+then-kind-self w ↦ λ same order. not_earlier c.self.inside.given.pieces c.args.frame (let less = w.if-kind-self.true in let kind = c.kind_of-kind.ensures in let last = c.self.invariant.kind in omega arith) order
    ])

pub invariant_of-self : goal.invariant_of-self
invariant_of-self c =
    rw (c.note_piece.ensures, c.of-piece.ensures, c.in-Ok.ensures.ok)
    (keeps_more c.self.inside.given c.self.inside.setup c.self.inside.last c.self.inside.entries c.args.frame c.kind_of-kind.result c.self.invariant c.requires
    (sym c.is_piece.ensures ∙ c.if-not-is_piece.false) c.kind_of-kind.ensures c.if-kind-self.false)

pub returns-in-Ok-clause-order : goal.returns-in-Ok-clause-order
returns-in-Ok-clause-order c =
    rw (c.note_piece.ensures, c.of-piece.ensures)
    (keeps_more c.self.inside.given c.self.inside.setup c.self.inside.last c.self.inside.entries c.args.frame c.kind_of-kind.result c.self.invariant c.requires
    (sym c.is_piece.ensures ∙ c.if-not-is_piece.false) c.kind_of-kind.ensures c.if-kind-self.false).order
