use Rattle.std.proofs.Common.{arith, ◌<◌, ◌≤◌, ◌^◌, ℕ, ◌++◌, length, take, sym, subst}
use Rattle.std.proofs.lemmas.Result.{err_from_is_err_and}
use Rattle.edge_reader.specs.Lists.{IsFed}
use Rattle.edge_reader.proofs.MoreLines.{digits_more, one_taken, taken_small, fault_of_piece}
use Rattle.edge_reader.proofs.lines.ReadLines.digits_and_byte.Goals as goal

pub returns-then-at-piece-clause-fed : goal.returns-then-at-piece-clause-fed
returns-then-at-piece-clause-fed c = λ text h small.
    digits_more text c.args.piece.now c.args.from c.take_digits-at.result c.args.self.now c.args.scan.now c.take_digits-at.new.self c.take_digits-at.ensures.within.0 c.take_digits-at.ensures.taken h

pub returns-in_err-one_byte-clause-fed : goal.returns-in_err-one_byte-clause-fed
returns-in_err-one_byte-clause-fed c = λ text h small.
    let at : ℕ = c.take_digits-at.result in
    let inside : at ≤ length c.args.piece.now = c.take_digits-at.ensures.within.1 in
    let below : at < length c.args.piece.now = omega (arith, inside) in
    let few : length (text ++ take at c.args.piece.now) < 2 ^ 32 = omega (arith, taken_small text c.args.piece.now at) in
    let fed : IsFed (text ++ take at c.args.piece.now) c.args.self.now c.take_digits-at.new.self =
    digits_more text c.args.piece.now c.args.from at c.args.self.now c.args.scan.now c.take_digits-at.new.self c.take_digits-at.ensures.within.0 c.take_digits-at.ensures.taken h in
    let p = err_from_is_err_and c.from_residual.result c.from_residual.ensures.1 in
    rw (p.1, p.2) (fault_of_piece c.one_byte.new.self.weighted text c.args.piece.now at c.in_err-one_byte.field-0.0 below (c.in_err-one_byte.ensures.fed (text ++ take at c.args.piece.now) fed few))

pub returns-clause-fed : goal.returns-clause-fed
returns-clause-fed c = λ text h small.
    let at : ℕ = c.take_digits-at.result in
    let inside : at ≤ length c.args.piece.now = c.take_digits-at.ensures.within.1 in
    let below : at < length c.args.piece.now = omega (arith, inside) in
    let few : length (text ++ take at c.args.piece.now) < 2 ^ 32 = omega (arith, taken_small text c.args.piece.now at) in
    let fed : IsFed (text ++ take at c.args.piece.now) c.args.self.now c.take_digits-at.new.self =
    digits_more text c.args.piece.now c.args.from at c.args.self.now c.args.scan.now c.take_digits-at.new.self c.take_digits-at.ensures.within.0 c.take_digits-at.ensures.taken h in
    subst (λ l. IsFed l c.one_byte.new.self c.one_byte.new.scan) (sym (one_taken text c.args.piece.now at below)) (c.in_ok-one_byte.ensures.fed (text ++ take at c.args.piece.now) fed few)
