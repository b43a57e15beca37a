use Rattle.std.proofs.Common.{arith, ◌≡◌, ◌++◌, take, append-nil, subst, ◌∙◌, refl}
use Rattle.std.proofs.lemmas.List.{take_all}
use Rattle.std.proofs.lemmas.Result.{err_from_is_err_and}
use Rattle.edge_reader.specs.Lists.{IsFed}
use Rattle.edge_reader.proofs.lines.ReadLines.feed.Goals as goal

pub loop-at-init : goal.loop-at-init
loop-at-init c = record { within = omega arith; weighted = refl; fed = λ text h small. rw append-nil h }

pub loop-at-preserved : goal.loop-at-preserved
loop-at-preserved c = record {
  within = c.in_ok-at.ensures.within.1;
  weighted = c.digits_and_byte.ensures.weighted ∙ c.loop-at.invariant.weighted;
  fed = λ text h small. c.in_ok-at.ensures.fed text (c.loop-at.invariant.fed text h small) small;
}

pub returns-in_err-at-clause-weighted : goal.returns-in_err-at-clause-weighted
returns-in_err-at-clause-weighted c = c.digits_and_byte.ensures.weighted ∙ c.loop-at.invariant.weighted

pub returns-in_err-at-clause-fed : goal.returns-in_err-at-clause-fed
returns-in_err-at-clause-fed c = λ text h small.
    let p = err_from_is_err_and c.from_residual.result c.from_residual.ensures.1 in
    rw (p.1, p.2) (c.in_err-at.ensures.fed text (c.loop-at.invariant.fed text h small) small)

pub returns-clause-fed : goal.returns-clause-fed
returns-clause-fed c = λ text h small.
    let all : take c.loop-at.at c.args.piece.now ≡ c.args.piece.now = take_all c.loop-at.at c.args.piece.now (omega arith) in
    subst (λ l. IsFed (text ++ l) c.loop-at.self c.loop-at.scan) all (c.loop-at.invariant.fed text h small)
