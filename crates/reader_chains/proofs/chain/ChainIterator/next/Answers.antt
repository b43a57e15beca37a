use Rattle.std.proofs.Common.{◌∙◌, ◌-◌, length, refl, sym, ap, arith, rules}
use Rattle.reader_chains.specs.Chains.{link_at}
use Rattle.reader_chains.proofs.Linked.{from_link}
use Rattle.reader_chains.proofs.chain.ChainIterator.next.Goals as goal

pub returns-clause-steps : goal.returns-clause-steps
returns-clause-steps c =
    let links = c.self.inside.links.now in
    let at = c.self.inside.at in
    sym c.self.view_is ∙ from_link links at (link_at links (at - 1)) c.self.invariant (omega (arith, c.if-self-eq0.false)) refl

pub returns-clause-goes : goal.returns-clause-goes
returns-clause-goes c =
    let links = c.self.inside.links.now in
    let at = c.self.inside.at in
    let step = sym c.self.view_is ∙ from_link links at (link_at links (at - 1)) c.self.invariant (omega (arith, c.if-self-eq0.false)) refl in
    let shorter = ap length step in search rules
