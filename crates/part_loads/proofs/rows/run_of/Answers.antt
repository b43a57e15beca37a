use Rattle.std.proofs.Common.{◌≡◌}
use Rattle.std.proofs.lemmas.List.Elements.{All-more}
use Rattle.px_base.specs.declared.frame.Triple.{Triple}
use Rattle.part_loads.proofs.rows.run_of.Goals as goal

pub loop-i-preserved : goal.loop-i-preserved
loop-i-preserved c =
    let none : Triple = record { target = 0; source = 0; weight = 0 } in
    All-more (λ (t : Triple). t.target ≡ c.args.target) c.args.triples.now c.loop-i.i none c.loop-i-test.true c.loop-i.invariant c.if-triple-target.false
