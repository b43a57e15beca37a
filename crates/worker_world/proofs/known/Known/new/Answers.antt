use Rattle.std.proofs.Common.{rules, arith, ap, length, ◌∙◌}
use Rattle.std.proofs.lemmas.Grind.{common_steps}
use Rattle.worker_world.proofs.Placing.{first_count}
use Rattle.worker_world.proofs.known.Known.new.Goals as goal

pub returns-clause-placed : goal.returns-clause-placed
returns-clause-placed c = record {
  readers = search rules;
  table = search rules;
  values = ap length c.in_ok-values.ensures ∙ first_count c.args.part.now c.args.core.now c.requires.fits;
  next = ap length c.in_ok-next.ensures ∙ first_count c.args.part.now c.args.core.now c.requires.fits;
  marks = first_of (search rules, grind (arith, common_steps));
  stamps = first_of (search rules, grind (arith, common_steps));
}
