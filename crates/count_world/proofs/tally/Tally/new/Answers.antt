use Rattle.mirror_places.proofs.Tabling.{few}
use Rattle.count_world.proofs.Tallied.{clear_made}
use Rattle.count_world.proofs.tally.Tally.new.Goals as goal

pub returns-clause-clear : goal.returns-clause-clear
returns-clause-clear c =
    clear_made c.args.mirrors.now (record { times = c.in_ok-zeros.field-0; touched = c.in_ok-with_capacity.field-0 }) c.in_ok-zeros.ensures c.in_ok-with_capacity.ensures.items c.in_ok-with_capacity.ensures.capacity
    (few c.args.mirrors.now c.requires.rising c.requires.below)
