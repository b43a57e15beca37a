use Rattle.std.proofs.Common.{◌∙◌, ◌+◌, ◌<◌, length, get_or, arith}
use Rattle.std.proofs.lemmas.List.{get_or_default}
use Rattle.count_world.specs.Told.{times_of}
use Rattle.count_world.proofs.Masters.{map_by_place}
use Rattle.count_world.proofs.Telling.{told_within}
use Rattle.count_world.proofs.tally.Tally.count.Goals as goal

pub add_rows-requires-2-clause-room : goal.add_rows-requires-2-clause-room
add_rows-requires-2-clause-room c i d below =
    let at : i < length c.args.self.now.times.items = omega (arith, below, c.add_rows.ensures.size) in
    rw (get_or_default c.add_rows.new.self.times.items i d 0 below)
    (omega (
      arith,
      c.add_rows.ensures.times i at,
      c.requires.clear.none i,
      told_within c.args.part.now.rows c.args.again.now (get_or c.args.part.now.mirrors i 0),
      c.requires.few_again,
      c.requires.few_dying,
    ))

pub returns-clause-times : goal.returns-clause-times
returns-clause-times c =
    map_by_place (λ m. times_of c.args.part.now.rows c.args.again.now m + times_of c.args.part.now.rows c.args.dying.now m) c.args.part.now.mirrors c.add_rows-2.new.self.times.items
    (c.add_rows-2.ensures.size ∙ c.add_rows.ensures.size ∙ c.requires.size)
    (λ i below.
    (let second : i < length c.add_rows.new.self.times.items = omega (arith, below, c.add_rows-2.ensures.size) in
    let first : i < length c.args.self.now.times.items = omega (arith, second, c.add_rows.ensures.size) in
    omega (arith, c.add_rows-2.ensures.times i second, c.add_rows.ensures.times i first, c.requires.clear.none i)))
