use Rattle.std.proofs.Common.{◌≡◌, ◌∙◌, ◌+◌, ◌<◌, length, rules}
use Rattle.std.specs.Prelude.{slice_index}
use Rattle.std.proofs.lemmas.Grind.{get_or_default_zero}
use Rattle.mirror_places.proofs.Tabling.{found_if, absent_if, beyond}
use Rattle.mirror_places.proofs.place_table.PlaceTable.find.Goals as goal

pub returns-then-len-block-clause-none : goal.returns-then-len-block-clause-none
returns-then-len-block-clause-none c = beyond c.args.positions.now c.args.self.now c.args.u c.block_of-block.result c.requires.table c.block_of-block.ensures.from (rw (← c.self.view_is) (search rules))

past_test : (c : goal.After-find_between) → c.block_of-block.result + 1 < length c.args.self.now
past_test c = rw (← c.self.view_is) (search rules)

first_entry : (c : goal.After-find_between) → c.index.result.now ≡ slice_index c.args.self.now c.block_of-block.result
first_entry c = rw (← c.self.view_is) (c.index.ensures ∙ get_or_default_zero c.self.inside.starts.items c.block_of-block.result c.index.result.now (search rules))

second_entry : (c : goal.After-find_between) → c.index-2.result.now ≡ slice_index c.args.self.now (c.block_of-block.result + 1)
second_entry c = rw (← c.self.view_is) (c.index-2.ensures ∙ get_or_default_zero c.self.inside.starts.items (c.block_of-block.result + 1) c.index-2.result.now (search rules))

pub returns-clause-some : goal.returns-clause-some
returns-clause-some c =
    found_if c.args.positions.now c.args.self.now c.args.u c.block_of-block.result c.index.result.now c.index-2.result.now c.find_between.result c.requires.table c.block_of-block.ensures.from (past_test c) (first_entry c) (second_entry c)
    c.find_between.ensures.some c.find_between.ensures.first

pub returns-clause-none : goal.returns-clause-none
returns-clause-none c =
    absent_if c.args.positions.now c.args.self.now c.args.u c.block_of-block.result c.index.result.now c.index-2.result.now c.find_between.result c.requires.table c.block_of-block.ensures.from
    c.block_of-block.ensures.to (past_test c) (first_entry c) (second_entry c) c.find_between.ensures.none
