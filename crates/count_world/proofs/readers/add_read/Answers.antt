use Rattle.std.proofs.Common.{◌≡◌, ◌-◌, ◌<◌, ◌∙◌, true, sym, arith}
use Rattle.px_base.specs.Parts.{is_within}
use Rattle.count_world.proofs.Gathered.{added_grows, read_grows}
use Rattle.px_base.proofs.Ranges.{within_bounds}
use Rattle.count_world.proofs.readers.add_read.Goals as goal

pub returns-in_ok-add : goal.returns-in_ok-add
returns-in_ok-add c =
    let part = c.args.part.now in
    let is : is_within part.low part.high c.args.read.source ≡ true = sym c.is_inner.ensures ∙ c.if-is_inner.true in
    let bounds = within_bounds part.low part.high c.args.read.source is in
    let inside : c.args.read.source - part.low < part.high - part.low = omega (arith, bounds.0, bounds.1) in
    read_grows (part.high - part.low) part.low c.args.readers.now c.add.new.self c.args.read.source c.args.reader bounds.0
    (added_grows (part.high - part.low) c.args.readers.now c.add.new.self (c.args.read.source - part.low) c.args.reader c.requires.masters inside c.requires.reader c.in_ok-add.ensures.added)
