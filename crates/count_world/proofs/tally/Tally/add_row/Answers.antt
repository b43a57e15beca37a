use Rattle.std.proofs.Common.{◌∙◌, ◌+◌, ◌<◌, ap, sym, length, length-take, get_or, take, arith}
use Rattle.std.specs.Prelude.{◌==◌}
use Rattle.std.proofs.lemmas.List.{get_or_default}
use Rattle.px_base.specs.declared.graph.Read.{Read}
use Rattle.px_base.specs.FlatRows.{read_with}
use Rattle.px_base.specs.Values.{one_if}
use Rattle.px_base.specs.Graphs.{reads_passing}
use Rattle.count_world.specs.Told.{is_place}
use Rattle.count_world.proofs.Tallied.{raises_on}
use Rattle.count_world.proofs.Telling.{passing_more}
use Rattle.count_world.proofs.tally.Tally.add_row.Goals as goal
use Rattle.list_laws.proofs.Sums.{passing_within}

pub raise_at-requires-clause-room : goal.raise_at-requires-clause-room
raise_at-requires-clause-room c i d below =
    let inside : i < length c.args.self.now.times.items = omega (arith, below, c.loop-k.invariant.size) in
    rw (get_or_default c.loop-k.self.times.items i d 0 below)
    (omega (
      arith,
      c.loop-k.invariant.times i inside,
      c.requires.room i 0 inside,
      passing_within (λ u. u == get_or c.args.part.now.mirrors i 0) (take c.loop-k.k c.args.row.now),
      length-take c.loop-k.k c.args.row.now,
      c.loop-k-test.true,
      c.len-k-end.ensures,
    ))

pub loop-k-preserved : goal.loop-k-preserved
loop-k-preserved c =
    let none : Read = read_with 0 0 in
    raises_on c.args.self.now c.loop-k.self c.raise_at.new.self
    (λ i. reads_passing (λ u. u == get_or c.args.part.now.mirrors i 0) (take c.loop-k.k c.args.row.now))
    (λ i. one_if (is_place c.mirror_read.result i))
    (λ i. reads_passing (λ u. u == get_or c.args.part.now.mirrors i 0) (take (c.loop-k.k + 1) c.args.row.now))
    c.loop-k.invariant c.raise_at.ensures
    (λ i below.
    (let inside : i < length c.args.part.now.mirrors = omega (arith, below, c.requires.size) in
    passing_more (λ u. u == get_or c.args.part.now.mirrors i 0) c.args.row.now c.loop-k.k none (omega (arith, c.loop-k-test.true, c.len-k-end.ensures))
    ∙ ap (λ b. reads_passing (λ u. u == get_or c.args.part.now.mirrors i 0) (take c.loop-k.k c.args.row.now) + one_if b) (ap (λ (r : Read). r.source == get_or c.args.part.now.mirrors i 0) (sym c.read.ensures.read) ∙ sym (c.mirror_read.ensures.place i inside))))
