use Rattle.std.proofs.Common.{◌≡◌, ◌∷◌, ◌∙◌, ◌-◌, length, length-set, get_or, suc, ap, sym, arith}
use Rattle.std.specs.Prelude.{◌==◌, count_by, slice_index}
use Rattle.count_world.proofs.Gathered.{left_after}
use Rattle.count_world.proofs.Lowered.{keeps_on}
use Rattle.count_world.proofs.readers.take_reads_of.Goals as goal

pub lower-requires-clause-k : goal.lower-requires-clause-k
lower-requires-clause-k c =
    let reader = c.in-Some.reader in
    let first : get_or c.loop-reader.reader-iterator 0 0 ≡ reader = ap (λ left. get_or left 0 0) c.in-Some.ensures.steps in
    omega (arith, c.loop-reader.invariant.inside 0 0 (omega (arith, ap length c.in-Some.ensures.steps)), first, ap length c.loop-reader.invariant.kept.alive)

pub loop-reader-preserved : goal.loop-reader-preserved
loop-reader-preserved c =
    let counts = c.loop-reader.census.counts.items in
    let reader = c.in-Some.reader in
    let steps : c.loop-reader.reader-iterator ≡ reader ∷ c.next.new.self = c.in-Some.ensures.steps in
    record {
      inside = λ k d below. (rw steps at (c.loop-reader.invariant.inside)) (suc k) d (omega (arith, below));
      kept = keeps_on c.args.census.now c.loop-reader.census c.lower.new.self c.loop-reader.invariant.kept c.lower.ensures.kept;
      size = ap length c.lower.ensures.counts ∙ length-set counts reader (slice_index counts reader - 1) ∙ c.loop-reader.invariant.size;
      left = λ j below.
          rw c.lower.ensures.counts (left_after counts reader c.next.new.self j (omega (arith, below, c.loop-reader.invariant.size)))
          ∙ ap (λ left. slice_index counts j - count_by (λ x. x == j) left) (sym steps) ∙ c.loop-reader.invariant.left j below;
    }

pub returns-clause-counts : goal.returns-clause-counts
returns-clause-counts c = λ j below.
    (let none : count_by (λ x. x == j) c.loop-reader.reader-iterator ≡ 0 = ap (λ left. count_by (λ x. x == j) left) c.in-None.ensures.steps.0 in
    omega (arith, c.loop-reader.invariant.left j below, none))
