use Rattle.std.proofs.Common.{◌<◌, arith, get_or, length}
use Rattle.std.proofs.lemmas.List.{get_or_default}
use Rattle.std.proofs.lemmas.List.Edits.{map_over_more}
use Rattle.std.proofs.lemmas.List.Elements.{All-set}
use Rattle.px_base.specs.Values.{IsValue, flip}
use Rattle.value_laws.proofs.values.flip_all.Goals as goal

pub loop-value-preserved : goal.loop-value-preserved
loop-value-preserved c =
    let inside : c.loop-value.value-index < length c.args.values.now = omega arith in
    let within : c.loop-value.value-index < length c.loop-value.values = omega arith in
    record {
      values = All-set IsValue c.loop-value.values c.loop-value.value-index c.flip.result (omega (arith, c.flip.ensures.value)) c.loop-value.invariant.values;
      flipped = rw c.flip.ensures.value (map_over_more flip c.args.values.now c.loop-value.values c.loop-value.value-index (get_or c.loop-value.values c.loop-value.value-index 0) inside c.loop-value.invariant.flipped
          (get_or_default c.loop-value.values c.loop-value.value-index 0 (get_or c.loop-value.values c.loop-value.value-index 0) within));
    }
