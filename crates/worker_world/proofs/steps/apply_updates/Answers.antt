use Rattle.std.proofs.Common.{arith, ◌∙◌, ◌≡◌, ◌==◌, sym, ap, get_or, take, length, if◌then◌else◌}
use Rattle.std.proofs.lemmas.List.{take_all}
use Rattle.std.proofs.lemmas.List.FromFn.{fill_by_all}
use Rattle.px_base.specs.declared.wire.Update.{Update}
use Rattle.px_base.specs.ValueSteps.{newest_value}
use Rattle.count_world.proofs.Foreign.{some_update}
use Rattle.worker_world.proofs.Looked.{place_at, place_inside}
use Rattle.worker_world.proofs.Updates.{updated_more, one_placed}
use Rattle.worker_world.proofs.steps.apply_updates.Goals as goal

pub loop-k-preserved : goal.loop-k-preserved
loop-k-preserved c j below =
    let updates = c.args.updates.now in
    let mirrors = c.args.mirrors.now in
    let places = c.args.places.now in
    let k = c.loop-k.k in
    let update : Update = get_or updates k some_update in
    one_placed mirrors c.loop-k.values update.vertex update.value (get_or places k 0) c.requires.rising (c.loop-k.auto.values ∙ c.requires.lengths) (place_at mirrors updates places k some_update c.requires.places c.loop-k-test.true) (place_inside mirrors updates places k c.requires.places c.loop-k-test.true) j below
    ∙ ap (λ r. if update.vertex == get_or mirrors j 0 then update.value else r) (c.loop-k.invariant j below)
    ∙ sym (updated_more updates k (get_or mirrors j 0) (get_or c.args.values.now j 0) some_update c.loop-k-test.true)

pub returns : goal.returns
returns c =
    let all : take c.loop-k.k c.args.updates.now ≡ c.args.updates.now = take_all c.loop-k.k c.args.updates.now c.loop-k-test.false in
    fill_by_all (λ k. newest_value c.args.updates.now (get_or c.args.mirrors.now k 0) (get_or c.args.values.now k 0)) c.loop-k.values (length c.args.values.now) 0 c.loop-k.auto.values
    (λ k below. rw all at (c.loop-k.invariant k (omega arith)))
