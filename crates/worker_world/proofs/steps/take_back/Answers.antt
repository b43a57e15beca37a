use Rattle.std.proofs.Common.{◌≡◌, ◌<◌, ◌≤◌, ◌∙◌, length, arith}
use Rattle.count_world.proofs.Foreign.{some_update}
use Rattle.worker_world.proofs.Looked.{places_count, place_at, place_inside}
use Rattle.worker_world.proofs.Updates.{updated_length, all_to_take_back, one_back, none_left}
use Rattle.worker_world.proofs.steps.take_back.Goals as goal

pub loop-place-init : goal.loop-place-init
loop-place-init c k below = all_to_take_back c.args.updates.now c.args.mirrors.now c.args.before.now c.args.values.now k c.requires.updated (omega (arith, c.requires.lengths))

pub bounds-values-place : goal.bounds-values-place
bounds-values-place c =
    let size : length c.loop-place.values ≡ length c.args.mirrors.now = c.loop-place.auto.values ∙ updated_length c.args.updates.now c.args.mirrors.now c.args.before.now c.args.values.now c.requires.updated ∙ c.requires.lengths in
    omega (arith, size, c.requires.places.inside c.loop-place.place-index 0 c.loop-place-test.true)

pub loop-place-preserved : goal.loop-place-preserved
loop-place-preserved c k below =
    let updates = c.args.updates.now in
    let mirrors = c.args.mirrors.now in
    let places = c.args.places.now in
    let i = c.loop-place.place-index in
    let more : i < length updates = omega (arith, c.loop-place-test.true, places_count mirrors updates places c.requires.places) in
    one_back updates mirrors c.args.before.now c.loop-place.values i _ some_update more c.requires.rising (c.loop-place.auto.values ∙ updated_length updates mirrors c.args.before.now c.args.values.now c.requires.updated ∙ c.requires.lengths)
    (place_at mirrors updates places i some_update c.requires.places more) (place_inside mirrors updates places i c.requires.places more) k below (c.loop-place.invariant k below)

pub returns : goal.returns
returns c =
    let past : length c.args.updates.now ≤ c.loop-place.place-index = omega (arith, c.loop-place-test.false, places_count c.args.mirrors.now c.args.updates.now c.args.places.now c.requires.places) in
    none_left c.args.updates.now c.args.mirrors.now c.args.before.now c.loop-place.values c.loop-place.place-index past (c.loop-place.auto.values ∙ updated_length c.args.updates.now c.args.mirrors.now c.args.before.now c.args.values.now c.requires.updated) (λ k below. c.loop-place.invariant k (omega (arith, c.requires.lengths)))
