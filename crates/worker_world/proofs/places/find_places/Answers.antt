use Rattle.std.proofs.Common.{◌≡◌, take, arith, below_more}
use Rattle.std.proofs.lemmas.List.{take_all}
use Rattle.count_world.proofs.Foreign.{foreign_at, none_foreign}
use Rattle.px_base.specs.Values.{is_listed}
use Rattle.worker_world.proofs.Looked.{one_place_more}
use Rattle.worker_world.proofs.places.find_places.Goals as goal

pub returns-in_default-clause-fault : goal.returns-in_default-clause-fault
returns-in_default-clause-fault c =
    foreign_at (is_listed c.args.mirrors.now) c.args.updates.now c.loop-update.update-index c.loop-update-test.true c.loop-update.invariant.taken c.in_default.ensures.none

pub loop-update-preserved : goal.loop-update-preserved
loop-update-preserved c = record {
  taken = below_more _ _ c.loop-update.invariant.taken c.in-Some.ensures.some.2;
  places = λ room. one_place_more c.args.mirrors.now c.args.updates.now c.loop-update.places.items c.put_place-room.new.places.items c.loop-update.update-index c.in-Some.at c.loop-update-test.true
      (c.loop-update.invariant.places (c.put_place-room.ensures.had room)) c.in-Some.ensures.some.0 c.in-Some.ensures.some.1 (c.put_place-room.ensures.put room);
}

pub returns-then-room-clause-taken : goal.returns-then-room-clause-taken
returns-then-room-clause-taken c = none_foreign (is_listed c.args.mirrors.now) c.args.updates.now (λ k below. c.loop-update.invariant.taken k (omega (arith, below, c.loop-update-test.false)))

pub returns-then-room-clause-places : goal.returns-then-room-clause-places
returns-then-room-clause-places c =
    let all : take c.loop-update.update-index c.args.updates.now ≡ c.args.updates.now = take_all c.loop-update.update-index c.args.updates.now c.loop-update-test.false in
    rw all at (c.loop-update.invariant.places c.if-room.true)

pub returns-else-room-clause-fault : goal.returns-else-room-clause-fault
returns-else-room-clause-fault c = none_foreign (is_listed c.args.mirrors.now) c.args.updates.now (λ k below. c.loop-update.invariant.taken k (omega (arith, below, c.loop-update-test.false)))
