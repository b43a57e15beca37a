use Rattle.std.proofs.Common.{◌≡◌, ◌+◌, get_or, take, subst, refl}
use Rattle.std.proofs.lemmas.List.{take_all}
use Rattle.std.proofs.lemmas.List.Elements.{All-more}
use Rattle.px_base.specs.declared.wire.Update.{Update}
use Rattle.px_base.specs.Values.{place_of}
use Rattle.std.specs.Prelude.{slice_index}
use Rattle.placed_parts.specs.Places.{master_count}
use Rattle.count_world.proofs.Foreign.{some_update}
use Rattle.worker_world.specs.Due.{IsTold, IsUpdateTold}
use Rattle.worker_world.proofs.Looked.{place_at}
use Rattle.worker_world.proofs.Told.{stays_on}
use Rattle.worker_world.proofs.telling.tell_of_updates.Goals as goal

pub loop-k-preserved : goal.loop-k-preserved
loop-k-preserved c =
    let part = c.args.part.now in
    let k = c.loop-k.k in
    let u : Update = get_or c.args.updates.now k some_update in
    let at : c.master_count-count.result + get_or c.args.places.now k 0 ≡ master_count part + place_of part.mirrors u.vertex =
    rw (c.master_count-count.ensures, place_at part.mirrors c.args.updates.now c.args.places.now k some_update c.requires.places c.loop-k-test.true) refl in
    record {
      told = All-more (IsUpdateTold part c.args.readers.now c.tell_of.new.due c.args.values.now) c.args.updates.now k some_update c.loop-k-test.true
          (λ i d below reader reads not. c.loop-k.invariant.told i d below reader reads (c.tell_of.ensures.stays.kept reader not))
          (subst (λ s. IsTold c.args.readers.now c.tell_of.new.due s (slice_index c.args.values.now s) u.value) at c.tell_of.ensures.told);
      stays = stays_on c.args.due.now c.loop-k.due c.tell_of.new.due c.loop-k.invariant.stays c.tell_of.ensures.stays;
    }

pub returns-clause-told : goal.returns-clause-told
returns-clause-told c =
    let all : take c.loop-k.k c.args.updates.now ≡ c.args.updates.now = take_all c.loop-k.k c.args.updates.now c.loop-k-test.false in
    rw all at c.loop-k.invariant.told
