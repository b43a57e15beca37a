use Rattle.std.proofs.Common.{◌≡◌, ◌≢◌, true, get_or, suc, length, ap, arith}
use Rattle.worker_world.specs.Due.{is_due}
use Rattle.worker_world.proofs.Told.{after_first, stays_on}
use Rattle.worker_world.proofs.telling.tell_readers.Goals as goal

pub add-requires : goal.add-requires
add-requires c =
    let first : get_or c.loop-due.left 0 0 ≡ c.in-Some.reader = ap (λ list. get_or list 0 0) c.in-Some.ensures.steps in
    omega (arith, c.loop-due.invariant.masters 0 0 (omega (arith, ap length c.in-Some.ensures.steps)), first, c.requires.size, c.loop-due.invariant.stays.size)

pub loop-due-preserved : goal.loop-due-preserved
loop-due-preserved c =
    let steps = c.in-Some.ensures.steps in
    record {
      masters = λ k d below. (rw steps at c.loop-due.invariant.masters) (suc k) d (omega (arith, below));
      left = λ k reads none.
          let apart : c.in-Some.reader ≢ k = λ e. (let due : is_due c.add.new.self k ≡ true = rw (← e) c.add.ensures.added in cc) in
          after_first c.in-Some.reader k c.loop-due.left c.next.new.self steps (c.loop-due.invariant.left k reads (c.add.ensures.stays.kept k none)) apart;
      stays = stays_on c.args.due.now c.loop-due.due c.add.new.self c.loop-due.invariant.stays c.add.ensures.stays;
    }
