use Rattle.std.proofs.Common.{◌≡◌, ◌<◌, ◌≢◌, ◌∙◌, true, length, length-set, get_or, arith, sym, inl, inr, get_or-set_same, get_or-set_other}
use Rattle.std.proofs.lemmas.Bool.Decides.{eqb_tells}
use Rattle.px_base.specs.Values.{is_listed}
use Rattle.worker_world.proofs.Told.{listed_before, item_listed}
use Rattle.worker_world.proofs.pulls.renew_listed.Goals as goal

pub loop-master-preserved : goal.loop-master-preserved
loop-master-preserved c =
    let masters = c.args.masters.now in
    let i = c.loop-master.master-index in
    let p = get_or masters i 0 in
    let next = c.loop-master.next.items in
    let inside : p < length next = omega (arith, c.requires.masters i 0 c.loop-master-test.true, c.loop-master.invariant.size, c.requires.next) in
    record {
      size = length-set next p c.renewed_one.result ∙ c.loop-master.invariant.size;
      renewed = λ k listed. elim (eqb_tells k p) [
        | inl (t, same) ↦ rw same (get_or-set_same next p c.renewed_one.result 0 inside ∙ c.renewed_one.ensures.renewed)
        | inr (t, apart) ↦ get_or-set_other next p k c.renewed_one.result 0 apart ∙ c.loop-master.invariant.renewed k (listed_before masters i k c.loop-master-test.true listed (λ e. apart (sym e)))
      ];
      kept = λ k none.
          let apart : k ≢ p = λ e. (let there : is_listed masters k ≡ true = rw e (item_listed masters i c.loop-master-test.true) in cc) in
          get_or-set_other next p k c.renewed_one.result 0 apart ∙ c.loop-master.invariant.kept k none;
      room = c.renewed_one.ensures.stamps ∙ c.loop-master.invariant.room;
    }
