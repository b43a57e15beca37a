use Rattle.std.proofs.Common.{◌≡◌, ◌<◌, true, false, length, sym, ap, subst, ◌∙◌, arith}
use Rattle.std.specs.Prelude.{All, List}
use Rattle.std.specs.List.{flat_map}
use Rattle.std.specs.Vec.{with_items}
use Rattle.std.proofs.lemmas.List.{with_items_is}
use Rattle.std.proofs.lemmas.Result.{IfOk-weaker}
use Rattle.px_base.specs.declared.wire.Update.{Update}
use Rattle.px_base.specs.Graphs.{RowsFit}
use Rattle.px_base.specs.Parts.{IsWorkerCuts, part_count, routes_of}
use Rattle.px_base.specs.Worlds.{World, masters_of}
use Rattle.consistent_solver.specs.CoreLists.{IsGreatestCoreConsistent}
use Rattle.serial_rounds.specs.declared.steps.Sent.{Sent}
use Rattle.serial_rounds.specs.Mail.{is_still}
use Rattle.serial_rounds.proofs.InStep.{AreInStep, IsJob, IsRound, accepts, job_is, kept_on, opened_with, round_of, routes_known, sent_known}
use Rattle.serial_rounds.proofs.Ending.{round_ends, round_falls}
use Rattle.serial_rounds.proofs.rounds.settled.Goals as goal

pub parts_and_routes-requires-clause-rows : goal.parts_and_routes-requires-clause-rows
parts_and_routes-requires-clause-rows g c = subst (λ n. RowsFit n c.args.graph.rows) (sym c.requires.rows.one_each) c.requires.rows

pub parts_and_routes-requires-clause-cuts : goal.parts_and_routes-requires-clause-cuts
parts_and_routes-requires-clause-cuts g c = subst (λ n. IsWorkerCuts n c.args.cuts.now.ends) (sym c.requires.rows.one_each) c.requires.cuts

pub loop-inboxes-init : goal.loop-inboxes-init
loop-inboxes-init g c =
    let job : IsJob c.args.core c.args.graph.rows c.args.starts.now c.args.cuts.now.ends =
    job_is c.args.graph.n c.args.core c.args.graph.rows c.args.starts.now c.args.cuts.now.ends c.in_ok-parts.parts c.requires.rows c.requires.starts c.requires.cuts.cut c.requires.keeps c.requires.mex c.requires.count
    c.in_ok-parts.ensures.parts c.in_ok-parts.ensures.fits in
    opened_with c.args.core c.args.graph.rows c.args.starts.now c.args.cuts.now.ends c.in_ok-parts.parts c.in_ok-worlds.worlds.items c.in_ok-inboxes.inboxes.items job
    c.in_ok-parts.ensures.parts c.in_ok-worlds.ensures (omega (arith, c.in_ok-inboxes.ensures.count, c.len.ensures)) c.in_ok-inboxes.ensures.empty

pub step_all-requires-clause-count : goal.step_all-requires-clause-count
step_all-requires-clause-count g c κs within =
    ap length c.deref_mut-in-loop-inboxes.ensures.value ∙ c.loop-inboxes.invariant.inbox_count ∙ sym (ap length c.deref_mut.ensures.value ∙ c.loop-inboxes.invariant.world_count)

pub step_all-requires-clause-accepted : goal.step_all-requires-clause-accepted
step_all-requires-clause-accepted g c κs within =
    let job : IsJob c.args.core c.args.graph.rows c.args.starts.now c.args.cuts.now.ends =
    job_is c.args.graph.n c.args.core c.args.graph.rows c.args.starts.now c.args.cuts.now.ends c.in_ok-parts.parts c.requires.rows c.requires.starts c.requires.cuts.cut c.requires.keeps c.requires.mex c.requires.count
    c.in_ok-parts.ensures.parts c.in_ok-parts.ensures.fits in
    rw (c.deref_mut.ensures.value, c.deref_mut-in-loop-inboxes.ensures.value) (λ k d below.
    let few : k < part_count c.args.cuts.now.ends = rw c.loop-inboxes.invariant.world_count at below in
    accepts c.args.core c.args.graph.rows c.args.starts.now c.args.cuts.now.ends c.loop-inboxes.worlds.items c.loop-inboxes.inboxes.items c.loop-inboxes.round k d job c.loop-inboxes.invariant few)

pub returns-then-are_still : goal.returns-then-are_still
returns-then-are_still g c =
    let job : IsJob c.args.core c.args.graph.rows c.args.starts.now c.args.cuts.now.ends =
    job_is c.args.graph.n c.args.core c.args.graph.rows c.args.starts.now c.args.cuts.now.ends c.in_ok-parts.parts c.requires.rows c.requires.starts c.requires.cuts.cut c.requires.keeps c.requires.mex c.requires.count
    c.in_ok-parts.ensures.parts c.in_ok-parts.ensures.fits in
    let round : IsRound c.args.core c.args.graph.rows c.args.starts.now c.args.cuts.now.ends c.loop-inboxes.invariant.epoch c.loop-inboxes.round c.loop-inboxes.invariant.now c.step_all.new.worlds c.in_ok-sent.sent.items =
    round_of c.args.core c.args.graph.rows c.args.starts.now c.args.cuts.now.ends c.loop-inboxes.worlds.items c.deref_mut.result.now c.loop-inboxes.inboxes.items c.deref_mut-in-loop-inboxes.result.now c.loop-inboxes.round
    c.step_all.new.worlds c.in_ok-sent.sent.items job c.loop-inboxes.invariant c.deref_mut.ensures.value c.deref_mut-in-loop-inboxes.ensures.value
    c.step_all.auto.worlds c.in_ok-sent.ensures.count c.in_ok-sent.ensures.steps in
    let worlds : (with_items c.loop-inboxes.worlds c.step_all.new.worlds).items ≡ c.step_all.new.worlds = with_items_is c.loop-inboxes.worlds c.step_all.new.worlds (c.step_all.auto.worlds ∙ c.deref_mut.ensures.len) in
    let still : All (λ s. is_still s ≡ true) c.in_ok-sent.sent.items =
    (let P : List Sent → Type 0 = λ ss. All (λ s. is_still s ≡ true) ss in subst P c.deref.ensures.value (c.are_still.ensures.0 c.if-are_still.true)) in
    let found : IsGreatestCoreConsistent c.args.core c.args.graph.rows c.args.starts.now (flat_map masters_of c.step_all.new.worlds) =
    round_ends c.args.core c.args.graph.rows c.args.starts.now c.args.cuts.now.ends c.loop-inboxes.worlds.items c.loop-inboxes.inboxes.items c.loop-inboxes.round c.step_all.new.worlds c.in_ok-sent.sent.items job c.loop-inboxes.invariant round still in
    IfOk-weaker c.joined.result (λ values. values.items ≡ flat_map masters_of c.deref-then-are_still.result.now) (λ values. IsGreatestCoreConsistent c.args.core c.args.graph.rows c.args.starts.now values.items)
    (λ values is. rw (is, c.deref-then-are_still.ensures.value, worlds) found) c.joined.ensures

pub deliver-requires-clause-routes : goal.deliver-requires-clause-routes
deliver-requires-clause-routes g c =
    let emptied : c.deref_mut-in-loop-inboxes-2.result.now ≡ c.step_all.new.inboxes =
    c.deref_mut-in-loop-inboxes-2.ensures.value ∙ with_items_is c.loop-inboxes.inboxes c.step_all.new.inboxes (c.step_all.auto.inboxes ∙ c.deref_mut-in-loop-inboxes.ensures.len) in
    let count : length c.deref_mut-in-loop-inboxes-2.result.now ≡ length c.loop-inboxes.inboxes.items =
    ap length emptied ∙ c.step_all.auto.inboxes ∙ ap length c.deref_mut-in-loop-inboxes.ensures.value in
    let routes : c.as_slice.result.now ≡ routes_of c.args.graph.rows c.args.cuts.now.ends = c.as_slice.ensures ∙ c.in_ok-parts.ensures.routes in
    routes_known c.args.graph.rows c.args.cuts.now.ends c.as_slice.result.now c.deref_mut-in-loop-inboxes-2.result.now routes (count ∙ c.loop-inboxes.invariant.inbox_count)

pub deliver-requires-clause-known : goal.deliver-requires-clause-known
deliver-requires-clause-known g c =
    let job : IsJob c.args.core c.args.graph.rows c.args.starts.now c.args.cuts.now.ends =
    job_is c.args.graph.n c.args.core c.args.graph.rows c.args.starts.now c.args.cuts.now.ends c.in_ok-parts.parts c.requires.rows c.requires.starts c.requires.cuts.cut c.requires.keeps c.requires.mex c.requires.count
    c.in_ok-parts.ensures.parts c.in_ok-parts.ensures.fits in
    let round : IsRound c.args.core c.args.graph.rows c.args.starts.now c.args.cuts.now.ends c.loop-inboxes.invariant.epoch c.loop-inboxes.round c.loop-inboxes.invariant.now c.step_all.new.worlds c.in_ok-sent.sent.items =
    round_of c.args.core c.args.graph.rows c.args.starts.now c.args.cuts.now.ends c.loop-inboxes.worlds.items c.deref_mut.result.now c.loop-inboxes.inboxes.items c.deref_mut-in-loop-inboxes.result.now c.loop-inboxes.round
    c.step_all.new.worlds c.in_ok-sent.sent.items job c.loop-inboxes.invariant c.deref_mut.ensures.value c.deref_mut-in-loop-inboxes.ensures.value
    c.step_all.auto.worlds c.in_ok-sent.ensures.count c.in_ok-sent.ensures.steps in
    let routes : c.as_slice.result.now ≡ routes_of c.args.graph.rows c.args.cuts.now.ends = c.as_slice.ensures ∙ c.in_ok-parts.ensures.routes in
    sent_known c.args.core c.args.graph.rows c.args.starts.now c.args.cuts.now.ends c.loop-inboxes.invariant.epoch c.loop-inboxes.round c.loop-inboxes.invariant.now c.step_all.new.worlds c.in_ok-sent.sent.items c.deref-in-loop-inboxes.result.now c.as_slice.result.now
    job round c.deref-in-loop-inboxes.ensures.value routes

pub deliver-requires-clause-empty : goal.deliver-requires-clause-empty
deliver-requires-clause-empty g c =
    let emptied : c.deref_mut-in-loop-inboxes-2.result.now ≡ c.step_all.new.inboxes =
    c.deref_mut-in-loop-inboxes-2.ensures.value ∙ with_items_is c.loop-inboxes.inboxes c.step_all.new.inboxes (c.step_all.auto.inboxes ∙ c.deref_mut-in-loop-inboxes.ensures.len) in
    let count : length c.deref_mut-in-loop-inboxes-2.result.now ≡ length c.loop-inboxes.inboxes.items =
    ap length emptied ∙ c.step_all.auto.inboxes ∙ ap length c.deref_mut-in-loop-inboxes.ensures.value in
    rw emptied c.in_ok-sent.ensures.empty

pub loop-inboxes-smaller : goal.loop-inboxes-smaller
loop-inboxes-smaller g c =
    let job : IsJob c.args.core c.args.graph.rows c.args.starts.now c.args.cuts.now.ends =
    job_is c.args.graph.n c.args.core c.args.graph.rows c.args.starts.now c.args.cuts.now.ends c.in_ok-parts.parts c.requires.rows c.requires.starts c.requires.cuts.cut c.requires.keeps c.requires.mex c.requires.count
    c.in_ok-parts.ensures.parts c.in_ok-parts.ensures.fits in
    let round : IsRound c.args.core c.args.graph.rows c.args.starts.now c.args.cuts.now.ends c.loop-inboxes.invariant.epoch c.loop-inboxes.round c.loop-inboxes.invariant.now c.step_all.new.worlds c.in_ok-sent.sent.items =
    round_of c.args.core c.args.graph.rows c.args.starts.now c.args.cuts.now.ends c.loop-inboxes.worlds.items c.deref_mut.result.now c.loop-inboxes.inboxes.items c.deref_mut-in-loop-inboxes.result.now c.loop-inboxes.round
    c.step_all.new.worlds c.in_ok-sent.sent.items job c.loop-inboxes.invariant c.deref_mut.ensures.value c.deref_mut-in-loop-inboxes.ensures.value
    c.step_all.auto.worlds c.in_ok-sent.ensures.count c.in_ok-sent.ensures.steps in
    let worlds : (with_items c.loop-inboxes.worlds c.step_all.new.worlds).items ≡ c.step_all.new.worlds = with_items_is c.loop-inboxes.worlds c.step_all.new.worlds (c.step_all.auto.worlds ∙ c.deref_mut.ensures.len) in
    let going : All (λ s. is_still s ≡ true) c.in_ok-sent.sent.items → ⊥ = λ still.
    (let P : List Sent → Type 0 = λ ss. All (λ s. is_still s ≡ true) ss in
    let yes_still : c.are_still.result ≡ true = c.are_still.ensures.1 (subst P (sym c.deref.ensures.value) still) in
    let not_still : c.are_still.result ≡ false = c.if-are_still.false in
    cc (yes_still, not_still)) in
    rw worlds (round_falls c.args.core c.args.graph.rows c.args.starts.now c.args.cuts.now.ends c.loop-inboxes.worlds.items c.loop-inboxes.inboxes.items c.loop-inboxes.round c.step_all.new.worlds c.in_ok-sent.sent.items job c.loop-inboxes.invariant round going)

pub loop-inboxes-preserved : goal.loop-inboxes-preserved
loop-inboxes-preserved g c =
    let job : IsJob c.args.core c.args.graph.rows c.args.starts.now c.args.cuts.now.ends =
    job_is c.args.graph.n c.args.core c.args.graph.rows c.args.starts.now c.args.cuts.now.ends c.in_ok-parts.parts c.requires.rows c.requires.starts c.requires.cuts.cut c.requires.keeps c.requires.mex c.requires.count
    c.in_ok-parts.ensures.parts c.in_ok-parts.ensures.fits in
    let round : IsRound c.args.core c.args.graph.rows c.args.starts.now c.args.cuts.now.ends c.loop-inboxes.invariant.epoch c.loop-inboxes.round c.loop-inboxes.invariant.now c.step_all.new.worlds c.in_ok-sent.sent.items =
    round_of c.args.core c.args.graph.rows c.args.starts.now c.args.cuts.now.ends c.loop-inboxes.worlds.items c.deref_mut.result.now c.loop-inboxes.inboxes.items c.deref_mut-in-loop-inboxes.result.now c.loop-inboxes.round
    c.step_all.new.worlds c.in_ok-sent.sent.items job c.loop-inboxes.invariant c.deref_mut.ensures.value c.deref_mut-in-loop-inboxes.ensures.value
    c.step_all.auto.worlds c.in_ok-sent.ensures.count c.in_ok-sent.ensures.steps in
    let emptied : c.deref_mut-in-loop-inboxes-2.result.now ≡ c.step_all.new.inboxes =
    c.deref_mut-in-loop-inboxes-2.ensures.value ∙ with_items_is c.loop-inboxes.inboxes c.step_all.new.inboxes (c.step_all.auto.inboxes ∙ c.deref_mut-in-loop-inboxes.ensures.len) in
    let count : length c.deref_mut-in-loop-inboxes-2.result.now ≡ length c.loop-inboxes.inboxes.items =
    ap length emptied ∙ c.step_all.auto.inboxes ∙ ap length c.deref_mut-in-loop-inboxes.ensures.value in
    let routes : c.as_slice.result.now ≡ routes_of c.args.graph.rows c.args.cuts.now.ends = c.as_slice.ensures ∙ c.in_ok-parts.ensures.routes in
    let worlds : (with_items c.loop-inboxes.worlds c.step_all.new.worlds).items ≡ c.step_all.new.worlds = with_items_is c.loop-inboxes.worlds c.step_all.new.worlds (c.step_all.auto.worlds ∙ c.deref_mut.ensures.len) in
    let boxes : (with_items (with_items c.loop-inboxes.inboxes c.step_all.new.inboxes) c.deliver.new.inboxes).items ≡ c.deliver.new.inboxes =
    with_items_is (with_items c.loop-inboxes.inboxes c.step_all.new.inboxes) c.deliver.new.inboxes (c.deliver.auto.inboxes ∙ c.deref_mut-in-loop-inboxes-2.ensures.len) in
    let W : List World → Type 0 = λ ws. AreInStep c.args.core c.args.graph.rows c.args.starts.now c.args.cuts.now.ends ws (with_items (with_items c.loop-inboxes.inboxes c.step_all.new.inboxes) c.deliver.new.inboxes).items in
    let B : List (List Update) → Type 0 = λ bs. AreInStep c.args.core c.args.graph.rows c.args.starts.now c.args.cuts.now.ends c.step_all.new.worlds bs in
    subst W (sym worlds) (subst B (sym boxes) (kept_on c.args.core c.args.graph.rows c.args.starts.now c.args.cuts.now.ends c.loop-inboxes.worlds.items c.loop-inboxes.inboxes.items c.loop-inboxes.round c.step_all.new.worlds c.in_ok-sent.sent.items c.deref-in-loop-inboxes.result.now
    c.deref_mut-in-loop-inboxes-2.result.now c.deliver.new.inboxes c.as_slice.result.now job c.loop-inboxes.invariant round
    c.deref-in-loop-inboxes.ensures.value routes count c.deliver.auto.inboxes c.in_ok-deliver.ensures))
