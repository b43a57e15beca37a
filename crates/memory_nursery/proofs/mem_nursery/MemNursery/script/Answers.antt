use Rattle.std.proofs.Common.{◌≡◌, ◌∙◌, ap, sym, subst, refl, false}
use Rattle.std.proofs.lemmas.List.{length-map}
use Rattle.memory_nursery.specs.declared.counts.WorkerCounts.{WorkerCounts}
use Rattle.memory_nursery.specs.Keeping.{KeepsNursery}
use Rattle.memory_nursery.specs.States.{NurseryState, plan_now, scripted}
use Rattle.memory_nursery.specs.Views.{nursery_view}
use Rattle.memory_nursery.proofs.Opening.{anew_is, scripted_keeps}
use Rattle.memory_nursery.proofs.mem_nursery.MemNursery.script.Goals as goal

pub invariant_of-self : goal.invariant_of-self
invariant_of-self c =
    let plan : c.note_counts.new.plan ≡ plan_now c.args.self.now.nursery c.args.losses.items c.args.refusals.items = rw (c.note_counts.ensures, c.note_scripts.ensures, c.as_slice.ensures.value, c.as_slice-2.ensures.value) refl in
    let home : (nursery_view c.self.inside).nursery.lent ≡ false = ap (λ (n : NurseryState). n.nursery.lent) c.self.view_is ∙ c.requires in
    let noted : c.note_counts.new.plan ≡ plan_now (nursery_view c.self.inside).nursery c.args.losses.items c.args.refusals.items = plan ∙ ap (λ (n : NurseryState). plan_now n.nursery c.args.losses.items c.args.refusals.items) (sym c.self.view_is) in
    record {
      keeps = subst KeepsNursery (sym (anew_is c.self.inside.lent _ _ _ _ _ _ c.self.inside.plan _ c.args.losses.items c.args.refusals.items (sym (length-map c.self.inside.counts (λ (w : WorkerCounts). w.starts)) ∙ c.self.invariant.keeps.one_each.starts) c.begin_all_anew.ensures noted))
          (scripted_keeps (nursery_view c.self.inside) c.args.losses.items c.args.refusals.items c.self.invariant.keeps home);
      losses = rw plan refl;
      refusals = rw plan refl;
    }

pub returns : goal.returns
returns c =
    let plan : c.note_counts.new.plan ≡ plan_now c.args.self.now.nursery c.args.losses.items c.args.refusals.items = rw (c.note_counts.ensures, c.note_scripts.ensures, c.as_slice.ensures.value, c.as_slice-2.ensures.value) refl in
    let noted : c.note_counts.new.plan ≡ plan_now (nursery_view c.self.inside).nursery c.args.losses.items c.args.refusals.items = plan ∙ ap (λ (n : NurseryState). plan_now n.nursery c.args.losses.items c.args.refusals.items) (sym c.self.view_is) in
    anew_is c.self.inside.lent _ _ _ _ _ _ c.self.inside.plan _ c.args.losses.items c.args.refusals.items (sym (length-map c.self.inside.counts (λ (w : WorkerCounts). w.starts)) ∙ c.self.invariant.keeps.one_each.starts) c.begin_all_anew.ensures noted
    ∙ ap (λ (n : NurseryState). scripted n c.args.losses.items c.args.refusals.items) c.self.view_is
