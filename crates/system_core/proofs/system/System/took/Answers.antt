use Rattle.std.proofs.Common.{◌≡◌, subst, sym, true}
use Rattle.hub_terms.specs.Systems.{SystemState, MayCome, took}
use Rattle.system_core.proofs.Answered.{never_foreign}
use Rattle.system_core.proofs.Events.{took_all, took_others}
use Rattle.system_core.proofs.system.System.took.Goals as goal

pub returns-in_err-took-clause-honest : goal.returns-in_err-took-clause-honest
returns-in_err-took-clause-honest c = λ tells. absurd (never_foreign _ c.args.i c.args.answer.now c.self.invariant.in_step
    (subst (λ (s : SystemState). MayCome s (took c.args.i c.args.answer.now)) (sym c.self.view_is) c.requires)
    (subst (λ (s : SystemState). s.told ≡ true) (sym c.self.view_is) tells) _ c.in_err-took.ensures.0)

pub invariant_of-self-2 : goal.invariant_of-self-2
invariant_of-self-2 c = rw (c.worlds_stepped-worlds.ensures, ← c.self.view_is) (took_all _ c.args.i c.args.answer.now c.took.new.self c.self.invariant
    (subst (λ (s : SystemState). MayCome s (took c.args.i c.args.answer.now)) (sym c.self.view_is) c.requires) c.in_ok-took.ensures)

pub returns-clause-others : goal.returns-clause-others
returns-clause-others c = rw (c.worlds_stepped-worlds.ensures, ← c.self.view_is) (took_others _ c.args.i c.args.answer.now c.took.new.self c.self.invariant
    (subst (λ (s : SystemState). MayCome s (took c.args.i c.args.answer.now)) (sym c.self.view_is) c.requires) c.in_ok-took.ensures)
