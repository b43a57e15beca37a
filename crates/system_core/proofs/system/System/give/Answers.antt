use Rattle.std.proofs.Common.{◌≢◌, subst, sym}
use Rattle.std.specs.Prelude.{Ok}
use Rattle.recovery.specs.declared.given.Turn.TheVariants.{Stop}
use Rattle.hub_terms.specs.declared.stops.Why.TheVariants as why
use Rattle.hub_terms.specs.Systems.{SystemState, MayCome, give}
use Rattle.round_laws.specs.OnTime.{AllowsEnough, IsTimed}
use Rattle.system_core.proofs.Events as events
use Rattle.system_core.proofs.system.System.give.Goals as goal

pub invariant_of-self : goal.invariant_of-self
invariant_of-self c = events.gave_all _ c.args.i c.give.new.self c.give.result c.self.invariant
    (subst (λ (s : SystemState). MayCome s (give c.args.i)) (sym c.self.view_is) c.requires) c.give.ensures.turn c.give.ensures.left c.give.ensures.kept

pub returns-clause-work : goal.returns-clause-work
returns-clause-work c = events.hands_out _ c.args.i c.give.new.self c.give.result c.self.invariant
    (subst (λ (s : SystemState). MayCome s (give c.args.i)) (sym c.self.view_is) c.requires) c.give.ensures.turn c.give.ensures.left c.give.ensures.kept

pub returns-clause-done : goal.returns-clause-done
returns-clause-done c = events.is_done _ c.args.i c.give.new.self c.give.result c.self.invariant
    (subst (λ (s : SystemState). MayCome s (give c.args.i)) (sym c.self.view_is) c.requires) c.give.ensures.turn c.give.ensures.left c.give.ensures.kept

pub returns-clause-enough : goal.returns-clause-enough
returns-clause-enough c = subst (λ (s : SystemState). IsTimed s → AllowsEnough s → c.give.result ≢ Ok (Stop why.Budget)) c.self.view_is
    (events.never_budget _ c.args.i c.give.new.self c.give.result c.self.invariant
    (subst (λ (s : SystemState). MayCome s (give c.args.i)) (sym c.self.view_is) c.requires) c.give.ensures.turn c.give.ensures.left c.give.ensures.kept)

pub returns-clause-spent : goal.returns-clause-spent
returns-clause-spent c = events.was_spent _ c.args.i c.give.new.self c.give.result c.self.invariant
    (subst (λ (s : SystemState). MayCome s (give c.args.i)) (sym c.self.view_is) c.requires) c.give.ensures.turn c.give.ensures.left c.give.ensures.kept

pub returns-clause-others : goal.returns-clause-others
returns-clause-others c = rw (← c.self.view_is)
    (events.gave_others _ c.args.i c.give.new.self c.give.result c.self.invariant
    (subst (λ (s : SystemState). MayCome s (give c.args.i)) (sym c.self.view_is) c.requires) c.give.ensures.turn c.give.ensures.left c.give.ensures.kept)
