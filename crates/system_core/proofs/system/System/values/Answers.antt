use Rattle.std.proofs.Common.{◌≡◌, ℕ, List, true, length, ap, subst, sym, ◌∙◌}
use Rattle.hub_terms.specs.Hubs.{all_reported, reported_values}
use Rattle.hub_terms.specs.Systems.{SystemState}
use Rattle.hub_terms.specs.Valid.{IsCoreAnswer}
use Rattle.system_core.proofs.Turns.{reports_answer}
use Rattle.system_core.proofs.system.System.values.Goals as goal

pub returns-clause-values : goal.returns-clause-values
returns-clause-values c = c.values.ensures.values ∙ ap (λ (s : SystemState). reported_values s.hub) c.self.view_is

pub returns-clause-one_each : goal.returns-clause-one_each
returns-clause-one_each c = c.values.ensures.one_each ∙ c.self.invariant.in_step.job.cuts.cut.last ∙ ap (λ (s : SystemState). length s.job.rows) c.self.view_is

pub returns-clause-answer : goal.returns-clause-answer
returns-clause-answer c = subst (λ (s : SystemState). s.told ≡ true → IsCoreAnswer s.job c.values.result.now) c.self.view_is
    (λ tells. subst (λ (xs : List ℕ). IsCoreAnswer c.self.inside.job xs) (sym c.values.ensures.values)
    (reports_answer _ c.self.invariant (subst (λ (s : SystemState). all_reported s.hub ≡ true) (sym c.self.view_is) c.requires) tells))
