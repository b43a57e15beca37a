use Rattle.std.proofs.Common.{◌≡◌, [], ◌∙◌, ap}
use Rattle.px_base.specs.Core.{core_form}
use Rattle.px_base.specs.Worlds.{new_world}
use Rattle.part_loads.specs.Loads.{IsWhole, loaded_part}
use Rattle.worker_serve.proofs.Staging.{refuse_end, serves}
use Rattle.worker_serve.proofs.stage.make_world.Goals as goal

pub returns-in_default-clause-refused : goal.returns-in_default-clause-refused
returns-in_default-clause-refused c = λ frames loading _. (let broken : IsWhole c.args.load → ⊥ = rw c.in_default.is at c.in_ok-part.ensures.refused in refuse_end c.args.load frames loading broken)

pub returns-clause-ok : goal.returns-clause-ok
returns-clause-ok c = λ frames loading.
    (let whole : IsWhole c.args.load = rw c.in-Some.is at c.in_ok-part.ensures.whole in
    let part : c.in-Some.part ≡ loaded_part c.args.load = rw c.in-Some.is at c.in_ok-part.ensures.part in
    let core : c.core_form-core.result ≡ core_form c.args.load.setup.program = c.core_form-core.ensures ∙ ap (λ s. core_form s.program) c.setup-setup.ensures.setup in
    let world : c.in_ok-world.world ≡ new_world (loaded_part c.args.load) (core_form c.args.load.setup.program) =
    c.in_ok-world.ensures ∙ ap (λ p. new_world p c.core_form-core.result) part ∙ ap (λ k. new_world (loaded_part c.args.load) k) core in
    (c.args.load, [], serves c.args.load frames c.in_ok-world.world loading whole world))
