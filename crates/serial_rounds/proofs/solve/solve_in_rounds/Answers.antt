use Rattle.std.proofs.Common.{◌≡◌, ◌∙◌, List, ℕ, sym, subst}
use Rattle.std.specs.Vec.{with_items}
use Rattle.std.proofs.lemmas.List.{with_items_is}
use Rattle.px_base.specs.Answers.{IsGreatestConsistent}
use Rattle.serial_rounds.proofs.Answering.{answer_is, core_is_form, core_keeps, core_no_count, core_no_mex}
use Rattle.serial_rounds.proofs.solve.solve_in_rounds.Goals as goal

pub settled-requires-clause-core : goal.settled-requires-clause-core
settled-requires-clause-core g c κs within = core_is_form c.args.program.now c.core_form-core.result c.core_form-core.ensures

pub settled-requires-clause-keeps : goal.settled-requires-clause-keeps
settled-requires-clause-keeps g c κs within = core_keeps c.args.program.now c.core_form-core.result c.core_form-core.ensures c.requires.class

pub settled-requires-clause-mex : goal.settled-requires-clause-mex
settled-requires-clause-mex g c κs within = core_no_mex c.args.program.now c.core_form-core.result c.core_form-core.ensures c.requires.class

pub settled-requires-clause-count : goal.settled-requires-clause-count
settled-requires-clause-count g c κs within = core_no_count c.args.program.now c.core_form-core.result c.core_form-core.ensures c.requires.class

pub returns : goal.returns
returns g c =
    let values : (with_items c.in_ok-values.values c.turn.new.values).items ≡ c.turn.new.values =
    with_items_is c.in_ok-values.values c.turn.new.values (c.turn.auto.values ∙ c.deref_mut.ensures.len) in
    let P : List ℕ → Type 0 = λ xs. IsGreatestConsistent c.args.program.now c.args.graph.rows c.args.starts.now xs in
    subst P (sym values) (answer_is c.args.graph.n c.args.program.now c.args.graph.rows c.args.starts.now c.core_form-core.result c.deref.result.now c.in_ok-values.values.items
    c.deref_mut.result.now c.turn.new.values c.requires.class c.requires.rows c.requires.starts c.core_form-core.ensures
    (c.deref.ensures.value ∙ c.in_ok-core_starts.ensures.core) c.in_ok-values.ensures c.deref_mut.ensures.value c.turn.ensures)
