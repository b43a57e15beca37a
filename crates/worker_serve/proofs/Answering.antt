-- Orders that are answered one after another.
use Rattle.std.proofs.Common.{◌≡◌, List, [], ◌∷◌, ◌++◌, refl}
use Rattle.std.specs.Prelude.{Option}
use Rattle.px_base.specs.declared.wire.Order.{Order}
use Rattle.worker_serve.specs.Sessions.{Answered, answer_next, answer_all}

-- one order more at the end
pub answer_more : (so_far : Option Answered) (orders : List Order) (order : Order) → answer_all so_far (orders ++ order ∷ []) ≡ answer_next (answer_all so_far orders) order
answer_more so_far [] order = refl
answer_more so_far (o ∷ orders) order = answer_more (answer_next so_far o) orders order
