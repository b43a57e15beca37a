use Rattle.std.proofs.Common.{◌≡◌, not, find, drop}
use Rattle.px_base.specs.declared.wire.Update.{Update}
use Rattle.hub_terms.specs.HubEvents.{may_send}
use Rattle.recovery.specs.Keeping.{bare}
use Rattle.recovery.proofs.faults.wrong_update.Given as goal

abbrev pub invariant-loop-update : goal.invariant-loop-update
invariant-loop-update l = find (λ (u : Update). not (may_send (bare l.fn.cuts.ends l.fn.routes l.fn.counting) l.fn.i u.vertex)) l.initial.updates
    ≡ find (λ (u : Update). not (may_send (bare l.fn.cuts.ends l.fn.routes l.fn.counting) l.fn.i u.vertex)) (drop l.update-index l.initial.updates)
