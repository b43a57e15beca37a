-- A worker that is served, and the statuses of its ends.
use Rattle.std.proofs.Common.{◌≡◌, refl, sym, ap, ◌∙◌, arith}
use Rattle.std.specs.Prelude.{◌≢◌}
use Rattle.worker_serve.specs.declared.end.ServeEnd.{ServeEnd}
use Rattle.worker_serve.specs.declared.end.ServeEnd.TheVariants as end
use Rattle.phoenix_cli.specs.Calls.{Outcome, outcome_of, status_of}

-- ---- only the end is 0, only a fault of the source 6, only one of the sink 7, no end is 12, and want of memory is 11

zero : (why : ServeEnd) → status_of (outcome_of why) ≡ 0 → why ≡ end.End
zero end.End e = refl
zero (end.Torn at) e = absurd (omega (arith, e))
zero (end.Cut at) e = absurd (omega (arith, e))
zero (end.Refused at) e = absurd (omega (arith, e))
zero end.TooLong e = absurd (omega (arith, e))
zero end.ReadFault e = absurd (omega (arith, e))
zero end.WriteFault e = absurd (omega (arith, e))
zero end.Memory e = absurd (omega (arith, e))

twelve : (why : ServeEnd) → status_of (outcome_of why) ≢ 12
twelve end.End e = omega (arith, e)
twelve (end.Torn at) e = omega (arith, e)
twelve (end.Cut at) e = omega (arith, e)
twelve (end.Refused at) e = omega (arith, e)
twelve end.TooLong e = omega (arith, e)
twelve end.ReadFault e = omega (arith, e)
twelve end.WriteFault e = omega (arith, e)
twelve end.Memory e = omega (arith, e)

six : (why : ServeEnd) → status_of (outcome_of why) ≡ 6 → why ≡ end.ReadFault
six end.End e = absurd (omega (arith, e))
six (end.Torn at) e = absurd (omega (arith, e))
six (end.Cut at) e = absurd (omega (arith, e))
six (end.Refused at) e = absurd (omega (arith, e))
six end.TooLong e = absurd (omega (arith, e))
six end.ReadFault e = refl
six end.WriteFault e = absurd (omega (arith, e))
six end.Memory e = absurd (omega (arith, e))

seven : (why : ServeEnd) → status_of (outcome_of why) ≡ 7 → why ≡ end.WriteFault
seven end.End e = absurd (omega (arith, e))
seven (end.Torn at) e = absurd (omega (arith, e))
seven (end.Cut at) e = absurd (omega (arith, e))
seven (end.Refused at) e = absurd (omega (arith, e))
seven end.TooLong e = absurd (omega (arith, e))
seven end.ReadFault e = absurd (omega (arith, e))
seven end.WriteFault e = refl
seven end.Memory e = absurd (omega (arith, e))

pub all_served : (why : ServeEnd) (outcome : Outcome) → outcome ≡ outcome_of why → status_of outcome ≡ 0 → why ≡ end.End
all_served why outcome is e = zero why (sym (ap status_of is) ∙ e)

pub none_unknown : (why : ServeEnd) (outcome : Outcome) → outcome ≡ outcome_of why → status_of outcome ≢ 12
none_unknown why outcome is e = twelve why (sym (ap status_of is) ∙ e)

pub read_failed : (why : ServeEnd) (outcome : Outcome) → outcome ≡ outcome_of why → status_of outcome ≡ 6 → why ≡ end.ReadFault
read_failed why outcome is e = six why (sym (ap status_of is) ∙ e)

pub write_failed : (why : ServeEnd) (outcome : Outcome) → outcome ≡ outcome_of why → status_of outcome ≡ 7 → why ≡ end.WriteFault
write_failed why outcome is e = seven why (sym (ap status_of is) ∙ e)

pub no_read_failed : (why : ServeEnd) (outcome : Outcome) → outcome ≡ outcome_of why → status_of outcome ≢ 6 → why ≢ end.ReadFault
no_read_failed why outcome is other e = other (ap status_of is ∙ ap (λ w. status_of (outcome_of w)) e)

pub no_write_failed : (why : ServeEnd) (outcome : Outcome) → outcome ≡ outcome_of why → status_of outcome ≢ 7 → why ≢ end.WriteFault
no_write_failed why outcome is other e = other (ap status_of is ∙ ap (λ w. status_of (outcome_of w)) e)

pub no_want : (why : ServeEnd) (outcome : Outcome) → outcome ≡ outcome_of why → status_of outcome ≢ 11 → why ≢ end.Memory
no_want why outcome is other e = other (ap status_of is ∙ ap (λ w. status_of (outcome_of w)) e)
