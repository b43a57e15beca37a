-- What a script says of one worker and of one link.
use Rattle.std.specs.Prelude.{◌≡◌, ℕ, ◌<◌, ◌≤◌, Bool, true, false, ◌==◌, List, filter, map}
use Rattle.std.specs.List.{list_any}
use Rattle.px_base.specs.declared.wire.Order.{Order}
use Rattle.px_base.specs.declared.wire.Order.TheVariants.{Step, Report}
use Rattle.px_io.specs.Causes.{one_more}
use Rattle.link_trait.specs.declared.scripts.Moment.{Moment}
use Rattle.link_trait.specs.declared.scripts.Moment.TheVariants as moment
use Rattle.link_trait.specs.declared.scripts.Scripted.{Scripted}
use Rattle.link_trait.specs.Plans.{Plan}
use Rattle.link_trait.specs.Links.{LinkView}

-- the losses that are scripted for worker w
abbrev pub losses_of : Plan → ℕ → List Scripted
losses_of plan w = filter (λ s. s.worker == w) plan.losses

-- when the link with this number is to end, of these losses of its worker
abbrev pub moments_in : List Scripted → ℕ → List Moment
moments_in losses number = map (λ s. s.moment) (filter (λ s. s.link == number) losses)

-- when the link with this number of worker w is to end
abbrev pub moments_of : Plan → ℕ → ℕ → List Moment
moments_of plan w number = moments_in (losses_of plan w) number

-- the numbers of the starts of worker w that are to be refused
abbrev pub refused_starts : Plan → ℕ → List ℕ
refused_starts plan w = map (λ r. r.start) (filter (λ r. r.worker == w) plan.refusals)

-- the order asks for a Report
abbrev pub is_report : Order → Bool
is_report (Step epoch round updates) = false
is_report (Report epoch) = true

-- the moment comes with the call of this number, which has this order
abbrev pub comes_with : ℕ → Order → Moment → Bool
comes_with call order (moment.Call number) = number == call
comes_with call order moment.Report = is_report order

-- the link is to end in place of its answer to this order
abbrev pub is_to_end : LinkView → Order → Bool
is_to_end link order = list_any (comes_with (one_more link.calls) order) (moments_of link.mark.plan link.worker link.mark.number)

-- The moment hasn't come among so many answered calls, of which so many were Reports.
abbrev pub IsAhead : ℕ → ℕ → Moment → Type 0
IsAhead calls reports (moment.Call number) = 1 ≤ number → calls < number
IsAhead calls reports moment.Report = reports ≡ 0
