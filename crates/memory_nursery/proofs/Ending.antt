-- Whether a link is to end now, by what its fields say.
use Rattle.std.proofs.Common.{◌≡◌, ◌∙◌, ℕ, Bool, false, List, sym}
use Rattle.std.specs.List.{list_any}
use Rattle.px_base.specs.declared.wire.Order.{Order}
use Rattle.px_io.specs.Causes.{one_more}
use Rattle.link_trait.specs.declared.scripts.Moment.{Moment}
use Rattle.link_trait.specs.Links.{LinkView}
use Rattle.memory_nursery.specs.Scripts.{comes_with, is_to_end, moments_of}

-- where no moment comes with this call, the link isn't to end
pub not_to_end : (link now : LinkView) (moments : List Moment) (call : ℕ) (order given : Order) (some : Bool) →
    link ≡ now → moments ≡ moments_of link.mark.plan link.worker link.mark.number → call ≡ one_more link.calls → order ≡ given →
    some ≡ list_any (comes_with call order) moments → some ≡ false → is_to_end now given ≡ false
not_to_end link now moments call order given some same its next its_order tells none =
    rw (← same, ← its_order, ← its, ← next) (sym tells ∙ none)
