-- What the hub keeps beside its state.
use Rattle.std.specs.Prelude.{◌≡◌, ℕ, ◌+◌, ◌≤◌, Bool, nat_lt, List, [], length, map, slice_index, if◌then◌else◌, Option, Some, None, is_some}
use Rattle.px_base.specs.declared.TheConstants.{MOST_VERTICES}
use Rattle.px_base.specs.declared.wire.Answer.{Answer}
use Rattle.px_base.specs.declared.wire.Foreign.{Foreign}
use Rattle.px_base.specs.declared.wire.Foreign.TheVariants as fault
use Rattle.px_base.specs.declared.wire.Header.{Header}
use Rattle.px_base.specs.declared.wire.Order.{Order}
use Rattle.px_base.specs.Parts.{IsWorkerCuts, part_count}
use Rattle.px_base.specs.Values.{is_listed}
use Rattle.partitioner.specs.Bits.{has_bit}
use Rattle.partitioner.specs.Cuts.{vertex_count}
use Rattle.list_laws.specs.Routes.{AreRoutes}
use Rattle.hub_terms.specs.declared.stops.Why.{Why}
use Rattle.hub_terms.specs.declared.stops.Why.TheVariants as why
use Rattle.hub_terms.specs.Hubs.{HubState}
use Rattle.hub_terms.specs.Inboxes.{InboxesState, route_at}
use Rattle.hub_terms.specs.HubEvents.{order_header, answer_header, same_header, foreign_content}
use Rattle.hub_terms.specs.HubInStep.{IsHubInStep}
use Rattle.recovery.specs.Reports.{HoldsReports}

-- ---- at run time: headers of orders, and who has reported

-- the header of an order that isn't answered yet
abbrev pub header_of : Option Order → Option Header
header_of None = None
header_of (Some order) = Some (order_header order)

-- the same for each worker
abbrev pub headers_of : List (Option Order) → List (Option Header)
headers_of orders = map header_of orders

-- who has reported
abbrev pub flags_of : List (Option (List ℕ)) → List Bool
flags_of reported = map is_some reported

-- ---- the graph

-- The cuts are those of some workers, and there is a route for each vertex, which names some of them, rising.
pub record IsCutGraph (ends : List ℕ) (to : List (List ℕ)) : Type 0 where
  pub cut : IsWorkerCuts (vertex_count ends) ends
  pub few : vertex_count ends ≤ MOST_VERTICES
  pub ways : AreRoutes (part_count ends) to
  pub one_each : length to ≡ vertex_count ends

-- There is a word for each vertex: its bit j says whether worker j is on the vertex's route.
pub record AreRouteWords (to : List (List ℕ)) (words : List ℕ) : Type 0 where
  pub size : length words ≡ length to
  pub bits : (v j : ℕ) → has_bit (slice_index words v) j ≡ is_listed (route_at to v) j

-- the inboxes are for these routes, one for each part
pub record AreInboxesOf (to : List (List ℕ)) (counts : Bool) (t : InboxesState) : Type 0 where
  pub graph : IsCutGraph t.cuts t.routes
  pub routes : t.routes ≡ to
  pub counting : t.counting ≡ counts
  pub size : length t.boxes ≡ part_count t.cuts

-- ---- all that is kept

-- What stands beside the state goes with it: cuts, routes, headers, who has reported, and the values.
pub record IsKept (ends : List ℕ) (to : List (List ℕ)) (counts : Bool) (headers : List (Option Header)) (flags : List Bool) (values : List ℕ) (hub : HubState) : Type 0 where
  pub cuts : hub.inboxes.cuts ≡ ends
  pub routes : hub.inboxes.routes ≡ to
  pub counting : hub.inboxes.counting ≡ counts
  pub graph : IsCutGraph ends to
  pub headed : headers ≡ headers_of hub.orders
  pub flagged : flags ≡ flags_of hub.reported
  pub held : HoldsReports ends hub.reported values

-- all that the hub keeps
pub record IsHub (ends : List ℕ) (to : List (List ℕ)) (counts : Bool) (headers : List (Option Header)) (flags : List Bool) (values : List ℕ) (hub : HubState) : Type 0 where
  pub kept : IsKept ends to counts headers flags values hub
  pub in_step : IsHubInStep hub

-- ---- parts of the events

-- the reason to stop after a loss, where so many were noted before
abbrev pub halt_after : Option Why → ℕ → ℕ → Option Why
halt_after (Some reason) limit losses = Some reason
halt_after None limit losses = if nat_lt limit (losses + 1) then Some why.TooManyLosses else None

-- the cuts and the routes without what waits
abbrev pub bare : List ℕ → List (List ℕ) → Bool → InboxesState
bare ends to counts = record { cuts = ends; routes = to; counting = counts; boxes = [] }

-- what is wrong with the answer of worker i to an order with this header
abbrev pub fault_of : InboxesState → ℕ → Header → Answer → Option Foreign
fault_of t i header answer = if same_header header (answer_header answer)
    then foreign_content t i answer else Some (fault.Unordered header (answer_header answer))
