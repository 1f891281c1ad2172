-- what a hart has asked of the bus
use Rattle.std.specs.Prelude.{ℕ, ◌≡◌, Option, None, Some}
use Rattle.bus_agent.specs.Agent.{agent_at}
use Rattle.bus_order.specs.Order as order
use Rattle.bus_order.specs.Order.{Request, request_of}
use Rattle.snoop.specs.Shows.{BusState}
use Rattle.snoop.specs.declared.asked.Asked.{Asked}
use Rattle.snoop.specs.declared.asked.Asked.TheVariants as declared

pub data Asking : Type 0 where
  Nothing : Asking
  Raised : Request → Asking
  Placed : Request → Asking

-- an answer, with the request as numbers
abbrev pub numbered_asked : Asked → Asking
numbered_asked declared.Nothing = Nothing
numbered_asked (declared.Raised request) = Raised (order.numbered request)
numbered_asked (declared.Placed request) = Placed (order.numbered request)

-- what a hart asks that has raised this and has this in the order: what it has raised, else
-- what is in the order, else nothing
abbrev pub asking : Option Request → Option Request → Asking
asking (Some raised) ordered = Raised raised
asking None (Some ordered) = Placed ordered
asking None None = Nothing

-- a hart waits for no request of its own
pub record HasNoRequest (bus : BusState) (h : ℕ) : Type 0 where
  pub none_raised : (agent_at bus.agents h).raised ≡ None
  pub none_ordered : request_of bus.order h ≡ None
