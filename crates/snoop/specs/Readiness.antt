-- whether an event of a hart gets something done at the bus
use Rattle.std.specs.Prelude.{◌≡◌, Bool, true, false, Option, None, Some}
use Rattle.bus_order.specs.Order.{Request}
use Rattle.el_base.specs.declared.outcomes.Outcome.{Outcome}
use Rattle.el_base.specs.declared.outcomes.Outcome.TheVariants.{Delivered, Served}
use Rattle.el_model.specs.Serve.{Free, obstacle_to}
use Rattle.el_model.specs.State.{ModelState}

-- there is an ordered request, and nothing is in its way
abbrev pub NothingBlocks : ModelState → Option Request → Type 0
NothingBlocks state None = ⊥
NothingBlocks state (Some request) = obstacle_to state request ≡ Free

-- whether an outcome tells that a request was served
abbrev pub is_served : Outcome → Bool
is_served (Served losers freed) = true
is_served _ = false

-- whether an outcome tells that a message was taken
abbrev pub is_delivered : Outcome → Bool
is_delivered (Delivered losers) = true
is_delivered _ = false
