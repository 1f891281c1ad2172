-- main memory after a hart's ordered request was served, or was not
use Rattle.std.specs.Prelude.{ℕ, List, Option, None, Some}
use Rattle.bus_order.specs.Order.{Request, request_of}
use Rattle.coherence.specs.Served.{Copies, lines_after}
use Rattle.el_base.specs.declared.outcomes.Outcome.{Outcome}
use Rattle.el_base.specs.declared.outcomes.Outcome.TheVariants.{Served}
use Rattle.line_pool.specs.Pooled.{Pooled}
use Rattle.snoop.specs.Shows.{BusState, lent_copies}

-- after a hart's request was served: a line that left the hart's cache for it is written back where
-- its copy was modified or owned
abbrev pub lines_for : Copies → ℕ → Option Request → List (List ℕ)
lines_for copies h None = copies.lines
lines_for copies h (Some request) = lines_after h request.line copies

-- by the outcome, with the pool of before: where nothing was served, each line is as it was
abbrev pub lines_served : Pooled → BusState → ℕ → Outcome → List (List ℕ)
lines_served pool bus h (Served losers freed) = lines_for (lent_copies pool bus.copies) h (request_of bus.order h)
lines_served pool bus h _ = bus.copies.lines
