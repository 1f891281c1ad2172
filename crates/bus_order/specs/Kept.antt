-- each hart's request, kept beside the order
use Rattle.std.specs.Prelude.{ℕ, ◌≡◌, ◌<◌, List, Option, None, get_or, length}
use Rattle.std.specs.Option.{option_map}
use Rattle.bus_order.specs.Order.{Request, numbered, request_of}
use Rattle.bus_order.specs.declared.request.Request as requests

-- what is kept of a hart
abbrev pub kept_of : List (Option requests.Request) → ℕ → Option Request
kept_of kept hart = option_map numbered (get_or kept hart None)

-- of each hart that can be is kept which request it has in the order
pub record KeepsEach (order : List Request) (kept : List (Option requests.Request)) : Type 0 where
  pub count : length kept ≡ 8
  pub each : (hart : ℕ) → hart < 8 → kept_of kept hart ≡ request_of order hart
