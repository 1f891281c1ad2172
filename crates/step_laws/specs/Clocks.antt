-- how large the clocks of a state are
use Rattle.std.specs.Prelude.{ℕ, ◌≤◌, List, [], ◌∷◌, Option, None, Some, length}
use Rattle.bus_order.specs.Order.{Request}
use Rattle.el_base.specs.declared.config.Config.{Config}
use Rattle.el_base.specs.declared.events.Event.{Event}
use Rattle.elf_image.specs.Program.{Program}
use Rattle.el_model.specs.Next.{after}
use Rattle.el_model.specs.State.{Hart, ModelState, hart_of}
use Rattle.stamp.specs.Stamps.{Stamp}

-- the clock of a stamp, if there is one, is at most so much
abbrev pub IsStampUpTo : ℕ → Option Stamp → Type 0
IsStampUpTo most None = Unit {0}
IsStampUpTo most (Some stamp) = stamp.clock ≤ most

-- so is that of a request's stamp
abbrev pub IsRequestUpTo : ℕ → Option Request → Type 0
IsRequestUpTo most None = Unit {0}
IsRequestUpTo most (Some request) = IsStampUpTo most request.stamp

-- and of each request's of these
abbrev pub AreRequestsUpTo : ℕ → List Request → Type 0
AreRequestsUpTo most [] = Unit {0}
AreRequestsUpTo most (request ∷ requests) = IsStampUpTo most request.stamp × AreRequestsUpTo most requests

-- what a hart has of clocks: its own, the greatest that it has seen, that of its open attempt
-- and that of its raised request
pub record AreUpTo (most clock seen : ℕ) (attempt : Option Stamp) (raised : Option Request) : Type 0 where
  pub of_clock : clock ≤ most
  pub of_seen : seen ≤ most
  pub of_attempt : IsStampUpTo most attempt
  pub of_raised : IsRequestUpTo most raised

-- the same of a whole hart
abbrev pub IsHartUpTo : ℕ → Hart → Type 0
IsHartUpTo most hart = AreUpTo most hart.clock hart.seen hart.attempt hart.raised

-- no clock in a state is greater
pub record AreClocksUpTo (most : ℕ) (state : ModelState) : Type 0 where
  pub harts : (h : ℕ) → IsHartUpTo most (hart_of state h)
  pub ordered : AreRequestsUpTo most state.order

-- in every state that can be reached, no clock is greater than the number of the events
abbrev pub ClocksAreFew : Type 0
ClocksAreFew =
    (program : Program) (config : Config) (events : List Event) →
    AreClocksUpTo (length events) (after program config events)
