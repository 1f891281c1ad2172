-- what is left of a section to a hart that an event names among its losers
use Rattle.std.specs.Prelude.{ℕ, ◌≡◌, ◌<◌, ◌≤◌, ◌+◌, ◌==◌, Bool, true, List, [], ◌∷◌, length, Option, None, Some}
use Rattle.std.specs.Prelude.{if◌then◌else◌}
use Rattle.bus_order.specs.Order.{Request}
use Rattle.el_base.specs.declared.config.Mode.{Mode}
use Rattle.el_base.specs.declared.config.Mode.TheVariants.{Plain, Sle, Tlr}
use Rattle.el_model.specs.RollBack.{most_tries}
use Rattle.el_model.specs.State.{Hart, ModelState, Section, raised_of}

-- a hart's section, its tries and its fallback flag
pub record Standing : Type 0 where
  pub section : Option Section
  pub tries : ℕ
  pub fallback : Bool

abbrev pub standing_of : Hart → Standing
standing_of hart = record { section = hart.section; tries = hart.tries; fallback = hart.fallback }

-- the same after a loss: no section is left, and without stamps one more try is counted
abbrev pub one_more_lost : Standing → Standing
one_more_lost old =
    if old.tries + 1 == most_tries then record { section = None; tries = 0; fallback = true }
    else record { section = None; tries = old.tries + 1; fallback = old.fallback }

abbrev pub lost_in : Mode → Standing → Standing
lost_in Tlr old = record old { section = None }
lost_in Sle old = one_more_lost old
lost_in Plain old = one_more_lost old

-- the same where there may have been a winner
abbrev pub restored : Mode → Option ℕ → Standing → Standing
restored mode None old = old
restored mode (Some winner) old = lost_in mode old

-- each request is of a hart that a machine may have
abbrev pub AreNumbered : List Request → Type 0
AreNumbered [] = Unit {0}
AreNumbered (request ∷ requests) = (request.hart < 8) × AreNumbered requests

-- there are at most eight harts, and each request is of one that a machine may have
pub record HartsAreNumbered (state : ModelState) : Type 0 where
  pub few : length state.harts ≤ 8
  pub raised : (h : ℕ) (request : Request) → raised_of state h ≡ Some request → request.hart < 8
  pub ordered : AreNumbered state.order
