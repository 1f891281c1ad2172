-- what the definition of the round robin comes to
use Rattle.std.specs.Prelude.{ℕ, ◌≡◌, List}
use Rattle.drive.specs.RoundRobin.{IsRoundRobin}
use Rattle.el_base.specs.declared.events.Event.{Event}
use Rattle.el_model.specs.State.{ModelState}

-- there is one round robin from a state on with so many steps left: two of them agree in their length, and
-- so in each event, which is the one of its place
abbrev pub OneRoundRobin : Type 0
OneRoundRobin =
    (state : ModelState) (harts left : ℕ) (first second : List Event) →
    IsRoundRobin state harts left first → IsRoundRobin state harts left second → first ≡ second
