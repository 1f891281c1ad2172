-- who wins where a request meets another hart's section
use Rattle.std.specs.Prelude.{Bool, true, Option}
use Rattle.el_base.specs.declared.config.Mode.{Mode}
use Rattle.el_base.specs.declared.config.Mode.TheVariants.{Plain, Sle, Tlr}
use Rattle.stamp.specs.Stamps.{Stamp, is_before}

-- whether a request with this stamp, if it has one, wins over a section with that one, if it has one: in lock
-- removal exactly where both have one and the request's is less; without stamps always
abbrev pub wins_of : Mode → Option Stamp → Option Stamp → Bool
wins_of Plain request section = true
wins_of Sle request section = true
wins_of Tlr request section = is_before request section
