-- attempts at sections, and the clocks of lock removal
use Rattle.std.specs.Prelude.{ℕ, Option, None, Some, max}
use Rattle.el_base.specs.declared.config.Mode.{Mode}
use Rattle.el_base.specs.declared.config.Mode.TheVariants.{Plain, Sle, Tlr}
use Rattle.el_model.specs.State.{Hart}
use Rattle.stamp.specs.Stamps.{Stamp, next_clock_of}

-- the attempt of a section that begins: in lock removal the one that is open, or a new one with the hart's clock
abbrev pub opened : Mode → ℕ → ℕ → Option Stamp → Option Stamp
opened Tlr h clock None = Some (record { clock = clock; hart = h })
opened Tlr h clock (Some stamp) = Some stamp
opened Plain h clock attempt = attempt
opened Sle h clock attempt = attempt

abbrev pub open_attempt : Mode → ℕ → Hart → Hart
open_attempt mode h hart = record hart { attempt = opened mode h hart.clock hart.attempt }

-- a hart's clock as its attempt closes, if one is open
abbrev pub closed_clock : Hart → Option Stamp → ℕ
closed_clock hart None = hart.clock
closed_clock hart (Some stamp) = next_clock_of hart.clock hart.seen

abbrev pub close_attempt : Hart → Hart
close_attempt hart = record hart { attempt = None; clock = closed_clock hart hart.attempt }

-- the clock that a hart has seen after it saw a stamp, if there is one
abbrev pub seen_after : ℕ → Option Stamp → ℕ
seen_after seen None = seen
seen_after seen (Some stamp) = max seen stamp.clock

abbrev pub see : Option Stamp → Hart → Hart
see stamp hart = record hart { seen = seen_after hart.seen stamp }
