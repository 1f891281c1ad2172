-- what a policy owes the bus
use Rattle.std.specs.Prelude.{◌≡◌, ◌≢◌, Bool, Option}
use Rattle.el_base.specs.declared.config.Mode.{Mode}
use Rattle.el_base.specs.declared.config.Mode.TheVariants.{Plain}
use Rattle.policy.specs.Winners.{wins_of}
use Rattle.stamp.specs.Stamps.{Stamp}

-- its answers are those of a mode; in the plain mode it may give any, since no request meets a section there
abbrev pub DecidesIn : Mode → (Option Stamp → Option Stamp → Bool) → Type 0
DecidesIn mode beats =
    mode ≢ Plain → (request holder : Option Stamp) → beats request holder ≡ wins_of mode request holder
