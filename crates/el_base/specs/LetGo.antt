-- Who was let go in an event, by its outcome.
use Rattle.el_base.specs.Freed.{no_one_freed}
use Rattle.el_base.specs.declared.freed.Freed.{Freed}
use Rattle.el_base.specs.declared.outcomes.Outcome.{Outcome}
use Rattle.el_base.specs.declared.outcomes.Outcome.TheVariants.{Ordered, Served}

-- the harts that an outcome tells were let go, each with the number of its instructions that took effect
abbrev pub freed_of_outcome : Outcome → Freed
freed_of_outcome (Ordered losers freed) = freed
freed_of_outcome (Served losers freed) = freed
freed_of_outcome _ = no_one_freed
