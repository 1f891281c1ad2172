-- Kinds of events.
use Rattle.std.specs.Prelude.{ℕ}
use Rattle.el_base.specs.declared.events.Kind.{Kind}
use Rattle.el_base.specs.declared.events.Kind.TheVariants.{Step, Order, Serve, Deliver}

-- the number of a kind, which is its place in a hart's turn and its code in a trace
abbrev pub kind_number : Kind → ℕ
kind_number Step = 0
kind_number Order = 1
kind_number Serve = 2
kind_number Deliver = 3
