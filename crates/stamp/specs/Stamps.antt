-- stamps of attempts, and their order
use Rattle.std.specs.Prelude.{ℕ, ◌+◌, Bool, false, ◌&&◌, ◌||◌, ◌==◌, nat_lt, max, Option, None, Some}
use Rattle.el_base.specs.declared.stamped.Stamped.{Stamped}

-- a hart's clock as the attempt opened, and the hart
pub record Stamp : Type 0 where
  pub clock : ℕ
  pub hart : ℕ

-- a stamp as numbers
abbrev pub numbered_stamp : Stamped → Stamp
numbered_stamp stamp = record { clock = stamp.clock; hart = stamp.hart.number }

-- the less clock comes first, and of equal clocks the less hart
abbrev pub less_of : Stamp → Stamp → Bool
less_of left right = nat_lt left.clock right.clock || ((left.clock == right.clock) && nat_lt left.hart right.hart)

-- whether there are both stamps, and the first comes before the second
abbrev pub is_before : Option Stamp → Option Stamp → Bool
is_before (Some left) (Some right) = less_of left right
is_before (Some left) None = false
is_before None right = false

-- a hart's clock after an attempt has closed, by its clock and the clock that it has seen
abbrev pub next_clock_of : ℕ → ℕ → ℕ
next_clock_of own seen = max own seen + 1
