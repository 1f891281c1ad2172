-- Lines by their numbers.
use Rattle.std.specs.Prelude.{ℕ, ◌^◌}
use Rattle.std.proofs.Common.{lit<}
use Rattle.el_base.specs.Below.{below, below_limit}
use Rattle.el_base.specs.declared.line.LineAddr.{LineAddr}

-- the line of this number; line 0 where no line has it
abbrev pub line_addr : ℕ → LineAddr
line_addr n = record { number = below (2 ^ 26) n; small = below_limit (2 ^ 26) n (lit< tt) }
