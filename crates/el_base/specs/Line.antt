-- Lines of memory.
use Rattle.std.specs.Prelude.{ℕ, ◌/◌}
use Rattle.el_base.specs.declared.line.TheConstants.{LINE_BYTES}

-- the number of the line that has the byte at this address
abbrev pub line_number : ℕ → ℕ
line_number address = address / LINE_BYTES
