-- the addresses of memory
use Rattle.std.specs.Prelude.{ℕ, Bool, ◌+◌, ◌&&◌, nat_le}
use Rattle.rv_alu.specs.declared.span.Span.{Span}

-- whether so many bytes from an address on are in memory
abbrev pub holds : Span → ℕ → ℕ → Bool
holds span address size = nat_le span.base address && nat_le (address + size) span.end
