-- what a port gives: the byte at each address, and lines for each need
use Rattle.std.specs.Prelude.{ℕ, Bool, true, ◌≡◌, ◌⊎◌, ◌+◌, ◌-◌, ◌/◌, ◌%◌, ◌^◌, ◌&&◌, ◌==◌, if◌then◌else◌, nat_le}
use Rattle.std.specs.Prelude.{nat_lt, List, slice_index}
use Rattle.el_base.specs.Line.{line_number}
use Rattle.el_base.specs.declared.line.TheConstants.{LINE_BYTES}
use Rattle.el_base.specs.declared.outcomes.Need.{Need}
use Rattle.el_base.specs.declared.outcomes.Need.TheVariants.{Read, Write}

-- a line may be read where it is permitted for either need, and be written where it is for writing
abbrev pub MayRead : (ℕ → Need → Bool) → ℕ → Type 0
MayRead permits line = (permits line Read ≡ true) ⊎ (permits line Write ≡ true)

abbrev pub MayWrite : (ℕ → Need → Bool) → ℕ → Type 0
MayWrite permits line = permits line Write ≡ true

-- a byte of a number, the lowest at place 0
abbrev pub byte_of : ℕ → ℕ → ℕ
byte_of value place = value / 256 ^ place % 256

-- the byte at an address after the `len` low bytes of a number were stored from another on
abbrev pub stored : (ℕ → ℕ) → ℕ → ℕ → ℕ → ℕ → ℕ
stored byte from len value address =
    if nat_le from address && nat_lt address (from + len) then byte_of value (address - from) else byte address

-- one permission for each need
abbrev pub by_need : Bool → Bool → Need → Bool
by_need reads writes Read = reads
by_need reads writes Write = writes

-- the byte at an address where a port has one line, and 0 in each other line
abbrev pub byte_in_line : ℕ → List ℕ → ℕ → ℕ
byte_in_line line bytes address = if line_number address == line then slice_index bytes (address % LINE_BYTES) else 0
