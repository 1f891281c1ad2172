-- what a hart's section has done to a line, as bits
use Rattle.std.specs.Prelude.{ℕ, Bool, ◌==◌, ◌||◌, ◌+◌, Option, if◌then◌else◌}
use Rattle.std.specs.Int.RustNames.{bit_and, bit_or}
use Rattle.el_base.specs.declared.outcomes.Need.{Need}
use Rattle.el_base.specs.declared.outcomes.Need.TheVariants.{Read, Write}
use Rattle.cache_sets.specs.declared.bits.Bits.{Bits}
use Rattle.residency.specs.Residency.{Way}
use Rattle.residency.specs.Cache.{bit_in}

-- the bits of this number
abbrev pub bits_of_number : ℕ → Bits
bits_of_number n = record { 0 = n }

-- the bit of a need
abbrev pub bits_of_need : Need → Bits
bits_of_need Read = bits_of_number 1
bits_of_need Write = bits_of_number 2

-- these bits and the one of a need
abbrev pub with_need : Need → Bits → Bits
with_need need bits = bits_of_number (bit_or bits.0 (bits_of_need need).0)

-- whether the bit of a need is among these bits
abbrev pub has_need : Need → Bits → Bool
has_need need bits = bit_and bits.0 (bits_of_need need).0 == (bits_of_need need).0

-- the bits of a way, and none where there is no way
abbrev pub bits_of : Option Way → Bits
bits_of way = bits_of_number ((if bit_in Read way then 1 else 0) + (if bit_in Write way then 2 else 0))

-- how many lines with bits, and how many written lines, a line with these bits is
abbrev pub marks_in : Bits → ℕ
marks_in bits = if has_need Read bits || has_need Write bits then 1 else 0

abbrev pub writes_in : Bits → ℕ
writes_in bits = if has_need Write bits then 1 else 0
