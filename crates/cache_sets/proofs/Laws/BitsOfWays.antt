-- the bits that a cache tells of a line are those of its way
use Rattle.std.proofs.Common.{◌≡◌, ◌+◌, Bool, false, true, if◌then◌else◌, Option, refl}
use Rattle.cache_sets.specs.Bits.{bits_of, bits_of_number, has_need}
use Rattle.cache_sets.specs.declared.bits.Bits.{Bits}
use Rattle.residency.specs.Cache.{bit_in}
use Rattle.residency.specs.Residency.{Way}
use Rattle.el_base.specs.declared.outcomes.Need.TheVariants.{Read, Write}

abbrev bits_with : Bool → Bool → Bits
bits_with read write = bits_of_number ((if read then 1 else 0) + (if write then 2 else 0))

both_needs : (read write : Bool) →
    (has_need Read (bits_with read write) ≡ read) × (has_need Write (bits_with read write) ≡ write)
both_needs true true = (refl, refl)
both_needs true false = (refl, refl)
both_needs false true = (refl, refl)
both_needs false false = (refl, refl)

pub read_need : (way : Option Way) → has_need Read (bits_of way) ≡ bit_in Read way
read_need way = (both_needs (bit_in Read way) (bit_in Write way)).0

pub write_need : (way : Option Way) → has_need Write (bits_of way) ≡ bit_in Write way
write_need way = (both_needs (bit_in Read way) (bit_in Write way)).1
