-- What bits say of reading and writing.
use Rattle.std.proofs.Common.{◌≡◌, ℕ, zero, suc, ◌+◌, Bool, true, false, cond, eqb, ltb, ◌||◌, Option, None, Some}
use Rattle.std.proofs.Common.{is_some, bit_and, bit_or, refl, ap}
use Rattle.std.proofs.Common.{sym, ◌∙◌, arith}
use Rattle.std.specs.Option.{option_map_or}
use Rattle.std.proofs.lemmas.Bool.Decides.{nat_tests}
use Rattle.std.proofs.lemmas.Nat.{and_or_apart, and_or_self, or_lt}
use Rattle.el_base.specs.declared.outcomes.Need.{Need}
use Rattle.el_base.specs.declared.outcomes.Need.TheVariants.{Read, Write}
use Rattle.cache_sets.specs.declared.bits.Bits.{Bits}
use Rattle.cache_sets.specs.declared.way.Way as code
use Rattle.cache_sets.specs.Bits.{bits_of, bits_of_need, bits_of_number, has_need, marks_in, with_need, writes_in}
use Rattle.residency.specs.Residency.{Way, is_marked, with_bit}
use Rattle.cache_sets.specs.Kept.{marked_way, shown_way}

-- the bit of a need that was set, and the other one
has_need-with_need_same : (need : Need) (bits : Bits) → has_need need (with_need need bits) ≡ true
has_need-with_need_same Read bits = ap (λ n. eqb n 1) (and_or_self 1 bits.0)
has_need-with_need_same Write bits = ap (λ n. eqb n 2) (and_or_self 2 bits.0)

read-with_write : (bits : Bits) → has_need Read (with_need Write bits) ≡ has_need Read bits
read-with_write bits = ap (λ n. eqb n 1) (and_or_apart 1 bits.0 2 refl)

write-with_read : (bits : Bits) → has_need Write (with_need Read bits) ≡ has_need Write bits
write-with_read bits = ap (λ n. eqb n 2) (and_or_apart 2 bits.0 1 refl)

-- a way that got a bit shows it
pub shown_marked : (need : Need) (way : code.Way) → shown_way (marked_way need way) ≡ with_bit need (shown_way way)
shown_marked Read way =
    ap
    (λ read. record {
      line = way.line.number;
      letter = way.letter;
      read = read;
      write = has_need Write (with_need Read way.bits);
    })
    (has_need-with_need_same Read way.bits)
    ∙ ap (λ write. record { line = way.line.number; letter = way.letter; read = true; write = write })
    (write-with_read way.bits)
shown_marked Write way =
    ap
    (λ write. record {
      line = way.line.number;
      letter = way.letter;
      read = has_need Read (with_need Write way.bits);
      write = write;
    })
    (has_need-with_need_same Write way.bits)
    ∙ ap (λ read. record { line = way.line.number; letter = way.letter; read = read; write = true })
    (read-with_write way.bits)

-- bits that all have a name are what they show
named_bits : (n : ℕ) → ltb 3 n ≡ false → (cond (eqb (bit_and n 1) 1) 1 0) + (cond (eqb (bit_and n 2) 2) 2 0) ≡ n
named_bits zero named = refl
named_bits (suc zero) named = refl
named_bits (suc (suc zero)) named = refl
named_bits (suc (suc (suc zero))) named = refl
named_bits (suc (suc (suc (suc n)))) named = absurd (grind (arith, nat_tests))

-- so the bits of a way are the ones that its definition has
pub bits_of_shown : (way : code.Way) → ltb 3 way.bits.0 ≡ false → bits_of (Some (shown_way way)) ≡ way.bits
bits_of_shown way named = ap bits_of_number (named_bits way.bits.0 named)

-- bits that got a named one are named
pub named-with_need : (need : Need) (n : ℕ) → ltb 3 n ≡ false → ltb 3 (bit_or n (bits_of_need need).0) ≡ false
named-with_need Read n named = grind (arith, nat_tests, or_lt 2 n 1)
named-with_need Write n named = grind (arith, nat_tests, or_lt 2 n 2)

-- what the bits of a way count
pub marks_in-bits_of : (way : Option Way) → marks_in (bits_of way) ≡ option_map_or (λ w. cond (is_marked w) 1 0) way 0
marks_in-bits_of None = refl
marks_in-bits_of (Some way) = by_bits way.read way.write
  where
    by_bits : (read write : Bool) → marks_in (bits_of_number (cond read 1 0 + cond write 2 0))
        ≡ cond (read || write) 1 0
    by_bits true true = refl
    by_bits true false = refl
    by_bits false true = refl
    by_bits false false = refl

pub writes_in-bits_of : (way : Option Way) → writes_in (bits_of way) ≡ option_map_or (λ w. cond w.write 1 0) way 0
writes_in-bits_of None = refl
writes_in-bits_of (Some way) = by_bits way.read way.write
  where
    by_bits : (read write : Bool) → writes_in (bits_of_number (cond read 1 0 + cond write 2 0)) ≡ cond write 1 0
    by_bits true true = refl
    by_bits true false = refl
    by_bits false true = refl
    by_bits false false = refl

-- and with the bit of a need
marks_after : (need : Need) (read write : Bool) →
    marks_in (with_need need (bits_of_number (cond read 1 0 + cond write 2 0))) ≡ 1
marks_after Read true true = refl
marks_after Read true false = refl
marks_after Read false true = refl
marks_after Read false false = refl
marks_after Write true true = refl
marks_after Write true false = refl
marks_after Write false true = refl
marks_after Write false false = refl

pub marks_in-with_need : (need : Need) (way : Option Way) → is_some way ≡ true →
    marks_in (with_need need (bits_of way)) ≡ 1
marks_in-with_need need None some = absurd cc
marks_in-with_need need (Some way) some = marks_after need way.read way.write

writes_after : (need : Need) (read write : Bool) (way : Way) → way.write ≡ write →
    writes_in (with_need need (bits_of_number (cond read 1 0 + cond write 2 0))) ≡ cond (with_bit need way).write 1 0
writes_after Read true true way is = ap (λ b. cond b 1 0) (sym is)
writes_after Read true false way is = ap (λ b. cond b 1 0) (sym is)
writes_after Read false true way is = ap (λ b. cond b 1 0) (sym is)
writes_after Read false false way is = ap (λ b. cond b 1 0) (sym is)
writes_after Write true true way is = refl
writes_after Write true false way is = refl
writes_after Write false true way is = refl
writes_after Write false false way is = refl

pub writes_in-with_need : (need : Need) (way : Option Way) → is_some way ≡ true →
    writes_in (with_need need (bits_of way)) ≡ option_map_or (λ w. cond (with_bit need w).write 1 0) way 0
writes_in-with_need need None some = absurd cc
writes_in-with_need need (Some way) some = writes_after need way.read way.write way refl
