-- Laws of merged lines and of words in lines, for the crates above.
use Rattle.std.proofs.Common.{◌≡◌, ℕ, zero, suc, ◌+◌, ◌-◌, ◌*◌, ◌/◌, ◌%◌, ◌^◌, ◌<◌, ◌&&◌, nat_le, nat_lt, if◌then◌else◌}
use Rattle.std.proofs.Common.{List, length, slice_index, refl, ap, arith}
use Rattle.std.specs.Int.{bit_at, byte_at}
use Rattle.std.proofs.lemmas.Bool.Decides.{nat_tests}
use Rattle.std.proofs.lemmas.Nat.Bits.{bit_at-zero}
use Rattle.std.proofs.lemmas.Grind.{same_number_lists}
use Rattle.line_lanes.specs.Merged.{merged_byte}
use Rattle.line_lanes.specs.Words.{put_byte, word_at}

-- a merged byte where the mask has its bit, and where it has not
pub merged-over : (line over : List ℕ) (mask place : ℕ) → bit_at mask place ≡ 1 →
    merged_byte line over mask place ≡ slice_index over place
merged-over line over mask place set = grind (arith, nat_tests)

pub merged-under : (line over : List ℕ) (mask place : ℕ) → bit_at mask place ≡ 0 →
    merged_byte line over mask place ≡ slice_index line place
merged-under line over mask place clear = grind (arith, nat_tests)

-- without any bit a line stays as it is
pub merged-none : (line over : List ℕ) (place : ℕ) → merged_byte line over 0 place ≡ slice_index line place
merged-none line over place = merged-under line over 0 place (bit_at-zero place)

-- two lines that are merged alike at each place are one
pub same_lines : (left right : List ℕ) → length left ≡ 64 → length right ≡ 64
    → ((place : ℕ) → place < 64 → slice_index left place ≡ slice_index right place)
    → left ≡ right
same_lines left right long other_long each =
    same_number_lists left right (omega arith) (λ k within. each k (omega arith))

-- a merged byte is a byte
pub merged-below : (line over : List ℕ) (mask place : ℕ) → slice_index line place < 256 → slice_index over place < 256
    → merged_byte line over mask place < 256
merged-below line over mask place small other_small = grind (arith, nat_tests)

-- a word as its first byte and 256 times the rest
pub word_nested : (byte : ℕ → ℕ) (place : ℕ)
    → word_at byte place
    ≡ byte place + 256 * (byte (place + 1) + 256 * (byte (place + 1 + 1) + 256 * (byte (place + 1 + 1 + 1) + 256 * 0)))
word_nested byte place = omega (arith, ap byte second, ap byte third)
  where
    second : place + 1 + 1 ≡ place + 2
    second = omega arith

    third : place + 1 + 1 + 1 ≡ place + 3
    third = omega arith

-- the byte at a place after a word was put at another, by division
pub put_divided : (line : List ℕ) (offset word place : ℕ)
    → put_byte line offset word place
    ≡ (if nat_le offset place && nat_lt place (offset + 4) then word / 256 ^ (place - offset) % 256
    else slice_index line place)
put_divided line offset word place =
    ap (λ n. if nat_le offset place && nat_lt place (offset + 4) then n else slice_index line place)
    (divided (place - offset))
  where
    divided : (k : ℕ) → byte_at k word ≡ word / 256 ^ k % 256
    divided zero = omega arith
    divided (suc k) = refl
