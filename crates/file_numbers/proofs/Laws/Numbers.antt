-- Four bytes and their number.
use Rattle.std.proofs.Common.{◌≡◌, ℕ, ◌+◌, ◌*◌, ◌/◌, ◌%◌, ◌≤◌, ◌<◌, List, [], ◌∷◌, length, get_or, take, drop, refl}
use Rattle.std.proofs.Common.{sym, ap, ◌∙◌, arith}
use Rattle.std.proofs.lemmas.List.{get_or-drop, length-drop}
use Rattle.byteorder.specs.Endian.{little_bytes, little_number}
use Rattle.el_base.proofs.Laws.ListLaws.{four_in_front}
use Rattle.file_numbers.specs.Numbers.{IsBytes, number_at}

pub bytes_behind : (place : ℕ) (file : List ℕ) → IsBytes file → IsBytes (drop place file)
bytes_behind place file fits i = rw get_or-drop (fits (place + i))

cells_of : (n a b c d : ℕ) → n ≡ a + 256 * (b + 256 * (c + 256 * (d + 256 * 0))) →
    a < 256 → b < 256 → c < 256 → d < 256 →
    little_bytes 4 n ≡ a ∷ b ∷ c ∷ d ∷ []
cells_of n a b c d is ha hb hc hd =
    let e0 : n % 256 ≡ a = omega arith in
    let e1 : n / 256 % 256 ≡ b = omega arith in
    let e2 : n / 65536 % 256 ≡ c = omega arith in
    let e3 : n / 16777216 % 256 ≡ d = omega arith in
    rw (e0, e1, e2, e3) refl

-- four bytes are those of their number
pub four_bytes : (bytes : List ℕ) → IsBytes bytes → 4 ≤ length bytes →
    take 4 bytes ≡ little_bytes 4 (little_number 4 bytes)
four_bytes bytes fits long =
    ap (take 4) (four_in_front bytes long)
    ∙ sym (cells_of (little_number 4 bytes) _ _ _ _ refl (fits 0) (fits 1) (fits 2) (fits 3))

-- likewise at a place of a file
pub number_piece : (file : List ℕ) (place : ℕ) → IsBytes file → place + 4 ≤ length file →
    take 4 (drop place file) ≡ little_bytes 4 (number_at file place)
number_piece file place fits long =
    four_bytes (drop place file) (bytes_behind place file fits) (omega (arith, length-drop place file))

-- a number of four bytes is small
pub number_small : (file : List ℕ) (place : ℕ) → IsBytes file → number_at file place < 4294967296
number_small file place fits =
    let bytes = drop place file in
    let b = bytes_behind place file fits in
    let b0 : get_or bytes 0 0 < 256 = b 0 in
    let b1 : get_or bytes 1 0 < 256 = b 1 in
    let b2 : get_or bytes 2 0 < 256 = b 2 in
    let b3 : get_or bytes 3 0 < 256 = b 3 in
    omega arith
