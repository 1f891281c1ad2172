-- The table of ones, and eight bytes that are taken from it.
use Rattle.std.proofs.Common.{◌≡◌, ℕ, zero, suc, ◌+◌, ◌-◌, ◌*◌, ◌/◌, ◌%◌, ◌^◌, ◌<◌, ◌==◌, ◌&&◌, nat_lt, if◌then◌else◌}
use Rattle.std.proofs.Common.{Bool, true, false, slice_index}
use Rattle.std.proofs.Common.{refl, ap, sym, ◌∙◌, inl, inr, lit<, arith}
use Rattle.std.specs.Int.{bit_at, byte_at}
use Rattle.std.proofs.lemmas.Bool.{cases_eq, cases_lt}
use Rattle.std.proofs.lemmas.Nat.{mod_below}
use Rattle.std.proofs.lemmas.Bool.Decides.{nat_tests}
use Rattle.line_lanes.specs.declared.lanes.TheConstants.{ONES}

-- a test holds of each number below another
abbrev each_below : (ℕ → Bool) → ℕ → Bool
each_below test zero = true
each_below test (suc n) = test n && each_below test n

first_of : (a b : Bool) → (a && b) ≡ true → a ≡ true
first_of true b is = refl
first_of false b is = is

second_of : (a b : Bool) → (a && b) ≡ true → b ≡ true
second_of true b is = is
second_of false b is = absurd cc

below : (test : ℕ → Bool) (n k : ℕ) → each_below test n ≡ true → k < n → test k ≡ true
below test zero k all less = absurd (omega arith)
below test (suc n) k all less = elim (cases_eq k n) [
  | inl same ↦ ap test same ∙ first_of (test n) (each_below test n) all
  | inr other ↦ below test n k (second_of (test n) (each_below test n) all) (omega arith)
]

-- each byte of a row, by its bit, and that a row is a word
abbrev byte_fits : ℕ → ℕ → Bool
byte_fits row k = byte_at k (slice_index ONES row) == (if bit_at row k == 1 then 255 else 0)

abbrev row_fits : ℕ → Bool
row_fits row = nat_lt (slice_index ONES row) (2 ^ 32) && each_below (byte_fits row) 4

rows_fit : each_below row_fits 16 ≡ true
rows_fit = refl

row_small : (row : ℕ) → row < 16 → slice_index ONES row < 2 ^ 32
row_small row within =
    let fits =
    first_of (nat_lt (slice_index ONES row) (2 ^ 32)) (each_below (byte_fits row) 4)
    (below row_fits 16 row rows_fit within) in
    grind (arith, nat_tests)

row_byte : (row k : ℕ) → row < 16 → k < 4 → byte_at k (slice_index ONES row) ≡ (if bit_at row k == 1 then 255 else 0)
row_byte row k within small =
    let fits =
    below (byte_fits row) 4 k (second_of (nat_lt (slice_index ONES row) (2 ^ 32)) (each_below (byte_fits row) 4)
    (below row_fits 16 row rows_fit within)) small in
    grind (arith, nat_tests)

-- the bytes of two words one after the other, and the bits of two numbers of four
byte_low : (k low high : ℕ) → k < 4 → low < 2 ^ 32 → byte_at k (low + high * 2 ^ 32) ≡ byte_at k low
byte_low zero low high less small = omega arith
byte_low (suc zero) low high less small = omega arith
byte_low (suc (suc zero)) low high less small = omega arith
byte_low (suc (suc (suc zero))) low high less small = omega arith
byte_low (suc (suc (suc (suc k)))) low high less small = absurd (omega arith)

byte_high : (k low high : ℕ) → k < 4 → low < 2 ^ 32 → byte_at (4 + k) (low + high * 2 ^ 32) ≡ byte_at k high
byte_high zero low high less small = omega arith
byte_high (suc zero) low high less small = omega arith
byte_high (suc (suc zero)) low high less small = omega arith
byte_high (suc (suc (suc zero))) low high less small = omega arith
byte_high (suc (suc (suc (suc k)))) low high less small = absurd (omega arith)

bit_low : (k bits : ℕ) → k < 4 → bit_at (bits % 16) k ≡ bit_at bits k
bit_low zero bits less = omega arith
bit_low (suc zero) bits less = omega arith
bit_low (suc (suc zero)) bits less = omega arith
bit_low (suc (suc (suc zero))) bits less = omega arith
bit_low (suc (suc (suc (suc k)))) bits less = absurd (omega arith)

bit_high : (k bits : ℕ) → k < 4 → bit_at (bits / 16 % 16) k ≡ bit_at bits (4 + k)
bit_high zero bits less = omega arith
bit_high (suc zero) bits less = omega arith
bit_high (suc (suc zero)) bits less = omega arith
bit_high (suc (suc (suc zero))) bits less = omega arith
bit_high (suc (suc (suc (suc k)))) bits less = absurd (omega arith)

-- the place is in the first word or in the second
pub spread_byte : (bits low high place : ℕ) → low ≡ slice_index ONES (bits % 16) →
    high ≡ slice_index ONES (bits / 16 % 16) → place < 8
    → byte_at place (low + high * 2 ^ 32 % 2 ^ 64) ≡ (if bit_at bits place == 1 then 255 else 0)
spread_byte bits low high place low_is high_is within =
    ap (λ n. byte_at place n) whole ∙ (elim (cases_lt place 4) [
      | inl first ↦
          byte_low place low high first low_small ∙ ap (λ n. byte_at place n) low_is
          ∙ row_byte (bits % 16) place low_row first
          ∙ ap (λ b. if b == 1 then 255 else 0) (bit_low place bits first)
      | inr second ↦ in_second (place - 4) (omega arith) (omega arith)
    ])
  where
    low_row : bits % 16 < 16
    low_row = mod_below bits 16 (lit< tt)

    high_row : bits / 16 % 16 < 16
    high_row = mod_below (bits / 16) 16 (lit< tt)

    low_small : low < 2 ^ 32
    low_small = omega (arith, row_small (bits % 16) low_row, low_is)

    whole : low + high * 2 ^ 32 % 2 ^ 64 ≡ low + high * 2 ^ 32
    whole = omega (arith, row_small (bits / 16 % 16) high_row, high_is)

    in_second : (k : ℕ) → k < 4 → place ≡ 4 + k →
        byte_at place (low + high * 2 ^ 32) ≡ (if bit_at bits place == 1 then 255 else 0)
    in_second k less is =
        ap (λ p. byte_at p (low + high * 2 ^ 32)) is ∙ byte_high k low high less low_small
        ∙ ap (λ n. byte_at k n) high_is
        ∙ row_byte (bits / 16 % 16) k high_row less ∙ ap (λ b. if b == 1 then 255 else 0) (bit_high k bits less)
        ∙ ap (λ p. if bit_at bits p == 1 then 255 else 0) (sym is)
