-- The bits of a mask of so many places from one on.
use Rattle.std.proofs.Common.{◌≡◌, ℕ, ◌+◌, ◌-◌, ◌*◌, ◌/◌, ◌%◌, ◌^◌, ◌<◌, ◌≤◌, ◌==◌, ◌&&◌, nat_le, nat_lt, ap, sym, ◌∙◌}
use Rattle.std.proofs.Common.{lit<, arith}
use Rattle.std.specs.Int.{bit_at}
use Rattle.std.proofs.Math.Nat.{one-le-pow}
use Rattle.std.proofs.Math.Pow.{shl_exact}
use Rattle.std.proofs.lemmas.Bool.Decides.{nat_tests}
use Rattle.std.proofs.lemmas.Nat.Bits.{bit_at-zero, bit_at_cat_high, bit_at_cat_low, bit_at_ones, bit_at_ones_above}
use Rattle.std.proofs.lemmas.Nat.Bits.{ones_shr}

-- so many ones from a place on
abbrev run : ℕ → ℕ → ℕ
run offset count = (2 ^ count - 1) * 2 ^ offset

some_power : (k : ℕ) → 1 ≤ 2 ^ k
some_power k = one-le-pow k 2 (lit< tt)

-- a bit of them, below, inside and above
module _ (offset count place : ℕ) where
  added : bit_at (run offset count + 0) place ≡ bit_at (run offset count) place
  added = ap (λ n. bit_at n place) (omega arith)

  run_below : place < offset → bit_at (run offset count) place ≡ 0
  run_below below = sym added ∙ bit_at_cat_low (2 ^ count - 1) offset 0 place below ∙ bit_at-zero place

  from_offset : offset ≤ place → bit_at (run offset count) place ≡ bit_at (2 ^ count - 1) (place - offset)
  from_offset past = sym added ∙ bit_at_cat_high (2 ^ count - 1) offset 0 place (some_power offset) past

  run_inside : offset ≤ place → place < offset + count → bit_at (run offset count) place ≡ 1
  run_inside past before = from_offset past ∙ bit_at_ones count (place - offset) (omega arith)

  run_above : offset + count ≤ place → bit_at (run offset count) place ≡ 0
  run_above beyond = from_offset (omega arith) ∙ bit_at_ones_above count (place - offset) (omega arith)

-- how the mask is made
mask_is : (offset count : ℕ) → offset + count ≤ 64 →
    (2 ^ 64 - 1) / 2 ^ (64 - count) * 2 ^ offset % 2 ^ 64 ≡ run offset count
mask_is offset count inside =
    let kept : 64 - (64 - count) ≡ count = omega arith in
    let low : (2 ^ 64 - 1) / 2 ^ (64 - count) ≡ 2 ^ count - 1 =
    ones_shr 64 (64 - count) (omega arith) ∙ ap (λ k. 2 ^ k - 1) kept in
    ap (λ n. n * 2 ^ offset % 2 ^ 64) low
    ∙ shl_exact {a = 2 ^ count - 1} count offset 64 (omega (arith, some_power count)) (omega arith)

by_place : (bit offset count place : ℕ) → (offset ≤ place → place < offset + count → bit ≡ 1) →
    (place < offset → bit ≡ 0)
    → (offset + count ≤ place → bit ≡ 0) → (bit == 1) ≡ (nat_le offset place && nat_lt place (offset + count))
by_place bit offset count place inside below above = grind (arith, nat_tests)

pub mask_of_places : (offset count : ℕ) → offset + count ≤ 64 → (place : ℕ)
    → (bit_at ((2 ^ 64 - 1) / 2 ^ (64 - count) * 2 ^ offset % 2 ^ 64) place == 1)
    ≡ (nat_le offset place && nat_lt place (offset + count))
mask_of_places offset count inside place =
    ap (λ n. bit_at n place == 1) (mask_is offset count inside)
    ∙ by_place (bit_at (run offset count) place) offset count place (run_inside offset count place)
    (run_below offset count place)
    (run_above offset count place)
