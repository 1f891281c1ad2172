-- Setting and clearing a bit of a byte, as tests on bits.
use Rattle.std.proofs.Common.{◌≡◌, ◌≢◌, ℕ, ◌-◌, ◌*◌, ◌%◌, ◌^◌, ◌<◌, ◌==◌, ◌||◌, ◌&&◌, not, bit_and, bit_or, max, min}
use Rattle.std.proofs.Common.{arith, lit<, w8}
use Rattle.std.specs.Int.{bit_at}
use Rattle.std.proofs.Math.Pow.{shl_exact}
use Rattle.std.proofs.lemmas.Bool.Decides.{nat_tests}
use Rattle.std.proofs.lemmas.Nat.Bits.{bit_at_or, bit_at_and, bit_at_not, bit_at-lt, bit_at-pow_same, bit_at-pow_other}

either : (a b c : ℕ) → c ≡ max a b → a < 2 → b < 2 → (c == 1) ≡ (a == 1 || b == 1)
either a b c is a-bit b-bit = grind (arith, nat_tests)

both : (a b c : ℕ) → c ≡ min a b → a < 2 → b < 2 → (c == 1) ≡ (a == 1 && b == 1)
both a b c is a-bit b-bit = grind (arith, nat_tests)

pub bit_in_or : (a b h : ℕ) → (bit_at (bit_or a b) h == 1) ≡ (bit_at a h == 1 || bit_at b h == 1)
bit_in_or a b h = either (bit_at a h) (bit_at b h) _ (bit_at_or a b h) (bit_at-lt a h) (bit_at-lt b h)

pub bit_in_and : (a b h : ℕ) → (bit_at (bit_and a b) h == 1) ≡ (bit_at a h == 1 && bit_at b h == 1)
bit_in_and a b h = both (bit_at a h) (bit_at b h) _ (bit_at_and a b h) (bit_at-lt a h) (bit_at-lt b h)

other : (a c : ℕ) → c ≡ 1 - a → a < 2 → (c == 1) ≡ not (a == 1)
other a c is a-bit = grind (arith, nat_tests)

pub bit_in_not : (n h : ℕ) → n < 256 → h < 8 → (bit_at (255 - n) h == 1) ≡ not (bit_at n h == 1)
bit_in_not n h small low = other (bit_at n h) _ (bit_at_not w8 n h small low) (bit_at-lt n h)

pub ruleset set_bits = (bit_in_or, bit_in_and, bit_in_not, nat_tests)

bit_is : (bit k h : ℕ) → (h ≡ k → bit ≡ 1) → (h ≢ k → bit ≡ 0) → (bit == 1) ≡ (h == k)
bit_is bit k h here elsewhere = grind (arith, nat_tests)

alone : (n k : ℕ) → n ≡ 2 ^ k → (h : ℕ) → (bit_at n h == 1) ≡ (h == k)
alone n k is h =
    bit_is (bit_at n h) k h (λ same. rw (is, same) (bit_at-pow_same k)) (λ other. rw is (bit_at-pow_other k h other))

pub bit_alone : (k : ℕ) → k < 8 → (h : ℕ) → (bit_at (1 * 2 ^ k % 256) h == 1) ≡ (h == k)
bit_alone k low = alone _ k (omega (arith, shl_exact {a = 1} 1 k 8 (lit< tt) (omega arith)))
