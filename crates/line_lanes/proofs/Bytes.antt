-- The bytes of numbers that are chosen bit by bit.
use Rattle.std.proofs.Common.{◌≡◌, ℕ, zero, suc, ◌+◌, ◌*◌, ◌/◌, ◌%◌, ◌^◌, ◌<◌, ◌==◌, if◌then◌else◌, Bool, true, false}
use Rattle.std.proofs.Common.{bit_and, bit_xor, refl, ap}
use Rattle.std.proofs.Common.{sym, ◌∙◌, lit<, arith}
use Rattle.std.specs.Int.{bit_at, byte_at}
use Rattle.std.specs.Int.Bits.{and_zero_r, xor_zero_r}
use Rattle.std.proofs.Math.Nat.{pow-suc}
use Rattle.std.proofs.lemmas.Nat.{and_mask, and_mod, and_shr, mod_below, pow-add, xor_lt, xor_mod, xor_shr}
use Rattle.std.proofs.lemmas.Nat.Bits.{bit_at_xor, bit_at-lt, same_from_bits}

power : (k : ℕ) → 256 ^ k ≡ 2 ^ (8 * k)
power zero = refl
power (suc k) =
    pow-suc 256 k ∙ ap (λ n. n * 256) (power k) ∙ sym (pow-add 2 (8 * k) 8)
    ∙ (let e : 8 * k + 8 ≡ 8 * suc k = omega arith in ap (λ n. 2 ^ n) e)

-- a byte as what is left of a shift
shifted : (k n : ℕ) → byte_at k n ≡ n / 2 ^ (8 * k) % 2 ^ 8
shifted zero n = omega arith
shifted (suc k) n = ap (λ m. n / m % 256) (power (suc k))

byte_and : (k a b : ℕ) → byte_at k (bit_and a b) ≡ bit_and (byte_at k a) (byte_at k b)
byte_and k a b =
    shifted k (bit_and a b) ∙ ap (λ n. n % 2 ^ 8) (and_shr a b (8 * k)) ∙ and_mod (a / 2 ^ (8 * k)) (b / 2 ^ (8 * k)) 8
    ∙ ap (λ n. bit_and n (b / 2 ^ (8 * k) % 2 ^ 8)) (sym (shifted k a))
    ∙ ap (λ n. bit_and (byte_at k a) n) (sym (shifted k b))

byte_xor : (k a b : ℕ) → byte_at k (bit_xor a b) ≡ bit_xor (byte_at k a) (byte_at k b)
byte_xor k a b =
    shifted k (bit_xor a b) ∙ ap (λ n. n % 2 ^ 8) (xor_shr a b (8 * k)) ∙ xor_mod (a / 2 ^ (8 * k)) (b / 2 ^ (8 * k)) 8
    ∙ ap (λ n. bit_xor n (b / 2 ^ (8 * k) % 2 ^ 8)) (sym (shifted k a))
    ∙ ap (λ n. bit_xor (byte_at k a) n) (sym (shifted k b))

pub byte_below : (k n : ℕ) → byte_at k n < 2 ^ 8
byte_below zero n = mod_below n 256 (lit< tt)
byte_below (suc k) n = mod_below (n / 256 ^ suc k) 256 (lit< tt)

-- a number and its difference to another one make the other
xor_difference : (a b : ℕ) → bit_xor a (bit_xor a b) ≡ b
xor_difference a b =
    same_from_bits (bit_xor a (bit_xor a b)) b (λ i.
    bit_at_xor a (bit_xor a b) i ∙ ap (λ n. (bit_at a i + n) % 2) (bit_at_xor a b i)
    ∙ omega (arith, bit_at-lt a i, bit_at-lt b i))

chosen : (set : Bool) (under over : ℕ) → under < 2 ^ 8 → over < 2 ^ 8
    → bit_xor under (bit_and (bit_xor under over) (if set then 255 else 0)) ≡ (if set then over else under)
chosen true under over fits other_fits =
    ap (λ n. bit_xor under n) (and_mask (bit_xor under over) 8 ∙ omega (arith, xor_lt 8 under over fits other_fits))
    ∙ xor_difference under over
chosen false under over fits other_fits = ap (λ n. bit_xor under n) (and_zero_r (bit_xor under over)) ∙ xor_zero_r under

-- each byte of two numbers of which one is chosen by ones
pub byte_merged : (k under over ones bits : ℕ) → byte_at k ones ≡ (if bit_at bits k == 1 then 255 else 0)
    → byte_at k (bit_xor under (bit_and (bit_xor under over) ones))
    ≡ (if bit_at bits k == 1 then byte_at k over else byte_at k under)
byte_merged k under over ones bits is =
    byte_xor k under (bit_and (bit_xor under over) ones)
    ∙ ap (λ n. bit_xor (byte_at k under) n) (byte_and k (bit_xor under over) ones)
    ∙ ap (λ n. bit_xor (byte_at k under) (bit_and n (byte_at k ones))) (byte_xor k under over)
    ∙ ap (λ n. bit_xor (byte_at k under) (bit_and (bit_xor (byte_at k under) (byte_at k over)) n)) is
    ∙ chosen (bit_at bits k == 1) (byte_at k under) (byte_at k over) (byte_below k under) (byte_below k over)
