-- The last bits of a number are its remainder by a power of two.
use Rattle.std.proofs.Common.{◌≡◌, ℕ, ◌-◌, ◌%◌, ◌<◌, bit_and, ap, sym, subst, ◌∙◌}
use Rattle.std.specs.Int.{IsPowerOfTwo}
use Rattle.std.proofs.Math.Nat.{mod-lt}
use Rattle.std.proofs.lemmas.Nat.{and_mask, pow_pos}

pub last_bits : {count : ℕ} (number : ℕ) → IsPowerOfTwo count → bit_and number (count - 1) ≡ number % count
last_bits number power =
    ap (λ n. bit_and number (n - 1)) power.1 ∙ and_mask number power.0 ∙ ap (λ n. number % n) (sym power.1)

pub last_below : {count : ℕ} (number : ℕ) → IsPowerOfTwo count → bit_and number (count - 1) < count
last_below {count} number power =
    subst (λ n. n < count) (sym (last_bits number power))
    (mod-lt number (subst (λ n. 0 < n) (sym power.1) (pow_pos power.0)))
