-- The bytes of a number, and the bytes at each address after a number was stored.
use Rattle.std.proofs.Common.{◌≡◌, ◌∙◌, ℕ, suc, ◌/◌, ◌%◌, ◌^◌, ◌*◌, ap, arith, sym, ◌+◌, ◌-◌, ◌≤◌, ◌<◌}
use Rattle.std.proofs.Math.Nat.{div-div-eq-div-mul, pow-suc}
use Rattle.std.proofs.lemmas.Bool.Decides.{nat_tests}
use Rattle.core_step.specs.Port.{byte_of, stored}

-- a byte of a number is that of its high bytes one place lower
pub byte_of-more : (value k : ℕ) → byte_of (value / 256) k ≡ byte_of value (suc k)
byte_of-more value k =
    let more : 256 ^ suc k ≡ 256 * 256 ^ k = rw pow-suc (omega arith) in
    ap (λ n. n % 256) (div-div-eq-div-mul value 256 (256 ^ k)) ∙ sym (ap (λ power. value / power % 256) more)

-- a byte where something was stored, and one where nothing was
pub stored_inside : (byte : ℕ → ℕ) (from len value address : ℕ) → from ≤ address → address < from + len →
    stored byte from len value address ≡ byte_of value (address - from)
stored_inside byte from len value address low high = grind (arith, nat_tests)

pub stored_outside : (byte : ℕ → ℕ) (from len value address : ℕ) → (from ≤ address → address < from + len → ⊥) →
    stored byte from len value address ≡ byte address
stored_outside byte from len value address out = grind (arith, nat_tests)
