use Rattle.std.proofs.Common.{◌≡◌, ℕ, ◌+◌, ◌-◌, ◌^◌, ◌<◌, ◌≤◌, zero, suc, arith}
use Rattle.std.proofs.Math.Nat.{two-pow-succ}
use Rattle.std.proofs.lemmas.Nat.{pow_below}

-- a power whose exponent fits a word's signed type fits it
pub pow_narrow : (width : ℕ) → width < 31 → 2 ^ width < 2 ^ 31
pow_narrow width narrow = pow_below width 31 narrow

-- the range of `width` bits is twice the half that is not negative
pub pow_halves : (width : ℕ) → 1 ≤ width → 2 ^ width ≡ 2 ^ (width - 1) + 2 ^ (width - 1)
pow_halves zero some = omega arith
pow_halves (suc width) some = let before : suc width - 1 ≡ width = omega arith in rw before (two-pow-succ width)
