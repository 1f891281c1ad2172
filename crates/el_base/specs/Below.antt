-- Numbers below a limit.
use Rattle.std.specs.Prelude.{◌≡◌, ℕ, ◌<◌, Bool, true, false, if◌then◌else◌, nat_lt, refl}
use Rattle.std.proofs.lemmas.Bool.{ltb-true}

-- the number, or 0 where it is not below the limit
abbrev pub below : ℕ → ℕ → ℕ
below limit n = if nat_lt n limit then n else 0

chosen_below : (limit n : ℕ) → 0 < limit → (inside : Bool) → nat_lt n limit ≡ inside →
    (if inside then n else 0) < limit
chosen_below limit n some true is = ltb-true n limit is
chosen_below limit n some false is = some

-- it is below every limit but 0
pub below_limit : (limit n : ℕ) → 0 < limit → below limit n < limit
below_limit limit n some = chosen_below limit n some (nat_lt n limit) refl
