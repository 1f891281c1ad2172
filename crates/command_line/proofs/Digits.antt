-- how a number grows digit by digit
use Rattle.std.proofs.Common.{ℕ, ◌+◌, ◌*◌, ◌^◌, ◌≤◌, ◌<◌, arith, add-one}
use Rattle.std.proofs.Math.Nat.{pow-le-pow_right, pow-suc}

-- one digit more makes a number of one digit more
pub grown : (number count digit : ℕ) → number < 10 ^ count → digit < 10 → number * 10 + digit < 10 ^ (count + 1)
grown number count digit h d = rw add-one (omega (arith, pow-suc 10 count))

-- a number of at most ten digits
pub few_digits : (number count : ℕ) → number < 10 ^ count → count ≤ 10 → number < 10 ^ 10
few_digits number count h few =
    let most : 10 ^ count ≤ 10 ^ 10 = pow-le-pow_right (omega arith) few in omega arith
