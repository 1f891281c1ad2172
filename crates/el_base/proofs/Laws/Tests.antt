-- small facts of booleans, of the test whether two numbers are the same, and of a power: what std's lemmas leave out
use Rattle.std.proofs.Common.{◌≡◌, ◌≢◌, ◌==◌, ◌&&◌, ◌||◌, ◌<◌, ◌^◌, ℕ, zero, suc, Bool, true, false, not, refl, arith}
use Rattle.std.proofs.Math.Nat.{pow-suc}
use Rattle.std.proofs.lemmas.Bool.Decides.{nat_tests}

-- each of two that hold
pub first_of_both : (a b : Bool) → (a && b) ≡ true → a ≡ true
first_of_both true b is = refl
first_of_both false b is = absurd (cc)

pub second_of_both : (a b : Bool) → (a && b) ≡ true → b ≡ true
second_of_both true b is = is
second_of_both false b is = absurd (cc)

-- neither of two that do not hold
pub first_not : (a b : Bool) → (a || b) ≡ false → a ≡ false
first_not true b is = is
first_not false b is = refl

pub second_not : (a b : Bool) → (a || b) ≡ false → b ≡ false
second_not true b is = absurd (cc)
second_not false b is = is

-- what is not refused is permitted
pub unrefused : (a b : Bool) → (not a || b) ≡ false → a ≡ true
unrefused true b is = refl
unrefused false b is = absurd (cc)

pub false_between : (a b : Bool) → ((a && false) && b) ≡ false
false_between true b = refl
false_between false b = refl

-- a test of two numbers, by whether they are one
pub own_test : (a : ℕ) → (a == a) ≡ true
own_test a = grind (arith, nat_tests)

pub same_test : (a b : ℕ) → a ≡ b → (a == b) ≡ true
same_test a b same = grind (arith, nat_tests, same)

pub other_test : (a b : ℕ) → a ≢ b → (a == b) ≡ false
other_test a b differ = grind (arith, nat_tests)

-- whether two numbers are one, by their test
pub number_of_test : (a b : ℕ) → (a == b) ≡ true → a ≡ b
number_of_test a b test = grind (arith, nat_tests)

pub apart_by_test : (a b : ℕ) → (a == b) ≡ false → a ≢ b
apart_by_test a b test = grind (arith, nat_tests)

pub same_unless_other : (a b : ℕ) → not (a == b) ≡ false → a ≡ b
same_unless_other a b test = grind (arith, nat_tests)

-- so many bytes have some values
pub pow_256_pos : (n : ℕ) → zero < 256 ^ n
pow_256_pos zero = omega arith
pow_256_pos (suc n) = let more : zero < 256 ^ n = pow_256_pos n in rw pow-suc (omega arith)
