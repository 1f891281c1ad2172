use Rattle.std.proofs.Common.{◌≡◌, ◌^◌, ◌≤◌, ℤ, unsigned_abs, ◌*ℤ◌, arith, FitsSigned, w32, w64, lit<}
use Rattle.std.proofs.lemmas.Int.{ints, to_z-of_z, fits_signed_mul}
use Rattle.std.specs.Int.{cast_signed, cast_unsigned}

-- 64 bits hold the product of two numbers of 32 bits
pub wide_product : (x y : ℤ) → FitsSigned w32 x → FitsSigned w32 y
    →
    cast_signed w64 (cast_unsigned w64 (cast_signed w64 (cast_unsigned w64 x) *ℤ cast_signed w64 (cast_unsigned w64 y)))
    ≡ x *ℤ y
wide_product x y narrow narrow' =
    let left : FitsSigned w64 x = omega (arith, ints) in
    let right : FitsSigned w64 y = omega (arith, ints) in
    let least_x : unsigned_abs x ≤ 2 ^ 31 = omega (arith, ints) in
    let least_y : unsigned_abs y ≤ 2 ^ 31 = omega (arith, ints) in
    let wide : FitsSigned w64 (x *ℤ y) = fits_signed_mul w64 x y (2 ^ 31) (2 ^ 31) least_x least_y (lit< tt) in
    rw (to_z-of_z w64 x left) (rw (to_z-of_z w64 y right) (to_z-of_z w64 (x *ℤ y) wide))
