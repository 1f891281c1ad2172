-- Lines as numbers.
use Rattle.std.specs.Coded.{le_prop}
use Rattle.std.proofs.Common.{◌≡◌, ℕ, ◌<◌, ◌^◌, ap, subst, arith}
use Rattle.el_base.specs.Line.{line_number}
use Rattle.el_base.specs.LineAddr.{line_addr}
use Rattle.el_base.specs.declared.line.LineAddr.{LineAddr}
use Rattle.el_base.proofs.Belows.{below_inside}

-- a line is its number
pub same_line : (a b : LineAddr) → a.number ≡ b.number → a ≡ b
same_line a b same =
    let P : ℕ → Type 0 = λ n. (small : n < 2 ^ 26) → a ≡ record { number = n; small = small } in
    subst P same
    (λ small. ap (λ (fact : a.number < 2 ^ 26). record { number = a.number; small = fact }) (le_prop a.small small))
    b.small

-- a number below 2 ^ 26 comes back
pub line_addr-number : (n : ℕ) → n < 2 ^ 26 → (line_addr n).number ≡ n
line_addr-number n low = below_inside (2 ^ 26) n low

-- a line comes back
pub line_addr-of_line : (line : LineAddr) → line_addr line.number ≡ line
line_addr-of_line line = same_line (line_addr line.number) line (line_addr-number line.number line.small)

-- every address has a line
pub line_number-below : (address : ℕ) → address < 2 ^ 32 → line_number address < 2 ^ 26
line_number-below address small = omega arith
