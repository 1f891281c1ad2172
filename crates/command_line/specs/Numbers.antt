-- number words: 1 to 10 decimal digits of a number below 2 ^ 32, leading zeros allowed
use Rattle.std.specs.Prelude.{ℕ, Bool, ◌+◌, ◌-◌, ◌*◌, ◌^◌, ◌&&◌, nat_lt, nat_le, if◌then◌else◌, List, [], ◌∷◌, length}
use Rattle.std.specs.Prelude.{Option, None, Some}
use Rattle.std.specs.Option.{option_and_then}

abbrev pub is_digit : ℕ → Bool
is_digit code = nat_le 48 code && nat_le code 57

-- the number of decimal digits after a number, where they are digits
abbrev pub digits_number : ℕ → List ℕ → Option ℕ
digits_number number [] = Some number
digits_number number (code ∷ codes) = if is_digit code then digits_number (number * 10 + (code - 48)) codes else None

abbrev pub below_word : ℕ → Option ℕ
below_word number = if nat_lt number (2 ^ 32) then Some number else None

-- the number of a word, or none where it is no number word
abbrev pub number_of : List ℕ → Option ℕ
number_of word =
    if nat_le 1 (length word) && nat_le (length word) 10 then option_and_then below_word
    (digits_number 0 word) else None
