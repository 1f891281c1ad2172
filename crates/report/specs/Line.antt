-- Lines of words.
use Rattle.std.specs.Prelude.{ℕ, ◌/◌, ◌%◌, false, List, [], ◌∷◌, ◌++◌}
use Rattle.std.specs.Fmt.{decimal, digit_glyph}
use Rattle.std.specs.List.{flat_map}
use Rattle.report.specs.declared.word.Word.{Word}
use Rattle.report.specs.declared.word.Word.TheVariants.{Text, Number, Address}

-- the lower-case hexadecimal digit of what a number leaves by 16
abbrev pub hex_digit : ℕ → ℕ
hex_digit number = digit_glyph false (number % 16)

-- a number below 2 ^ 32 by eight hexadecimal digits
abbrev pub eight_digits : ℕ → List ℕ
eight_digits number =
    hex_digit (number / 0x10000000) ∷ hex_digit (number / 0x1000000) ∷ hex_digit (number / 0x100000)
    ∷ hex_digit (number / 0x10000) ∷ hex_digit (number / 0x1000) ∷ hex_digit (number / 0x100)
    ∷ hex_digit (number / 0x10) ∷ hex_digit number ∷ []

-- the bytes of a word
abbrev pub bytes_of : Word → List ℕ
bytes_of (Text text) = text.now
bytes_of (Number number) = decimal number
bytes_of (Address address) = eight_digits address

-- a word behind a space
abbrev pub spaced : List ℕ → List ℕ
spaced word = 32 ∷ word

-- a line of words, with one space between each two, and a newline
abbrev pub line : List ℕ → List (List ℕ) → List ℕ
line first others = first ++ flat_map spaced others ++ 10 ∷ []

-- a number alone on its line
abbrev pub number_line : ℕ → List ℕ
number_line number = line (decimal number) []
