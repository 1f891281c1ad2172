-- SplitMix64
use Rattle.std.specs.Prelude.{ℕ, ◌+◌, ◌*◌, ◌/◌, ◌%◌, ◌^◌, bit_xor}

-- the state before the number at a place: it moves by one constant for each number
abbrev pub state_at : ℕ → ℕ → ℕ
state_at seed place = (seed + 0x9e3779b97f4a7c15 * (place + 1) % 2 ^ 64) % 2 ^ 64

abbrev pub mixed : ℕ → ℕ → ℕ → ℕ
mixed shift factor number = bit_xor number (number / 2 ^ shift) * factor % 2 ^ 64

abbrev pub finished : ℕ → ℕ
finished number = bit_xor number (number / 2 ^ 31)

-- the number at a place of the sequence that a seed begins
unfoldable pub draw : ℕ → ℕ → ℕ
draw seed place = finished (mixed 27 0x94d049bb133111eb (mixed 30 0xbf58476d1ce4e5b9 (state_at seed place)))
