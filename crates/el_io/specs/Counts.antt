-- Counts of faults, which are kept in 64 bits.
use Rattle.std.specs.Prelude.{ℕ, ◌+◌, ◌-◌, ◌^◌, min}

-- the last value of a count
abbrev pub last_count : ℕ
last_count = 2 ^ 64 - 1

-- a count after one more, which leaves the last value as it is
abbrev pub one_more : ℕ → ℕ
one_more count = min (count + 1) last_count
