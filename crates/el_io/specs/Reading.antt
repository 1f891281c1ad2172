-- How much was read.
use Rattle.std.specs.Prelude.{◌≤◌, ◌+◌, ℕ, List, length, Option, None, Some, IfSome}

-- of the bytes that a reader tells it has left, at most so many were taken
abbrev pub TakesAtMost : ℕ → Option (List ℕ) → Option (List ℕ) → Type 0
TakesAtMost most None now = Unit {0}
TakesAtMost most (Some before) now = IfSome now (λ left. length before ≤ most + length left)
