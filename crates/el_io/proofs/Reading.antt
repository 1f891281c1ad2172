-- How much was read.
use Rattle.std.proofs.Common.{◌≤◌, ℕ, List, length, Option, None, Some, length-append, arith}
use Rattle.std.specs.Io.KnownBytes.{Consumes}
use Rattle.el_io.specs.Reading.{TakesAtMost}

-- what was taken is no longer than this
pub takes_at_most : (before now : Option (List ℕ)) (bytes : List ℕ) (most : ℕ) → Consumes before now bytes →
    length bytes ≤ most → TakesAtMost most before now
takes_at_most None now bytes most taken few = tt
takes_at_most (Some left) None bytes most taken few = absurd taken
takes_at_most (Some left) (Some rest) bytes most taken few = rw taken (simp length-append (omega (arith, few)))
