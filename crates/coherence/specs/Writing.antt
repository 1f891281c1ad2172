-- what is written back
use Rattle.std.specs.Prelude.{ℕ, Option, None, Some}
use Rattle.cache_sets.specs.declared.evicted.Evicted.{Evicted}
use Rattle.coherence.specs.Caches.{IsInMemory}

-- a line that left a cache, if one did, is in main memory
abbrev pub GoneIsInMemory : ℕ → ℕ → Option Evicted → Type 0
GoneIsInMemory first count None = Unit {0}
GoneIsInMemory first count (Some gone) = IsInMemory first count gone.line.number
