-- the caches below the number are well formed
use Rattle.std.proofs.Common.{ℕ, ◌<◌}
use Rattle.residency.specs.WellFormed.{IsWellFormed}
use Rattle.coherence.specs.Lent.{slotted_at}
use Rattle.coherence.specs.Served.{caches_of}
use Rattle.snoop.proofs.tests.well_formed.Given as goal

abbrev pub invariant-loop-number : goal.invariant-loop-number
invariant-loop-number l =
    (h : ℕ) → h < l.number →
    IsWellFormed (slotted_at (caches_of l.hierarchy) h).ways (slotted_at (caches_of l.hierarchy) h).residency
