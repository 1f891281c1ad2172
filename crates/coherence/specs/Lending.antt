-- the loan of one hart's cache
use Rattle.std.specs.Prelude.{ℕ}
use Rattle.std.specs.Borrow.{Fml, Lends, MutBor}
use Rattle.std.specs.Vec.{with_item}
use Rattle.cache_sets.specs.Slotted.{Slotted}
use Rattle.cache_sets.specs.contracts.sets.Sets as sets
use Rattle.coherence.specs.contracts.hierarchy.Hierarchy.{the_row}
use Rattle.coherence.specs.declared.hierarchy.Hierarchy.{Hierarchy}

-- another cache in the place of a hart's; main memory and the other caches are as they were
abbrev pub with_cache : Hierarchy → ℕ → Slotted → Hierarchy
with_cache hierarchy h cache = record hierarchy { caches = with_item hierarchy.caches h cache }

-- main memory and the caches end with what was last left there as the cache of the hart
abbrev pub LendsCache : MutBor Hierarchy → ℕ → MutBor Slotted → Fml
LendsCache hierarchy h cache = Lends the_row sets.the_row hierarchy cache (with_cache hierarchy.now h)
