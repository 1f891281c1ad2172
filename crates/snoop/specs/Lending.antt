-- the loan of one hart's cache
use Rattle.std.specs.Prelude.{ℕ}
use Rattle.std.specs.Borrow.{Fml, Lends, MutBor}
use Rattle.cache_sets.specs.Slotted.{Slotted}
use Rattle.cache_sets.specs.contracts.sets.Sets as sets
use Rattle.coherence.specs.Lending.{with_cache}
use Rattle.snoop.specs.contracts.bus.Bus.{the_row}
use Rattle.snoop.specs.declared.bus.Bus.{Bus}

-- another cache in the place of a hart's; the rest of the bus is as it was
abbrev pub with_sets : Bus → ℕ → Slotted → Bus
with_sets bus h cache = record bus { hierarchy = with_cache bus.hierarchy h cache }

-- the bus ends with what was last left there as the cache of the hart
abbrev pub LendsSets : MutBor Bus → ℕ → MutBor Slotted → Fml
LendsSets bus h cache = Lends the_row sets.the_row bus cache (with_sets bus.now h)
