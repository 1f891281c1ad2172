-- how much a cache has at most, and what it has left for a hart that waits
use Rattle.std.specs.Prelude.{ℕ, ◌≡◌, ◌≤◌, ◌<◌, ◌⊎◌, true, false, List, Some, length}
use Rattle.bus_order.specs.Order.{Request}
use Rattle.residency.specs.Cache.{room_of, write_bit, write_bits_of}
use Rattle.residency.specs.Residency.{Way}
use Rattle.residency.specs.WellFormed.{IsWellFormed}
use Rattle.el_base.specs.Config.{IsInRange}
use Rattle.el_base.specs.declared.config.Config.{Config}
use Rattle.el_base.specs.declared.events.Event.{Event}
use Rattle.el_base.specs.declared.outcomes.Need.TheVariants.{Write}
use Rattle.elf_image.specs.Program.{Program}
use Rattle.el_model.specs.Next.{after}
use Rattle.el_model.specs.State.{ModelState, cache_of, ordered_of, raised_of}

-- what is said of a configuration and a state holds of each state that can be reached, from a program with as many
-- harts as the configuration has, where that is in range
abbrev AlwaysInRange : (Config → ModelState → Type 0) → Type 0
AlwaysInRange P =
    (program : Program) (config : Config) (events : List Event) → program.harts ≡ config.harts → IsInRange config →
    P config (after program config events)

-- a cache of as many sets as configured, none of which has more lines than ways, nor a line twice; a
-- line is in the set of its number
pub record IsShaped (config : Config) (cache : List (List Way)) : Type 0 where
  pub sets : length cache ≡ config.sets
  pub well_formed : IsWellFormed config.ways cache

-- each hart's cache is such a one
abbrev pub CachesAreShaped : Type 0
CachesAreShaped = AlwaysInRange (λ config state. (h : ℕ) → h < config.harts → IsShaped config (cache_of state h))

-- a hart waits with this request, raised or ordered
abbrev pub WaitsWith : ModelState → ℕ → Request → Type 0
WaitsWith state h request = (raised_of state h ≡ Some request) ⊎ (ordered_of state h ≡ Some request)

-- there is room for the line of each request in the cache of its hart, until the request is served
abbrev pub WaitingLinesHaveRoom : Type 0
WaitingLinesHaveRoom =
    AlwaysInRange (λ config state.
    (h : ℕ) (request : Request) → WaitsWith state h request →
    room_of config.ways (cache_of state h) request.line ≡ true)

-- a section has written no more lines than configured
abbrev pub WrittenLinesAreFew : Type 0
WrittenLinesAreFew = AlwaysInRange (λ config state. (h : ℕ) → write_bits_of (cache_of state h) ≤ config.lines)

-- and fewer, where its hart waits to write one that the section has not written
abbrev pub WaitingWritesAreSpared : Type 0
WaitingWritesAreSpared =
    AlwaysInRange (λ config state.
    (h : ℕ) (request : Request) → WaitsWith state h request → request.need ≡ Write →
    write_bit (cache_of state h) request.line ≡ false → write_bits_of (cache_of state h) < config.lines)
