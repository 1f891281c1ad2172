-- what a caller gives back of a cache that was lent to it, so that the bus is ready again, and what the bus shows then
use Rattle.std.specs.Prelude.{ℕ, ◌≡◌, false, true, Some, is_some, length}
use Rattle.std.specs.Prelude.{slice_set}
use Rattle.bus_agent.specs.Agent.{agent_at, agent_of}
use Rattle.bus_order.specs.Order.{Request, request_of}
use Rattle.residency.specs.Cache.{has_marks, room_of}
use Rattle.cache_sets.specs.Slotted.{Slotted}
use Rattle.residency.specs.WellFormed.{IsWellFormed}
use Rattle.coherence.specs.Beginning.{LiesWhere}
use Rattle.coherence.specs.Lent.{slotted_at}
use Rattle.el_base.specs.declared.config.Mode.TheVariants.{Plain}
use Rattle.el_model.specs.Plain.{armed_count}
use Rattle.el_model.specs.State.{Hart, ModelState, armed_of, hart_of, with_hart}
use Rattle.rv_flat.specs.FlatState.{FlatState}
use Rattle.snoop.specs.Shows.{BusState, lives}

-- another cache in the place of a hart's
abbrev pub returned : BusState → ℕ → Slotted → BusState
returned bus h cache = record bus { copies = record bus.copies { caches = slice_set bus.copies.caches h cache } }

-- a cache with room for the line of a request
abbrev pub HasRoomFor : Slotted → Request → Type 0
HasRoomFor cache request = room_of cache.ways cache.residency request.line ≡ true

-- what is owed for the bus to be ready again: the cache is well formed, it has room for the hart's request, if it has
-- one, and in the plain mode no line of it has a bit
pub record IsReturned (bus : BusState) (h : ℕ) (cache : Slotted) : Type 0 where
  pub well_formed : IsWellFormed cache.ways cache.residency
  pub raised : (request : Request) → (agent_at bus.agents h).raised ≡ Some request → HasRoomFor cache request
  pub ordered : (request : Request) → request_of bus.order h ≡ Some request → HasRoomFor cache request
  pub unmarked : bus.mode ≡ Plain → has_marks cache.residency ≡ false

-- what is owed for it to show that the hart has become another, and that this is what is committed: the hart's part at
-- the bus is as it was, its cache is the one that was given back, it is armed exactly where it was, it has a live
-- section exactly where some line has a bit and it is not armed, and memory lies where it did
pub record IsReturnedAs (bus : BusState) (state : ModelState) (h : ℕ) (cache : Slotted) (hart : Hart)
    (committed : FlatState) : Type 0 where
  pub agent : agent_of hart ≡ agent_of (hart_of state h)
  pub ways : cache.ways ≡ (slotted_at bus.copies.caches h).ways
  pub residency : hart.cache ≡ cache.residency
  pub live : is_some hart.section ≡ lives cache.residency (armed_count hart.armed)
  pub armed : is_some hart.armed ≡ is_some (armed_of state h)
  pub memory : LiesWhere bus.copies.first (length bus.copies.lines) committed

-- the state in which a hart has become another, and this is committed
abbrev pub state_with : ModelState → ℕ → Hart → FlatState → ModelState
state_with state h hart committed = record (with_hart state h hart) { committed = committed }
