-- what the bus keeps, and the state of the machine's definition that it shows
use Rattle.std.specs.Prelude.{ℕ, ◌≡◌, ◌<◌, ◌≤◌, ◌==◌, ◌&&◌, Bool, false, true, not, List, None, Some, is_some}
use Rattle.std.specs.Prelude.{length}
use Rattle.bus_agent.specs.Agent.{Agent, agent_at, agent_of}
use Rattle.bus_order.specs.Order.{IsOneEach, Request, request_of}
use Rattle.residency.specs.Cache.{has_marks, room_of}
use Rattle.residency.specs.Residency.{Way}
use Rattle.residency.specs.WellFormed.{IsWellFormed}
use Rattle.cache_sets.specs.Slotted.{Slotted}
use Rattle.coherence.specs.Beginning.{LiesWhere}
use Rattle.coherence.specs.Caches.{IsInMemory}
use Rattle.coherence.specs.Lent.{IsLentTo, lent_all, slotted_at}
use Rattle.coherence.specs.Served.{Copies, TellsOf, caches_of}
use Rattle.coherence.specs.declared.hierarchy.Hierarchy as hierarchies
use Rattle.el_base.specs.declared.config.Mode.{Mode}
use Rattle.el_base.specs.declared.config.Mode.TheVariants.{Plain}
use Rattle.el_model.specs.Plain.{armed_count}
use Rattle.el_model.specs.State.{ModelState, armed_of, cache_of, hart_of, is_live}
use Rattle.line_pool.specs.Pooled.{Pooled}
use Rattle.snoop.specs.declared.bus.Bus as buses

-- main memory, and the caches of all harts where their pool is not at hand
pub record Holding : Type 0 where
  pub first : ℕ
  pub lines : List (List ℕ)
  pub caches : List Slotted

abbrev pub holding_of : hierarchies.Hierarchy → Holding
holding_of hierarchy = record { first = hierarchy.first; lines = hierarchy.lines.items; caches = caches_of hierarchy }

-- the same, with the bytes that a pool has for the caches
abbrev pub lent_copies : Pooled → Holding → Copies
lent_copies pool holding =
    record { first = holding.first; lines = holding.lines; caches = lent_all pool holding.caches }

-- a line lies in main memory
abbrev pub LiesIn : Holding → ℕ → Type 0
LiesIn holding line = IsInMemory holding.first (length holding.lines) line

-- a hart's cache has room for a line
abbrev pub has_room_in : Holding → ℕ → ℕ → Bool
has_room_in holding h line = room_of (slotted_at holding.caches h).ways (slotted_at holding.caches h).residency line

-- no line of a hart's cache has a bit
abbrev pub IsUnmarked : Holding → ℕ → Type 0
IsUnmarked holding h = has_marks (slotted_at holding.caches h).residency ≡ false

-- what the bus keeps
pub record BusState : Type 0 where
  pub mode : Mode
  pub copies : Holding  -- main memory and the caches
  pub agents : List Agent
  pub order : List Request

abbrev pub bus_state : buses.Bus → BusState
bus_state bus =
    record { mode = bus.mode; copies = holding_of bus.hierarchy; agents = bus.agents.items; order = bus.order }

-- whether a hart with this cache and this noted count has a live section: some line has a bit,
-- and that is no armed section's
abbrev pub lives : List (List Way) → ℕ → Bool
lives cache count = has_marks cache && (count == 0)

abbrev pub lives_at : BusState → ℕ → Bool
lives_at bus h = lives (slotted_at bus.copies.caches h).residency (agent_at bus.agents h).armed

-- each part is the definition's, and main memory lies in its place; a hart has a live section exactly where some line
-- of its cache has a bit and it is not armed, and an armed one has run an instruction
pub record Shows (bus : BusState) (state : ModelState) : Type 0 where
  pub mode : bus.mode ≡ state.config.mode
  pub ways : (h : ℕ) → h < length state.harts → (slotted_at bus.copies.caches h).ways ≡ state.config.ways
  pub agent_each : length bus.agents ≡ length state.harts
  pub cache_each : length bus.copies.caches ≡ length state.harts
  pub agents : (h : ℕ) → agent_at bus.agents h ≡ agent_of (hart_of state h)
  pub caches : (h : ℕ) → (slotted_at bus.copies.caches h).residency ≡ cache_of state h
  pub live : (h : ℕ) → is_live state h ≡ lives (cache_of state h) (armed_count (armed_of state h))
  pub arms : (h : ℕ) → is_some (armed_of state h) ≡ not (armed_count (armed_of state h) == 0)
  pub order : bus.order ≡ state.order
  pub memory : LiesWhere bus.copies.first (length bus.copies.lines) state.committed

-- a request can be served once it is the head of its line and nothing is in its way: its hart is there, its line lies
-- in memory, and the hart's cache has room for it
pub record CanBeServed (bus : BusState) (h : ℕ) (request : Request) : Type 0 where
  pub own : request.hart ≡ h
  pub hart_exists : h < length bus.agents
  pub in_memory : LiesIn bus.copies request.line
  pub room : has_room_in bus.copies h request.line ≡ true

-- what each call of the bus needs, and leaves: each request can be served, a hart has at most one, an armed section has
-- run 15 instructions at most, and in the plain mode no line has a bit
pub record IsReady (bus : BusState) : Type 0 where
  pub few : length bus.agents ≤ 8
  pub each : length bus.copies.caches ≡ length bus.agents
  pub well_formed : (h : ℕ) → h < length bus.copies.caches →
      IsWellFormed (slotted_at bus.copies.caches h).ways (slotted_at bus.copies.caches h).residency
  pub raised : (h : ℕ) (request : Request) → (agent_at bus.agents h).raised ≡ Some request → CanBeServed bus h request
  pub ordered : (h : ℕ) (request : Request) → request_of bus.order h ≡ Some request → CanBeServed bus h request
  pub once : IsOneEach bus.order
  pub one_request : (h : ℕ) (request : Request) → (agent_at bus.agents h).raised ≡ Some request →
      request_of bus.order h ≡ None
  pub few_armed : (h : ℕ) → (agent_at bus.agents h).armed ≤ 15
  pub unmarked : bus.mode ≡ Plain → (h : ℕ) → IsUnmarked bus.copies h

-- a pool lends these caches, and they and main memory tell these bytes of each line
pub record TellsIn (pool : Pooled) (holding : Holding) (bytes : ℕ → List ℕ) : Type 0 where
  pub lent : IsLentTo pool holding.caches
  pub told : TellsOf (lent_copies pool holding) bytes

-- so for those of the bus
abbrev pub Tells : Pooled → BusState → (ℕ → List ℕ) → Type 0
Tells pool bus bytes = TellsIn pool bus.copies bytes

-- and of some bytes
pub record IsTold (pool : Pooled) (bus : BusState) : Type 0 where
  pub bytes : ℕ → List ℕ
  pub tells : Tells pool bus bytes

-- whatever a pool and the caches told, they tell still
abbrev pub StaysTold : BusState → BusState → Type 0
StaysTold old new = (pool : Pooled) (bytes : ℕ → List ℕ) → Tells pool old bytes → Tells pool new bytes
