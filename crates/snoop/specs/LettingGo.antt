-- armed sections that a head lets go
use Rattle.std.specs.Prelude.{ℕ, ◌≡◌, ◌==◌, ◌&&◌, Bool, true, false, not, is_some, if◌then◌else◌}
use Rattle.bus_agent.specs.Agent.{Agent, agent_at, agent_noted, agent_of}
use Rattle.bus_order.specs.Order.{Request}
use Rattle.residency.specs.Cache.{has_bit}
use Rattle.coherence.specs.Lent.{slotted_at}
use Rattle.el_base.specs.Freed.{count_in}
use Rattle.el_base.specs.declared.freed.Freed.{Freed}
use Rattle.el_model.specs.Conflicts.{is_write}
use Rattle.el_model.specs.State.{Hart, ModelState, cache_of, hart_of}
use Rattle.rv_flat.specs.FlatState.{FlatState}
use Rattle.snoop.specs.Changing.{AreHartsChanged, IsHartChanged}
use Rattle.snoop.specs.Shows.{BusState, lives}

-- memory lies where it did and has the bytes that it had. An armed section stores nothing, so this holds where harts
-- are let go; the bus cannot know that, and its caller owes it
pub record KeepsBytes (old new : FlatState) : Type 0 where
  pub base : new.base ≡ old.base
  pub bytes : new.bytes ≡ old.bytes

-- a state with this committed part in the place of its own
abbrev pub with_committed : FlatState → ModelState → ModelState
with_committed committed state = record state { committed = committed }

-- what a hart becomes that is noted as armed with a count, 0 where it is not armed: its part at the bus is as
-- it was but for the count, its cache is as it was, and it has a live section exactly where some line of its
-- cache has a bit and it is not armed
pub record IsNotedAs (state : ModelState) (h count : ℕ) (now : Hart) : Type 0 where
  pub agent : agent_of now ≡ agent_noted count (agent_of (hart_of state h))
  pub cache : now.cache ≡ cache_of state h
  pub armed : is_some now.armed ≡ not (count == 0)
  pub live : is_some now.section ≡ lives now.cache count

-- whether a head, as it is met, lets the armed section of a hart go: it is to write, and the section has read its line
abbrev pub frees : BusState → Request → ℕ → Bool
frees bus head h =
    is_write head && not (head.hart == h) && not ((agent_at bus.agents h).armed == 0)
    && has_bit (slotted_at bus.copies.caches h).residency head.line

-- how many instructions of a hart take effect then
abbrev pub freed_at : BusState → Request → ℕ → ℕ
freed_at bus head h = if frees bus head h then (agent_at bus.agents h).armed else 0

-- whether a hart is among those that are let go
abbrev pub goes : Freed → ℕ → Bool
goes freed h = not (count_in freed h == 0)

-- an agent whose hart is let go, where a test says so
abbrev pub agent_let_go : Bool → Agent → Agent
agent_let_go true agent = agent_noted 0 agent
agent_let_go false agent = agent

-- one hart is let go where a test says so, and these harts below a number are: they have no bits any
-- more, and are noted as not armed
abbrev pub IsLetGo : Bool → ℕ → BusState → BusState → Type 0
IsLetGo test h old new = IsHartChanged (agent_let_go test) test h old new

abbrev pub AreLetGo : Freed → ℕ → BusState → BusState → Type 0
AreLetGo freed number old new = AreHartsChanged (λ h. agent_let_go (goes freed h)) (goes freed) number old new
