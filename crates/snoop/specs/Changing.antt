-- harts change at the bus, one after another: their agents, and some of their caches are cleared
use Rattle.std.specs.Prelude.{ℕ, ◌≡◌, ◌<◌, ◌≤◌, Bool, true, false, List, length}
use Rattle.bus_agent.specs.Agent.{Agent, agent_at, with_agent}
use Rattle.residency.specs.Cache.{cleared}
use Rattle.residency.specs.Residency.{Way}
use Rattle.cache_sets.specs.Calls.{IsCleared}
use Rattle.cache_sets.specs.Slotted.{Slotted}
use Rattle.coherence.specs.Changed.{IsChangedAt}
use Rattle.coherence.specs.Lent.{IsLentTo, slotted_at}
use Rattle.line_pool.specs.Pooled.{Pooled}
use Rattle.snoop.specs.Shows.{Holding, BusState, TellsIn, lent_copies}

-- what is left of the lines of a cache that has no bits any more where a test says so
abbrev pub cleared_if : Bool → List (List Way) → List (List Way)
cleared_if true cache = cleared cache
cleared_if false cache = cache

-- a cache has no bits any more where a test says so, and else its lines are as they were
pub record ClearedIf (clears : Bool) (old new : Slotted) : Type 0 where
  pub ways : new.ways ≡ old.ways
  pub residency : new.residency ≡ cleared_if clears old.residency

-- main memory has not moved, and whatever pool lent the caches, it lends them still, and they tell what they told
pub record StaysLent (old new : Holding) : Type 0 where
  pub first : new.first ≡ old.first
  pub lines : length new.lines ≡ length old.lines
  pub caches : length new.caches ≡ length old.caches
  pub told : (pool : Pooled) (bytes : ℕ → List ℕ) → TellsIn pool old bytes → TellsIn pool new bytes

-- one of the caches has no bits any more, whatever pool lends it
pub record IsClearedAt (h : ℕ) (old new : Holding) : Type 0 where
  pub changed : (pool : Pooled) → IsChangedAt IsCleared h (lent_copies pool old) (lent_copies pool new)
  pub lent : (pool : Pooled) → IsLentTo pool old.caches → IsLentTo pool new.caches

-- so where a test says so, and else they are as they were
abbrev pub ClearsIf : Bool → ℕ → Holding → Holding → Type 0
ClearsIf true h old new = IsClearedAt h old new
ClearsIf false h old new = new ≡ old

-- one hart has changed
pub record IsHartChanged (becomes : Agent → Agent) (clears : Bool) (h : ℕ) (old new : BusState) : Type 0 where
  pub mode : new.mode ≡ old.mode
  pub order : new.order ≡ old.order
  pub agents : new.agents ≡ with_agent old.agents h (becomes (agent_at old.agents h))
  pub copies : ClearsIf clears h old.copies new.copies

-- the harts below a number have changed, and the others are as they were
pub record AreHartsChanged (becomes : ℕ → Agent → Agent) (clears : ℕ → Bool) (number : ℕ)
    (old new : BusState) : Type 0 where
  pub mode : new.mode ≡ old.mode
  pub order : new.order ≡ old.order
  pub count : length new.agents ≡ length old.agents
  pub lines : new.copies.lines ≡ old.copies.lines
  pub stays : StaysLent old.copies new.copies
  pub agents : (h : ℕ) → h < number → agent_at new.agents h ≡ becomes h (agent_at old.agents h)
  pub caches : (h : ℕ) → h < number →
      ClearedIf (clears h) (slotted_at old.copies.caches h) (slotted_at new.copies.caches h)
  pub other_agents : (h : ℕ) → number ≤ h → agent_at new.agents h ≡ agent_at old.agents h
  pub other_caches : (h : ℕ) → number ≤ h →
      ClearedIf false (slotted_at old.copies.caches h) (slotted_at new.copies.caches h)
