-- what a machine lends beside its story: a pool, with the caches and the buffered stores
-- that have their lines in its slots
use Rattle.std.specs.Prelude.{ℕ, ◌≡◌, ◌<◌, [], None, length}
use Rattle.coherence.specs.Beginning.{line_of}
use Rattle.el_model.specs.State.{ModelState, Section, section_of}
use Rattle.engine.specs.Parts.{KeepsSectionOf, hold_owner}
use Rattle.line_pool.specs.Pooled.{Pooled}
use Rattle.machine.specs.Promises.{ShowsStoresOverMemory}
use Rattle.rv_flat.specs.FlatState.{FlatState}
use Rattle.engine.specs.SectionState.{SectionState, hold_in}
use Rattle.engine.specs.KeptRun.{KeepsRun}
use Rattle.engine.specs.Shows.{BusState, Shows, Tells}
use Rattle.write_hold.specs.Slotted.{IsLent}

-- the section of a hart, its stores being in slots of the pool: as many as are out of their owner
pub record LendsSection (pool : Pooled) (state : ModelState) (h : ℕ) (kept : SectionState) : Type 0 where
  pub owner : kept.hold.owner ≡ hold_owner h
  pub lent : IsLent pool kept.hold
  pub live : kept.live ≡ section_of state h
  pub keeps : KeepsSectionOf pool state h (section_of state h) kept
  pub nothing : kept.live ≡ None → kept.hold.entries ≡ []

-- main memory and caches, whose copies have their bytes in slots of the pool, as many as are out of their
-- owners, and each hart's section
pub record LendsState (pool : Pooled) (state : ModelState) : Type 0 where
  pub bus : BusState
  pub shows : Shows bus state
  pub told : Tells pool bus (line_of state.committed)
  pub sections : ℕ → SectionState
  pub each : (h : ℕ) → h < length state.harts → LendsSection pool state h (sections h)

-- the stores of a live section, with the bytes that a pool has in their slots, tell its private run, and
-- over memory they are what it shows
pub record TellsRun (pool : Pooled) (state : ModelState) (committed : FlatState) (h : ℕ) (section : Section)
    (kept : SectionState) : Type 0
  where
    pub run : KeepsRun committed h section kept.marks.present (hold_in pool kept).entries
    pub stores : ShowsStoresOverMemory state h section (hold_in pool kept).entries

-- so they do in some pool that lends them
pub record TellsRunSomewhere (state : ModelState) (committed : FlatState) (h : ℕ) (section : Section)
    (kept : SectionState) : Type 0 where
  pub pool : Pooled
  pub lent : IsLent pool kept.hold
  pub tells : TellsRun pool state committed h section kept
