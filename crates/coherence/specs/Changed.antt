-- one cache changed, and no copy of any line
use Rattle.std.specs.Prelude.{ℕ, ◌≡◌, ◌≢◌, List, slice_set}
use Rattle.cache_sets.specs.Cached.{Cached}
use Rattle.cache_sets.specs.Calls.{IsMarked}
use Rattle.coherence.specs.Caches.{cache_at}
use Rattle.coherence.specs.Served.{Copies, StaysCoherent}
use Rattle.el_base.specs.declared.outcomes.Need.{Need}

-- one cache changed so, and no copy of any line; main memory and the other caches are as they were
pub record IsChangedAt (Becomes : Cached → Cached → Type 0) (h : ℕ) (old new : Copies) : Type 0 where
  pub own : Becomes (cache_at old.caches h) (cache_at new.caches h)
  pub others : (g : ℕ) → g ≢ h → cache_at new.caches g ≡ cache_at old.caches g
  pub lines : new.lines ≡ old.lines
  pub stays : StaysCoherent old new

-- one of the caches changed so
pub record IsReplacedAt (Becomes : Cached → Cached → Type 0) (h : ℕ) (old new : List Cached) : Type 0 where
  pub cache : Cached
  pub becomes : Becomes (cache_at old h) cache
  pub new_is : new ≡ slice_set old h cache

-- a line of a cache got the bit of a need
abbrev pub GetsBit : ℕ → Need → Cached → Cached → Type 0
GetsBit line need old new = IsMarked old new line need
