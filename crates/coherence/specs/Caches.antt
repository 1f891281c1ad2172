-- the caches of all harts, and main memory line by line
use Rattle.std.specs.Prelude.{ℕ, suc, ◌≡◌, ◌≢◌, ◌<◌, ◌≤◌, ◌+◌, ◌-◌, Bool, true, false, ◌==◌, not, ◌&&◌, ◌||◌, List, []}
use Rattle.std.specs.Prelude.{◌∷◌, length, Option, slice_index_or}
use Rattle.residency.specs.Cache.{is_resident, letter_of}
use Rattle.cache_sets.specs.Cached.{Cached, Copy, copy_in}
use Rattle.cache_sets.specs.Calls.{IsLettered, IsWithout}
use Rattle.coherence.specs.Line.{Coherent}
use Rattle.el_base.specs.declared.outcomes.Need.{Need}
use Rattle.el_base.specs.declared.outcomes.Need.TheVariants.{Read, Write}
use Rattle.moesi.specs.Letters.{on_read_of}

-- a cache of no hart
abbrev pub no_cache : Cached
no_cache = record { ways = 0; residency = []; bytes = [] }

abbrev pub cache_at : List Cached → ℕ → Cached
cache_at caches h = slice_index_or caches h no_cache

-- the copies of a line, by harts
abbrev pub copies_of : List Cached → ℕ → ℕ → Option Copy
copies_of caches line h = copy_in (cache_at caches h) line

-- what main memory, which begins at a line, has of a line
abbrev pub behind_of : ℕ → List (List ℕ) → ℕ → List ℕ
behind_of first lines line = slice_index_or lines (line - first) []

-- a line is in main memory
pub record IsInMemory (first count line : ℕ) : Type 0 where
  pub from : first ≤ line
  pub below : line < first + count

-- caches and main memory tell one thing of each line, and no cache has a line that is not in memory
pub record AreCoherent (bytes : ℕ → List ℕ) (first : ℕ) (lines : List (List ℕ)) (caches : List Cached) : Type 0 where
  pub each : (line : ℕ) → IsInMemory first (length lines) line →
      Coherent (bytes line) (copies_of caches line) (behind_of first lines line)
  pub inside : (h line : ℕ) → is_resident (cache_at caches h).residency line ≡ true →
      IsInMemory first (length lines) line

-- whether a hart other than this one has a copy of a line, among the harts from a number on
abbrev pub others_from : ℕ → List Cached → ℕ → ℕ → Bool
others_from from [] h line = false
others_from from (cache ∷ caches) h line =
    (not (from == h) && is_resident cache.residency line) || others_from (suc from) caches h line

abbrev pub others_have : List Cached → ℕ → ℕ → Bool
others_have caches h line = others_from 0 caches h line

-- a cache as another hart's request is served: its copy goes, or its letter changes
abbrev pub GivesUp : Need → Cached → Cached → ℕ → Type 0
GivesUp Write old new line = IsWithout old new line
GivesUp Read old new line = IsLettered old new line (on_read_of (letter_of old.residency line))

-- all caches but one give a line up
pub record OthersGiveUp (need : Need) (h line : ℕ) (old new : List Cached) : Type 0 where
  pub count : length new ≡ length old
  pub own : cache_at new h ≡ cache_at old h
  pub others : (g : ℕ) → g ≢ h → g < length old → GivesUp need (cache_at old g) (cache_at new g) line
