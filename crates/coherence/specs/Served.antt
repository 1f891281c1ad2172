-- what a served request makes of the caches and of main memory
use Rattle.std.specs.Prelude.{ℕ, ◌≡◌, ◌≢◌, ◌-◌, Bool, true, List, length, Option, None, Some, option_map, if◌then◌else◌}
use Rattle.std.specs.Prelude.{slice_set}
use Rattle.residency.specs.Cache.{evicted_by, filled_with, is_resident, room_of, touched}
use Rattle.cache_sets.specs.Cached.{Cached, Copy, copy_in}
use Rattle.residency.specs.Residency.{Way}
use Rattle.cache_sets.specs.Slotted.{Slotted}
use Rattle.cache_sets.specs.declared.evicted.Evicted.{Evicted}
use Rattle.coherence.specs.Caches.{AreCoherent, IsInMemory, cache_at, others_have}
use Rattle.coherence.specs.Lent.{lent_all}
use Rattle.coherence.specs.declared.hierarchy.Hierarchy as hierarchies
use Rattle.el_base.specs.declared.outcomes.Need.{Need}
use Rattle.el_model.specs.Serve.{given_up, others_cache, own_copy}
use Rattle.line_pool.specs.Pooled.{Pooled}
use Rattle.moesi.specs.Letters.{filled_of, is_dirty}

-- main memory after a line left a cache, if one did: it is written back where main memory was behind
abbrev pub written_back : ℕ → List (List ℕ) → Option Evicted → List (List ℕ)
written_back first lines None = lines
written_back first lines (Some gone) =
    if is_dirty gone.letter then slice_set lines (gone.line.number - first) gone.bytes else lines

-- the line that leaves a cache for another, which comes where it is not there
abbrev pub victim_of : Cached → ℕ → Option ℕ
victim_of cached line =
    if is_resident cached.residency line then None
    else option_map (λ way. way.line) (evicted_by cached.ways cached.residency line)

-- main memory after a copy of a line left a cache, if it had one: the line has its bytes
-- where main memory may be behind it
abbrev pub with_copy_back : ℕ → List (List ℕ) → ℕ → Option Copy → List (List ℕ)
with_copy_back first lines line None = lines
with_copy_back first lines line (Some copy) =
    if is_dirty copy.letter then slice_set lines (line - first) copy.bytes else lines

-- main memory after a line left this cache, if one did
abbrev pub with_line_back : Cached → ℕ → List (List ℕ) → Option ℕ → List (List ℕ)
with_line_back cached first lines None = lines
with_line_back cached first lines (Some line) = with_copy_back first lines line (copy_in cached line)

-- main memory and the caches of all harts
pub record Copies : Type 0 where
  pub first : ℕ
  pub lines : List (List ℕ)
  pub caches : List Cached

-- main memory after a hart's request for a line was served: the line that left the hart's cache for it, if one did, is
-- written back where its copy was modified or owned; each other line is as it was
unfoldable pub lines_after : ℕ → ℕ → Copies → List (List ℕ)
lines_after h line old =
    with_line_back (cache_at old.caches h) old.first old.lines (victim_of (cache_at old.caches h) line)

-- whatever the bytes are that the old copies tell, the new ones tell the same
pub record StaysCoherent (old new : Copies) : Type 0 where
  pub first : new.first ≡ old.first
  pub lines : length new.lines ≡ length old.lines
  pub caches : length new.caches ≡ length old.caches
  pub coherent : (bytes : ℕ → List ℕ) → AreCoherent bytes old.first old.lines old.caches →
      AreCoherent bytes new.first new.lines new.caches

-- a line was fetched for a hart that had it not
pub record IsFetched (need : Need) (h line : ℕ) (old new : Copies) : Type 0 where
  pub stays : StaysCoherent old new
  pub here : is_resident (cache_at new.caches h).residency line ≡ true
  pub ways : (g : ℕ) → (cache_at new.caches g).ways ≡ (cache_at old.caches g).ways
  pub own :
      (cache_at new.caches h).residency
      ≡ filled_with (cache_at old.caches h).ways (cache_at old.caches h).residency line
      (filled_of need (others_have old.caches h line))
  pub others : (g : ℕ) → g ≢ h →
      (cache_at new.caches g).residency ≡ given_up need (cache_at old.caches g).residency line
  pub memory : new.lines ≡ lines_after h line old

-- a request was served, and this has become of the order of the hart's lines: its copy has the letter that its need
-- gives, and the other harts have given up what the definition says
pub record Moves (ordering : List (List Way) → List (List Way)) (need : Need) (h line : ℕ)
    (old new : Copies) : Type 0 where
  pub stays : StaysCoherent old new
  pub here : is_resident (cache_at new.caches h).residency line ≡ true
  pub ways : (g : ℕ) → (cache_at new.caches g).ways ≡ (cache_at old.caches g).ways
  pub own :
      (cache_at new.caches h).residency
      ≡ ordering (own_copy (cache_at old.caches h).ways (others_have old.caches h line) need
      (cache_at old.caches h).residency line)
  pub others : (g : ℕ) → g ≢ h →
      (cache_at new.caches g).residency
      ≡ others_cache (is_resident (cache_at old.caches h).residency line) need (cache_at old.caches g).residency line
  pub memory : new.lines ≡ lines_after h line old

-- a request was served, and the line is the most recent one of its set
abbrev pub IsServed : Need → ℕ → ℕ → Copies → Copies → Type 0
IsServed need h line old new = Moves (λ cache. touched cache line) need h line old new

-- caches and main memory tell these bytes
abbrev pub TellsOf : Copies → (ℕ → List ℕ) → Type 0
TellsOf copies bytes = AreCoherent bytes copies.first copies.lines copies.caches

-- caches and main memory tell one thing of each line
pub record IsCoherent (copies : Copies) : Type 0 where
  pub bytes : ℕ → List ℕ
  pub tells : TellsOf copies bytes

-- main memory and caches as contracts see them: the caches with the bytes that a pool has for them
abbrev pub shown_copies : Pooled → hierarchies.Hierarchy → Copies
shown_copies pool hierarchy =
    record { first = hierarchy.first; lines = hierarchy.lines.items; caches = lent_all pool hierarchy.caches.items }

-- the caches where the pool is not at hand
abbrev pub caches_of : hierarchies.Hierarchy → List Slotted
caches_of hierarchy = hierarchy.caches.items

-- a line lies in main memory
abbrev pub HasLine : Copies → ℕ → Type 0
HasLine copies line = IsInMemory copies.first (length copies.lines) line

-- a hart's cache has room for a line
abbrev pub has_room : Copies → ℕ → ℕ → Bool
has_room copies h line = room_of (cache_at copies.caches h).ways (cache_at copies.caches h).residency line
