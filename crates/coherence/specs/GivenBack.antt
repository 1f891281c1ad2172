-- what a caller gives back of a cache that was lent to it, and what caches and main memory tell then
use Rattle.std.specs.Prelude.{ℕ, ◌≡◌, ◌≢◌, ◌==◌, Bool, true, false, List, Option, Some, option_map, if◌then◌else◌}
use Rattle.std.specs.Prelude.{slice_set}
use Rattle.std.specs.Option.{option_map_or}
use Rattle.residency.specs.Cache.{letter_of, write_bit}
use Rattle.cache_sets.specs.Cached.{Cached, Copy, copy_in, copy_with_bytes}
use Rattle.coherence.specs.Caches.{cache_at}
use Rattle.coherence.specs.Served.{Copies, HasLine}
use Rattle.moesi.specs.Letters.{may_write}
use Rattle.moesi.specs.declared.letter.Letter.TheVariants.{M}

-- a copy that was lent: it is as it was, or it was one that may be written, and is modified now
pub data IsCopyBack (before after : Option Copy) : Type 0 where
  Kept : after ≡ before → IsCopyBack before after
  Stored : (was is : Copy) → before ≡ Some was → may_write was.letter ≡ true → after ≡ Some is → is.letter ≡ M →
      IsCopyBack before after

-- each copy of a cache is so; the order of its lines and their bits may be any
pub record IsGivenBack (old new : Cached) : Type 0 where
  pub each : (line : ℕ) → IsCopyBack (copy_in old line) (copy_in new line)

-- the bytes of each line then: those of the cache's copy, and where it has none, those that the line had
abbrev pub bytes_back : (ℕ → List ℕ) → Cached → ℕ → List ℕ
bytes_back bytes cache line = option_map_or (λ copy. copy.bytes) (copy_in cache line) (bytes line)

-- the bytes of each line, with other ones for one line
abbrev pub bytes_with : (ℕ → List ℕ) → ℕ → List ℕ → ℕ → List ℕ
bytes_with bytes line new l = if l == line then new else bytes l

-- another cache in the place of a hart's; main memory and the other caches are as they were
abbrev pub copies_with : Copies → ℕ → Cached → Copies
copies_with copies h cache = record copies { caches = slice_set copies.caches h cache }

-- a hart's cache is given back, and these are the bytes of each line of memory then
pub record TellsAfter (copies : Copies) (h : ℕ) (cache : Cached) (bytes told : ℕ → List ℕ) : Type 0 where
  pub given_back : IsGivenBack (cache_at copies.caches h) cache
  pub exact : (line : ℕ) → HasLine copies line → told line ≡ bytes_back bytes cache line

-- one line of a cache, whose copy may be written, got these bytes and is modified; each other copy is as it was
pub record IsStoredIn (old new : Cached) (line : ℕ) (bytes : List ℕ) : Type 0 where
  pub may : may_write (letter_of old.residency line) ≡ true
  pub here : copy_in new line ≡ Some (record { letter = M; bytes = bytes })
  pub others : (l : ℕ) → l ≢ line → copy_in new l ≡ copy_in old l

-- the lines with the write bit, whose copies may be written, got these bytes; each other copy is as it was
pub record WroteLines (old new : Cached) (bytes : ℕ → List ℕ) : Type 0 where
  pub may : (l : ℕ) → write_bit new.residency l ≡ true → may_write (letter_of old.residency l) ≡ true
  pub written : (l : ℕ) → write_bit new.residency l ≡ true →
      copy_in new l ≡ option_map (copy_with_bytes (bytes l)) (copy_in old l)
  pub others : (l : ℕ) → write_bit new.residency l ≡ false → copy_in new l ≡ copy_in old l

-- the bytes of each line, with other ones for some lines
abbrev pub bytes_put : (ℕ → Bool) → (ℕ → List ℕ) → (ℕ → List ℕ) → ℕ → List ℕ
bytes_put written new bytes line = if written line then new line else bytes line
