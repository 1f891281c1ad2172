-- what each call of a cache makes of it
use Rattle.std.specs.Prelude.{◌≡◌, ◌≢◌, ◌≤◌, ℕ, true, false, List, Option, None, Some, option_map, length, map}
use Rattle.el_base.specs.declared.outcomes.Need.{Need}
use Rattle.moesi.specs.declared.letter.Letter.{Letter}
use Rattle.moesi.specs.declared.letter.Letter.TheVariants.{M}
use Rattle.cache_sets.specs.declared.evicted.Evicted.{Evicted}
use Rattle.residency.specs.Cache.{cleared, committed, evicted_by, filled_with, lettered, marked, touched, without_line}
use Rattle.residency.specs.Cache.{write_bit}
use Rattle.cache_sets.specs.Cached.{Cached, copy_in, copy_with_bytes, copy_with_letter}
use Rattle.residency.specs.WellFormed.{IsWellFormed}

-- what holds of every cache with its bytes
pub record IsCached (cached : Cached) : Type 0 where
  pub well_formed : IsWellFormed cached.ways cached.residency
  pub some_way : 1 ≤ cached.ways
  pub ways_fit : cached.ways ≤ 8
  pub sets_fit : length cached.residency ≤ 64
  -- each line has its bytes
  pub each_has_bytes : map length cached.bytes ≡ map length cached.residency

-- a line became the most recent one of its set
pub record IsTouched (old new : Cached) (line : ℕ) : Type 0 where
  pub ways : new.ways ≡ old.ways
  pub residency : new.residency ≡ touched old.residency line
  pub copies : (l : ℕ) → copy_in new l ≡ copy_in old l

-- a line got another letter
pub record IsLettered (old new : Cached) (line : ℕ) (letter : Letter) : Type 0 where
  pub ways : new.ways ≡ old.ways
  pub residency : new.residency ≡ lettered old.residency line letter
  pub here : copy_in new line ≡ option_map (copy_with_letter letter) (copy_in old line)
  pub others : (l : ℕ) → l ≢ line → copy_in new l ≡ copy_in old l

-- a line got a bit
pub record IsMarked (old new : Cached) (line : ℕ) (need : Need) : Type 0 where
  pub ways : new.ways ≡ old.ways
  pub residency : new.residency ≡ marked old.residency line need
  pub copies : (l : ℕ) → copy_in new l ≡ copy_in old l

-- a line got these bytes
pub record IsWritten (old new : Cached) (line : ℕ) (bytes : List ℕ) : Type 0 where
  pub ways : new.ways ≡ old.ways
  pub residency : new.residency ≡ old.residency
  pub here : copy_in new line ≡ option_map (copy_with_bytes bytes) (copy_in old line)
  pub others : (l : ℕ) → l ≢ line → copy_in new l ≡ copy_in old l

-- a line left
pub record IsWithout (old new : Cached) (line : ℕ) : Type 0 where
  pub ways : new.ways ≡ old.ways
  pub residency : new.residency ≡ without_line old.residency line
  pub here : copy_in new line ≡ None
  pub others : (l : ℕ) → l ≢ line → copy_in new l ≡ copy_in old l

-- no line has a bit
pub record IsCleared (old new : Cached) : Type 0 where
  pub ways : new.ways ≡ old.ways
  pub residency : new.residency ≡ cleared old.residency
  pub copies : (l : ℕ) → copy_in new l ≡ copy_in old l

-- the lines that were written are modified, and no line has a bit
pub record IsCommitted (old new : Cached) : Type 0 where
  pub ways : new.ways ≡ old.ways
  pub residency : new.residency ≡ committed old.residency
  pub written : (l : ℕ) → write_bit old.residency l ≡ true →
      copy_in new l ≡ option_map (copy_with_letter M) (copy_in old l)
  pub others : (l : ℕ) → write_bit old.residency l ≡ false → copy_in new l ≡ copy_in old l

-- a line came, and another one left for it, if one did
pub record IsFilledWith (old new : Cached) (line : ℕ) (letter : Letter) (bytes : List ℕ)
    (evicted : Option Evicted) : Type 0 where
  pub ways : new.ways ≡ old.ways
  pub residency : new.residency ≡ filled_with old.ways old.residency line letter
  -- the line that left is the definition's
  pub victim : option_map (λ gone. gone.line.number) evicted ≡ option_map (λ way. way.line)
      (evicted_by old.ways old.residency line)
  pub here : copy_in new line ≡ Some (record { letter = letter; bytes = bytes })
  -- it was there with what is told of it, and is there no more
  pub left : (gone : Evicted) → evicted ≡ Some gone →
      copy_in old gone.line.number ≡ Some (record { letter = gone.letter; bytes = gone.bytes })
  pub gone : (gone : Evicted) → evicted ≡ Some gone → copy_in new gone.line.number ≡ None
  pub others : (l : ℕ) → l ≢ line → ((gone : Evicted) → evicted ≡ Some gone → l ≢ gone.line.number) →
      copy_in new l ≡ copy_in old l
