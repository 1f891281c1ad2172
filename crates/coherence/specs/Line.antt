-- one line of memory: its copies in the caches of the harts, and what main memory has of it
use Rattle.std.specs.Prelude.{ℕ, ◌≡◌, true, false, List, Option, Some}
use Rattle.cache_sets.specs.Cached.{Copy}
use Rattle.moesi.specs.Letters.{is_dirty, may_write}

-- the copies of a line, by harts, and main memory tell one thing: these bytes
pub record Coherent (bytes : List ℕ) (copies : ℕ → Option Copy) (behind : List ℕ) : Type 0 where
  -- each copy has them
  pub same : (h : ℕ) (copy : Copy) → copies h ≡ Some copy → copy.bytes ≡ bytes
  -- a copy that may be written is the only one
  pub alone : (g h : ℕ) (one other : Copy) → copies g ≡ Some one → copies h ≡ Some other →
      may_write one.letter ≡ true → g ≡ h
  -- at most one is a copy that main memory may be behind
  pub owner : (g h : ℕ) (one other : Copy) → copies g ≡ Some one → copies h ≡ Some other → is_dirty one.letter ≡ true →
      is_dirty other.letter ≡ true → g ≡ h
  -- where there is none such, main memory has them
  pub memory : ((h : ℕ) (copy : Copy) → copies h ≡ Some copy → is_dirty copy.letter ≡ false) → behind ≡ bytes

-- no copy is one that main memory may be behind
abbrev pub IsClean : (ℕ → Option Copy) → Type 0
IsClean copies = (h : ℕ) (copy : Copy) → copies h ≡ Some copy → is_dirty copy.letter ≡ false

-- where the bytes of a line are found: in the copy that main memory may be behind, and where there is none, there
pub data IsFound (copies : ℕ → Option Copy) (behind bytes : List ℕ) : Type 0 where
  InCopy : (h : ℕ) (copy : Copy) → copies h ≡ Some copy → copy.bytes ≡ bytes → IsFound copies behind bytes
  InMemory : IsClean copies → behind ≡ bytes → IsFound copies behind bytes
