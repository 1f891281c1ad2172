-- what holds of every cache, whatever was done with it
use Rattle.std.specs.Prelude.{◌≡◌, ◌≢◌, ◌≤◌, ◌<◌, ◌==◌, ℕ, List, Some, count_by, length}
use Rattle.moesi.specs.declared.letter.Letter.TheVariants.{I}
use Rattle.residency.specs.Residency.{Way, way_in}
use Rattle.residency.specs.Cache.{set_number, set_of}

pub record IsWellFormed (ways : ℕ) (cache : List (List Way)) : Type 0 where
  -- there is a set
  pub some_set : 0 < length cache
  -- no set has more lines than ways
  pub within : (line : ℕ) → length (set_of cache line) ≤ ways
  -- no set has a line twice
  pub once : (line l : ℕ) → count_by (λ way. way.line == l) (set_of cache line) ≤ 1
  -- a line is in no set but its own
  pub home : (line l : ℕ) (way : Way) → way_in (set_of cache line) l ≡ Some way →
      set_number cache l ≡ set_number cache line
  -- a line that is there has another letter than I
  pub valid : (line l : ℕ) (way : Way) → way_in (set_of cache line) l ≡ Some way → way.letter ≢ I
