-- a cache in which what an instruction of a section touches has its bit
use Rattle.std.specs.Prelude.{◌≡◌, true, List, Option, None, Some, if◌then◌else◌}
use Rattle.residency.specs.Cache.{is_resident, marked}
use Rattle.cache_sets.specs.Slotted.{Slotted}
use Rattle.residency.specs.Residency.{Way}
use Rattle.el_model.specs.InSection.{is_covered}
use Rattle.el_model.specs.Upcoming.{Touch}
use Rattle.engine.specs.Lent.{KeepsCopies}

-- the cache with the bit of a touch, which it may have had before
abbrev pub with_its_bit : List (List Way) → Option Touch → List (List Way)
with_its_bit cache None = cache
with_its_bit cache (Some touch) =
    if is_covered cache touch.line touch.need then cache else marked cache touch.line touch.need

-- the cache has the line that is touched
abbrev pub IsTouchedThere : Slotted → Option Touch → Type 0
IsTouchedThere cache None = Unit {0}
IsTouchedThere cache (Some touch) = is_resident cache.residency touch.line ≡ true

-- it got that bit, and nothing else has changed
pub record HasItsBitNow (old new : Slotted) (touch : Option Touch) : Type 0 where
  pub ways : new.ways ≡ old.ways
  pub residency : new.residency ≡ with_its_bit old.residency touch
  pub keeps : KeepsCopies old new
