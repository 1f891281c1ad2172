-- how the copies of a line in the caches of several harts stand to one another
use Rattle.std.specs.Prelude.{ℕ, ◌≡◌, ◌≢◌, true, false, List, Option, None, Some}
use Rattle.residency.specs.Cache.{way_of}
use Rattle.residency.specs.Residency.{Way}
use Rattle.el_model.specs.State.{ModelState, cache_of}
use Rattle.moesi.specs.Letters.{may_write}
use Rattle.moesi.specs.declared.letter.Letter.{Letter}
use Rattle.moesi.specs.declared.letter.Letter.TheVariants.{O}

-- the letters of two copies of one line: neither is M or E, and not both are O
pub record AreTogether (one other : Letter) : Type 0 where
  pub one_shared : may_write one ≡ false
  pub other_shared : may_write other ≡ false
  pub one_owner : one ≡ O → other ≡ O → ⊥

abbrev pub MayBeTogether : Option Way → Option Way → Type 0
MayBeTogether None other = Unit {0}
MayBeTogether (Some one) None = Unit {0}
MayBeTogether (Some one) (Some other) = AreTogether one.letter other.letter

abbrev pub AreCoherent : ModelState → Type 0
AreCoherent state =
    (g h : ℕ) → g ≢ h → (line : ℕ) → MayBeTogether (way_of (cache_of state g) line) (way_of (cache_of state h) line)

-- a line that the hart's section has written is M or E there
abbrev pub IsOwned : Option Way → Type 0
IsOwned None = Unit {0}
IsOwned (Some way) = way.write ≡ true → may_write way.letter ≡ true

abbrev pub AreOwned : List (List Way) → Type 0
AreOwned cache = (line : ℕ) → IsOwned (way_of cache line)
