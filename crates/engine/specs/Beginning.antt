-- what a section that begins makes of the parts
use Rattle.std.specs.Prelude.{ℕ, ◌≡◌, slice_set}
use Rattle.cache_sets.specs.Slotted.{Slotted}
use Rattle.residency.specs.Cache.{marked, touched}
use Rattle.el_base.specs.Line.{line_number}
use Rattle.el_base.specs.declared.outcomes.Need.TheVariants.{Read}
use Rattle.el_model.specs.Upcoming.{Swap}
use Rattle.engine.specs.Acting.{sets_in}
use Rattle.engine.specs.Lent.{KeepsCopies}
use Rattle.engine.specs.Parts.{Parts, own_at}
use Rattle.hart_state.specs.Deeds.{began_own}
use Rattle.snoop.specs.Returned.{returned}

-- a line got the read bit, and became the most recent one of its set
pub record IsReadMarked (old new : Slotted) (line : ℕ) : Type 0 where
  pub ways : new.ways ≡ old.ways
  pub residency : new.residency ≡ touched (marked old.residency line Read) line
  pub keeps : KeepsCopies old new

-- a line got the read bit in the cache of a hart, and nothing else has changed
pub record HasMarked (old new : Parts) (h line : ℕ) : Type 0 where
  pub cache : Slotted
  pub marked : IsReadMarked (sets_in old h) cache line
  pub new_is : new ≡ record old { bus = returned old.bus h cache }

-- a section began at a swap, before its attempt opened: the hart's cache has the read bit of the lock's line
pub record BeganIn (old new : Parts) (h : ℕ) (swap : Swap) (rd : ℕ) : Type 0 where
  pub cache : Slotted
  pub marked : IsReadMarked (sets_in old h) cache (line_number swap.word)
  pub new_is :
      new
      ≡ record old {
        bus = returned old.bus h cache;
        harts = slice_set old.harts h (began_own swap.word swap.old swap.new rd (own_at old.harts h));
      }
