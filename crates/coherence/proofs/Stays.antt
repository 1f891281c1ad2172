-- a cache that has not the line has nothing to give up
use Rattle.std.proofs.Common.{◌≡◌, ℕ, false}
use Rattle.residency.specs.Cache.{is_resident, letter_of}
use Rattle.cache_sets.specs.Cached.{Cached}
use Rattle.cache_sets.proofs.Laws.AbsentLines.{stays_lettered, stays_without}
use Rattle.coherence.specs.Caches.{GivesUp}
use Rattle.el_base.specs.declared.outcomes.Need.{Need}
use Rattle.el_base.specs.declared.outcomes.Need.TheVariants.{Read, Write}
use Rattle.moesi.specs.Letters.{on_read_of}

pub nothing_given_up : (need : Need) (cached : Cached) (line : ℕ) → is_resident cached.residency line ≡ false →
    GivesUp need cached cached line
nothing_given_up Write cached line absent = stays_without cached line absent
nothing_given_up Read cached line absent =
    stays_lettered cached line (on_read_of (letter_of cached.residency line)) absent
