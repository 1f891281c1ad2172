-- a request for a line that the hart has already
use Rattle.std.specs.Prelude.{ℕ, ◌≡◌, ◌≢◌, List, length}
use Rattle.residency.specs.Cache.{letter_of}
use Rattle.cache_sets.specs.Cached.{Cached}
use Rattle.cache_sets.specs.Calls.{IsLettered, IsWithout}
use Rattle.coherence.specs.Caches.{cache_at}
use Rattle.el_base.specs.declared.outcomes.Need.{Need}
use Rattle.el_base.specs.declared.outcomes.Need.TheVariants.{Read, Write}
use Rattle.el_model.specs.Serve.{kept_letter}

-- another cache keeps what it has at a read, and loses the line at a write
abbrev pub LeavesTo : Need → Cached → Cached → ℕ → Type 0
LeavesTo Read old new line = new ≡ old
LeavesTo Write old new line = IsWithout old new line

pub record IsKept (need : Need) (h line : ℕ) (old new : List Cached) : Type 0 where
  pub count : length new ≡ length old
  pub own : IsLettered (cache_at old h) (cache_at new h) line
      (kept_letter need (letter_of (cache_at old h).residency line))
  pub others : (g : ℕ) → g ≢ h → LeavesTo need (cache_at old g) (cache_at new g) line
