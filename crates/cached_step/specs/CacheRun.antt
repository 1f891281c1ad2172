-- what an instruction makes of a cache, over whose lines it runs
use Rattle.std.specs.Prelude.{ℕ, ◌≡◌, ◌≢◌, ◌%◌, Bool, List, Option, None, Some, option_map}
use Rattle.residency.specs.Cache.{letter_of, lettered, touched}
use Rattle.cache_sets.specs.Cached.{Cached, bytes_of, copy_in, copy_with_letter}
use Rattle.cache_sets.specs.Calls.{IsTouched, IsWritten}
use Rattle.residency.specs.Residency.{Way}
use Rattle.cache_sets.specs.Slotted.{IsLent, Slotted, lent}
use Rattle.coherence.specs.GivenBack.{IsStoredIn}
use Rattle.el_base.specs.Line.{line_number}
use Rattle.el_base.specs.declared.line.TheConstants.{LINE_BYTES}
use Rattle.el_base.specs.declared.outcomes.Need.{Need}
use Rattle.el_model.specs.Plain.{after_touch}
use Rattle.el_model.specs.Upcoming.{touch_of}
use Rattle.line_pool.specs.Others.{LeavesOthers}
use Rattle.line_pool.specs.Pooled.{Pooled}
use Rattle.moesi.specs.Letters.{may_of}
use Rattle.moesi.specs.declared.letter.Letter.TheVariants.{M}
use Rattle.rv_alu.specs.Execution.{Store}
use Rattle.rv_alu.specs.Footprint.{footprint}
use Rattle.rv_alu.specs.declared.action.Action.{Action}
use Rattle.rv_alu.specs.declared.footprint.Access.{Access}
use Rattle.rv_alu.specs.declared.footprint.Access.TheVariants.{Read, Write}
use Rattle.rv_flat.specs.Memory.{put_bytes}

-- whether the letter of a line permits a need
abbrev pub permitted_in : List (List Way) → ℕ → Need → Bool
permitted_in cache line need = may_of (letter_of cache line) need

abbrev pub permitted : Cached → ℕ → Need → Bool
permitted cache = permitted_in cache.residency

-- the bytes of its line after the low bytes of a value were stored at an address
abbrev pub line_after : Cached → ℕ → ℕ → ℕ → List ℕ
line_after cache address len value = put_bytes (bytes_of cache (line_number address)) (address % LINE_BYTES) len value

-- a store went into the bytes of its line, and nothing else has changed
abbrev pub PutsIn : Cached → Cached → ℕ → ℕ → ℕ → Type 0
PutsIn old new address len value = IsWritten old new (line_number address) (line_after old address len value)

-- the same in the pool that lends the cache: it lends it still, and leaves all that other owners have
pub record PutsInPool (cache : Slotted) (old new : Pooled) (address len value : ℕ) : Type 0 where
  pub puts : PutsIn (lent old cache) (lent new cache) address len value
  pub kept : IsLent new cache
  pub others : LeavesOthers cache.owner old new

-- the copies after a run: without a store each is as it was, and with one the line of the
-- store has its bytes and is modified
abbrev pub CopiesAfter : Cached → Cached → Option Store → Type 0
CopiesAfter old new None = (line : ℕ) → copy_in new line ≡ copy_in old line
CopiesAfter old new (Some store) =
    IsStoredIn old new (line_number store.address) (line_after old store.address store.len store.value)

-- an action ran with this store, if with any: the line that it touched is the most recent one of its
-- set, and a written one is modified
pub record HasRun (old new : Cached) (action : Action) (store : Option Store) : Type 0 where
  pub ways : new.ways ≡ old.ways
  pub residency : new.residency ≡ after_touch old.residency (touch_of (footprint action))
  pub copies : CopiesAfter old new store

-- a line became the most recent one of its set, and is modified
pub record IsModified (old new : Cached) (line : ℕ) : Type 0 where
  pub ways : new.ways ≡ old.ways
  pub residency : new.residency ≡ lettered (touched old.residency line) line M
  pub here : copy_in new line ≡ option_map (copy_with_letter M) (copy_in old line)
  pub others : (l : ℕ) → l ≢ line → copy_in new l ≡ copy_in old l

-- a line was read or written, or none: it is the most recent one of its set, and a written one is modified
abbrev pub IsUsed : Access → Cached → Cached → Type 0
IsUsed (Read address len) old new = IsTouched old new (line_number address)
IsUsed (Write address len) old new = IsModified old new (line_number address)
IsUsed _ old new = new ≡ old
