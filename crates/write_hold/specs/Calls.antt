-- what each call of a hold makes of it
use Rattle.std.specs.Prelude.{ℕ, ◌≡◌, ◌≢◌, ◌≤◌, ◌<◌, ◌+◌, ◌*◌, ◌==◌, true, false, if◌then◌else◌, List, count_by, length}
use Rattle.std.specs.Prelude.{slice_index}
use Rattle.el_base.specs.declared.line.TheConstants.{LINE_BYTES}
use Rattle.write_hold.specs.Held.{Held, entry_of, held, holds, laid, seen_at}

-- what holds of every hold
pub record IsHold (hold : Held) : Type 0 where
  -- it has no more lines than it may
  pub few : length hold.entries ≤ hold.limit
  -- and none twice
  pub once : (line : ℕ) → count_by (λ entry. entry.line == line) hold.entries ≤ 1

-- there is no room for a line: it is new, and would be one too many
pub record IsFull (hold : Held) (line : ℕ) : Type 0 where
  pub absent : holds hold.entries line ≡ false
  pub full : length hold.entries ≡ hold.limit

-- bytes were put at a place of a line: each address has what is laid over what it had
pub record IsPut (old new : Held) (line offset : ℕ) (bytes : List ℕ) : Type 0 where
  pub limit : new.limit ≡ old.limit
  pub put : (address : ℕ) → held new.entries address ≡ laid (line * LINE_BYTES + offset) bytes address
      (held old.entries address)
  pub there : holds new.entries line ≡ true
  pub others : (l : ℕ) → l ≢ line → entry_of new.entries l ≡ entry_of old.entries l
  -- one line more where it was new
  pub count : length new.entries ≡ (if holds old.entries line then length old.entries else length old.entries + 1)

-- what was held of a line was merged into its bytes, and the line is held no more
pub record IsDrained (old new : Held) (line : ℕ) (before after : List ℕ) : Type 0 where
  pub limit : new.limit ≡ old.limit
  pub merged : (place : ℕ) → place < LINE_BYTES → slice_index after place ≡ seen_at old.entries line before place
  pub gone : holds new.entries line ≡ false
  pub others : (l : ℕ) → l ≢ line → entry_of new.entries l ≡ entry_of old.entries l
  -- one line less
  pub count : length new.entries + 1 ≡ length old.entries
