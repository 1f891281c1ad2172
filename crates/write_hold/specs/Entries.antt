-- how the fields of a hold show what it holds
use Rattle.std.specs.Prelude.{ℕ, ◌≡◌, ◌≤◌, ◌<◌, ◌==◌, List, count_by, length, map, slice_index, unwrap_or}
use Rattle.el_base.specs.declared.line.TheConstants.{LINE_BYTES}
use Rattle.line_pool.specs.Calls.{IsWritten}
use Rattle.line_pool.specs.Pooled.{Pooled, bytes_of}
use Rattle.write_hold.specs.declared.entry.Entry as code
use Rattle.write_hold.specs.Held.{laid, stored_at}
use Rattle.write_hold.specs.Slotted.{Place, Slotted, lent_entry}

-- the number of the line of an entry
abbrev pub number_of : code.Entry → ℕ
number_of entry = entry.line.number

-- an entry as contracts see it
abbrev pub seen_entry : code.Entry → Place
seen_entry entry = record { line = entry.line.number; mask = entry.mask; slot = entry.slot }

-- the hold that these fields show
abbrev pub hold_of : ℕ → ℕ → List code.Entry → Slotted
hold_of limit owner entries = record { limit = limit; owner = owner; entries = map seen_entry entries }

-- what the fields keep: there is room for as many lines as there may be, and none is there twice
pub record HoldStands (limit room : ℕ) (entries : List code.Entry) : Type 0 where
  pub few : length entries ≤ limit
  pub reserved : limit ≤ room
  pub once : (line : ℕ) → count_by (λ entry. number_of entry == line) entries ≤ 1

-- the byte of an entry over the one under it
abbrev pub byte_over : Pooled → code.Entry → List ℕ → ℕ → ℕ
byte_over pool entry under place =
    unwrap_or (stored_at (lent_entry pool (seen_entry entry)) place) (slice_index under place)

-- bytes were stored in an entry from a place on: its slot alone was written
pub record IsStored (before after : Pooled) (old new : code.Entry) (offset : ℕ) (bytes : List ℕ) : Type 0 where
  pub line : new.line ≡ old.line
  pub slot : new.slot ≡ old.slot
  pub written : IsWritten before after old.slot (bytes_of after old.slot)
  pub laid : (place : ℕ) → stored_at (lent_entry after (seen_entry new)) place
      ≡ laid offset bytes place (stored_at (lent_entry before (seen_entry old)) place)

-- a line's bytes after those of an entry were merged into them
abbrev pub IsMerged : Pooled → code.Entry → List ℕ → List ℕ → Type 0
IsMerged pool entry before after =
    (place : ℕ) → place < LINE_BYTES → slice_index after place ≡ byte_over pool entry before place
