-- a hold: lines, each with the bytes that were stored in it
use Rattle.std.specs.Prelude.{ℕ, ◌+◌, ◌-◌, ◌%◌, Bool, ◌==◌, ◌&&◌, ◌||◌, nat_le, nat_lt, if◌then◌else◌, List, find}
use Rattle.std.specs.Prelude.{length, slice_index, Option, None}
use Rattle.std.specs.Prelude.{Some, is_some, option_and_then, unwrap_or}
use Rattle.std.specs.Int.{bit_at}
use Rattle.el_base.specs.Line.{line_number}
use Rattle.el_base.specs.declared.line.TheConstants.{LINE_BYTES}

-- a line that is held: a byte was stored at each place whose bit is set in the mask
pub record Entry : Type 0 where
  pub line : ℕ
  pub mask : ℕ
  pub bytes : List ℕ

-- a hold as contracts see it: how many lines it may hold, and those that it holds
pub record Held : Type 0 where
  pub limit : ℕ
  pub entries : List Entry

-- the byte that was stored at a place of a line, if one was
abbrev pub stored_at : Entry → ℕ → Option ℕ
stored_at entry place = if bit_at entry.mask place == 1 then Some (slice_index entry.bytes place) else None

-- what is held of a line, if it is held
abbrev pub entry_of : List Entry → ℕ → Option Entry
entry_of entries line = find (λ entry. entry.line == line) entries

-- whether a line is held
abbrev pub holds : List Entry → ℕ → Bool
holds entries line = is_some (entry_of entries line)

-- the held byte at a place of a line, and at an address
abbrev pub held_at : List Entry → ℕ → ℕ → Option ℕ
held_at entries line place = option_and_then (λ entry. stored_at entry place) (entry_of entries line)

abbrev pub held : List Entry → ℕ → Option ℕ
held entries address = held_at entries (line_number address) (address % LINE_BYTES)

-- what an address has after these bytes were laid from another on, over what it had
abbrev pub laid : ℕ → List ℕ → ℕ → Option ℕ → Option ℕ
laid start bytes address under =
    if nat_le start address && nat_lt address (start + length bytes)
    then Some (slice_index bytes (address - start)) else under

-- the byte at a place of a line as its hart sees it: the held one, else the one under it
abbrev pub seen_at : List Entry → ℕ → List ℕ → ℕ → ℕ
seen_at entries line under place = unwrap_or (held_at entries line place) (slice_index under place)

-- whether bytes of a line may be put: it is held, or there may be one line more
abbrev pub has_room_for : Held → ℕ → Bool
has_room_for hold line = holds hold.entries line || nat_lt (length hold.entries) hold.limit
