-- What the bytes of a trace say.
use Rattle.std.specs.Prelude.{ℕ, zero, suc, ◌/◌, ◌%◌, ◌==◌, if◌then◌else◌, List, [], ◌∷◌, drop, map, slice_index}
use Rattle.std.specs.Prelude.{Option, Some, None}
use Rattle.byteorder.specs.Endian.{little_number}
use Rattle.chronicle.specs.Chronicle.{events}
use Rattle.el_base.specs.Freed.{freed_of}
use Rattle.el_base.specs.HartId.{hart_id}
use Rattle.el_base.specs.LineAddr.{line_addr}
use Rattle.el_base.specs.Losers.{decoded_winner, losers_of}
use Rattle.el_base.specs.NibblePairs.{nibble_in}
use Rattle.el_base.specs.declared.entries.Entry.{Entry}
use Rattle.el_base.specs.declared.events.Event.{Event}
use Rattle.el_base.specs.declared.freed.Freed.{Freed}
use Rattle.el_base.specs.declared.losers.Losers.{Losers}
use Rattle.el_base.specs.declared.outcomes.Need.TheVariants.{Read, Write}
use Rattle.el_base.specs.declared.outcomes.Outcome.{Outcome}
use Rattle.el_base.specs.declared.outcomes.Outcome.TheVariants.{Idle, Stalled, Missed, Ran, Began, Buffered, Committed}
use Rattle.el_base.specs.declared.outcomes.Outcome.TheVariants.{RolledBack, Ordered, Served}
use Rattle.el_base.specs.declared.outcomes.Outcome.TheVariants.{Blocked, Delivered, Armed, LetGo}
use Rattle.file_numbers.specs.Numbers.{number_at}
use Rattle.trace_file.specs.Codes.{cause_at, kind_at, why_at}
use Rattle.trace_file.specs.Fields.{entry_width}
use Rattle.trace_file.specs.Spelling.{outcomes}

-- ---- fields

-- losers and freed harts of the four bytes in front
unfoldable pub losers_in : List ℕ → Losers
losers_in bytes = losers_of (λ h. decoded_winner (nibble_in bytes h))

unfoldable pub freed_in : List ℕ → Freed
freed_in bytes = freed_of (nibble_in bytes)

-- ---- entries

abbrev pub event_in : ℕ → Event
event_in byte = record { kind = kind_at (byte / 16); hart = hart_id (byte % 16) }

-- the outcome of this code, whose fields are in front of these bytes
unfoldable pub outcome_in : ℕ → List ℕ → Outcome
outcome_in code bytes =
    if code == 0 then Idle
    else if code == 1 then Stalled
    else if code == 2 then Missed (line_addr (little_number 4 bytes)) Read
    else if code == 3 then Missed (line_addr (little_number 4 bytes)) Write
    else if code == 4 then Ran
    else if code == 5 then Began
    else if code == 6 then Buffered
    else if code == 7 then Committed (little_number 4 bytes)
    else if code == 8 then RolledBack (cause_at (slice_index bytes 0))
    else if code == 9 then Ordered (losers_in bytes) (freed_in (drop 4 bytes))
    else if code == 10 then Served (losers_in bytes) (freed_in (drop 4 bytes))
    else if code == 11 then Blocked (why_at (slice_index bytes 0 / 16)) (hart_id (slice_index bytes 0 % 16))
    else if code == 12 then Delivered (losers_in bytes)
    else if code == 13 then Armed
    else LetGo (slice_index bytes 0)

-- the entry that these bytes begin with
unfoldable pub entry_in : List ℕ → Entry
entry_in bytes =
    record { event = event_in (slice_index bytes 0); outcome = outcome_in (slice_index bytes 1) (drop 2 bytes) }

-- so many entries, one behind the other
abbrev pub entries_in : ℕ → ℕ → List ℕ → List Entry
entries_in harts zero bytes = []
entries_in harts (suc count) bytes = entry_in bytes ∷ entries_in harts count (drop (entry_width harts bytes) bytes)

-- ---- the file

-- the entries of a file of version 2
abbrev pub entries_at : List ℕ → List Entry
entries_at file = entries_in (slice_index file 5) (number_at file 18) (drop 22 file)

-- the events and, in version 2, their outcomes
unfoldable pub events_at : List ℕ → List Event
events_at file = if slice_index file 4 == 1 then map event_in (drop 22 file) else events (entries_at file)

unfoldable pub recorded_at : List ℕ → Option (List Outcome)
recorded_at file = if slice_index file 4 == 1 then None else Some (outcomes (entries_at file))
