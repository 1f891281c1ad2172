-- Stretches of a history, and their bytes.
use Rattle.std.specs.Prelude.{ℕ, List, take, drop}
use Rattle.chronicle.specs.Chronicle.{events}
use Rattle.el_base.specs.declared.entries.Entry.{Entry}
use Rattle.trace_file.specs.Spelling.{outcomes, recorded_bytes}

-- entries as bytes
abbrev pub bytes_of : List Entry → List ℕ
bytes_of entries = recorded_bytes (events entries) (outcomes entries)

-- the entries from a place on that stand before another
abbrev pub between : ℕ → ℕ → List Entry → List Entry
between from to entries = drop from (take to entries)
