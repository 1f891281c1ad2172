-- The entries of a symbol table.
use Rattle.std.specs.Prelude.{ℕ, ◌+◌, ◌*◌, ◌%◌, ◌==◌, ◌&&◌, Bool, not, nat_lt, nat_le, if◌then◌else◌, List, length}
use Rattle.std.specs.Prelude.{take, drop}
use Rattle.std.specs.Prelude.{Option, Some, None}
use Rattle.std.specs.List.{take_while}
use Rattle.std.specs.Char.{is_ascii_graphic}
use Rattle.elf_symbols.specs.declared.entries.Symbol.{Symbol}
use Rattle.elf_symbols.specs.declared.location.Place.{Place}
use Rattle.elf_symbols.specs.Fields.{byte_at, half_at, word_at}

-- how many printable characters stand at a place of the file, 255 at most
abbrev pub name_len : List ℕ → ℕ → ℕ
name_len file place = length (take_while is_ascii_graphic (take 255 (drop place file)))

-- an entry is of none, data or code, in a section of the file
abbrev pub is_placed : List ℕ → ℕ → Bool
is_placed file entry =
    nat_le (byte_at file (entry + 12) % 16) 2 && not (half_at file (entry + 14) == 0)
    && nat_lt (half_at file (entry + 14)) 0xff00

-- a name stands at a place of the file: printable characters, the first of them no '$', and a zero
abbrev pub is_name : List ℕ → ℕ → Bool
is_name file place =
    nat_le 1 (name_len file place) && not (byte_at file place == 0x24)
    && (byte_at file (place + name_len file place) == 0)

-- the entry of a number, where it names a place
unfoldable pub symbol_at : List ℕ → Place → ℕ → Option Symbol
symbol_at file place index =
    let entry = place.entries + 16 * index in
    let st_name = word_at file entry in
    if nat_lt st_name place.names_len && is_name file (place.names + st_name) && is_placed file entry
    then Some
    (record {
      value = word_at file (entry + 4);
      name_at = st_name;
      name_len = name_len file (place.names + st_name);
    })
    else None
