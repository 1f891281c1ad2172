-- Files in memory, by name.
use Rattle.std.specs.Prelude.{ℕ, List, [], String, string_bytes, Option, Some, if◌then◌else◌}
use Rattle.std.specs.Global.{Global, Vec}
use Rattle.std.specs.List.{zip}
use Rattle.std.specs.Option.{option_map, unwrap_or}
use Rattle.std.specs.Str.{bytes_eq}
use Rattle.std.specs.Map.{lookup}
use Rattle.std.specs.BTreeMap.{BTreeMap, get_by_text}
use Rattle.el_io.specs.Shelf.{Contents}

-- files by their names
abbrev pub Files : Type 0
Files = BTreeMap (String Global) (Vec ℕ)

-- the bytes of the file of this name, if there is one
abbrev pub file_of : Files → List ℕ → Option (List ℕ)
file_of files name = option_map (λ file. file.items) (get_by_text files name)

-- the bytes of each name; a name without a file has none
abbrev pub contents_of : Files → Contents
contents_of files name = unwrap_or (file_of files name) []

-- the contents at the first place that has this name, if one has
abbrev pub file_given : List (String Global) → List (Vec ℕ) → List ℕ → Option (List ℕ)
file_given names contents name =
    option_map (λ file. file.items) (lookup (λ listed. bytes_eq (string_bytes listed) name) (zip names contents))

-- the file of this name after these bytes were written under another name or the same
abbrev pub file_after : Files → List ℕ → List ℕ → List ℕ → Option (List ℕ)
file_after files written bytes name = if bytes_eq written name then Some bytes else file_of files name
