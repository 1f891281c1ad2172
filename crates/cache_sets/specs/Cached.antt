-- one hart's cache with the bytes of its lines
use Rattle.std.specs.Prelude.{ℕ, ◌==◌, ◌%◌, if◌then◌else◌, List, [], ◌∷◌, Option, option_map, replicate, slice_index}
use Rattle.std.specs.Prelude.{slice_index_or, slice_set}
use Rattle.el_base.specs.Line.{line_number}
use Rattle.el_base.specs.declared.line.TheConstants.{LINE_BYTES}
use Rattle.moesi.specs.declared.letter.Letter.{Letter}
use Rattle.residency.specs.Residency.{Way}
use Rattle.residency.specs.Cache.{empty_cache, set_number, set_of, way_of}

-- a cache as contracts see it
pub record Cached : Type 0 where
  -- how many ways a set has
  pub ways : ℕ
  -- the lines of each set, most recent first
  pub residency : List (List Way)
  -- the bytes of each line, in the same order
  pub bytes : List (List (List ℕ))

-- the bytes of a line of a set, of which the bytes are given in the order of its lines
abbrev pub bytes_in : List Way → List (List ℕ) → ℕ → List ℕ
bytes_in [] rows line = []
bytes_in (way ∷ ways) [] line = []
bytes_in (way ∷ ways) (bytes ∷ rows) line = if way.line == line then bytes else bytes_in ways rows line

-- these bytes after the line got other ones
abbrev pub put_in : List Way → List (List ℕ) → ℕ → List ℕ → List (List ℕ)
put_in [] rows line new = rows
put_in (way ∷ ways) [] line new = []
put_in (way ∷ ways) (bytes ∷ rows) line new = (if way.line == line then new else bytes) ∷ put_in ways rows line new

-- the bytes of a line, and no bytes of a line that is not there
abbrev pub bytes_of : Cached → ℕ → List ℕ
bytes_of cached line =
    bytes_in (set_of cached.residency line) (slice_index_or cached.bytes (set_number cached.residency line) []) line

-- the byte at an address, in a cache that has its line
abbrev pub cached_byte : Cached → ℕ → ℕ
cached_byte cached address = slice_index (bytes_of cached (line_number address)) (address % LINE_BYTES)

-- a copy of a line: what the cache knows of it, and its bytes
pub record Copy : Type 0 where
  pub letter : Letter
  pub bytes : List ℕ

-- the copy of a line, if the cache has one
abbrev pub copy_in : Cached → ℕ → Option Copy
copy_in cached line =
    option_map (λ way. record { letter = way.letter; bytes = bytes_of cached line }) (way_of cached.residency line)

-- a copy with another letter, and with other bytes
abbrev pub copy_with_letter : Letter → Copy → Copy
copy_with_letter letter copy = record copy { letter = letter }

abbrev pub copy_with_bytes : List ℕ → Copy → Copy
copy_with_bytes bytes copy = record copy { bytes = bytes }

-- a cache of so many sets of so many ways, without lines
abbrev pub empty_cached : ℕ → ℕ → Cached
empty_cached ways sets = record { ways = ways; residency = empty_cache sets; bytes = replicate sets [] }

-- a cache after a line got these bytes; the rest is as it was
abbrev pub with_bytes : Cached → ℕ → List ℕ → Cached
with_bytes cached line new =
    let rows = slice_index_or cached.bytes (set_number cached.residency line) [] in
    record cached {
      bytes =
          slice_set cached.bytes (set_number cached.residency line)
          (put_in (set_of cached.residency line) rows line new);
    }
