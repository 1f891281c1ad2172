-- one hart's cache: a list of sets, of which a line may be in one
use Rattle.std.specs.Prelude.{ℕ, ◌%◌, Bool, false, ◌||◌, List, [], length, map, replicate, Option, None, Some, is_some}
use Rattle.std.specs.Prelude.{sum_by, count_by, slice_index_or}
use Rattle.std.specs.Prelude.{slice_set, if◌then◌else◌}
use Rattle.std.specs.List.{list_any}
use Rattle.el_base.specs.declared.outcomes.Need.{Need}
use Rattle.el_base.specs.declared.outcomes.Need.TheVariants.{Read, Write}
use Rattle.moesi.specs.declared.letter.Letter.{Letter}
use Rattle.moesi.specs.declared.letter.Letter.TheVariants.{I, M}
use Rattle.residency.specs.Residency.{Way, changed_in, dropped, evicted_in, filled_in, is_marked, room_in, touched_in}
use Rattle.residency.specs.Residency.{way_in, with_bit, with_letter}
use Rattle.residency.specs.Residency.{without_bits}

-- a cache of so many sets, all empty
abbrev pub empty_cache : ℕ → List (List Way)
empty_cache sets = replicate sets []

-- the set that a line may be in
abbrev pub set_number : List (List Way) → ℕ → ℕ
set_number cache line = line % length cache

abbrev pub set_of : List (List Way) → ℕ → List Way
set_of cache line = slice_index_or cache (set_number cache line) []

-- the cache with another set in the place of the line's
abbrev pub with_set : List (List Way) → ℕ → List Way → List (List Way)
with_set cache line set = slice_set cache (set_number cache line) set

-- the way of a line
abbrev pub way_of : List (List Way) → ℕ → Option Way
way_of cache line = way_in (set_of cache line) line

-- whether the cache has a line
abbrev pub is_resident : List (List Way) → ℕ → Bool
is_resident cache line = is_some (way_of cache line)

-- the letter of a way: I exactly where there is none
abbrev pub letter_in : Option Way → Letter
letter_in None = I
letter_in (Some way) = way.letter

abbrev pub letter_of : List (List Way) → ℕ → Letter
letter_of cache line = letter_in (way_of cache line)

-- whether a way has the bit of a need
abbrev pub bit_in : Need → Option Way → Bool
bit_in Read None = false
bit_in Write None = false
bit_in Read (Some way) = way.read
bit_in Write (Some way) = way.write

-- whether the hart's section has read a line, and whether it has written it
abbrev pub read_bit : List (List Way) → ℕ → Bool
read_bit cache line = bit_in Read (way_of cache line)

abbrev pub write_bit : List (List Way) → ℕ → Bool
write_bit cache line = bit_in Write (way_of cache line)

-- whether it has done either
abbrev pub has_bit : List (List Way) → ℕ → Bool
has_bit cache line = read_bit cache line || write_bit cache line

-- whether any line has a bit
abbrev pub has_marks : List (List Way) → Bool
has_marks cache = list_any (λ set. list_any is_marked set) cache

-- how many lines have a bit
abbrev pub marks_of : List (List Way) → ℕ
marks_of cache = sum_by (λ set. count_by is_marked set) cache

-- how many lines the hart's section has written
abbrev pub write_bits_of : List (List Way) → ℕ
write_bits_of cache = sum_by (λ set. count_by (λ way. way.write) set) cache

-- whether there is room for a line, in sets of so many ways
abbrev pub room_of : ℕ → List (List Way) → ℕ → Bool
room_of ways cache line = room_in ways (set_of cache line) line

-- the cache after a line was touched, changed its letter, got a bit, or left
abbrev pub touched : List (List Way) → ℕ → List (List Way)
touched cache line = with_set cache line (touched_in (set_of cache line) line)

abbrev pub lettered : List (List Way) → ℕ → Letter → List (List Way)
lettered cache line letter = with_set cache line (changed_in (with_letter letter) (set_of cache line) line)

abbrev pub marked : List (List Way) → ℕ → Need → List (List Way)
marked cache line need = with_set cache line (changed_in (with_bit need) (set_of cache line) line)

abbrev pub without_line : List (List Way) → ℕ → List (List Way)
without_line cache line = with_set cache line (dropped (set_of cache line) line)

-- the cache after a line came into a set of so many ways
abbrev pub filled_with : ℕ → List (List Way) → ℕ → Letter → List (List Way)
filled_with ways cache line letter =
    with_set cache line
    (filled_in ways (set_of cache line) (record { line = line; letter = letter; read = false; write = false }))

-- the line that leaves as another comes, if one does
abbrev pub evicted_by : ℕ → List (List Way) → ℕ → Option Way
evicted_by ways cache line = evicted_in ways (set_of cache line)

-- the cache without any bits
abbrev pub cleared : List (List Way) → List (List Way)
cleared cache = map (λ set. map without_bits set) cache

-- a way after its hart's section committed: a written line is modified, and no bit is left
abbrev pub committed_way : Way → Way
committed_way way = record way { letter = if way.write then M else way.letter; read = false; write = false }

abbrev pub committed : List (List Way) → List (List Way)
committed cache = map (λ set. map committed_way set) cache
