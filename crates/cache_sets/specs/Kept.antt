-- how a cache's fields show its sets, and what they keep
use Rattle.std.specs.Prelude.{◌≡◌, ◌≢◌, ◌≤◌, ◌<◌, ◌%◌, ℕ, true, All, List, [], map, length, sum_by, nat_lt}
use Rattle.std.specs.Prelude.{if◌then◌else◌, slice_index_or, slice_set}
use Rattle.std.specs.Prelude.{Option, None, Some, option_map, vec_capacity}
use Rattle.std.specs.Int.{IsPowerOfTwo}
use Rattle.std.specs.Option.{option_map_or}
use Rattle.el_base.specs.declared.line.LineAddr.{LineAddr}
use Rattle.el_base.specs.declared.outcomes.Need.{Need}
use Rattle.el_base.specs.declared.outcomes.Need.TheVariants.{Read, Write}
use Rattle.line_pool.specs.declared.slot.Slot.{Slot}
use Rattle.line_pool.specs.Calls.{IsGiven, IsTaken}
use Rattle.line_pool.specs.Pooled.{Pooled, bytes_of, is_out, no_slot, out_of, quota_of, quotas_of}
use Rattle.moesi.specs.declared.letter.Letter.{Letter}
use Rattle.moesi.specs.declared.letter.Letter.TheVariants.{M}
use Rattle.cache_sets.specs.declared.evicted.Evicted.{Evicted}
use Rattle.cache_sets.specs.declared.line.Line as code
use Rattle.cache_sets.specs.declared.set.Set.{Set}
use Rattle.cache_sets.specs.declared.way.Way as known
use Rattle.cache_sets.specs.Bits.{bits_of_number, has_need, with_need}
use Rattle.residency.specs.Keyed.{found, without}
use Rattle.residency.specs.Residency.{Way, evicted_in, victim_in}
use Rattle.residency.specs.Cache.{marks_of, write_bits_of}
use Rattle.cache_sets.specs.Slotted.{Slotted}
use Rattle.residency.specs.WellFormed.{IsWellFormed}

-- the number of a line
abbrev pub number_of : code.Line → ℕ
number_of line = line.way.line.number

-- a way as the definition has it, and that of a line
abbrev pub shown_way : known.Way → Way
shown_way way =
    record {
      line = way.line.number;
      letter = way.letter;
      read = has_need Read way.bits;
      write = has_need Write way.bits;
    }

abbrev pub shown_line : code.Line → Way
shown_line line = shown_way line.way

-- a set as the definition has it, and the lines of all sets
abbrev pub shown_set : Set → List Way
shown_set set = map shown_line set.lines.items

abbrev pub lines_of : List Set → List (List code.Line)
lines_of sets = map (λ set. set.lines.items) sets

abbrev pub residency_of : List (List code.Line) → List (List Way)
residency_of cache = map (λ set. map shown_line set) cache

-- the cache as contracts see it
abbrev pub shown_cache : ℕ → ℕ → List (List code.Line) → Slotted
shown_cache ways owner cache = record {
  ways = ways;
  residency = residency_of cache;
  owner = owner;
  slots = map (λ set. map (λ line. line.slot) set) cache;
}

-- a way with another letter, with the bit of a need, without bits, and after its hart's section committed
abbrev pub lettered_way : Letter → known.Way → known.Way
lettered_way letter way = record way { letter = letter }

abbrev pub marked_way : Need → known.Way → known.Way
marked_way need way = record way { bits = with_need need way.bits }

abbrev pub cleared_way : known.Way → known.Way
cleared_way way = record way { bits = bits_of_number 0 }

abbrev pub committed_way : known.Way → known.Way
committed_way way = record way { letter = if has_need Write way.bits then M else way.letter; bits = bits_of_number 0 }

-- a line after a change of its way: its slot stays
abbrev pub with_way : (known.Way → known.Way) → code.Line → code.Line
with_way change line = record { way = change line.way; slot = line.slot }

-- the way of a line that comes
abbrev pub new_way : LineAddr → Letter → known.Way
new_way line letter = record { line = line; letter = letter; bits = bits_of_number 0 }

-- the place of the line that leaves a full set for another
abbrev pub IsVictimPlace : List code.Line → Option ℕ → Type 0
IsVictimPlace lines None = victim_in (map shown_line lines) ≡ None
IsVictimPlace lines (Some place) =
    (place < length lines)
    × ((d : code.Line) → victim_in (map shown_line lines) ≡ Some (shown_line (slice_index_or lines place d)))

-- a set has as much room as it had
abbrev pub HasRoom : Set → Set → Type 0
HasRoom old new = vec_capacity new.lines ≡ vec_capacity old.lines

-- a set of so many ways that has no lines
pub record IsEmpty (ways : ℕ) (set : Set) : Type 0 where
  pub no_lines : set.lines.items ≡ []
  pub room : ways ≤ vec_capacity set.lines

-- so many sets that have no lines
pub record AreEmpty (ways count : ℕ) (sets : List Set) : Type 0 where
  pub count_is : length sets ≡ count
  pub each : All (IsEmpty ways) sets

-- the lines that stay as one leaves, if one does
abbrev pub left_by : List code.Line → Option code.Line → List code.Line
left_by lines None = lines
left_by lines (Some gone) = without number_of lines (number_of gone)

-- a set made room for a line: which line left, if one did
pub record MakesRoom (ways : ℕ) (old new : Set) (gone : Option code.Line) : Type 0 where
  pub evicted : option_map shown_line gone ≡ evicted_in ways (shown_set old)
  pub left : new.lines.items ≡ left_by old.lines.items gone
  pub there : (line : code.Line) → gone ≡ Some line → found number_of old.lines.items (number_of line) ≡ Some line
  pub room : HasRoom old new

-- what a pool needs where a line comes: the slot of the line that left is out, and where none left there is one to take
abbrev pub MayVacate : Pooled → ℕ → Option code.Line → Type 0
MayVacate pool owner None = (owner < length (quotas_of pool)) × (out_of pool owner ≢ quota_of pool owner)
MayVacate pool owner (Some line) = is_out pool line.slot ≡ true

-- the slot for a line that comes, and what is told of the line that left for it
abbrev pub IsVacated : ℕ → Pooled → Pooled → Option code.Line → Slot → Option Evicted → Type 0
IsVacated owner old new None slot evicted = IsTaken old new owner slot × (evicted ≡ None)
IsVacated owner old new (Some line) slot evicted =
    (new ≡ old) × (slot ≡ line.slot)
    × (evicted ≡ Some (record { line = line.way.line; letter = line.way.letter; bytes = bytes_of old line.slot }))

-- the slot of a line that left was given back, if one did
abbrev pub IsGivenBack : Pooled → Pooled → Option code.Line → Type 0
IsGivenBack old new None = new ≡ old
IsGivenBack old new (Some line) = IsGiven old new line.slot

-- the lines of a line's set, and the line itself
abbrev pub set_at : List (List code.Line) → ℕ → List code.Line
set_at cache line = slice_index_or cache (line % length cache) []

abbrev pub line_at : List (List code.Line) → ℕ → Option code.Line
line_at cache line = found number_of (set_at cache line) line

-- the slot of a line that is there
abbrev pub slot_in_use : List (List code.Line) → ℕ → Slot
slot_in_use cache line = option_map_or (λ l. l.slot) (line_at cache line) no_slot

-- the sets with another one in the place of a line's
abbrev pub with_lines : List (List code.Line) → ℕ → List code.Line → List (List code.Line)
with_lines cache line set = slice_set cache (line % length cache) set

-- a set after a change of each of its ways, and all sets
pub record IsChanged (change : known.Way → known.Way) (old new : Set) : Type 0 where
  pub lines : new.lines.items ≡ map (with_way change) old.lines.items
  pub room : HasRoom old new

pub record AreChanged (change : known.Way → known.Way) (old new : List Set) : Type 0 where
  pub count : length new ≡ length old
  pub each : (k : ℕ) (d : Set) → k < length old → IsChanged change (slice_index_or old k d) (slice_index_or new k d)

-- a sum over all lines of a cache
abbrev pub total : (code.Line → ℕ) → List (List code.Line) → ℕ
total f cache = sum_by (λ set. sum_by f set) cache

-- what holds of the lines of a cache, and of the counts of those with bits and of the written ones
pub record IsSound (ways : ℕ) (cache : List (List code.Line)) (marks writes : ℕ) : Type 0 where
  pub some_way : 1 ≤ ways
  pub ways_fit : ways ≤ 8
  pub sets_fit : length cache ≤ 64
  pub well_formed : IsWellFormed ways (residency_of cache)
  -- no line has bits that have no name
  pub named : total (λ line. if nat_lt 3 line.way.bits.0 then 1 else 0) cache ≡ 0
  pub marked : marks ≡ marks_of (residency_of cache)
  pub written : writes ≡ write_bits_of (residency_of cache)

-- each set has room for as many lines as it has ways
abbrev pub HaveRoom : ℕ → List Set → Type 0
HaveRoom ways sets = (k : ℕ) (d : Set) → k < length sets → ways ≤ vec_capacity (slice_index_or sets k d).lines

-- what the fields of a cache keep
pub record CacheStands (ways : ℕ) (sets : List Set) (marks writes : ℕ) : Type 0 where
  pub binary : IsPowerOfTwo (length sets)
  pub sound : IsSound ways (lines_of sets) marks writes
  pub room : HaveRoom ways sets
