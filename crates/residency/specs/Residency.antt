-- one set of a cache: its lines, most recent first
use Rattle.std.specs.Prelude.{ℕ, Bool, true, false, ◌||◌, List, [], ◌∷◌, length, ◌==◌, nat_lt, Option, None, Some}
use Rattle.std.specs.Prelude.{is_some, if◌then◌else◌}
use Rattle.std.specs.Option.{option_or}
use Rattle.el_base.specs.declared.outcomes.Need.{Need}
use Rattle.el_base.specs.declared.outcomes.Need.TheVariants.{Read, Write}
use Rattle.moesi.specs.declared.letter.Letter.{Letter}

-- a line in a cache, with what the hart's section has done to it
pub record Way : Type 0 where
  pub line : ℕ
  pub letter : Letter
  pub read : Bool
  pub write : Bool

-- whether the hart's section has touched the line
abbrev pub is_marked : Way → Bool
is_marked way = way.read || way.write

-- the way of a line
abbrev pub way_in : List Way → ℕ → Option Way
way_in [] line = None
way_in (way ∷ ways) line = if way.line == line then Some way else way_in ways line

-- the set without a line
abbrev pub dropped : List Way → ℕ → List Way
dropped [] line = []
dropped (way ∷ ways) line = if way.line == line then dropped ways line else way ∷ dropped ways line

-- the set after the way of a line came to the front, if there is one
abbrev pub to_front : List Way → ℕ → Option Way → List Way
to_front ways line None = ways
to_front ways line (Some way) = way ∷ dropped ways line

-- the set after a line was touched: it is the most recent one
abbrev pub touched_in : List Way → ℕ → List Way
touched_in ways line = to_front ways line (way_in ways line)

-- a way with another letter
abbrev pub with_letter : Letter → Way → Way
with_letter letter way = record way { letter = letter }

-- a way with the bit of a need
abbrev pub with_bit : Need → Way → Way
with_bit Read way = record way { read = true }
with_bit Write way = record way { write = true }

-- a way without bits
abbrev pub without_bits : Way → Way
without_bits way = record way { read = false; write = false }

-- the set after the way of a line changed
abbrev pub changed_in : (Way → Way) → List Way → ℕ → List Way
changed_in change [] line = []
changed_in change (way ∷ ways) line =
    if way.line == line then change way ∷ changed_in change ways line else way ∷ changed_in change ways line

-- whether some line has no bit
abbrev pub has_unmarked : List Way → Bool
has_unmarked [] = false
has_unmarked (way ∷ ways) = if is_marked way then has_unmarked ways else true

-- the line that leaves a full set for another: the least recent one without bits
abbrev pub victim_in : List Way → Option Way
victim_in [] = None
victim_in (way ∷ ways) = option_or (victim_in ways) (if is_marked way then None else Some way)

-- whether a set of so many ways has room for a line
abbrev pub room_in : ℕ → List Way → ℕ → Bool
room_in ways set line = is_some (way_in set line) || nat_lt (length set) ways || has_unmarked set

-- what leaves a set of so many ways as a new line comes: nothing where it has fewer lines
abbrev pub evicted_in : ℕ → List Way → Option Way
evicted_in ways set = if nat_lt (length set) ways then None else victim_in set

-- the set without what leaves it
abbrev pub left_in : List Way → Option Way → List Way
left_in set None = set
left_in set (Some way) = dropped set way.line

-- the set after a new line came to its front
abbrev pub filled_in : ℕ → List Way → Way → List Way
filled_in ways set way = way ∷ left_in set (evicted_in ways set)
