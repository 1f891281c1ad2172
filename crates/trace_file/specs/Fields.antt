-- The fields of an entry of version 2: how many bytes each has, and which bytes pass.
use Rattle.std.specs.Prelude.{ℕ, zero, suc, ◌+◌, ◌/◌, ◌%◌, Bool, true, ◌&&◌, ◌||◌, ◌==◌, nat_le, nat_lt, if◌then◌else◌}
use Rattle.std.specs.Prelude.{List, [], ◌∷◌, slice_index}
use Rattle.byteorder.specs.Endian.{little_number}
use Rattle.el_base.specs.Config.{within}
use Rattle.el_base.specs.NibblePairs.{nibble_in}
use Rattle.el_base.specs.Recordable.{most_let_go}
use Rattle.el_base.specs.declared.hart_id.TheConstants.{MAX_HARTS}
use Rattle.trace_file.specs.Outcomes.{most_committed}
use Rattle.trace_file.specs.declared.fault.FaultKind.{FaultKind}
use Rattle.trace_file.specs.declared.fault.FaultKind.TheVariants as kinds

-- a field: its fault where it does not pass, its bytes, and whether the bytes from its
-- place on begin with ones that pass
pub record Field : Type 0 where
  pub kind : FaultKind
  pub width : ℕ
  pub passes : List ℕ → Bool

-- the byte of an event: a kind of 0 to 3 above a hart below this many
abbrev pub is_event : ℕ → ℕ → Bool
is_event harts byte = nat_le (byte / 16) 3 && nat_lt (byte % 16) harts

-- why a request was not served, 0 to 2, above a hart below this many
abbrev pub is_blocking : ℕ → ℕ → Bool
is_blocking harts byte = nat_le (byte / 16) 2 && nat_lt (byte % 16) harts

-- whether each number below this one passes
abbrev pub all_below : ℕ → (ℕ → Bool) → Bool
all_below zero test = true
all_below (suc n) test = all_below n test && test n

-- four bits a hart: no more than this for each of so many harts, and 0 for the others
abbrev pub most_for : ℕ → ℕ → ℕ → ℕ
most_for harts most h = if nat_lt h harts then most else 0

abbrev pub is_nibble : ℕ → ℕ → List ℕ → ℕ → Bool
is_nibble harts most bytes h = nat_le (nibble_in bytes h) (most_for harts most h)

unfoldable pub are_nibbles : ℕ → ℕ → List ℕ → Bool
are_nibbles harts most bytes = all_below MAX_HARTS (is_nibble harts most bytes)

-- one byte of an outcome, and four bytes as a number, the lowest first
abbrev pub byte_field : (ℕ → Bool) → Field
byte_field test = record { kind = kinds.Outcome; width = 1; passes = λ bytes. test (slice_index bytes 0) }

abbrev pub number_field : (ℕ → Bool) → Field
number_field test = record { kind = kinds.Outcome; width = 4; passes = λ bytes. test (little_number 4 bytes) }

abbrev pub event_field : ℕ → Field
event_field harts = record { kind = kinds.Event; width = 1; passes = λ bytes. is_event harts (slice_index bytes 0) }

-- the last code, the highest number of a line, and the last cause
abbrev pub is_code : ℕ → Bool
is_code code = nat_le code 14

abbrev pub is_line : ℕ → Bool
is_line number = nat_le number 67108863

abbrev pub is_cause : ℕ → Bool
is_cause number = nat_le number 4

-- a winner is told by one more than its number, and so is at most the number of harts
abbrev pub losers_field : ℕ → Field
losers_field harts = record { kind = kinds.Outcome; width = 4; passes = are_nibbles harts harts }

abbrev pub freed_field : ℕ → Field
freed_field harts = record { kind = kinds.Outcome; width = 4; passes = are_nibbles harts 15 }

-- the fields behind a code
abbrev pub fields_of : ℕ → ℕ → List Field
fields_of harts code =
    if code == 2 || code == 3 then number_field is_line ∷ []
    else if code == 7 then number_field (within 1 most_committed) ∷ []
    else if code == 8 then byte_field is_cause ∷ []
    else if code == 9 || code == 10 then losers_field harts ∷ freed_field harts ∷ []
    else if code == 11 then byte_field (is_blocking harts) ∷ []
    else if code == 12 then losers_field harts ∷ []
    else if code == 14 then byte_field (within 1 most_let_go) ∷ []
    else []

-- how many bytes fields have
abbrev pub widths : List Field → ℕ
widths [] = 0
widths (first ∷ fields) = first.width + widths fields

-- the fields of an entry that begins with these bytes: the event, the code, and the fields behind that
abbrev pub entry_fields : ℕ → List ℕ → List Field
entry_fields harts bytes = event_field harts ∷ byte_field is_code ∷ fields_of harts (slice_index bytes 1)

unfoldable pub entry_width : ℕ → List ℕ → ℕ
entry_width harts bytes = widths (entry_fields harts bytes)
