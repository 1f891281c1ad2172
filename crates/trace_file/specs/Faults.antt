-- The faults of a trace: the file is read from left to right, each field is judged as soon as it is
-- whole, and the first fault is the answer.
use Rattle.std.specs.Prelude.{◌≡◌, ◌<◌, ℕ, zero, suc, ◌+◌, Bool, not, ◌==◌, nat_lt, nat_le, if◌then◌else◌, List, []}
use Rattle.std.specs.Prelude.{◌∷◌, length, take, drop, slice_index}
use Rattle.std.specs.Prelude.{Option, Some, None, position}
use Rattle.std.specs.Option.{option_map, option_or}
use Rattle.el_base.specs.Config.{allows, within}
use Rattle.el_base.specs.Firsts.{first_of, some_if}
use Rattle.el_base.specs.declared.file_fault.FileFault.{FileFault}
use Rattle.el_base.specs.declared.config.Config as settings
use Rattle.el_base.specs.declared.config.ConfigFault.TheVariants as settings_of
use Rattle.file_numbers.specs.Fields.{short_or, wrong_byte}
use Rattle.file_numbers.specs.Numbers.{number_at}
use Rattle.trace_file.specs.Codes.{mode_at}
use Rattle.trace_file.specs.declared.fault.FaultKind.{FaultKind}
use Rattle.trace_file.specs.declared.fault.FaultKind.TheVariants.{Short, Magic, Version, Config, Event, Tail}
use Rattle.trace_file.specs.FaultKinds.{fault_of}
use Rattle.trace_file.specs.Fields.{Field, entry_fields, entry_width, is_event}

-- a field that ends at this place: the file ends in it, or it has this fault, if it has one
abbrev pub field : List ℕ → ℕ → Option FileFault → Option FileFault
field = short_or (fault_of Short)

-- the fault of a field of so many bytes that is not whole in these, which stand at a place of the file
abbrev pub IsShort : List ℕ → ℕ → ℕ → FileFault → Type 0
IsShort bytes width place fault = (length bytes < width) × (fault ≡ fault_of Short (place + length bytes))

-- the byte at a place is not the one that is wanted there
abbrev pub wrong : List ℕ → ℕ → ℕ → FaultKind → Option FileFault
wrong file place wanted kind = wrong_byte (fault_of kind) file place wanted

-- a byte of the configuration, and a number of four bytes, which this test is to pass
unfoldable pub byte_fault : List ℕ → ℕ → (ℕ → Bool) → Option FileFault
byte_fault file place test =
    field file (place + 1) (some_if (not (test (slice_index file place))) (fault_of Config place))

unfoldable pub number_fault : List ℕ → ℕ → (ℕ → Bool) → Option FileFault
number_fault file place test =
    field file (place + 4) (some_if (not (test (number_at file place))) (fault_of Config place))

unfoldable pub magic_fault : List ℕ → Option FileFault
magic_fault file =
    field file 4
    (first_of
    (wrong file 0 0x45 Magic
    ∷ wrong file 1 0x4c Magic
    ∷ wrong file 2 0x54 Magic
    ∷ wrong file 3 0x52 Magic
    ∷ []))

-- 1 without outcomes, 2 with them
abbrev pub is_version : ℕ → Bool
is_version number = within 1 2 number

unfoldable pub version_fault : List ℕ → Option FileFault
version_fault file = field file 5 (some_if (not (is_version (slice_index file 4))) (fault_of Version 4))

-- whether a mode has this number, and whether there may be so many events
abbrev pub is_mode : ℕ → Bool
is_mode number = nat_le number 2

abbrev pub is_few : ℕ → ℕ → Bool
is_few steps count = nat_le count steps

-- the fields of the configuration, in their order
unfoldable pub settings_fault : List ℕ → Option FileFault
settings_fault file =
    first_of
    (byte_fault file 5 (allows settings_of.Harts)
    ∷ byte_fault file 6 is_mode
    ∷ byte_fault file 7 (allows settings_of.Sets)
    ∷ byte_fault file 8 (allows settings_of.Ways)
    ∷ byte_fault file 9 (allows settings_of.Lines)
    ∷ number_fault file 10 (allows settings_of.Long)
    ∷ number_fault file 14 (allows settings_of.Steps)
    ∷ [])

-- the fields before the events; there are no more events than steps
unfoldable pub head_fault : List ℕ → Option FileFault
head_fault file =
    first_of
    (magic_fault file
    ∷ version_fault file
    ∷ settings_fault file
    ∷ number_fault file 18 (is_few (number_at file 14))
    ∷ [])

-- ---- version 1

-- the first byte that is no event, among those of this many events that are there
unfoldable pub event_fault : ℕ → ℕ → List ℕ → Option FileFault
event_fault harts count file =
    option_map
    (λ i. fault_of Event (22 + i))
    (position (λ byte. not (is_event harts byte)) (take count (drop 22 file)))

-- the file ends before the last of this many events, or goes on behind it
unfoldable pub end_fault : ℕ → List ℕ → Option FileFault
end_fault count file =
    field file (22 + count) (some_if (nat_lt (22 + count) (length file)) (fault_of Tail (22 + count)))

unfoldable pub events_fault : ℕ → ℕ → List ℕ → Option FileFault
events_fault harts count file = first_of (event_fault harts count file ∷ end_fault count file ∷ [])

-- ---- version 2

-- a field at a place from which on the file has these bytes: the file ends in it, or the field has its fault, if it
-- has one
unfoldable pub field_fault : ℕ → List ℕ → Field → Option FileFault
field_fault place bytes one =
    if nat_lt (length bytes) one.width
    then Some (fault_of Short (place + length bytes))
    else some_if (not (one.passes bytes)) (fault_of one.kind place)

-- the first fault of fields that stand one behind the other from a place on
abbrev pub fields_fault : ℕ → List ℕ → List Field → Option FileFault
fields_fault place bytes [] = None
fields_fault place bytes (first ∷ fields) =
    option_or (field_fault place bytes first) (fields_fault (place + first.width) (drop first.width bytes) fields)

unfoldable pub entry_fault : ℕ → ℕ → List ℕ → Option FileFault
entry_fault harts place bytes = fields_fault place bytes (entry_fields harts bytes)

-- the first fault of so many entries from a place on, behind which the file ends
abbrev pub entries_fault : ℕ → ℕ → ℕ → List ℕ → Option FileFault
entries_fault harts zero place bytes = some_if (nat_lt 0 (length bytes)) (fault_of Tail place)
entries_fault harts (suc count) place bytes =
    option_or
    (entry_fault harts place bytes)
    (entries_fault harts count (place + entry_width harts bytes) (drop (entry_width harts bytes) bytes))

-- ---- the file

-- the fields behind the head
unfoldable pub body_fault : List ℕ → Option FileFault
body_fault file =
    if slice_index file 4 == 1
    then events_fault (slice_index file 5) (number_at file 18) file
    else entries_fault (slice_index file 5) (number_at file 18) 22 (drop 22 file)

-- the first fault of a file, if it has one
unfoldable pub trace_fault : List ℕ → Option FileFault
trace_fault file = first_of (head_fault file ∷ body_fault file ∷ [])

-- what the fields of the configuration say
unfoldable pub config_at : List ℕ → settings.Config
config_at file = record {
  harts = slice_index file 5;
  mode = mode_at (slice_index file 6);
  sets = slice_index file 7;
  ways = slice_index file 8;
  lines = slice_index file 9;
  long = number_at file 10;
  steps = number_at file 14;
}
