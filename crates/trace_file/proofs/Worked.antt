-- The grammar at a file of two events, at the same file with one byte changed, cut or added, and at a run of 37 events
-- with their outcomes.
use Rattle.std.proofs.Common.{◌≡◌, ℕ, List, [], ◌∷◌, ◌++◌, set, take, length, Option, Some, None, refl, lit<}
use Rattle.std.specs.Prelude.{map}
use Rattle.std.specs.List.{flat_map, range_with_len}
use Rattle.el_base.specs.LineAddr.{line_addr}
use Rattle.el_base.specs.Freed.{no_one_freed}
use Rattle.el_base.specs.Losers.{losers_of}
use Rattle.el_base.specs.declared.events.Event.{Event}
use Rattle.el_base.specs.declared.events.Kind.{Kind}
use Rattle.el_base.specs.declared.events.Kind.TheVariants.{Step, Order, Serve, Deliver}
use Rattle.el_base.specs.declared.config.Config.{Config}
use Rattle.el_base.specs.declared.config.Mode.TheVariants.{Plain, Tlr}
use Rattle.el_base.specs.declared.file_fault.FileFault.{FileFault}
use Rattle.el_base.specs.declared.outcomes.Need.TheVariants.{Read}
use Rattle.el_base.specs.declared.outcomes.Outcome.{Outcome}
use Rattle.el_base.specs.declared.outcomes.Outcome.TheVariants.{Idle, Ran, Missed, Ordered, Served}
use Rattle.trace_file.specs.Spelling.{spelling}
use Rattle.file_numbers.specs.Fields.{short_or}
use Rattle.trace_file.specs.Faults.{byte_fault, magic_fault, version_fault, settings_fault, number_fault}
use Rattle.trace_file.specs.Faults.{head_fault, event_fault, end_fault}
use Rattle.trace_file.specs.Faults.{events_fault, field_fault, entry_fault, body_fault, trace_fault}
use Rattle.trace_file.specs.Fields.{are_nibbles, entry_width}

abbrev config : Config
config = record { harts = 1; mode = Tlr; sets = 16; ways = 4; lines = 16; long = 2000; steps = 4000000 }

abbrev of_hart_0 : Kind → Event
of_hart_0 kind = record { kind = kind; hart = record { number = 0; small = lit< tt } }

abbrev bad : ℕ → ℕ → Option FileFault
bad number place = Some (record { number = number; place = place })

-- ---- version 1

abbrev file : List ℕ
file =
    0x45 ∷ 0x4c ∷ 0x54 ∷ 0x52 ∷ 0x01 ∷ 0x01 ∷ 0x02 ∷ 0x10 ∷ 0x04 ∷ 0x10
    ∷ 0xd0 ∷ 0x07 ∷ 0x00 ∷ 0x00
    ∷ 0x00 ∷ 0x09 ∷ 0x3d ∷ 0x00
    ∷ 0x02 ∷ 0x00 ∷ 0x00 ∷ 0x00
    ∷ 0x00 ∷ 0x10 ∷ []

spelled : spelling config (of_hart_0 Step ∷ of_hart_0 Order ∷ []) None ≡ file
spelled = refl

spelled_in_plain_mode : spelling (record config { mode = Plain }) (of_hart_0 Step ∷ of_hart_0 Order ∷ [])
    None ≡ set file 6 0
spelled_in_plain_mode = refl

faultless : trace_fault file ≡ None
unfolding short_or magic_fault byte_fault version_fault settings_fault number_fault head_fault event_fault end_fault
    events_fault field_fault entry_width entry_fault body_fault trace_fault
faultless = refl

short_in_magic : trace_fault (take 3 file) ≡ bad 1 3
unfolding short_or magic_fault byte_fault version_fault settings_fault number_fault head_fault event_fault end_fault
    events_fault field_fault entry_width entry_fault body_fault trace_fault
short_in_magic = refl

short_of_an_event : trace_fault (take 23 file) ≡ bad 1 23
unfolding short_or magic_fault byte_fault version_fault settings_fault number_fault head_fault event_fault end_fault
    events_fault field_fault entry_width entry_fault body_fault trace_fault
short_of_an_event = refl

one_byte_more : trace_fault (file ++ 0 ∷ []) ≡ bad 6 24
unfolding short_or magic_fault byte_fault version_fault settings_fault number_fault head_fault event_fault end_fault
    events_fault field_fault entry_width entry_fault body_fault trace_fault
one_byte_more = refl

wrong_letter : trace_fault (set file 3 0x53) ≡ bad 2 3
unfolding short_or magic_fault byte_fault version_fault settings_fault number_fault head_fault event_fault end_fault
    events_fault field_fault entry_width entry_fault body_fault trace_fault
wrong_letter = refl

no_such_version : trace_fault (set file 4 3) ≡ bad 3 4
unfolding short_or magic_fault byte_fault version_fault settings_fault number_fault head_fault event_fault end_fault
    events_fault field_fault entry_width entry_fault body_fault trace_fault
no_such_version = refl

no_harts : trace_fault (set (set file 7 3) 5 0) ≡ bad 4 5
unfolding short_or magic_fault byte_fault version_fault settings_fault number_fault head_fault event_fault end_fault
    events_fault field_fault entry_width entry_fault body_fault trace_fault
no_harts = refl

no_such_mode : trace_fault (set file 6 3) ≡ bad 4 6
unfolding short_or magic_fault byte_fault version_fault settings_fault number_fault head_fault event_fault end_fault
    events_fault field_fault entry_width entry_fault body_fault trace_fault
no_such_mode = refl

more_events_than_steps : trace_fault (set (set (set file 14 1) 15 0) 16 0) ≡ bad 4 18
unfolding short_or magic_fault byte_fault version_fault settings_fault number_fault head_fault event_fault end_fault
    events_fault field_fault entry_width entry_fault body_fault trace_fault
more_events_than_steps = refl

no_such_hart : trace_fault (set file 22 0x08) ≡ bad 5 22
unfolding short_or magic_fault byte_fault version_fault settings_fault number_fault head_fault event_fault end_fault
    events_fault field_fault entry_width entry_fault body_fault trace_fault
no_such_hart = refl

-- ---- version 2

-- a round of the four kinds in which an instruction runs
abbrev round_that_runs : List ℕ
round_that_runs = 0x00 ∷ 0x04 ∷ 0x10 ∷ 0x00 ∷ 0x20 ∷ 0x00 ∷ 0x30 ∷ 0x00 ∷ []

abbrev rounds : ℕ → List ℕ
rounds count = flat_map (λ i. round_that_runs) (range_with_len 0 count)

abbrev recorded_file : List ℕ
recorded_file =
    (0x45 ∷ 0x4c ∷ 0x54 ∷ 0x52 ∷ 0x02 ∷ 0x01 ∷ 0x02 ∷ 0x10 ∷ 0x04 ∷ 0x10
    ∷ 0xd0 ∷ 0x07 ∷ 0x00 ∷ 0x00
    ∷ 0x00 ∷ 0x09 ∷ 0x3d ∷ 0x00
    ∷ 0x25 ∷ 0x00 ∷ 0x00 ∷ 0x00 ∷ [])
    ++ (rounds 5
    ++ ((0x00 ∷ 0x02 ∷ 0x01 ∷ 0x04 ∷ 0x00 ∷ 0x00
    ∷ 0x10 ∷ 0x09 ∷ 0x00 ∷ 0x00 ∷ 0x00 ∷ 0x00 ∷ 0x00 ∷ 0x00 ∷ 0x00 ∷ 0x00
    ∷ 0x20 ∷ 0x0a ∷ 0x00 ∷ 0x00 ∷ 0x00 ∷ 0x00 ∷ 0x00 ∷ 0x00 ∷ 0x00 ∷ 0x00
    ∷ 0x30 ∷ 0x00 ∷ [])
    ++ (rounds 3
    ++ (0x00 ∷ 0x04 ∷ []))))

abbrev running : ℕ → List Outcome
running count = flat_map (λ i. Ran ∷ Idle ∷ Idle ∷ Idle ∷ []) (range_with_len 0 count)

abbrev made : List Outcome
made =
    running 5
    ++ ((Missed (line_addr 1025) Read
    ∷ Ordered (losers_of (λ h. None)) no_one_freed
    ∷ Served (losers_of (λ h. None)) no_one_freed
    ∷ Idle ∷ [])
    ++ (running 3 ++ (Ran ∷ [])))

abbrev kinds : List Kind
kinds = flat_map (λ i. Step ∷ Order ∷ Serve ∷ Deliver ∷ []) (range_with_len 0 9) ++ (Step ∷ [])

of_116_bytes : length recorded_file ≡ 116
of_116_bytes = refl

recorded_spelled : spelling config (map of_hart_0 kinds) (Some made) ≡ recorded_file
recorded_spelled = refl

recorded_faultless : trace_fault recorded_file ≡ None
unfolding short_or magic_fault byte_fault version_fault settings_fault number_fault head_fault event_fault end_fault
    events_fault are_nibbles field_fault entry_width entry_fault body_fault trace_fault
recorded_faultless = refl

cut_behind_the_head : trace_fault (take 22 recorded_file) ≡ bad 1 22
unfolding short_or magic_fault byte_fault version_fault settings_fault number_fault head_fault event_fault end_fault
    events_fault are_nibbles field_fault entry_width entry_fault body_fault trace_fault
cut_behind_the_head = refl

cut_before_an_outcome : trace_fault (take 23 recorded_file) ≡ bad 1 23
unfolding short_or magic_fault byte_fault version_fault settings_fault number_fault head_fault event_fault end_fault
    events_fault are_nibbles field_fault entry_width entry_fault body_fault trace_fault
cut_before_an_outcome = refl

cut_in_a_line : trace_fault (take 66 recorded_file) ≡ bad 1 66
unfolding short_or magic_fault byte_fault version_fault settings_fault number_fault head_fault event_fault end_fault
    events_fault are_nibbles field_fault entry_width entry_fault body_fault trace_fault
cut_in_a_line = refl

cut_in_the_last_entry : trace_fault (take 115 recorded_file) ≡ bad 1 115
unfolding short_or magic_fault byte_fault version_fault settings_fault number_fault head_fault event_fault end_fault
    events_fault are_nibbles field_fault entry_width entry_fault body_fault trace_fault
cut_in_the_last_entry = refl

one_byte_behind_the_entries : trace_fault (recorded_file ++ 0 ∷ []) ≡ bad 6 116
unfolding short_or magic_fault byte_fault version_fault settings_fault number_fault head_fault event_fault end_fault
    events_fault are_nibbles field_fault entry_width entry_fault body_fault trace_fault
one_byte_behind_the_entries = refl

hart_of_an_entry : trace_fault (set recorded_file 22 0x08) ≡ bad 5 22
unfolding short_or magic_fault byte_fault version_fault settings_fault number_fault head_fault event_fault end_fault
    events_fault are_nibbles field_fault entry_width entry_fault body_fault trace_fault
hart_of_an_entry = refl

no_harts_with_outcomes : trace_fault (set recorded_file 5 0) ≡ bad 4 5
unfolding short_or magic_fault byte_fault version_fault settings_fault number_fault head_fault event_fault end_fault
    events_fault are_nibbles field_fault entry_width entry_fault body_fault trace_fault
no_harts_with_outcomes = refl

code_15 : trace_fault (set recorded_file 23 0x0f) ≡ bad 7 23
unfolding short_or magic_fault byte_fault version_fault settings_fault number_fault head_fault event_fault end_fault
    events_fault are_nibbles field_fault entry_width entry_fault body_fault trace_fault
code_15 = refl

line_too_high : trace_fault (set recorded_file 67 0x04) ≡ bad 7 64
unfolding short_or magic_fault byte_fault version_fault settings_fault number_fault head_fault event_fault end_fault
    events_fault are_nibbles field_fault entry_width entry_fault body_fault trace_fault
line_too_high = refl

loser_that_is_no_hart : trace_fault (set recorded_file 70 0x10) ≡ bad 7 70
unfolding short_or magic_fault byte_fault version_fault settings_fault number_fault head_fault event_fault end_fault
    events_fault are_nibbles field_fault entry_width entry_fault body_fault trace_fault
loser_that_is_no_hart = refl

freed_that_is_no_hart : trace_fault (set recorded_file 77 0x01) ≡ bad 7 74
unfolding short_or magic_fault byte_fault version_fault settings_fault number_fault head_fault event_fault end_fault
    events_fault are_nibbles field_fault entry_width entry_fault body_fault trace_fault
freed_that_is_no_hart = refl
