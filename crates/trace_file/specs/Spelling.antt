-- The one spelling of a trace: the concatenation of its fields.
use Rattle.std.specs.Prelude.{◌≡◌, ℕ, ◌+◌, ◌*◌, ◌<◌, ◌≤◌, List, [], ◌∷◌, ◌++◌, length, map, All, Option, None, Some}
use Rattle.std.specs.Global.{Vec}
use Rattle.std.specs.Option.{option_map}
use Rattle.byteorder.specs.Endian.{little_bytes}
use Rattle.el_base.specs.Config.{IsInRange}
use Rattle.el_base.specs.Kinds.{kind_number}
use Rattle.el_base.specs.Modes.{mode_number}
use Rattle.el_base.specs.Recordable.{IsRecordable}
use Rattle.el_base.specs.declared.entries.Entry.{Entry}
use Rattle.el_base.specs.declared.events.Event.{Event}
use Rattle.el_base.specs.declared.config.Config.{Config}
use Rattle.el_base.specs.declared.outcomes.Outcome.{Outcome}
use Rattle.trace_file.specs.Outcomes.{most_committed, outcome_spelling}

-- "ELTR"
abbrev pub magic : List ℕ
magic = 0x45 ∷ 0x4c ∷ 0x54 ∷ 0x52 ∷ []

-- the version of the format: 1 without outcomes, 2 with them
abbrev pub version_of : Option (List Outcome) → ℕ
version_of None = 1
version_of (Some outcomes) = 2

-- one byte an event
abbrev pub event_byte : Event → ℕ
event_byte event = 16 * kind_number event.kind + event.hart.number

-- an event and its outcome
abbrev pub entry_bytes : Event → Outcome → List ℕ
entry_bytes event outcome = event_byte event ∷ outcome_spelling outcome

-- events with their outcomes, one by one
abbrev pub recorded_bytes : List Event → List Outcome → List ℕ
recorded_bytes [] outcomes = []
recorded_bytes (event ∷ events) [] = []
recorded_bytes (event ∷ events) (outcome ∷ outcomes) = entry_bytes event outcome ++ recorded_bytes events outcomes

-- what stands behind the head: a byte for each event, and behind it the outcome where outcomes are recorded
abbrev pub body : List Event → Option (List Outcome) → List ℕ
body events None = map event_byte events
body events (Some outcomes) = recorded_bytes events outcomes

-- what stands before the events
abbrev pub head : ℕ → Config → ℕ → List ℕ
head version config count =
    magic
    ++ version ∷ config.harts ∷ mode_number config.mode ∷ config.sets ∷ config.ways ∷ config.lines ∷ []
    ++ little_bytes 4 config.long
    ++ little_bytes 4 config.steps
    ++ little_bytes 4 count

-- the one file of a configuration and events, with the outcomes where they are recorded
abbrev pub spelling : Config → List Event → Option (List Outcome) → List ℕ
spelling config events recorded = head (version_of recorded) config (length events) ++ body events recorded

-- the outcomes of a history
abbrev pub outcomes : List Entry → List Outcome
outcomes entries = map (λ entry. entry.outcome) entries

-- one outcome an event, where outcomes are recorded, and each of them one that a trace can record
abbrev pub AreRecorded : ℕ → List Event → Option (List Outcome) → Type 0
AreRecorded harts events None = Unit {0}
AreRecorded harts events (Some outcomes) =
    (length outcomes ≡ length events) × All (IsRecordable harts most_committed) outcomes

-- what has a spelling: a configuration in range, and no more events than its steps, all of harts below
-- its harts, with outcomes that can be recorded or with none
pub record IsTrace (config : Config) (events : List Event) (recorded : Option (List Outcome)) : Type 0 where
  pub in_range : IsInRange config
  pub few : length events ≤ config.steps
  pub harts : All (λ event. event.hart.number < config.harts) events
  pub told : AreRecorded config.harts events recorded

-- recorded outcomes as a list
abbrev pub listed : Option (Vec Outcome) → Option (List Outcome)
listed recorded = option_map (λ outcomes. outcomes.items) recorded
