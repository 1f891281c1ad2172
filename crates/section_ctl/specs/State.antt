-- one hart's live section, its armed one, or neither, with its views and its buffered stores
use Rattle.std.specs.Prelude.{ℕ, ◌≡◌, ◌≤◌, ◌<◌, ◌+◌, ◌%◌, [], Option, None, Some, IsSome}
use Rattle.el_model.specs.State as definition
use Rattle.el_model.specs.State.{Section}
use Rattle.line_pool.specs.Pooled.{Pooled}
use Rattle.reg_mark.specs.declared.marked.Marked.{Marked}
use Rattle.rv_alu.specs.declared.view.HartStatus.TheVariants.{Running}
use Rattle.section_ctl.specs.declared.armed.Armed.{Armed}
use Rattle.section_ctl.specs.declared.armed.Reserved as kept
use Rattle.section_ctl.specs.declared.live.Live.{Live}
use Rattle.section_ctl.specs.declared.private.Private.{Private}
use Rattle.section_ctl.specs.declared.private.Private.TheVariants as privates
use Rattle.write_hold.specs.Held.{Held, held}
use Rattle.write_hold.specs.Slotted.{Slotted, lent}

-- an armed section, with the value that its LR found in its word
pub record Reserved : Type 0 where
  pub armed : definition.Armed
  pub old : ℕ

-- a section as contracts see it: at most one of the two
pub record SectionState : Type 0 where
  pub marks : Marked
  pub hold : Slotted
  pub live : Option Section
  pub armed : Option Reserved

-- what is held, with the bytes that a pool has in its slots
abbrev pub hold_in : Pooled → SectionState → Held
hold_in pool state = lent pool state.hold

-- a live section as the definition has it, and an armed one
abbrev pub section_of : Live → Section
section_of live = record { count = live.count; word = live.word; old = live.old; new = live.new }

abbrev pub armed_of : Armed → definition.Armed
armed_of armed = record { count = armed.count; word = armed.word }

abbrev pub reserved_of : kept.Reserved → Reserved
reserved_of reserved = record { armed = armed_of reserved.armed; old = reserved.old }

-- what a hart keeps private is one of them
abbrev pub live_in : Private → Option Section
live_in privates.Nothing = None
live_in (privates.Armed reserved) = None
live_in (privates.Live live) = Some (section_of live)

abbrev pub armed_in : Private → Option Reserved
armed_in privates.Nothing = None
armed_in (privates.Armed reserved) = Some (reserved_of reserved)
armed_in (privates.Live live) = None

-- what the fields show
abbrev pub shown_state : Marked → Slotted → Private → SectionState
shown_state marks hold private = record { marks = marks; hold = hold; live = live_in private; armed = armed_in private }

-- there is neither section: no checkpoint stands, and nothing is held
pub record IsIdle (marks : Marked) (hold : Slotted) : Type 0 where
  pub unmarked : marks.mark ≡ None
  pub empty : hold.entries ≡ []

-- a section is armed: a checkpoint stands, its hart runs, and nothing is held; the count has room for the SC
pub record IsArmed (marks : Marked) (hold : Slotted) (reserved : Reserved) : Type 0 where
  pub mark : IsSome marks.mark
  pub running : marks.present.status ≡ Running
  pub aligned : reserved.armed.word % 4 ≡ 0
  pub empty : hold.entries ≡ []
  pub counted : reserved.armed.count + 1 < 4294967296

-- a section is live: a checkpoint stands, its hart runs, and no byte of its lock word is held
pub record IsLive (marks : Marked) (hold : Slotted) (section : Section) : Type 0 where
  pub mark : IsSome marks.mark
  pub running : marks.present.status ≡ Running
  pub aligned : section.word % 4 ≡ 0
  pub free : (pool : Pooled) (address : ℕ) → section.word ≤ address → address < section.word + 4 →
      held (lent pool hold).entries address ≡ None

-- what the fields keep
abbrev pub SectionStands : Marked → Slotted → Private → Type 0
SectionStands marks hold privates.Nothing = IsIdle marks hold
SectionStands marks hold (privates.Armed reserved) = IsArmed marks hold (reserved_of reserved)
SectionStands marks hold (privates.Live live) = IsLive marks hold (section_of live)
