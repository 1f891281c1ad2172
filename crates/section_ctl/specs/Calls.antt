-- what each call of a section makes of it, and of its hart's cache
use Rattle.std.specs.Prelude.{ℕ, ◌≡◌, ◌+◌, ◌<◌, Bool, true, false, if◌then◌else◌, List, [], length, slice_index, Option}
use Rattle.std.specs.Prelude.{None, Some, option_map}
use Rattle.residency.specs.Cache.{committed, write_bit}
use Rattle.cache_sets.specs.Cached.{Cached, Copy, bytes_of, cached_byte, copy_in}
use Rattle.core_step.specs.Run.{IsAligned}
use Rattle.el_base.specs.declared.line.TheConstants.{LINE_BYTES}
use Rattle.el_model.specs.InSection.{covered}
use Rattle.el_model.specs.State.{Section}
use Rattle.el_model.specs.Upcoming.{Touch, overlaps, touch_of}
use Rattle.line_pool.specs.Pooled.{Pooled}
use Rattle.moesi.specs.declared.letter.Letter.TheVariants.{M}
use Rattle.reg_mark.specs.Marks.{back_of, kept_of, unmarked}
use Rattle.section_view.specs.PrivateRun.{HasItsBit}
use Rattle.rv_alu.specs.Execution.{Execution, perform, put_of, release_of, store_in, view_after}
use Rattle.rv_alu.specs.Footprint.{footprint}
use Rattle.rv_alu.specs.declared.action.Action.{Action}
use Rattle.rv_alu.specs.declared.action.Action.TheVariants as actions
use Rattle.rv_alu.specs.declared.view.HartView.{HartView}
use Rattle.rv_word.specs.declared.insn.Insn.{Insn}
use Rattle.section_ctl.specs.State.{Reserved, SectionState, hold_in}
use Rattle.section_view.specs.ArmedLaws.{elided, reserved_view}
use Rattle.section_view.specs.KeptRun.{is_written, section_byte}
use Rattle.section_view.specs.Release.{released_view}
use Rattle.section_view.specs.Laws.{HoldsAfter, IsHeldStore}
use Rattle.write_hold.specs.Held.{Entry, Held, holds, seen_at}
use Rattle.write_hold.specs.Slotted.{Slotted}

-- the low bytes of a value were stored into a hold
abbrev pub IsPutInto : Held → Held → ℕ → ℕ → ℕ → Type 0
IsPutInto old new address len value = IsHeldStore (record { address = address; len = len; value = value }) old new

-- there is no section, and the hart has this view
abbrev pub idle_state : HartView → Slotted → SectionState
idle_state view hold = record { marks = unmarked view; hold = hold; live = None; armed = None }

-- a section has begun: its acquire has put the old value into a register, and is the first of its instructions
abbrev pub begun_state : SectionState → ℕ → ℕ → ℕ → ℕ → SectionState
begun_state state word old new rd = record {
  marks = record { present = release_of (put_of state.marks.present rd old); mark = Some state.marks.present };
  hold = state.hold;
  live = Some (record { count = 1; word = word; old = old; new = new });
  armed = None;
}

-- a section has armed: its LR has put the value that it found into a register, reserves its word, and
-- is the first of its instructions
abbrev pub armed_state : SectionState → ℕ → ℕ → ℕ → SectionState
armed_state state word old rd = record {
  marks = record { present = reserved_view state.marks.present rd word old; mark = Some state.marks.present };
  hold = state.hold;
  live = None;
  armed = Some (record { armed = record { count = 1; word = word }; old = old });
}

-- an armed section has become a live one: its SC, which succeeds, is the last of its instructions,
-- and the checkpoint is at the LR
abbrev pub elided_state : SectionState → Reserved → ℕ → ℕ → SectionState
elided_state state reserved new rd = record {
  marks = record state.marks { present = release_of (put_of state.marks.present rd 0) };
  hold = state.hold;
  live = Some (elided reserved.armed reserved.old new);
  armed = None;
}

-- an armed section was let go: its view is the committed one
abbrev pub let_go_state : SectionState → SectionState
let_go_state state = record { marks = kept_of state.marks; hold = state.hold; live = None; armed = None }

-- a section is no more: its hart is back at the checkpoint, and nothing is held
abbrev pub rolled_back_state : SectionState → SectionState
rolled_back_state state =
    record { marks = back_of state.marks; hold = record state.hold { entries = [] }; live = None; armed = None }

-- whether a live section has written a line: its lock word's, or one that is held; an armed one has written none
abbrev pub has_written : Option Section → List Entry → ℕ → Bool
has_written None hold line = false
has_written (Some section) hold line = is_written section.word hold line

-- whether an action makes a system call or stops its hart
abbrev pub ends_section : Action → Bool
ends_section (actions.Trap cause) = true
ends_section (actions.Exit code) = true
ends_section (actions.Answer value) = true
ends_section (actions.Append address len) = true
ends_section _ = false

-- what an action of a section does, over the bytes that the section shows
abbrev pub run_of : Pooled → SectionState → Section → Cached → Action → Execution
run_of pool state section cache action =
    perform action state.marks.present
    (section_byte (hold_in pool state).entries section.word section.new (cached_byte cache))

-- an action that a section may run privately: it neither calls nor stops its hart, stores to no byte of the lock word,
-- and what it touches has its bit
pub record MayBuffer (pool : Pooled) (state : SectionState) (section : Section) (cache : Cached)
    (action : Action) : Type 0 where
  pub goes_on : ends_section action ≡ false
  pub aligned : IsAligned action
  pub unmixed : overlaps section.word (store_in (run_of pool state section cache action)) ≡ false
  pub bit : HasItsBit cache.residency (touch_of (footprint action))

-- it ran: the view is the one after it, its store is held, and the checkpoint stays
pub record HasRun (before after : Pooled) (old new : SectionState) (section : Section)
    (execution : Execution) : Type 0 where
  pub marks : new.marks ≡ record old.marks { present = view_after execution old.marks.present }
  pub hold : HoldsAfter (store_in execution) (hold_in before old) (hold_in after new)
  pub limit : new.hold.limit ≡ old.hold.limit
  pub live : new.live ≡ Some (record section { count = section.count + 1 })
  pub armed : new.armed ≡ None

-- the actions that touch no memory, and are no SC and no call, and do not stop their hart
abbrev pub is_quiet_action : Action → Bool
is_quiet_action (actions.Put rd value) = true
is_quiet_action (actions.JumpAndLink rd target) = true
is_quiet_action (actions.Go target) = true
is_quiet_action _ = false

-- an armed section may run a quiet action, as long as its count has room for the SC behind it
pub record MayContinue (reserved : Reserved) (action : Action) : Type 0 where
  pub quiet : is_quiet_action action ≡ true
  pub counted : reserved.armed.count + 2 < 4294967296

-- it ran, over any bytes: the view is the one after it, and the checkpoint stays
pub record HasContinued (old new : SectionState) (reserved : Reserved) (action : Action) : Type 0 where
  pub marks : (under : ℕ → ℕ) →
      new.marks ≡ record old.marks { present = view_after (perform action old.marks.present under) old.marks.present }
  pub hold : new.hold ≡ old.hold
  pub live : new.live ≡ None
  pub armed : new.armed ≡ Some (record reserved { armed = record reserved.armed { count = reserved.armed.count + 1 } })

-- the line that it touched is the most recent one of its set, and nothing else has changed in the cache
pub record IsCoveredIn (old new : Cached) (touch : Option Touch) : Type 0 where
  pub ways : new.ways ≡ old.ways
  pub residency : new.residency ≡ covered old.residency touch
  pub copies : (line : ℕ) → copy_in new line ≡ copy_in old line

-- the release ran: the view is the one after it, whatever lies under the hold; no
-- checkpoint stands, and nothing is held
pub record HasReleased (pool : Pooled) (old new : SectionState) (section : Section) (action : Action) : Type 0 where
  pub marks : (under : ℕ → ℕ) → new.marks ≡
      unmarked
      (view_after (perform action old.marks.present
      (section_byte (hold_in pool old).entries section.word section.new under))
      old.marks.present)
  pub hold : new.hold ≡ record old.hold { entries = [] }
  pub live : new.live ≡ None
  pub armed : new.armed ≡ None

-- the same, with the view that the instruction of the release tells
pub record HasReleasedBy (old new : SectionState) (section : Section) (insn : Option Insn) : Type 0 where
  pub marks : new.marks ≡ unmarked (released_view insn old.marks.present section.new)
  pub hold : new.hold ≡ record old.hold { entries = [] }
  pub live : new.live ≡ None
  pub armed : new.armed ≡ None

-- a copy after its hart's section committed, where nothing of its line was held
abbrev pub committed_copy : Bool → Copy → Copy
committed_copy written copy = record copy { letter = if written then M else copy.letter }

-- the section's stores are in the cache: each held line is modified and has the held bytes over its own; every other
-- copy has the bytes that it had; and no line has a bit
pub record HasCommitted (old new : Cached) (hold : List Entry) : Type 0 where
  pub ways : new.ways ≡ old.ways
  pub residency : new.residency ≡ committed old.residency
  pub held : (line : ℕ) → holds hold line ≡ true →
      copy_in new line ≡ Some (record { letter = M; bytes = bytes_of new line })
  pub size : (line : ℕ) → holds hold line ≡ true → length (bytes_of new line) ≡ LINE_BYTES
  pub bytes : (line place : ℕ) → holds hold line ≡ true → place < LINE_BYTES →
      slice_index (bytes_of new line) place ≡ seen_at hold line (bytes_of old line) place
  pub others : (line : ℕ) → holds hold line ≡ false →
      copy_in new line ≡ option_map (committed_copy (write_bit old.residency line)) (copy_in old line)
