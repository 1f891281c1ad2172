-- what a section's calls make of its private run: the steps of its hart alone, from what is committed on
use Rattle.std.specs.Prelude.{ℕ, ◌≡◌, ◌≤◌, ◌+◌, true, List, Some}
use Rattle.residency.specs.Cache.{has_bit, is_resident}
use Rattle.cache_sets.specs.Cached.{Cached, cached_byte}
use Rattle.el_base.specs.Line.{line_number}
use Rattle.elf_image.specs.Program.{code_word}
use Rattle.line_pool.specs.Pooled.{Pooled}
use Rattle.residency.specs.Residency.{Way}
use Rattle.el_model.specs.Armed.{is_quiet}
use Rattle.el_model.specs.State.{Section}
use Rattle.el_model.specs.Upcoming.{is_release, next_conditional, next_swap}
use Rattle.reg_mark.specs.Marks.{unmarked}
use Rattle.section_view.specs.PrivateRun.{IsArmedRun, IsCoveredRun, IsCoveredStep}
use Rattle.rv_alu.specs.Loaded.{loaded}
use Rattle.rv_alu.specs.declared.action.Action.{Action}
use Rattle.rv_alu.specs.declared.action.Action.TheVariants as actions
use Rattle.rv_flat.specs.FlatState.{FlatState, view_of}
use Rattle.rv_flat.specs.Memory.{AreBytes, byte_in}
use Rattle.rv_flat.specs.Run.{alone}
use Rattle.rv_flat.specs.Step.{action_of}
use Rattle.rv_word.specs.declared.insn.AmoOp.{AmoOp}
use Rattle.rv_word.specs.declared.reg.Reg.{Reg}
use Rattle.section_ctl.specs.State.{Reserved, SectionState, hold_in}
use Rattle.section_view.specs.ArmedLaws.{elided}
use Rattle.section_view.specs.KeptRun.{KeepsArmed, KeepsRun}
use Rattle.section_view.specs.Release.{HasEffect}

-- each line of memory with a bit in a cache has the bytes of memory there
abbrev pub HasCoveredBytes : FlatState → Cached → Type 0
HasCoveredBytes memory cache =
    (address : ℕ) → memory.base ≤ address → has_bit cache.residency (line_number address) ≡ true →
    cached_byte cache address ≡ byte_in memory.base memory.bytes address

-- each byte of memory that a cache has, and had as it was in memory, is as it is in memory now
abbrev pub FollowsMemory : FlatState → FlatState → Cached → Cached → Type 0
FollowsMemory was is old new =
    (address : ℕ) → is.base ≤ address → is_resident new.residency (line_number address) ≡ true →
    cached_byte old address ≡ byte_in was.base was.bytes address →
    cached_byte new address ≡ byte_in is.base is.bytes address

-- the code's view and hold tell what the private run of a section has come to, which its bits cover
pub record IsKept (pool : Pooled) (committed : FlatState) (h : ℕ) (state : SectionState) (section : Section)
    (cache : Cached) : Type 0 where
  pub run : IsCoveredRun committed h cache.residency section
  pub keeps : KeepsRun committed h section state.marks.present (hold_in pool state).entries
  pub bytes : HasCoveredBytes committed cache

-- where the hart's next instruction in what is committed is this swap, the run of the section that begins is kept
abbrev pub BeginsRun : SectionState → SectionState → Section → Reg → Type 0
BeginsRun before after section rd =
    (pool : Pooled) (committed : FlatState) (h : ℕ) (op : AmoOp) (address source : ℕ) →
    before.marks.present ≡ view_of committed h →
    next_swap committed h ≡ Some (record { word = section.word; old = section.old; new = section.new }) →
    action_of committed (view_of committed h) ≡ actions.Amo op rd address source →
    KeepsRun committed h section after.marks.present (hold_in pool after).entries

-- where this is the action of a covered instruction that comes next, the run is kept with one instruction more
abbrev pub GoesOnRun : Pooled → Pooled → SectionState → SectionState → Section → Cached → Action → Type 0
GoesOnRun old new before after section cache action =
    (committed : FlatState) (h : ℕ) → IsKept old committed h before section cache →
    action ≡ action_of committed before.marks.present →
    IsCoveredStep (alone committed h section.count) h section.word cache.residency →
    KeepsRun committed h (record section { count = section.count + 1 }) after.marks.present (hold_in new after).entries

-- after the commit memory is what the run has come to, with its release: the hart has the view after it, the held bytes
-- are in memory, the other harts have lost their reservations of words on the written lines; and the cache has the
-- bytes of memory, wherever it had them before
pub record TakesEffect (pool : Pooled) (committed : FlatState) (h : ℕ) (before after : SectionState) (section : Section)
    (old new : Cached) : Type 0 where
  pub effect : HasEffect committed (alone committed h (section.count + 1)) h section.word after.marks.present
      (hold_in pool before).entries
  pub bytes : FollowsMemory committed (alone committed h (section.count + 1)) old new

-- where this is the action of the release, which comes next, the whole run takes effect
abbrev pub CommitsRun : Pooled → SectionState → SectionState → Section → Cached → Cached → Action → Type 0
CommitsRun pool before after section old new action =
    (committed : FlatState) (h : ℕ) → AreBytes committed.bytes → IsKept pool committed h before section old →
    action ≡ action_of committed before.marks.present → is_release (alone committed h section.count) h section.word
    section.old ≡ true → TakesEffect pool committed h before after section old new

-- the same, of the release whose instruction word is the next one
abbrev pub CommitsCode : Pooled → SectionState → SectionState → Section → Cached → Cached → ℕ → Type 0
CommitsCode pool before after section old new code =
    (committed : FlatState) (h : ℕ) → AreBytes committed.bytes → IsKept pool committed h before section old →
    code_word committed.code before.marks.present.pc ≡ Some code →
    is_release (alone committed h section.count) h section.word section.old ≡ true →
    TakesEffect pool committed h before after section old new

-- the code's view and value tell what the private run of an armed section has come to
pub record IsKeptArmed (committed : FlatState) (h : ℕ) (state : SectionState) (reserved : Reserved)
    (cache : List (List Way)) : Type 0 where
  pub run : IsArmedRun committed h cache reserved.armed
  pub keeps : KeepsArmed committed h reserved.armed reserved.old state.marks.present

-- where the hart's next instruction in what is committed is this LR, and finds this value, the run
-- of the section that arms is kept
abbrev pub ArmsRun : SectionState → SectionState → ℕ → ℕ → Reg → Type 0
ArmsRun before after word old rd =
    (committed : FlatState) (h : ℕ) → before.marks.present ≡ view_of committed h →
    action_of committed (view_of committed h) ≡ actions.LoadReserved rd word →
    old ≡ loaded (byte_in committed.base committed.bytes) word 4 →
    KeepsArmed committed h (record { count = 1; word = word }) old after.marks.present

-- where this is the action of a quiet instruction that comes next, the run is kept with one instruction more
abbrev pub ContinuesRun : SectionState → SectionState → Reserved → Action → Type 0
ContinuesRun before after reserved action =
    (committed : FlatState) (h : ℕ) (cache : List (List Way)) → IsKeptArmed committed h before reserved cache →
    action ≡ action_of committed before.marks.present → is_quiet (alone committed h reserved.armed.count) h ≡ true →
    KeepsArmed committed h (record reserved.armed { count = reserved.armed.count + 1 }) reserved.old after.marks.present

-- an SC finds the value that is kept of its armed section, and the run of the live section is kept
pub record IsElidedRun (committed : FlatState) (h : ℕ) (after : SectionState) (reserved : Reserved)
    (found new : ℕ) : Type 0 where
  pub same : found ≡ reserved.old
  pub keeps : (pool : Pooled) →
      KeepsRun committed h (elided reserved.armed reserved.old new) after.marks.present (hold_in pool after).entries

-- so it is where the next instruction is an SC that succeeds on the armed section's word, with
-- this value and into this register
abbrev pub ElidesRun : SectionState → SectionState → Reserved → ℕ → Reg → Type 0
ElidesRun before after reserved new rd =
    (committed : FlatState) (h : ℕ) (cache : List (List Way)) (found address source : ℕ) →
    IsKeptArmed committed h before reserved cache →
    next_conditional (alone committed h reserved.armed.count) h
    ≡ Some (record { word = reserved.armed.word; old = found; new = new }) →
    action_of committed before.marks.present ≡ actions.StoreConditional rd address source →
    IsElidedRun committed h after reserved found new

-- after an armed section was let go, its hart has the view that the run has come to, and no checkpoint
abbrev pub LetsGoRun : SectionState → SectionState → Reserved → Type 0
LetsGoRun before after reserved =
    (committed : FlatState) (h : ℕ) → KeepsArmed committed h reserved.armed reserved.old before.marks.present →
    after.marks ≡ unmarked (view_of (alone committed h reserved.armed.count) h)
