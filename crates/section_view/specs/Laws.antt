-- what holds of the view and the hold that the code keeps of a live section
use Rattle.std.specs.Prelude.{ℕ, ◌≡◌, ◌+◌, ◌%◌, ◌^◌, ◌<◌, Bool, true, List, [], length, Option, None, Some, slice_index}
use Rattle.residency.specs.Residency.{Way}
use Rattle.core_step.specs.Port.{byte_of}
use Rattle.el_base.specs.Line.{line_number}
use Rattle.el_base.specs.declared.config.Config.{Config}
use Rattle.el_base.specs.declared.events.Event.{Event}
use Rattle.el_base.specs.declared.line.TheConstants.{LINE_BYTES}
use Rattle.elf_image.specs.Program.{Program, code_word}
use Rattle.el_model.specs.Next.{after}
use Rattle.el_model.specs.State.{Section}
use Rattle.el_model.specs.Upcoming.{Swap, is_release, next_access, next_execution, next_swap}
use Rattle.rv_alu.specs.Execution.{Store, insn_at, put_of, release_of, store_in, view_after}
use Rattle.rv_alu.specs.Footprint.{Touches}
use Rattle.rv_alu.specs.Regs.{get}
use Rattle.rv_alu.specs.declared.action.Action.TheVariants as actions
use Rattle.rv_alu.specs.declared.footprint.Access.{Access}
use Rattle.rv_alu.specs.declared.view.HartStatus.TheVariants.{Running}
use Rattle.rv_alu.specs.declared.view.HartView.{HartView}
use Rattle.rv_flat.specs.FlatState.{FlatState, status_of, view_of}
use Rattle.rv_flat.specs.Laws.{next_insn, touched_by}
use Rattle.rv_flat.specs.Memory.{AreBytes, byte_in}
use Rattle.rv_flat.specs.Run.{alone}
use Rattle.rv_flat.specs.Step.{action_of}
use Rattle.rv_word.specs.declared.insn.AmoOp.{AmoOp}
use Rattle.rv_word.specs.declared.insn.Insn.TheVariants as insns
use Rattle.rv_word.specs.declared.reg.Reg.{Reg}
use Rattle.run_laws.specs.PrivateRun.{IsChangeBeside, IsCoveredRun, IsCoveredStep, IsOutsideWord}
use Rattle.section_view.specs.KeptRun.{HoldsMarked, KeepsRun, KeepsWriteBits, section_byte, section_execution}
use Rattle.section_view.specs.Release.{HasEffect, IsReleaseAction, released_view}
use Rattle.write_hold.specs.Calls.{IsPut}
use Rattle.write_hold.specs.Held.{Entry, Held}

-- a section that begins at a swap
abbrev pub begun : Swap → Section
begun swap = record { count = 1; word = swap.word; old = swap.old; new = swap.new }

-- where a hart comes to a swap, the view after it and a hold of nothing keep the run of the section that begins
abbrev pub SectionsBegin : Type 0
SectionsBegin =
    (committed : FlatState) (h : ℕ) (swap : Swap) (op : AmoOp) (rd : Reg) (address source : ℕ) →
    status_of committed h ≡ Running → next_swap committed h ≡ Some swap →
    action_of committed (view_of committed h) ≡ actions.Amo op rd address source →
    KeepsRun committed h (begun swap) (release_of (put_of (view_of committed h) rd.number swap.old)) []

-- the action of a swap that comes next is that of its registers
abbrev pub SwapsAct : Type 0
SwapsAct =
    (committed : FlatState) (h : ℕ) (swap : Swap) (op : AmoOp) (rd rs1 rs2 : Reg) (aq rl : Bool) →
    next_swap committed h ≡ Some swap → next_insn committed h ≡ Some (insns.Amo op rd rs1 rs2 aq rl) →
    action_of committed (view_of committed h) ≡ actions.Amo op rd swap.word (get (view_of committed h).regs rs2.number)

-- each byte of memory that a section shows: its new value's in the lock word, else the held one, else the committed one
abbrev pub SectionsShowTheirBytes : Type 0
SectionsShowTheirBytes =
    (committed : FlatState) (h : ℕ) (cache : List (List Way)) (section : Section) (view : HartView)
    (hold : List Entry) → IsCoveredRun committed h cache section → KeepsRun committed h section view hold →
    (place : ℕ) → place < length committed.bytes → slice_index (alone committed h section.count).bytes place
    ≡ section_byte hold section.word section.new (byte_in committed.base committed.bytes) (committed.base + place)

-- these bytes are the committed ones, wherever the access touches memory outside of a word
abbrev pub AgreeBeside : FlatState → ℕ → Access → (ℕ → ℕ) → Type 0
AgreeBeside committed word access under =
    (address : ℕ) → Touches access address → IsOutsideWord word address →
    under address ≡ byte_in committed.base committed.bytes address

-- what comes next in a section is what its view comes to in what is committed
pub record ComesTo (committed shown : FlatState) (h : ℕ) (view : HartView) : Type 0 where
  pub insn : next_insn shown h ≡ insn_at (code_word committed.code view.pc)
  pub action : action_of shown view ≡ action_of committed view
  pub access : next_access shown h ≡ touched_by committed view

abbrev pub SectionsComeTo : Type 0
SectionsComeTo =
    (committed : FlatState) (h : ℕ) (cache : List (List Way)) (section : Section) (view : HartView)
    (hold : List Entry) → IsCoveredRun committed h cache section → KeepsRun committed h section view hold →
    ComesTo committed (alone committed h section.count) h view

-- and it does what the definition says, over any bytes that are the committed ones where it touches
-- memory outside of the lock word
abbrev pub SectionsDoAsShown : Type 0
SectionsDoAsShown =
    (committed : FlatState) (h : ℕ) (cache : List (List Way)) (section : Section) (view : HartView) (hold : List Entry)
    (under : ℕ → ℕ) → IsCoveredRun committed h cache section → KeepsRun committed h section view hold →
    AgreeBeside committed section.word (touched_by committed view) under →
    section_execution committed section view hold under ≡ next_execution (alone committed h section.count) h

-- these are the low bytes of a value, the lowest first
pub record AreLowBytes (bytes : List ℕ) (len value : ℕ) : Type 0 where
  pub count : length bytes ≡ len
  pub each : (place : ℕ) → place < len → slice_index bytes place ≡ byte_of value place

-- a store is held: its bytes were put at its place
pub record IsHeldStore (store : Store) (old new : Held) : Type 0 where
  pub bytes : List ℕ
  pub low : AreLowBytes bytes store.len store.value
  pub put : IsPut old new (line_number store.address) (store.address % LINE_BYTES) bytes

-- the hold after an instruction: with its store, or as it was
abbrev pub HoldsAfter : Option Store → Held → Held → Type 0
HoldsAfter None old new = new.entries ≡ old.entries
HoldsAfter (Some store) old new = IsHeldStore store old new

-- a section goes on: its run is kept with one instruction more, and its held lines have the write bit
pub record GoesOn (committed : FlatState) (h : ℕ) (cache : List (List Way)) (section : Section) (view : HartView)
    (old new : Held) : Type 0 where
  pub keeps : KeepsRun committed h (record section { count = section.count + 1 }) view new.entries
  pub marked : HoldsMarked cache old.entries → HoldsMarked cache new.entries

-- a section goes on by an instruction that is covered, perhaps by a bit that the cache has got since
abbrev pub SectionsGoOn : Type 0
SectionsGoOn =
    (committed : FlatState) (h : ℕ) (cache now : List (List Way)) (section : Section) (view : HartView) (old new : Held)
    (under : ℕ → ℕ) → IsCoveredRun committed h cache section → KeepsRun committed h section view old.entries →
    AgreeBeside committed section.word (touched_by committed view) under →
    IsCoveredStep (alone committed h section.count) h section.word now →
    HoldsAfter (store_in (section_execution committed section view old.entries under)) old new →
    GoesOn committed h now section (view_after (section_execution committed section view old.entries under) view) old
    new

-- held lines have the write bit in a cache with more bits
abbrev pub MarksStay : Type 0
MarksStay = (old new : List (List Way)) (hold : List Entry) → KeepsWriteBits old new → HoldsMarked old hold →
    HoldsMarked new hold

-- the same view and hold keep a section's run after a change beside its hart
abbrev pub KeptRunsSurvive : Type 0
KeptRunsSurvive =
    (h : ℕ) (cache : List (List Way)) (section : Section) (old new : FlatState) (view : HartView) (hold : List Entry) →
    IsCoveredRun old h cache section → IsChangeBeside h cache old new → HoldsMarked cache hold →
    KeepsRun old h section view hold → KeepsRun new h section view hold

-- a release is a store or a swap of the old value
abbrev pub ReleasesStoreTheirWord : Type 0
ReleasesStoreTheirWord =
    (state : FlatState) (h word old : ℕ) → is_release state h word old ≡ true →
    IsReleaseAction word old (action_of state (view_of state h))

-- at its release a section takes effect: the view is that after the release, over any bytes, and memory has the held
-- bytes over what was committed; the lock word is as it was
abbrev pub SectionsCommit : Type 0
SectionsCommit =
    (committed : FlatState) (h : ℕ) (cache : List (List Way)) (section : Section) (view : HartView) (hold : List Entry)
    (under : ℕ → ℕ) → AreBytes committed.bytes → IsCoveredRun committed h cache section →
    KeepsRun committed h section view hold → is_release (alone committed h section.count) h section.word section.old
    ≡ true → HasEffect committed (alone committed h (section.count + 1)) h section.word
    (view_after (section_execution committed section view hold under) view) hold

-- and that view is told by the instruction alone: it found the new value in the lock word
abbrev pub ReleasedViewsAreTold : Type 0
ReleasedViewsAreTold =
    (committed : FlatState) (h : ℕ) (cache : List (List Way)) (section : Section) (view : HartView) (hold : List Entry)
    (under : ℕ → ℕ) → IsCoveredRun committed h cache section → KeepsRun committed h section view hold →
    is_release (alone committed h section.count) h section.word section.old ≡ true →
    view_after (section_execution committed section view hold under) view
    ≡ released_view (insn_at (code_word committed.code view.pc)) view (section.new % 2 ^ 32)

-- what is committed lies where its program says, with its code and its size, and is bytes where the program's memory is
pub record IsOfProgram (program : Program) (committed : FlatState) : Type 0 where
  pub base : committed.base ≡ program.base
  pub code : committed.code ≡ program.code
  pub size : length committed.bytes ≡ length program.bytes
  pub harts : length committed.harts ≡ program.harts
  pub bytes : AreBytes program.bytes → AreBytes committed.bytes

-- so it is in every state that can be reached
abbrev pub CommittedIsOfItsProgram : Type 0
CommittedIsOfItsProgram =
    (program : Program) (config : Config) (events : List Event) →
    IsOfProgram program (after program config events).committed
