-- what a machine keeps beside its history, and the state of the machine's definition that it is in
use Rattle.std.specs.Prelude.{ℕ, ◌≡◌, ◌<◌, ◌+◌, ◌-◌, List, Option, None, Some, length, slice_index_or}
use Rattle.el_base.specs.declared.config.Config.{Config}
use Rattle.el_model.specs.State.{ModelState, Section, cache_of, hart_of, section_of}
use Rattle.elf_image.specs.Program.{CodeSegment}
use Rattle.engine.specs.declared.engine.Engine as engines
use Rattle.hart_state.specs.Own.{HasOwn, OwnState, new_own}
use Rattle.line_pool.specs.Pooled.{Pooled}
use Rattle.coherence.specs.Beginning.{line_of}
use Rattle.reg_mark.specs.Marks.{committed_of}
use Rattle.reg_mark.specs.declared.marked.Marked.{Marked}
use Rattle.rv_alu.specs.declared.span.Span.{Span}
use Rattle.rv_alu.specs.declared.view.HartView.{HartView}
use Rattle.rv_flat.specs.FlatState.{FlatState, no_hart, output_limit, span_of, view_of}
use Rattle.section_ctl.specs.State.{IsArmed, IsIdle, IsLive, Reserved, SectionState, hold_in}
use Rattle.section_view.specs.KeptRun.{HoldsMarked, KeepsArmed, KeepsRun}
use Rattle.snoop.specs.Shows.{BusState, Shows, Tells, bus_state}
use Rattle.write_hold.specs.Slotted.{IsLent, Slotted}

-- what it keeps
pub record Parts : Type 0 where
  pub config : Config
  pub span : Span  -- the addresses of memory
  pub pool : Pooled  -- the slots of all lines of caches and of buffered stores
  pub bus : BusState
  pub harts : List OwnState  -- of each hart, what it keeps beside the bus
  pub code : List CodeSegment
  pub output : List ℕ

abbrev pub parts : engines.Engine → Parts
parts engine = record {
  config = engine.config;
  span = engine.span;
  pool = engine.pool;
  bus = bus_state engine.bus;
  harts = engine.harts.items;
  code = engine.code;
  output = engine.output;
}

-- what a hart keeps; past the last hart, what one keeps that has stopped
abbrev pub own_at : List OwnState → ℕ → OwnState
own_at harts h = slice_index_or harts h (new_own no_hart 0 0)

-- the owner of the slots in which a hart's buffered stores lie; those of its cache are its own
abbrev pub hold_owner : ℕ → ℕ
hold_owner h = 8 + h

-- a hart's committed view, and the one that it sees itself
abbrev pub committed_at : List OwnState → ℕ → HartView
committed_at harts h = committed_of (own_at harts h).section.marks

abbrev pub present_at : List OwnState → ℕ → HartView
present_at harts h = (own_at harts h).section.marks.present

-- how many bytes the output has room for
abbrev pub room_in : Parts → ℕ
room_in parts = output_limit - length parts.output

-- the view and the stores that are kept of a live section tell its private run, and each stored line has the write bit
pub record KeepsSection (pool : Pooled) (state : ModelState) (h : ℕ) (section : Section)
    (kept : SectionState) : Type 0 where
  pub run : KeepsRun state.committed h section kept.marks.present (hold_in pool kept).entries
  pub marked : HoldsMarked (cache_of state h) (hold_in pool kept).entries

abbrev pub KeepsSectionOf : Pooled → ModelState → ℕ → Option Section → SectionState → Type 0
KeepsSectionOf pool state h None kept = Unit {0}
KeepsSectionOf pool state h (Some section) kept = KeepsSection pool state h section kept

-- the view that is kept of an armed section tells its private run, and the value that its LR found is that of its word
abbrev pub KeepsReserved : FlatState → ℕ → Option Reserved → HartView → Type 0
KeepsReserved committed h None present = Unit {0}
KeepsReserved committed h (Some reserved) present = KeepsArmed committed h reserved.armed reserved.old present

-- how the views and the hold stand by the section, if there is one: never is one live and one armed
abbrev pub StandsAs : Marked → Slotted → Option Section → Option Reserved → Type 0
StandsAs marks hold None None = IsIdle marks hold
StandsAs marks hold None (Some reserved) = IsArmed marks hold reserved
StandsAs marks hold (Some section) None = IsLive marks hold section
StandsAs marks hold (Some section) (Some reserved) = ⊥

-- what a hart keeps is that of the definition's hart, with its committed view, and with its live or armed section, if
-- it has one; the pool lends its stores
pub record IsOfHart (pool : Pooled) (state : ModelState) (h : ℕ) (own : OwnState) : Type 0 where
  pub part : HasOwn own (hart_of state h)
  pub view : committed_of own.section.marks ≡ view_of state.committed h
  pub section : KeepsSectionOf pool state h (section_of state h) own.section
  pub armed : KeepsReserved state.committed h own.section.armed own.section.marks.present
  pub stands : StandsAs own.section.marks own.section.hold own.section.live own.section.armed
  pub limit : own.section.hold.limit ≡ state.config.lines
  pub owner : own.section.hold.owner ≡ hold_owner h
  pub lent : IsLent pool own.section.hold

-- the bus shows the state, with the bytes of memory, each hart keeps what is its own, and
-- each other part is the state's
pub record IsInState (parts : Parts) (state : ModelState) : Type 0 where
  pub config : parts.config ≡ state.config
  pub span : parts.span ≡ span_of state.committed
  pub shows : Shows parts.bus state
  pub told : Tells parts.pool parts.bus (line_of state.committed)
  pub one_each : length parts.harts ≡ length state.harts
  pub view_each : length parts.harts ≡ length state.committed.harts
  pub harts : (h : ℕ) → h < length parts.harts → IsOfHart parts.pool state h (own_at parts.harts h)
  pub code : parts.code ≡ state.committed.code
  pub output : parts.output ≡ state.committed.output
