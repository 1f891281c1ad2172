-- what every step keeps, reads and changes
use Rattle.std.specs.Prelude.{◌≡◌, ◌≤◌, ◌<◌, ℕ, ◌+◌, List, [], ◌∷◌, ◌++◌, length, Option, None, Some, slice_index}
use Rattle.elf_image.specs.Program.{code_word}
use Rattle.el_base.specs.Line.{line_number}
use Rattle.rv_alu.specs.declared.footprint.Access.{Access}
use Rattle.rv_alu.specs.declared.footprint.Access.TheVariants.{Nothing, Read, Write, Trap, Exit}
use Rattle.rv_alu.specs.declared.view.HartStatus.{HartStatus}
use Rattle.rv_alu.specs.declared.view.HartStatus.TheVariants.{Running, Exited, Trapped}
use Rattle.rv_alu.specs.declared.view.HartView.{HartView}
use Rattle.rv_alu.specs.declared.span.Span.{Span}
use Rattle.rv_alu.specs.Execution.{insn_at, touched}
use Rattle.rv_alu.specs.Footprint.{AgreeOn, IsNoStoreConditional, IsPiece}
use Rattle.rv_alu.specs.Regs.{AreRegs}
use Rattle.rv_word.specs.declared.insn.Insn.{Insn}
use Rattle.rv_flat.specs.FlatState.{FlatState, room_of, span_of, status_of, view_of}
use Rattle.rv_flat.specs.Memory.{byte_in}
use Rattle.rv_flat.specs.Step.{flat, unreserved, with_view}

-- the instruction that a hart comes to next
abbrev pub next_insn : FlatState → ℕ → Option Insn
next_insn state hart = insn_at (code_word state.code (view_of state hart).pc)

-- what a hart of this view touches next
abbrev pub touched_by : FlatState → HartView → Access
touched_by state view = touched (code_word state.code view.pc) view (span_of state) (room_of state)

-- the same of a hart of this status: one that has stopped touches nothing
abbrev pub touched_in : FlatState → HartView → HartStatus → Access
touched_in state view Running = touched_by state view
touched_in state view (Exited code) = Nothing
touched_in state view (Trapped cause pc) = Nothing

-- what a hart's next step touches
abbrev pub footprint_of : FlatState → ℕ → Access
footprint_of state hart = touched_in state (view_of state hart) (status_of state hart)

-- what the access touches is a piece of one line of memory
abbrev pub IsInOneLine : Span → Access → Type 0
IsInOneLine span (Read from len) = IsPiece span from len
IsInOneLine span (Write from len) = IsPiece span from len
IsInOneLine span Nothing = Unit {0}
IsInOneLine span (Trap cause) = Unit {0}
IsInOneLine span (Exit code) = Unit {0}

-- an address is one that the access writes
abbrev pub Writes : Access → ℕ → Type 0
Writes (Write from len) address = (from ≤ address) × (address < from + len)
Writes (Read from len) address = ⊥
Writes Nothing address = ⊥
Writes (Trap cause) address = ⊥
Writes (Exit code) address = ⊥

-- the line that the access writes
abbrev pub written_line : Access → Option ℕ
written_line (Write from len) = Some (line_number from)
written_line (Read from len) = None
written_line Nothing = None
written_line (Trap cause) = None
written_line (Exit code) = None

-- another hart's view after the access: a write takes the reservation of a word on its line
abbrev pub seen_after : Access → HartView → HartView
seen_after (Write from len) view = unreserved (line_number from) view
seen_after (Read from len) view = view
seen_after Nothing view = view
seen_after (Trap cause) view = view
seen_after (Exit code) view = view

-- a step keeps where memory lies, its length, the code and the number of harts, and the output only
-- grows at its end
pub record KeepsShape (old new : FlatState) : Type 0 where
  pub base : new.base ≡ old.base
  pub length_of_bytes : length new.bytes ≡ length old.bytes
  pub code : new.code ≡ old.code
  pub harts : length new.harts ≡ length old.harts
  pub more : List ℕ
  pub output : new.output ≡ old.output ++ more

-- each hart has 32 registers of which the first is 0
abbrev pub HasRegs : FlatState → Type 0
HasRegs state = (hart : ℕ) → hart < length state.harts → AreRegs (view_of state hart).regs

-- two states are the same to a hart: its view, the code, the addresses of memory, the room of the output, and
-- the bytes at its footprint
pub record AreSameTo (hart : ℕ) (left right : FlatState) : Type 0 where
  pub view : view_of left hart ≡ view_of right hart
  pub code : left.code ≡ right.code
  pub span : span_of left ≡ span_of right
  pub room : room_of left ≡ room_of right
  pub bytes : AgreeOn (footprint_of right hart) (byte_in left.base left.bytes) (byte_in right.base right.bytes)

-- a hart's step did the same to two states: it left the hart the same view and each byte that was the same the
-- same, and appended the same to the output
pub record DidTheSame (hart : ℕ) (left right left_after right_after : FlatState) : Type 0 where
  pub view : view_of left_after hart ≡ view_of right_after hart
  pub bytes : (place : ℕ) → slice_index left.bytes place ≡ slice_index right.bytes place →
      slice_index left_after.bytes place ≡ slice_index right_after.bytes place
  pub more : List ℕ
  pub left_output : left_after.output ≡ left.output ++ more
  pub right_output : right_after.output ≡ right.output ++ more

-- the output is another one
abbrev pub with_output : FlatState → List ℕ → FlatState
with_output state output = record state { output = output }

-- a hart's reservation is another one
abbrev pub with_reserved : FlatState → ℕ → Option ℕ → FlatState
with_reserved state hart reserved = with_view state hart (record (view_of state hart) { reserved = reserved })

-- none of a hart's own steps in a run is a store conditional
abbrev pub MakesNoStoreConditional : FlatState → ℕ → List ℕ → Type 0
MakesNoStoreConditional state hart [] = Unit {0}
MakesNoStoreConditional state hart (next ∷ harts) =
    (next ≡ hart → IsNoStoreConditional (next_insn state hart)) × MakesNoStoreConditional (flat state next) hart harts
