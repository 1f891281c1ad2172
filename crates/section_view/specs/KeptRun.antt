-- what the code keeps of a live section, its present view and its buffered stores, and of an armed one, its view and
-- its word's value, against the private run of the definition
use Rattle.std.specs.Prelude.{ℕ, ◌≡◌, ◌≤◌, ◌<◌, ◌+◌, ◌↔◌, Bool, true, ◌||◌, ◌==◌, List, None, Some, slice_index}
use Rattle.std.specs.Prelude.{unwrap_or}
use Rattle.residency.specs.Cache.{write_bit}
use Rattle.residency.specs.Residency.{Way}
use Rattle.core_step.specs.Port.{stored}
use Rattle.el_base.specs.Line.{line_number}
use Rattle.el_model.specs.State.{Armed, Section}
use Rattle.rv_alu.specs.Execution.{Execution, perform}
use Rattle.rv_alu.specs.Loaded.{loaded}
use Rattle.rv_alu.specs.declared.view.HartView.{HartView}
use Rattle.rv_flat.specs.FlatState.{FlatState, view_of}
use Rattle.rv_flat.specs.Laws.{footprint_of, written_line}
use Rattle.rv_flat.specs.Memory.{byte_in}
use Rattle.rv_flat.specs.Run.{alone}
use Rattle.rv_flat.specs.Step.{action_of}
use Rattle.run_laws.specs.PrivateRun.{IsOutsideWord}
use Rattle.write_hold.specs.Held.{Entry, held, holds}

-- a line was written by one of the first steps of a hart alone
pub record WroteLine (committed : FlatState) (h count line : ℕ) : Type 0 where
  pub step : ℕ
  pub before : step < count
  pub writes : written_line (footprint_of (alone committed h step) h) ≡ Some line

-- whether a line is one that a section has written: its lock word's, or one that is held
abbrev pub is_written : ℕ → List Entry → ℕ → Bool
is_written word hold line = (line == line_number word) || holds hold line

-- a view and a hold tell what a section's private run has come to
pub record KeepsRun (committed : FlatState) (h : ℕ) (section : Section) (now : HartView)
    (hold : List Entry) : Type 0 where
  -- the view is the hart's after its own steps
  pub view : now ≡ view_of (alone committed h section.count) h
  -- a held byte is the one there after them
  pub held_byte : (place byte : ℕ) → held hold (committed.base + place) ≡ Some byte →
      slice_index (alone committed h section.count).bytes place ≡ byte
  -- one that is not held, outside of the lock word, is as committed
  pub unheld_byte : (place : ℕ) → held hold (committed.base + place) ≡ None →
      IsOutsideWord section.word (committed.base + place) →
      slice_index (alone committed h section.count).bytes place ≡ slice_index committed.bytes place
  -- no byte of the lock word is held
  pub free : (address : ℕ) → section.word ≤ address → address < section.word + 4 → held hold address ≡ None
  -- the lines that they have written are the lock word's and those that are held
  pub written : (line : ℕ) → WroteLine committed h section.count line ↔ (is_written section.word hold line ≡ true)

-- the view that is kept of an armed section tells what its private run has come to, and a value is that of its word
pub record KeepsArmed (committed : FlatState) (h : ℕ) (armed : Armed) (old : ℕ) (now : HartView) : Type 0 where
  pub view : now ≡ view_of (alone committed h armed.count) h
  pub found : old ≡ loaded (byte_in committed.base committed.bytes) armed.word 4

-- each line that is held has the write bit
abbrev pub HoldsMarked : List (List Way) → List Entry → Type 0
HoldsMarked cache hold = (line : ℕ) → holds hold line ≡ true → write_bit cache line ≡ true

-- one cache has each write bit that another has
abbrev pub KeepsWriteBits : List (List Way) → List (List Way) → Type 0
KeepsWriteBits old new = (line : ℕ) → write_bit old line ≡ true → write_bit new line ≡ true

-- the held byte at an address, else the one under it
abbrev pub held_over : List Entry → (ℕ → ℕ) → ℕ → ℕ
held_over hold under address = unwrap_or (held hold address) (under address)

-- the byte that a section shows at an address: its new value's in the lock word, else the
-- held one, else the one under it
abbrev pub section_byte : List Entry → ℕ → ℕ → (ℕ → ℕ) → ℕ → ℕ
section_byte hold word new under = stored (held_over hold under) word 4 new

-- what a section of this view and this hold does next, over these bytes
abbrev pub section_execution : FlatState → Section → HartView → List Entry → (ℕ → ℕ) → Execution
section_execution committed section view hold under =
    perform (action_of committed view) view (section_byte hold section.word section.new under)
