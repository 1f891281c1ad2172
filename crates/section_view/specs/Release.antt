-- the release of a section, and what a commit leaves
use Rattle.std.specs.Prelude.{ℕ, ◌≡◌, ◌≢◌, ◌≤◌, ◌<◌, ◌+◌, ◌/◌, ◌%◌, Bool, false, if◌then◌else◌, List, Option, None}
use Rattle.std.specs.Prelude.{Some, length, slice_index, unwrap_or}
use Rattle.coherence.specs.Beginning.{line_of}
use Rattle.el_base.specs.Line.{line_number}
use Rattle.el_base.specs.declared.line.TheConstants.{LINE_BYTES}
use Rattle.rv_alu.specs.Execution.{advance_of, put_of, release_of}
use Rattle.rv_alu.specs.declared.action.Action.{Action}
use Rattle.rv_alu.specs.declared.action.Action.TheVariants as actions
use Rattle.rv_alu.specs.declared.view.HartView.{HartView}
use Rattle.rv_flat.specs.FlatState.{FlatState, view_of}
use Rattle.rv_word.specs.declared.insn.AmoOp.TheVariants as amos
use Rattle.rv_word.specs.declared.insn.Insn.{Insn}
use Rattle.rv_word.specs.declared.insn.Insn.TheVariants as insns
use Rattle.rv_word.specs.declared.reg.Reg.{Reg}
use Rattle.section_view.specs.KeptRun.{is_written}
use Rattle.write_hold.specs.Held.{Entry, held, holds, seen_at}

-- a release stores the old value in the lock word, or swaps it into it
pub data IsReleaseAction (word old : ℕ) (action : Action) : Type 0 where
  ByStore : action ≡ actions.Store word 4 old → IsReleaseAction word old action
  BySwap : (rd : Reg) → action ≡ actions.Amo amos.Swap rd word old → IsReleaseAction word old action

-- the hart's view after a release that found this value in the lock word
abbrev pub released_view : Option Insn → HartView → ℕ → HartView
released_view (Some (insns.Store width rs1 rs2 offset)) view found = release_of (advance_of view)
released_view (Some (insns.Amo op rd rs1 rs2 aq rl)) view found = release_of (put_of view rd.number found)
released_view _ view found = view

-- a reservation, unless it is of a word on one of these lines
abbrev pub reserved_beside : (ℕ → Bool) → Option ℕ → Option ℕ
reserved_beside lines None = None
reserved_beside lines (Some word) = if lines (line_number word) then None else Some word

-- a view without its reservation of a word on one of these lines
abbrev pub view_unreserved_on : (ℕ → Bool) → HartView → HartView
view_unreserved_on lines view = record view { reserved = reserved_beside lines view.reserved }

-- memory begins with a line, and this line is none before it
pub record IsLineFrom (state : FlatState) (line : ℕ) : Type 0 where
  pub aligned : state.base % LINE_BYTES ≡ 0
  pub from : state.base / LINE_BYTES ≤ line

-- what is done is what was committed, with a section's effect: its hart has this view, the held bytes are put over
-- memory, and the other harts have lost their reservations of words on the lines that were written
pub record HasEffect (committed done : FlatState) (h word : ℕ) (view : HartView) (hold : List Entry) : Type 0 where
  pub own : view_of done h ≡ view
  pub others : (g : ℕ) → g ≢ h → view_of done g ≡ view_unreserved_on (is_written word hold) (view_of committed g)
  -- byte by byte, and line by line
  pub bytes : (place : ℕ) →
      slice_index done.bytes place ≡ unwrap_or (held hold (committed.base + place)) (slice_index committed.bytes place)
  pub lines : (line place : ℕ) → IsLineFrom committed line → place < LINE_BYTES →
      slice_index (line_of done line) place ≡ seen_at hold line (line_of committed line) place
  pub same : (line : ℕ) → IsLineFrom committed line → holds hold line ≡ false →
      line_of done line ≡ line_of committed line
  pub output : done.output ≡ committed.output
  pub base : done.base ≡ committed.base
  pub code : done.code ≡ committed.code
  pub size : length done.bytes ≡ length committed.bytes
  pub harts : length done.harts ≡ length committed.harts
