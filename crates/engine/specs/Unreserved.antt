-- the reservations that other harts lose as a section commits
use Rattle.std.specs.Prelude.{ℕ, ◌≡◌, ◌≢◌, ◌≤◌, ◌<◌, Bool, List, Option, None, Some, length, if◌then◌else◌}
use Rattle.el_base.specs.Line.{line_number}
use Rattle.engine.specs.Parts.{own_at}
use Rattle.hart_state.specs.Deeds.{unreserved_own}
use Rattle.hart_state.specs.Own.{OwnState}
use Rattle.line_pool.specs.Pooled.{Pooled}
use Rattle.reg_mark.specs.Marks.{committed_of}
use Rattle.section_ctl.specs.Calls.{has_written}
use Rattle.section_ctl.specs.State.{hold_in}

-- the lines that a hart's live section has written
abbrev pub written_by : Pooled → OwnState → ℕ → Bool
written_by pool own line = has_written own.section.live (hold_in pool own.section).entries line

-- the line of a reserved word, where it is one of these
abbrev pub line_among : (ℕ → Bool) → Option ℕ → Option ℕ
line_among lines None = None
line_among lines (Some word) = if lines (line_number word) then Some (line_number word) else None

-- what a hart keeps whose committed view has lost its reservation of a word on a line, if there is one
abbrev pub unreserved_line : Option ℕ → OwnState → OwnState
unreserved_line None own = own
unreserved_line (Some line) own = unreserved_own line own

-- and one that has lost it where it is of a word on one of these lines
abbrev pub unreserved_beside : (ℕ → Bool) → OwnState → OwnState
unreserved_beside lines own = unreserved_line (line_among lines (committed_of own.section.marks).reserved) own

-- so is each hart but one, which is as it was
pub record AreUnreserved (h : ℕ) (lines : ℕ → Bool) (old new : List OwnState) : Type 0 where
  pub count : length new ≡ length old
  pub own : own_at new h ≡ own_at old h
  pub others : (g : ℕ) → g ≢ h → g < length old → own_at new g ≡ unreserved_beside lines (own_at old g)

-- so is each below a number, and from there on they are as they were
pub record AreUnreservedBelow (number h : ℕ) (lines : ℕ → Bool) (old new : List OwnState) : Type 0 where
  pub count : length new ≡ length old
  pub own : own_at new h ≡ own_at old h
  pub below : (g : ℕ) → g ≢ h → g < number → own_at new g ≡ unreserved_beside lines (own_at old g)
  pub above : (g : ℕ) → number ≤ g → own_at new g ≡ own_at old g
