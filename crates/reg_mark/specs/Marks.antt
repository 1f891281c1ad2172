-- a hart's view with at most one checkpoint of it
use Rattle.std.specs.Prelude.{ℕ, Option, None, Some}
use Rattle.reg_mark.specs.declared.marked.Marked.{Marked}
use Rattle.rv_alu.specs.declared.view.HartView.{HartView}
use Rattle.rv_alu.specs.Reservations.{unreserved}

-- the view without a checkpoint
abbrev pub unmarked : HartView → Marked
unmarked view = record { present = view; mark = None }

-- the view with a checkpoint of itself
abbrev pub marked : Marked → Marked
marked marks = record { present = marks.present; mark = Some marks.present }

-- the checkpoint, or the present view where none stands
abbrev pub checkpoint_or : Option HartView → HartView → HartView
checkpoint_or None present = present
checkpoint_or (Some mark) present = mark

-- the committed view: the checkpoint where one stands
abbrev pub committed_of : Marked → HartView
committed_of marks = checkpoint_or marks.mark marks.present

-- back at the checkpoint, which is given up
abbrev pub back_of : Marked → Marked
back_of marks = unmarked (committed_of marks)

-- the present view stays, and the checkpoint is given up
abbrev pub kept_of : Marked → Marked
kept_of marks = unmarked marks.present

-- the views after the committed one lost its reservation of a word on the line; beside a checkpoint
-- the present view keeps its own
abbrev pub views_unreserved : ℕ → Option HartView → HartView → Marked
views_unreserved line None present = unmarked (unreserved line present)
views_unreserved line (Some mark) present = record { present = present; mark = Some (unreserved line mark) }

-- the same, of the two together
abbrev pub marks_unreserved : ℕ → Marked → Marked
marks_unreserved line marks = views_unreserved line marks.mark marks.present
