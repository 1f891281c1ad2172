-- What the committed and the present view are after each call.
use Rattle.std.proofs.Common.{◌≡◌, ℕ, Option, None, Some, refl}
use Rattle.reg_mark.specs.declared.marked.Marked.{Marked}
use Rattle.reg_mark.specs.Marks.{back_of, checkpoint_or, committed_of, kept_of, marked, marks_unreserved, unmarked}
use Rattle.reg_mark.specs.Marks.{views_unreserved}
use Rattle.rv_alu.specs.declared.view.HartView.{HartView}
use Rattle.rv_alu.specs.Reservations.{unreserved}

-- after each call but `mark`, no checkpoint or the same
pub committed_marked : (marks : Marked) → committed_of (marked marks) ≡ marks.present
committed_marked marks = refl

pub present_marked : (marks : Marked) → (marked marks).present ≡ marks.present
present_marked marks = refl

pub committed_back : (marks : Marked) → committed_of (back_of marks) ≡ committed_of marks
committed_back marks = refl

pub present_back : (marks : Marked) → (back_of marks).present ≡ committed_of marks
present_back marks = refl

pub committed_kept : (marks : Marked) → committed_of (kept_of marks) ≡ marks.present
committed_kept marks = refl

-- a checkpoint that was made and gone back to leaves the views as they were
pub back_of_marked : (view : HartView) → back_of (marked (unmarked view)) ≡ unmarked view
back_of_marked view = refl

-- the committed view loses its reservation
pub committed_unreserved : (line : ℕ) (marks : Marked) →
    committed_of (marks_unreserved line marks) ≡ unreserved line (committed_of marks)
committed_unreserved line marks = of marks.mark
  where
    of : (mark : Option HartView) → committed_of (views_unreserved line mark marks.present)
        ≡ unreserved line (checkpoint_or mark marks.present)
    of None = refl
    of (Some mark) = refl

-- the present view keeps its own beside a checkpoint
pub present_unreserved : (line : ℕ) (marks : Marked) (mark : HartView) → marks.mark ≡ Some mark
    → (marks_unreserved line marks).present ≡ marks.present
present_unreserved line marks mark stands = of marks.mark stands
  where
    of : (found : Option HartView) → found ≡ Some mark →
        (views_unreserved line found marks.present).present ≡ marks.present
    of None stands = absurd cc
    of (Some found) stands = refl
