-- the present view, lent for writing
use Rattle.std.specs.Borrow.{Lends, MutBor, Fml}
use Rattle.reg_mark.specs.declared.marked.Marked.{Marked}
use Rattle.reg_mark.specs.contracts.marked.Marked.{the_row}
use Rattle.rv_alu.specs.declared.view.HartView.{HartView}
use Rattle.rv_alu.specs.contracts.view.HartView as view

-- what is written to the present view is the present view afterwards, and the checkpoint stays
abbrev pub LendsPresent : MutBor Marked → MutBor HartView → Fml
LendsPresent marks present =
    Lends the_row view.the_row marks present (λ written. record marks.now { present = written })
