-- the view of a hart without a section, lent for writing
use Rattle.std.specs.Borrow.{Lends, MutBor, Fml}
use Rattle.hart_state.specs.Own.{OwnState}
use Rattle.hart_state.specs.contracts.state.HartState.{the_row}
use Rattle.rv_alu.specs.contracts.view.HartView as view
use Rattle.rv_alu.specs.declared.view.HartView.{HartView}
use Rattle.section_ctl.specs.Lending.{with_present}

-- what is written to the view is the view afterwards, and all else stays
abbrev pub with_view : OwnState → HartView → OwnState
with_view own written = record own { section = with_present own.section written }

abbrev pub LendsOwnView : MutBor OwnState → MutBor HartView → Fml
LendsOwnView own present = Lends the_row view.the_row own present (with_view own.now)
