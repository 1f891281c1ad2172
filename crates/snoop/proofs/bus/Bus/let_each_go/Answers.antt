-- one hart more is let go
use Rattle.std.proofs.Common.{◌==◌, arith, not, subst}
use Rattle.el_base.specs.Freed.{count_in}
use Rattle.snoop.proofs.Changes.{one_hart_changed}
use Rattle.snoop.proofs.bus.Bus.let_each_go.Goals as goal
use Rattle.snoop.specs.LettingGo.{IsLetGo, agent_let_go, goes}
use Rattle.snoop.specs.Shows.{bus_state}

pub loop-number-preserved : goal.loop-number-preserved
loop-number-preserved c =
    let mid = bus_state c.loop-number.self in
    let new = bus_state c.let_one_go.new.self in
    one_hart_changed (λ h. agent_let_go (goes c.args.freed h)) (goes c.args.freed) c.loop-number.number
    (bus_state c.args.self.now) mid new
    c.loop-number.invariant
    (subst (λ n. IsLetGo (not (count_in c.args.freed n == 0)) n mid new) c.at-hart.ensures
    (subst (λ count. IsLetGo (not (count == 0)) c.at-hart.result.number mid new) c.count_of.ensures.exact
    c.let_one_go.ensures))
    (omega arith)
