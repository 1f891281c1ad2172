-- the change is that of the next action
use Rattle.std.proofs.Common.{sym}
use Rattle.rv_flat.proofs.Changes.{running-change}
use Rattle.rv_flat.proofs.flat_state.Flat.next_change.Goals as goal

pub returns-in-Running : goal.returns-in-Running
returns-in-Running c =
    let held = rw (c.written_register.ensures, c.footprint.ensures) at c.held.ensures in
    running-change c.args.self.now c.args.hart.number c.next_action-action.result c.held.result
    (sym c.in-Running.ensures)
    (rw c.from.ensures at c.next_action-action.ensures.value) held
