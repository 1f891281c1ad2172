use Rattle.machine.proofs.GoesOn.{one_run, recordable}
use Rattle.machine.proofs.machine.Machine.history.Goals as goal

pub returns-clause-one_run : goal.returns-clause-one_run
returns-clause-one_run c = one_run _ _ _ _ c.self.invariant c.self.view_is

pub returns-clause-recordable : goal.returns-clause-recordable
returns-clause-recordable c = recordable _ _ _ _ c.self.invariant c.self.view_is
