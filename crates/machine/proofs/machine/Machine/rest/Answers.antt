-- three events of the bus that find nothing, one after another
use Rattle.std.proofs.Common.{◌∙◌, sym}
use Rattle.machine.proofs.GoesOn.{hart_there, now_in, one_run, parts_stand}
use Rattle.machine.proofs.Resting.{throughout}
use Rattle.machine.specs.Story.{state_of}
use Rattle.machine.proofs.machine.Machine.rest.Goals as goal

pub is_quiet-requires-clause-hart_exists : goal.is_quiet-requires-clause-hart_exists
is_quiet-requires-clause-hart_exists c = hart_there _ _ _ _ _ c.self.invariant c.self.view_is c.requires.hart_exists

pub is_quiet-requires-clause-stands : goal.is_quiet-requires-clause-stands
is_quiet-requires-clause-stands c = parts_stand _ _ _ c.self.invariant

pub returns-then-not-is_quiet-clause-exact : goal.returns-then-not-is_quiet-clause-exact
returns-then-not-is_quiet-clause-exact c =
    sym c.if-not-is_quiet.true
    ∙ c.is_quiet.ensures (state_of c.args.self.now) (now_in _ _ _ _ c.self.invariant c.self.view_is)

pub returns-then-not-is_quiet-clause-one_run : goal.returns-then-not-is_quiet-clause-one_run
returns-then-not-is_quiet-clause-one_run c = one_run _ _ _ _ c.self.invariant c.self.view_is

pub returns-clause-throughout : goal.returns-clause-throughout
returns-clause-throughout c done =
    let state = state_of c.args.self.now in
    let quiet = c.is_quiet.ensures state (now_in _ _ _ _ c.self.invariant c.self.view_is) in
    throughout c.args.self.now c.args.hart (sym quiet ∙ c.if-not-is_quiet.false)
