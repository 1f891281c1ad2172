-- the armed section of the state
use Rattle.std.proofs.Common.{◌∙◌}
use Rattle.machine.proofs.GoesOn.{hart_there, now_in}
use Rattle.machine.proofs.InSections.{armed_alone, armed_short, runs_armed}
use Rattle.machine.proofs.machine.Machine.armed.Goals as goal
use Rattle.machine.specs.Story.{state_of}

pub section_state-requires : goal.section_state-requires
section_state-requires c = hart_there _ _ _ _ _ c.self.invariant c.self.view_is c.requires

pub returns-clause-exact : goal.returns-clause-exact
returns-clause-exact c =
    c.armed.ensures.exact ∙ c.section_state.ensures.armed (state_of c.args.self.now)
    (now_in _ _ _ _ c.self.invariant c.self.view_is)

pub returns-clause-alone : goal.returns-clause-alone
returns-clause-alone c some =
    armed_alone c.args.self.now c.args.hart.number c.armed.result (returns-clause-exact c) some

pub returns-clause-runs : goal.returns-clause-runs
returns-clause-runs c = λ armed is. runs_armed _ _ _ _ _ armed c.self.invariant c.self.view_is is

pub returns-clause-short : goal.returns-clause-short
returns-clause-short c = λ armed is. armed_short _ _ _ _ _ armed c.self.invariant c.self.view_is is
