-- the section of the state
use Rattle.std.proofs.Common.{◌∙◌}
use Rattle.machine.proofs.GoesOn.{hart_there, now_in}
use Rattle.machine.proofs.InSections.{runs_covered, runs_short}
use Rattle.machine.proofs.machine.Machine.section.Goals as goal
use Rattle.machine.specs.Story.{state_of}

pub section_state-requires : goal.section_state-requires
section_state-requires c = hart_there _ _ _ _ _ c.self.invariant c.self.view_is c.requires

pub returns-clause-exact : goal.returns-clause-exact
returns-clause-exact c =
    c.live.ensures.exact ∙ c.section_state.ensures.live (state_of c.args.self.now)
    (now_in _ _ _ _ c.self.invariant c.self.view_is)

pub returns-clause-covered : goal.returns-clause-covered
returns-clause-covered c = λ section live. runs_covered _ _ _ _ _ section c.self.invariant c.self.view_is live

pub returns-clause-short : goal.returns-clause-short
returns-clause-short c = λ section live. runs_short _ _ _ _ _ section c.self.invariant c.self.view_is live
