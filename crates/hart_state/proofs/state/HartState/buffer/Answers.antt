-- the run of an armed section goes on, and what all other owners have of the pool stays
use Rattle.std.proofs.Common.{subst}
use Rattle.std.specs.Prelude.{IfSome}
use Rattle.section_ctl.specs.Lent.{LeavesBeside}
use Rattle.section_ctl.specs.PrivateRuns.{ContinuesRun}
use Rattle.hart_state.proofs.state.HartState.buffer.Goals as goal

pub returns-clause-shows_armed : goal.returns-clause-shows_armed
returns-clause-shows_armed c =
    subst
    (λ own. IfSome own.section.armed
    (λ reserved. ContinuesRun own.section c.spec_action.new.self reserved c.args.action)) c.self.view_is
    c.spec_action.ensures.shows_armed

pub returns-clause-beside : goal.returns-clause-beside
returns-clause-beside c =
    subst (λ own. LeavesBeside c.args.sets.now.owner own.section.hold.owner c.args.pool.now c.spec_action.new.pool)
    c.self.view_is
    c.spec_action.ensures.beside
