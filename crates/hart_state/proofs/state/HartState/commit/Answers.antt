-- what all other owners have of the pool stays
use Rattle.std.proofs.Common.{subst}
use Rattle.section_ctl.specs.Lent.{LeavesBeside}
use Rattle.hart_state.proofs.state.HartState.commit.Goals as goal

pub returns-clause-beside : goal.returns-clause-beside
returns-clause-beside c =
    subst (λ own. LeavesBeside c.args.sets.now.owner own.section.hold.owner c.args.pool.now c.commit_action.new.pool)
    c.self.view_is
    c.commit_action.ensures.beside
