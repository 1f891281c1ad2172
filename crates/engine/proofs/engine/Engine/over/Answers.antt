-- whether every hart has stopped is what the state shows
use Rattle.std.proofs.Common.{◌∙◌}
use Rattle.engine.proofs.Seen.{over_is}
use Rattle.engine.proofs.engine.Engine.over.Goals as goal
use Rattle.engine.specs.Parts.{parts}

pub returns-clause-state : goal.returns-clause-state
returns-clause-state c state is = c.have_stopped.ensures ∙ over_is (parts c.args.self.now) state is
