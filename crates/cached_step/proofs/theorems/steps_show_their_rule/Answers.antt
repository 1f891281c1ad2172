-- the law itself
use Rattle.cached_step.proofs.Rules.{shows_rule}
use Rattle.cached_step.proofs.theorems.steps_show_their_rule.Goals as goal

pub returns : goal.returns
returns c = shows_rule
