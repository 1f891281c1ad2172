-- the hart has its agent, which holds no line
use Rattle.engine.proofs.Misses.{has_agent, holds_none}
use Rattle.engine.proofs.engine.Engine.ask.Goals as goal
use Rattle.engine.specs.Parts.{parts}

pub raise-requires-clause-hart_exists : goal.raise-requires-clause-hart_exists
raise-requires-clause-hart_exists c =
    has_agent (parts c.args.self.now) c.args.hart.number c.args.line.number c.requires.may

pub raise-requires-clause-holds_nothing : goal.raise-requires-clause-holds_nothing
raise-requires-clause-holds_nothing c =
    holds_none (parts c.args.self.now) c.args.hart.number c.args.line.number c.requires.may
