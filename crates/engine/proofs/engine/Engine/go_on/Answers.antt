-- a hart whose request stands waits for it
use Rattle.std.proofs.Common.{◌∙◌, sym}
use Rattle.engine.proofs.Steps.{keeps_still, stalled_turn, status_is}
use Rattle.engine.proofs.engine.Engine.go_on.Goals as goal
use Rattle.engine.specs.Parts.{parts}

pub returns-then-waits : goal.returns-then-waits
returns-then-waits c =
    keeps_still (parts c.args.self.now) _ _ c.requires.stands.ready
    (λ state is. stalled_turn state c.args.hart.number
    (status_is (parts c.args.self.now) state c.args.hart.number c.requires.hart_exists is ∙ c.requires.running)
    (sym (c.waits.ensures state is.shows) ∙ c.if-waits.true))
