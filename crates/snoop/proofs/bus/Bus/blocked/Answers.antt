-- the hart that is in the way
use Rattle.std.proofs.Common.{◌∙◌, Some, ap, sym}
use Rattle.el_base.specs.declared.outcomes.Outcome.TheVariants.{Blocked}
use Rattle.el_base.proofs.Laws.HartIds.{hart_id-of_hart}
use Rattle.snoop.specs.Obstacles.{blocked_by, numbered_obstacle}
use Rattle.snoop.proofs.bus.Bus.blocked.Goals as goal

pub returns-in-Blocks-clause-exact : goal.returns-in-Blocks-clause-exact
returns-in-Blocks-clause-exact c = λ state shows.
    ap (λ by. Some (Blocked c.in-Blocks.why by)) (sym (hart_id-of_hart c.in-Blocks.by))
    ∙ ap blocked_by (ap numbered_obstacle (sym c.in-Blocks.is) ∙ c.obstacle_to.ensures state shows)
