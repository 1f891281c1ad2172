use Rattle.std.proofs.Common.{◌<◌, ◌≤◌, All, length}
use Rattle.el_base.specs.declared.config.TheConstants.{MAX_STEPS}
use Rattle.schedule.proofs.text.read_lines.Given as goal

abbrev pub invariant-loop-index : goal.invariant-loop-index
invariant-loop-index l =
    All (λ event. event.hart.number < l.harts) l.events.items × (length l.events.items ≤ MAX_STEPS)
