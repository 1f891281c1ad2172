use Rattle.std.proofs.Common.{◌∙◌}
use Rattle.lab.proofs.Lettering.{place_of_numbered}
use Rattle.lab.proofs.showing.place_in_order.Goals as goal
use Rattle.machine.specs.Story.{state_of}

pub returns : goal.returns
returns c =
    c.place_of.ensures
    ∙ place_of_numbered c.as_slice.result.now (state_of c.args.machine.now).order c.args.hart.number
    (c.as_slice.ensures ∙ c.requests.ensures ∙ c.bus.ensures.shows.order)
