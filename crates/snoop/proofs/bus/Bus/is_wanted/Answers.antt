-- another hart's request is in the way of a new bit
use Rattle.std.proofs.Common.{◌∙◌}
use Rattle.snoop.specs.Shows.{bus_state}
use Rattle.snoop.proofs.Wanted.{wanted_shown}
use Rattle.snoop.proofs.bus.Bus.is_wanted.Goals as goal

pub returns : goal.returns
returns c = λ state shows.
    c.is_asked.ensures
    ∙ wanted_shown (bus_state c.args.self.now) state c.as_slice.result.now c.args.hart.number
    c.args.line.number c.args.need
    c.as_slice.ensures shows
