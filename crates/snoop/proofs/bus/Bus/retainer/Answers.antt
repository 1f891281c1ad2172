use Rattle.std.proofs.Common.{sym}
use Rattle.bus_order.specs.Order.{numbered}
use Rattle.snoop.proofs.Firsts.{plain_first}
use Rattle.snoop.specs.Shows.{bus_state}
use Rattle.snoop.proofs.bus.Bus.retainer.Goals as goal

pub returns-in-Plain : goal.returns-in-Plain
returns-in-Plain c = λ state shows.
    sym (plain_first (bus_state c.args.self.now) state (numbered c.args.head) c.requires.ready shows c.in-Plain.is)
