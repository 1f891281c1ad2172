-- in the plain mode nobody is met
use Rattle.std.proofs.Common.{◌∙◌, refl}
use Rattle.bus_order.specs.Order.{numbered}
use Rattle.snoop.proofs.Leaves.{told_same}
use Rattle.snoop.proofs.LosersBelow.{nobody_lost}
use Rattle.snoop.proofs.Unmet.{plain_losers, plain_shows}
use Rattle.snoop.proofs.bus.Bus.face.Goals as goal
use Rattle.snoop.specs.Shows.{bus_state}

pub returns-in-Plain-clause-leaves : goal.returns-in-Plain-clause-leaves
returns-in-Plain-clause-leaves g c =
    let bus = bus_state c.args.self.now in
    record {
      ready = c.requires.ready;
      shows = λ state shows. plain_shows (numbered c.args.head) bus state shows c.requires.ready c.in-Plain.is;
      memory_stays = refl;
      told = told_same bus;
    }

pub returns-in-Plain-clause-losers : goal.returns-in-Plain-clause-losers
returns-in-Plain-clause-losers g c = λ state shows.
    nobody_lost c.none.result c.none.ensures
    ∙ plain_losers (numbered c.args.head) (bus_state c.args.self.now) state shows c.requires.ready c.in-Plain.is
