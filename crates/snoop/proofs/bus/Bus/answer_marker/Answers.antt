use Rattle.std.proofs.Common.{rules, sym}
use Rattle.bus_order.specs.Order.{numbered}
use Rattle.snoop.specs.Shows.{bus_state}
use Rattle.snoop.proofs.Delivers.{marker_answered}
use Rattle.snoop.proofs.bus.Bus.answer_marker.Goals as goal

pub returns-in-Some : goal.returns-in-Some
returns-in-Some c =
    search (
      rules,
      c.pass_on.ensures,
      marker_answered (bus_state c.args.self.now) c.args.hart.number c.args.sender.number (numbered c.in-Some.own)
          (sym c.in-Some.ensures),
    )
