-- a request that can be served was raised
use Rattle.std.proofs.Common.{◌≡◌, ◌<◌, ◌∙◌, None, arith, length, refl, sym}
use Rattle.bus_order.specs.Order.{numbered, request_of}
use Rattle.snoop.proofs.Standing.{is_told, no_request, ready_raised}
use Rattle.snoop.proofs.tests.events.ask_for.Goals as goal
use Rattle.snoop.specs.Shows.{bus_state}

pub invariant_of-rig : goal.invariant_of-rig
invariant_of-rig c =
    let bus = bus_state c.args.rig.now.bus in
    let request =
    numbered
    (record { hart = c.args.hart; line = c.args.line; need = c.args.need; stamp = c.attempt-stamp.result }) in
    let inside : c.args.hart.number < length bus.agents = omega (arith, c.args.rig.now.bus.agents.ok.0) in
    let none : request_of bus.order c.args.hart.number ≡ None =
    sym c.of.ensures ∙ no_request c.of.result (sym c.is_some.ensures ∙ c.if-is_some.false) in record {
      ready =
          rw c.raise.ensures
          (ready_raised bus request c.args.rig.now.ready none
          (record {
            own = refl;
            hart_exists = inside;
            in_memory = is_told c.has_in_memory.result _ _ c.if-not-has_in_memory.false c.has_in_memory.ensures;
            room = sym c.has_room.ensures ∙ c.if-not-has_room.false;
          }));
    }
