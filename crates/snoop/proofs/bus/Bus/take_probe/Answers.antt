-- the hart was told before, or it hears of the origin and forwards the probe
use Rattle.std.proofs.Common.{◌∙◌, ap, subst, sym, if◌then◌else◌, option_map}
use Rattle.bus_order.specs.Order.{numbered, request_of}
use Rattle.defer_list.specs.HartSet.{has}
use Rattle.el_model.specs.Deliver.{after_probe, nobody, probe_losers}
use Rattle.el_model.specs.State.{ordered_of}
use Rattle.snoop.specs.Shows.{Holding, Shows, TellsIn, bus_state}
use Rattle.snoop.proofs.Hears.{forward_ready, probe_shows}
use Rattle.snoop.proofs.LosersBelow.{nobody_lost}
use Rattle.snoop.proofs.bus.Bus.take_probe.Goals as goal

pub returns-then-knows-clause-losers : goal.returns-then-knows-clause-losers
returns-then-knows-clause-losers c = λ state shows.
    nobody_lost c.none.result c.none.ensures
    ∙ ap (λ known. if known then nobody else probe_losers state c.args.hart.number c.args.origin.number
    (ordered_of state c.args.origin.number))
    (sym c.if-knows.true ∙ c.knows.ensures ∙ ap (λ agent. has agent.told c.args.origin.number)
    (c.agent.ensures ∙ shows.agents c.args.hart.number))

pub forward-requires-clause-hart_exists : goal.forward-requires-clause-hart_exists
forward-requires-clause-hart_exists c = c.hear_of-losers.ensures.hart_exists

pub returns-clause-leaves : goal.returns-clause-leaves
returns-clause-leaves c =
    let heard = bus_state c.hear_of-losers.new.self in
    let new = bus_state c.forward.new.self in
    let h = c.args.hart.number in
    let origin = c.args.origin.number in
    let request = option_map numbered c.of-request.result in
    let hears = c.hear_of-losers.ensures.leaves in
    record {
      ready = forward_ready heard new h origin request hears.ready c.forward.ensures;
      shows = λ state shows.
          subst (Shows new)
          (ap (after_probe state h origin) (c.of-request.ensures ∙ ap (λ order. request_of order origin) shows.order)
          ∙ ap (λ known. if known then state else after_probe state h origin (ordered_of state origin))
          (sym c.if-knows.false ∙ c.knows.ensures ∙ ap (λ agent. has agent.told origin)
          (c.agent.ensures ∙ shows.agents h)))
          (probe_shows heard new state h origin request (hears.shows state shows) c.forward.ensures);
      memory_stays = ap (λ (copies : Holding). copies.lines) c.forward.ensures.copies ∙ hears.memory_stays;
      told =
          λ pool bytes tells. subst (λ copies. TellsIn pool copies bytes) (sym c.forward.ensures.copies)
          (hears.told pool bytes tells);
    }

pub returns-clause-losers : goal.returns-clause-losers
returns-clause-losers c = λ state shows.
    let request = c.of-request.ensures ∙ ap (λ order. request_of order c.args.origin.number) shows.order in
    c.hear_of-losers.ensures.losers state shows
    ∙ ap (probe_losers state c.args.hart.number c.args.origin.number) request
    ∙ ap (λ known. if known then nobody else probe_losers state c.args.hart.number c.args.origin.number
    (ordered_of state c.args.origin.number))
    (sym c.if-knows.false ∙ c.knows.ensures ∙ ap (λ agent. has agent.told c.args.origin.number)
    (c.agent.ensures ∙ shows.agents c.args.hart.number))
