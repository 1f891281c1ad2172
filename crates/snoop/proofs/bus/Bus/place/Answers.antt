-- a request that is the first of its line is met
use Rattle.std.proofs.Common.{◌∙◌, ap, refl, sym}
use Rattle.bus_order.specs.Order.{numbered}
use Rattle.el_model.specs.Order.{Alone, InFront, before_face, freed_at, losers_at, placed}
use Rattle.snoop.proofs.PlacedMet.{placed_and_met}
use Rattle.snoop.proofs.bus.Bus.place.Goals as goal
use Rattle.snoop.specs.Places.{definition_place}
use Rattle.snoop.specs.Shows.{bus_state}

pub returns-in-InFront-clause-leaves : goal.returns-in-InFront-clause-leaves
unfolding placed
returns-in-InFront-clause-leaves g c =
    placed_and_met (bus_state c.args.self.now) (bus_state c.go_in_front.new.self) (bus_state c.meet.new.self)
    (numbered c.args.request) InFront
    (λ state. refl)
    (λ state shows. ap definition_place (sym c.in-InFront.is) ∙ c.place_for.ensures state shows)
    c.go_in_front.ensures c.meet.ensures.leaves

pub returns-in-InFront-clause-losers : goal.returns-in-InFront-clause-losers
returns-in-InFront-clause-losers g c = λ state shows.
    let request = numbered c.args.request in
    c.meet.ensures.losers (before_face state request InFront) (c.go_in_front.ensures.shows state shows)
    ∙ ap (losers_at state request) (ap definition_place (sym c.in-InFront.is) ∙ c.place_for.ensures state shows)

pub returns-in-InFront-clause-freed : goal.returns-in-InFront-clause-freed
returns-in-InFront-clause-freed g c = λ state shows.
    let request = numbered c.args.request in
    c.meet.ensures.freed (before_face state request InFront) (c.go_in_front.ensures.shows state shows)
    ∙ ap (freed_at state request) (ap definition_place (sym c.in-InFront.is) ∙ c.place_for.ensures state shows)

pub returns-in-Behind-clause-losers : goal.returns-in-Behind-clause-losers
returns-in-Behind-clause-losers g c = λ state shows.
    let request = numbered c.args.request in
    c.nobody.ensures.losers
    ∙ ap (losers_at state request) (ap definition_place (sym c.in-Behind.is) ∙ c.place_for.ensures state shows)

pub returns-in-Behind-clause-freed : goal.returns-in-Behind-clause-freed
returns-in-Behind-clause-freed g c = λ state shows.
    let request = numbered c.args.request in
    c.nobody.ensures.freed
    ∙ ap (freed_at state request) (ap definition_place (sym c.in-Behind.is) ∙ c.place_for.ensures state shows)

pub returns-in-Alone-clause-leaves : goal.returns-in-Alone-clause-leaves
unfolding placed
returns-in-Alone-clause-leaves g c =
    placed_and_met (bus_state c.args.self.now) (bus_state c.put_last.new.self) (bus_state c.meet-in-Alone.new.self)
    (numbered c.args.request) Alone
    (λ state. refl)
    (λ state shows. ap definition_place (sym c.in-Alone.is) ∙ c.place_for.ensures state shows)
    c.put_last.ensures c.meet-in-Alone.ensures.leaves

pub returns-in-Alone-clause-losers : goal.returns-in-Alone-clause-losers
returns-in-Alone-clause-losers g c = λ state shows.
    let request = numbered c.args.request in
    c.meet-in-Alone.ensures.losers (before_face state request Alone) (c.put_last.ensures.shows state shows)
    ∙ ap (losers_at state request) (ap definition_place (sym c.in-Alone.is) ∙ c.place_for.ensures state shows)

pub returns-in-Alone-clause-freed : goal.returns-in-Alone-clause-freed
returns-in-Alone-clause-freed g c = λ state shows.
    let request = numbered c.args.request in
    c.meet-in-Alone.ensures.freed (before_face state request Alone) (c.put_last.ensures.shows state shows)
    ∙ ap (freed_at state request) (ap definition_place (sym c.in-Alone.is) ∙ c.place_for.ensures state shows)
