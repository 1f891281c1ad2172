use Rattle.std.proofs.Common.{ap, ◌+◌, ◌∙◌, ◌∷◌, [], None, true}
use Rattle.bus_lock.proofs.lock.BusLock.hold.Goals as goal

pub of-requires-clause-turn : goal.of-requires-clause-turn
of-requires-clause-turn g c =
    let seen = g.M.Chronicled.entries c.wait_for_turn-value.result.value in
    let drawn = ap (λ m. m.0) c.draw-ticket.ensures.drawn
    ∙ ap (λ m. record m.0 { ticket = c.draw-ticket.result + 1 }) c.into_seat-seat.ensures.1 in (
      record c.args.pass { seen = seen },
      c.wait_for_turn-value.ensures.turn ∙ ap (λ v. (record v { turn = true; seen = seen }, (0, None) ∷ [])) drawn,
    )
