-- a hart that has given up what it held may act
use Rattle.std.proofs.Common.{ap}
use Rattle.engine.proofs.Steps.{going_on, may_act, may_act_somewhere}
use Rattle.engine.proofs.TakenTurns.{as_well, taken_after}
use Rattle.engine.proofs.engine.Engine.give_up_and_act.Goals as goal
use Rattle.engine.specs.Parts.{parts}
use Rattle.snoop.specs.Shows.{bus_state}

pub act-requires : goal.act-requires
act-requires c =
    may_act_somewhere (parts c.args.self.now) (bus_state c.give_up.new.self) c.args.hart.number c.requires.stands
    c.requires.hart_exists
    c.requires.running c.requires.free c.give_up.ensures.ready c.give_up.ensures.copies_stay c.give_up.ensures.shows

pub returns : goal.returns
returns c =
    let old = parts c.args.self.now in
    let h = c.args.hart.number in
    taken_after
    (as_well c.act.ensures
    (λ state is. may_act old (bus_state c.give_up.new.self) state h is.0 is.1 c.requires.hart_exists c.requires.running
    (c.requires.free state is.1.shows) c.give_up.ensures.ready c.give_up.ensures.copies_stay
    (c.give_up.ensures.shows state is.1.shows))
    (λ state is. going_on old state h c.requires.hart_exists is.1 c.requires.running
    (c.requires.free state is.1.shows)))
    (ap (λ copies. copies.lines) c.give_up.ensures.copies_stay)
