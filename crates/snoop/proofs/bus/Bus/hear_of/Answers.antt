-- the hart was told of the origin, and has lost its section where it loses to it
use Rattle.std.proofs.Common.{◌∙◌, ap, refl, subst, sym, if◌then◌else◌}
use Rattle.std.proofs.Common.{◌==◌, Some, option_map}
use Rattle.bus_order.specs.Order.{numbered}
use Rattle.el_model.specs.Deliver.{nobody, one_lost, told_of}
use Rattle.el_model.specs.State.{ModelState, with_hart}
use Rattle.snoop.specs.Leaving.{LosesSections}
use Rattle.snoop.specs.Shows.{bus_state}
use Rattle.snoop.proofs.Hears.{heard_ready, heard_shows, lost_ready, lost_shows, one_loser}
use Rattle.snoop.proofs.Leaves.{told_same}
use Rattle.snoop.proofs.Lent.{clears_one}
use Rattle.snoop.proofs.LosersBelow.{nobody_lost}
use Rattle.snoop.proofs.bus.Bus.hear_of.Goals as goal

pub returns-then-loses_to_origin-clause-leaves : goal.returns-then-loses_to_origin-clause-leaves
returns-then-loses_to_origin-clause-leaves c =
    let old = bus_state c.args.self.now in
    let new = bus_state c.lose_to.new.self in
    let h = c.args.hart.number in
    let origin = c.args.origin.number in
    let request = option_map numbered c.args.request in
    let is = c.requires in
    let cleared = clears_one h old.copies new.copies c.lose_to.ensures.copies in
    record {
      ready = lost_ready old new h origin request is.ready is.hart_exists c.lose_to.ensures;
      shows = λ state shows.
          lost_shows old new state h origin request shows is.hart_exists
          (sym (c.loses_to_origin.ensures state shows) ∙ c.if-loses_to_origin.true) c.lose_to.ensures;
      memory_stays = cleared.lines;
      told = cleared.stays.told;
    }

pub returns-then-loses_to_origin-clause-losers : goal.returns-then-loses_to_origin-clause-losers
returns-then-loses_to_origin-clause-losers c = λ state shows.
    one_loser c.with.result c.args.hart.number c.args.origin.number c.args.origin.small
    (λ k. c.with.ensures k ∙ ap (λ other. if k == c.args.hart.number then Some c.args.origin.number else other)
    (c.none.ensures k))
    ∙ ap (λ loses. if loses then one_lost c.args.hart.number c.args.origin.number else nobody)
    (sym c.if-loses_to_origin.true ∙ c.loses_to_origin.ensures state shows)

pub returns-else-loses_to_origin-clause-leaves : goal.returns-else-loses_to_origin-clause-leaves
returns-else-loses_to_origin-clause-leaves c =
    let bus = bus_state c.args.self.now in
    let h = c.args.hart.number in
    let origin = c.args.origin.number in
    let request = option_map numbered c.args.request in
    let told : ModelState → ModelState = λ state. with_hart state h (told_of state h origin request) in
    subst (λ agents. LosesSections told bus (record bus { agents = agents })) (sym c.hear.ensures)
    (record {
      ready = heard_ready bus h origin c.requires.ready;
      shows = λ state shows.
          heard_shows bus state h origin request shows
          (sym (c.loses_to_origin.ensures state shows) ∙ c.if-loses_to_origin.false);
      memory_stays = refl;
      told = told_same bus;
    })

pub returns-else-loses_to_origin-clause-losers : goal.returns-else-loses_to_origin-clause-losers
returns-else-loses_to_origin-clause-losers c = λ state shows.
    nobody_lost c.none-else-loses_to_origin.result c.none-else-loses_to_origin.ensures
    ∙ ap (λ loses. if loses then one_lost c.args.hart.number c.args.origin.number else nobody)
    (sym c.if-loses_to_origin.false ∙ c.loses_to_origin.ensures state shows)
