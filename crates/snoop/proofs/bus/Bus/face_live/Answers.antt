-- the fates are the definition's, and each hart has had its own
use Rattle.std.proofs.Common.{◌≡◌, ◌∙◌, ap, length, refl, sym, subst}
use Rattle.bus_order.specs.Order.{numbered}
use Rattle.el_base.specs.Losers.{losers_of}
use Rattle.el_model.specs.Face.{faced, winner_in}
use Rattle.snoop.proofs.Faced.{faced_losers, faced_ready, faced_shows}
use Rattle.snoop.proofs.Leaves.{told_same}
use Rattle.snoop.proofs.LosersBelow.{nobody_lost}
use Rattle.snoop.proofs.Unmet.{unmet_losers, unmet_shows}
use Rattle.snoop.proofs.bus.Bus.face_live.Goals as goal
use Rattle.snoop.specs.Fates.{fate_in, nobody_met}
use Rattle.snoop.specs.Leaving.{LosesSections}
use Rattle.snoop.specs.Settled.{AreSettledBelow, sent_in}
use Rattle.snoop.specs.Shows.{bus_state}

pub returns-clause-leaves : goal.returns-clause-leaves
returns-clause-leaves g c =
    let head = numbered c.args.head in
    let known = c.fates-fates.result.items in
    let old = bus_state c.args.self.now in
    let mid = bus_state c.settle_all.new.self in
    let settled : AreSettledBelow head (fate_in known) (length known) old mid =
    rw c.deref-2.ensures.0 at c.settle_all.ensures in
    let sent : bus_state c.answer_head.new.self
    ≡ record mid { agents = sent_in mid.mode known c.args.head.hart.number mid.agents } =
    rw c.deref-3.ensures.0 at c.answer_head.ensures in
    subst (λ bus. LosesSections (λ state. faced state head) old bus) (sym sent)
    (record {
      ready = faced_ready head known old mid settled c.requires.ready;
      shows = λ state shows.
          faced_shows head known old mid state c.fates-fates.ensures.count settled shows
          (c.fates-fates.ensures.each state shows);
      memory_stays = settled.lines;
      told = settled.stays.told;
    })

pub returns-clause-losers : goal.returns-clause-losers
returns-clause-losers g c = λ state shows.
    c.losers_by.ensures ∙ ap (λ known. losers_of (λ h. winner_in (fate_in known h))) c.deref-4.ensures.0
    ∙ faced_losers (numbered c.args.head) c.fates-fates.result.items state (c.fates-fates.ensures.each state shows)

pub returns-then-nobody_met-clause-leaves : goal.returns-then-nobody_met-clause-leaves
returns-then-nobody_met-clause-leaves g c =
    let bus = bus_state c.args.self.now in
    record {
      ready = c.requires.ready;
      shows = λ state shows.
          unmet_shows (numbered c.args.head) bus state shows c.fates-fates.result.items c.fates-fates.ensures.count
          (ap nobody_met (sym c.deref.ensures.0) ∙ sym c.nobody_met.ensures ∙ c.if-nobody_met.true)
          (c.fates-fates.ensures.each state shows);
      memory_stays = refl;
      told = told_same bus;
    }

pub returns-then-nobody_met-clause-losers : goal.returns-then-nobody_met-clause-losers
returns-then-nobody_met-clause-losers g c = λ state shows.
    nobody_lost c.none.result c.none.ensures
    ∙ unmet_losers (numbered c.args.head) (bus_state c.args.self.now) state shows c.fates-fates.result.items
    c.fates-fates.ensures.count
    (ap nobody_met (sym c.deref.ensures.0) ∙ sym c.nobody_met.ensures ∙ c.if-nobody_met.true)
    (c.fates-fates.ensures.each state shows)
