-- what the hart knows is sent to the sender
use Rattle.std.proofs.Common.{ap, subst, sym}
use Rattle.snoop.specs.Shows.{BusState, IsReady, Shows, bus_state}
use Rattle.snoop.proofs.Delivers.{marker_ready, marker_shows}
use Rattle.el_model.specs.Deliver.{after_marker}
use Rattle.snoop.proofs.bus.Bus.take_marker.Goals as goal

pub returns : goal.returns
returns c =
    let bus = bus_state c.args.self.now in
    let h = c.args.hart.number in
    let sender = c.args.sender.number in
    record {
      ready = subst IsReady (sym c.answer_marker.ensures) (marker_ready bus h sender c.requires.ready);
      mode = ap (λ (b : BusState). b.mode) c.answer_marker.ensures;
      shows = λ state shows.
          subst (λ b. Shows b (after_marker state h sender)) (sym c.answer_marker.ensures)
          (marker_shows bus state h sender shows);
      copies_stay = ap (λ (b : BusState). b.copies) c.answer_marker.ensures;
    }
