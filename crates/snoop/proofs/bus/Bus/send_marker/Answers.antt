-- one mailbox has a marker more
use Rattle.std.proofs.Common.{◌∙◌, refl, subst, sym}
use Rattle.el_model.specs.Order.{marked_from}
use Rattle.snoop.proofs.Placing.{ready_marker, shows_marker, with_marker}
use Rattle.snoop.proofs.bus.Bus.send_marker.Goals as goal
use Rattle.snoop.specs.Shows.{Shows, bus_state}

pub returns-in-Tlr : goal.returns-in-Tlr
returns-in-Tlr c =
    let bus = bus_state c.args.self.now in
    let from = c.args.from.number in
    let to = c.args.to.number in
    record {
      ready = rw c.post.ensures (ready_marker bus from to c.requires);
      mode = refl;
      shows = λ state shows.
          rw c.post.ensures
          (subst (λ mode. Shows (with_marker bus from to) (marked_from mode state from to))
          (sym c.in-Tlr.is ∙ shows.mode)
          (shows_marker bus state from to shows));
      copies_stay = refl;
    }
