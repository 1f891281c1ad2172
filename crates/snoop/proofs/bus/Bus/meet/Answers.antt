-- the harts that are let go are no matter of who loses
use Rattle.std.proofs.Common.{◌∙◌}
use Rattle.bus_order.specs.Order.{numbered}
use Rattle.el_model.specs.Armed.{let_go}
use Rattle.snoop.proofs.LettingGo.{losers_elsewhere, met_bytes}
use Rattle.snoop.proofs.bus.Bus.meet.Goals as goal
use Rattle.snoop.specs.LettingGo.{with_committed}

pub returns-clause-leaves : goal.returns-clause-leaves
returns-clause-leaves g c =
    let head = numbered c.args.head in
    let gone = c.let_go-freed.ensures.leaves in
    let faced = c.face-losers.ensures.leaves in
    record {
      ready = faced.ready;
      shows = λ state starts.
          faced.shows (let_go state head)
          (gone.shows state
          (record { shows = starts.shows; keeps = met_bytes state head state.committed starts.keeps }));
      memory_stays = faced.memory_stays ∙ gone.memory_stays;
      told = λ pool bytes tells. faced.told pool bytes (gone.told pool bytes tells);
    }

pub returns-clause-losers : goal.returns-clause-losers
returns-clause-losers g c = λ state shows.
    let head = numbered c.args.head in
    c.face-losers.ensures.losers (with_committed state.committed (let_go state head))
    (c.let_go-freed.ensures.parts state shows)
    ∙ losers_elsewhere (let_go state head) state.committed head
