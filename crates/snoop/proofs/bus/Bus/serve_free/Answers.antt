-- nothing is committed as a request is served
use Rattle.bus_order.specs.Order.{numbered}
use Rattle.el_model.specs.Face.{met_if}
use Rattle.el_model.specs.Serve.{served}
use Rattle.el_model.specs.State.{head_of}
use Rattle.snoop.proofs.LettingGo.{served_bytes}
use Rattle.snoop.proofs.bus.Bus.serve_free.Goals as goal

pub returns-clause-leaves : goal.returns-clause-leaves
returns-clause-leaves g c =
    let request = numbered c.args.request in
    let given = c.give_line.ensures.leaves in
    let met = c.meet_head.ensures.leaves in
    record {
      ready = met.ready;
      shows = λ state starts.
          let after = served state request in
          let keeps = served_bytes state request (met_if after (head_of after request.line)).committed starts.keeps in
          met.shows after (record { shows = given.shows state starts.shows; keeps = keeps });
      told = λ bytes tells. met.told c.give_line.new.pool bytes (given.told bytes tells);
      holds = given.holds;
    }
