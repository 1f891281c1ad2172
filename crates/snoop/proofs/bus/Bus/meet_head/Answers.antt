-- the first request of a line is met, and where no request is left, nobody is
use Rattle.std.proofs.Common.{◌≡◌, ◌∙◌, Some, ap, subst, sym}
use Rattle.bus_order.specs.Order.{first_of, numbered}
use Rattle.el_model.specs.Face.{freed_if, met_if, met_losers_if}
use Rattle.el_model.specs.State.{head_of}
use Rattle.snoop.proofs.bus.Bus.meet_head.Goals as goal
use Rattle.snoop.specs.LettingGo.{KeepsBytes}
use Rattle.snoop.specs.Shows.{Shows, bus_state}

pub returns-in-Some-clause-leaves : goal.returns-in-Some-clause-leaves
returns-in-Some-clause-leaves g c =
    let met = c.meet.ensures.leaves in
    record {
      ready = met.ready;
      shows = λ state starts.
          let head : Some (numbered c.in-Some.head) ≡ head_of state c.args.line.number =
          c.in-Some.ensures ∙ ap (λ order. first_of order c.args.line.number) starts.shows.order in
          let keeps =
          subst (λ found. KeepsBytes state.committed (met_if state found).committed) (sym head) starts.keeps in
          subst (λ found. Shows (bus_state c.meet.new.self) (met_if state found)) head
          (met.shows state (record { shows = starts.shows; keeps = keeps }));
      memory_stays = met.memory_stays;
      told = met.told;
    }

pub returns-in-Some-clause-losers : goal.returns-in-Some-clause-losers
returns-in-Some-clause-losers g c = λ state shows.
    c.meet.ensures.losers state shows
    ∙ ap (met_losers_if state) (c.in-Some.ensures ∙ ap (λ order. first_of order c.args.line.number) shows.order)

pub returns-in-Some-clause-freed : goal.returns-in-Some-clause-freed
returns-in-Some-clause-freed g c = λ state shows.
    c.meet.ensures.freed state shows
    ∙ ap (freed_if state) (c.in-Some.ensures ∙ ap (λ order. first_of order c.args.line.number) shows.order)

pub returns-in-None-clause-losers : goal.returns-in-None-clause-losers
returns-in-None-clause-losers g c = λ state shows.
    c.nobody.ensures.losers
    ∙ ap (met_losers_if state) (c.in-None.ensures ∙ ap (λ order. first_of order c.args.line.number) shows.order)
