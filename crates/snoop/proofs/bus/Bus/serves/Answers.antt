-- the hart's request is the definition's, and nothing is in its way where nothing is in the definition
use Rattle.std.proofs.Common.{◌≡◌, ◌∙◌, ap, subst, true}
use Rattle.std.specs.Prelude.{◌↔◌}
use Rattle.bus_order.specs.Order.{numbered, request_of}
use Rattle.el_model.specs.Serve as serving
use Rattle.el_model.specs.Serve.{obstacle_to, serve_ordered}
use Rattle.snoop.proofs.GetsOn.{served_past}
use Rattle.snoop.proofs.bus.Bus.serves.Goals as goal
use Rattle.snoop.specs.Readiness.{NothingBlocks, is_served}

pub returns-in-Some-clause-exact : goal.returns-in-Some-clause-exact
returns-in-Some-clause-exact c = λ state shows.
    subst (λ asked. (c.is_free.result ≡ true) ↔ NothingBlocks state asked)
    (c.in-Some.ensures ∙ ap (λ order. request_of order c.args.hart.number) shows.order) (c.is_free.ensures state shows)

pub returns-in-Some-clause-outcome : goal.returns-in-Some-clause-outcome
unfolding serving.serve_turn
returns-in-Some-clause-outcome c = λ state shows.
    let request = numbered c.in-Some.request in
    served_past state request c.is_free.result (obstacle_to state request) (c.is_free.ensures state shows)
    ∙ ap (λ asked. is_served (serve_ordered state asked).outcome)
    (c.in-Some.ensures ∙ ap (λ order. request_of order c.args.hart.number) shows.order)
