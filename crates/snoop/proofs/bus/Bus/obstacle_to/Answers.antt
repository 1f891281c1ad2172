-- the head that the bus finds is the definition's; where there is none, no section retains the line
use Rattle.std.proofs.Common.{◌∙◌, ap, false, refl, sym}
use Rattle.bus_order.specs.Order.{first_of, numbered}
use Rattle.el_base.specs.declared.outcomes.Why.TheVariants.{Retained}
use Rattle.el_model.specs.Serve.{blocks_if}
use Rattle.el_model.specs.State.{numbers_of}
use Rattle.el_model.proofs.Laws.Conflicts.{none_first}
use Rattle.snoop.specs.Obstacles.{held_by, obstacle_by}
use Rattle.snoop.proofs.bus.Bus.obstacle_to.Goals as goal

pub returns-in-Some : goal.returns-in-Some
returns-in-Some c = λ state shows.
    c.obstacle_by.ensures state shows
    ∙ ap (obstacle_by state (numbered c.args.request))
    (c.in-Some.ensures ∙ ap (λ order. first_of order c.args.request.line.number) shows.order)

pub returns-in-None : goal.returns-in-None
returns-in-None c = λ state shows.
    let request = numbered c.args.request in
    c.other_holder.ensures state shows
    ∙ sym (ap (λ by. blocks_if Retained by (held_by state request))
    (none_first (λ h. false) (numbers_of state) (λ h. refl)))
    ∙ ap (obstacle_by state request)
    (c.in-None.ensures ∙ ap (λ order. first_of order c.args.request.line.number) shows.order)
