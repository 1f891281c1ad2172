-- the hart's mail is the definition's
use Rattle.std.proofs.Common.{◌≡◌, ◌≢◌, ◌∙◌, [], ap, subst, sym, true}
use Rattle.std.specs.Prelude.{◌↔◌, ◌==◌, length, not}
use Rattle.bus_agent.specs.Agent.{agent_at}
use Rattle.el_model.specs.Deliver as delivery
use Rattle.el_model.specs.State.{hart_of}
use Rattle.snoop.proofs.GetsOn.{mail_delivered, mail_there}
use Rattle.snoop.proofs.bus.Bus.has_mail.Goals as goal
use Rattle.snoop.specs.Shows.{bus_state}

pub returns-clause-exact : goal.returns-clause-exact
returns-clause-exact c =
    let mail = (agent_at (bus_state c.args.self.now).agents c.args.hart.number).mail in
    subst (λ there. (there ≡ true) ↔ (mail ≢ [])) (sym (c.has_mail.ensures
    ∙ ap (λ agent. not (length agent.mail == 0)) c.agent.ensures)) (mail_there mail)

pub returns-clause-shown : goal.returns-clause-shown
returns-clause-shown c = λ state shows.
    subst (λ mail. (c.has_mail.result ≡ true) ↔ (mail ≢ []))
    (ap (λ agent. agent.mail) (shows.agents c.args.hart.number)) (returns-clause-exact c)

pub returns-clause-outcome : goal.returns-clause-outcome
unfolding delivery.deliver_turn
returns-clause-outcome c = λ state shows.
    let h = c.args.hart.number in
    c.has_mail.ensures
    ∙ ap (λ agent. not (length agent.mail == 0)) (c.agent.ensures ∙ shows.agents h)
    ∙ mail_delivered state h (hart_of state h).mail
