-- the first event of all harts
use Rattle.std.proofs.Common.{◌∙◌, ap, sym}
use Rattle.machine.proofs.Readiness.{harts_are, not_stuck}
use Rattle.machine.proofs.machine.Machine.ready.Goals as goal

pub first_ready-requires-clause-all : goal.first_ready-requires-clause-all
first_ready-requires-clause-all c = ap (λ config. config.harts) c.config-harts.ensures.exact
    ∙ harts_are c.args.self.now c.config-harts.ensures.one_hart_each

pub returns-clause-none_exactly_where_over : goal.returns-clause-none_exactly_where_over
returns-clause-none_exactly_where_over c =
    let stuck = not_stuck c.args.self.now c.config-harts.ensures.in_range c.config-harts.ensures.one_hart_each in
    (λ none. stuck.0 (sym c.first_ready.ensures.first ∙ none), λ over. c.first_ready.ensures.first ∙ stuck.1 over)
