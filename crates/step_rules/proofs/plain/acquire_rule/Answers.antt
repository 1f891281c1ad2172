-- the rule by which acquire comes next
use Rattle.std.proofs.Common.{◌∙◌, ap}
use Rattle.step_rules.proofs.Laws.Elides.{exchange_from, reserve_from}
use Rattle.step_rules.proofs.plain.acquire_rule.Goals as goal
use Rattle.step_rules.specs.Rules.{acquiring_rule}

pub returns-in-Some-clause-rule : goal.returns-in-Some-clause-rule
returns-in-Some-clause-rule c = λ state shows told on_line next touches.
    let h = c.args.hart.number in
    let found = c.in-Some.ensures.next state.committed h next in
    c.swap_rule.ensures.rule state shows told on_line
    (exchange_from c.args.action.now state.committed h c.in-Some.exchange next found) touches
    ∙ ap (acquiring_rule state h) found

pub returns-in-Some-reserve_of-clause-old : goal.returns-in-Some-reserve_of-clause-old
returns-in-Some-reserve_of-clause-old c = λ state shows told on_line next.
    let h = c.args.hart.number in
    c.reserve_rule.ensures.old state shows told on_line
    (reserve_from c.args.action.now state.committed h c.in-Some-reserve_of.address next
    (c.in-Some-reserve_of.ensures.next state.committed h next))
