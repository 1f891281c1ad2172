-- the value that an LR finds, where its hart arms at it
use Rattle.std.proofs.Common.{◌∙◌, ap, subst}
use Rattle.std.specs.Option.{option_map}
use Rattle.cache_sets.specs.Slotted.{lent}
use Rattle.snoop.specs.Shows.{bus_state}
use Rattle.step_rules.proofs.Arming.{tells}
use Rattle.step_rules.proofs.plain.reserve_rule.Goals as goal
use Rattle.step_rules.specs.Actions.{numbered_touch}
use Rattle.step_rules.specs.Rules.{FindsOld, arming_rule}

pub returns-clause-old : goal.returns-clause-old
returns-clause-old c = λ state shows told on_line from.
    let touch = option_map numbered_touch c.args.touch in
    tells c.args.pool.now (bus_state c.args.bus.now) state c.args.hart.number c.args.address c.is_wanted-wanted.result
    touch c.arm_rule.result told on_line
    from
    c.requires.aligned
    (c.arm_rule.ensures.rule ∙ ap (λ now. arming_rule now.residency c.is_wanted-wanted.result c.args.address touch)
    c.sets.ensures.exact)
    (subst (λ cache. FindsOld c.arm_rule.result (lent c.args.pool.now cache)) c.sets.ensures.exact
    c.arm_rule.ensures.old)
