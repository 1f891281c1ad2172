use Rattle.std.proofs.Common.{[], ◌++◌, arith, map}
use Rattle.command_line.specs.Simple.{flag_rule, names_of, option_rule, positional_rule}
use Rattle.command_line.proofs.Building.{app_more}
use Rattle.command_line.proofs.matching.simple_command.Goals as goal

pub loop-name-preserved : goal.loop-name-preserved
loop-name-preserved c =
    app_more positional_rule [] c.args.form.positionals.now c.loop-name.name-index _ _ _ c.positional.result
    (omega arith) c.in_ok-command.ensures c.positional.ensures.local c.positional.ensures.rule c.loop-name.invariant

pub loop-name-2-preserved : goal.loop-name-2-preserved
loop-name-2-preserved c =
    app_more option_rule (map positional_rule (names_of c.args.form.positionals.now)) c.args.form.options.now
    c.loop-name-2.name-index _ _ _ c.option.result
    (omega arith) c.in_ok-command-2.ensures c.option.ensures.local c.option.ensures.rule c.loop-name-2.invariant

pub loop-name-3-preserved : goal.loop-name-3-preserved
loop-name-3-preserved c =
    app_more flag_rule
    (map positional_rule (names_of c.args.form.positionals.now) ++ map option_rule (names_of c.args.form.options.now))
    c.args.form.flags.now c.loop-name-3.name-index _ _ _ c.flag.result
    (omega arith) c.in_ok-command-3.ensures c.flag.ensures.local c.flag.ensures.rule c.loop-name-3.invariant
