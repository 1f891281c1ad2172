-- the arguments so far
use Rattle.std.proofs.Common.{◌≡◌, ◌++◌, [], map, take}
use Rattle.clap.specs.Words.{app_of}
use Rattle.command_line.specs.Simple.{app_with, flag_rule, names_of, option_rule, positional_rule}
use Rattle.command_line.proofs.matching.simple_command.Given as goal

abbrev pub invariant-loop-name : goal.invariant-loop-name
invariant-loop-name l =
    app_of l.command ≡ app_with ([] ++ map positional_rule (names_of (take l.name-index l.form.positionals.now)))

abbrev pub invariant-loop-name-2 : goal.invariant-loop-name-2
invariant-loop-name-2 l =
    app_of l.command
    ≡ app_with (map positional_rule (names_of l.form.positionals.now) ++ map option_rule
    (names_of (take l.name-index l.form.options.now)))

abbrev pub invariant-loop-name-3 : goal.invariant-loop-name-3
invariant-loop-name-3 l =
    app_of l.command ≡ app_with
    ((map positional_rule (names_of l.form.positionals.now) ++ map option_rule (names_of l.form.options.now))
    ++ map flag_rule (names_of (take l.name-index l.form.flags.now)))
