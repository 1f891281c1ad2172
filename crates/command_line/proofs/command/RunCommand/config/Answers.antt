use Rattle.std.proofs.Common.{◌≡◌, ◌∙◌, Some, rules, sym}
use Rattle.el_base.specs.Config.{config_fault}
use Rattle.command_line.specs.Settings.{config_of}
use Rattle.command_line.specs.Words.{run_meaning}
use Rattle.command_line.proofs.Bytes.{same_fault}
use Rattle.command_line.proofs.command.RunCommand.config.Goals as goal

pub returns-in_err-check : goal.returns-in_err-check
returns-in_err-check c =
    let given = c.args.self.now in
    let found : config_fault (config_of (run_meaning given)) ≡ Some c.in_err-check.field-0.0 =
    sym (same_fault (config_of (run_meaning given)))
    ∙ rw (
      c.byte_given.ensures,
      c.byte_given-2.ensures,
      c.byte_given-3.ensures,
      c.byte_given-4.ensures,
      c.unwrap_or-2.ensures,
      c.unwrap_or-3.ensures,
      c.usual-usual.ensures,
    )
    at c.in_err-check.ensures.refused in
    search rules
