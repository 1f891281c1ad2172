-- what a run has reached can be certified
use Rattle.tool.proofs.Certifying.{copy_fits, copy_reached}
use Rattle.tool.proofs.telling.certify.Goals as goal

pub write_certificate-requires-clause-history : goal.write_certificate-requires-clause-history
write_certificate-requires-clause-history g c =
    copy_fits c.args.copy.image c.args.machine.now c.history.result.now c.requires.copied c.history.ensures.exact
    c.history.ensures.one_run c.history.ensures.within c.config-config.ensures.in_range
    c.config-config.ensures.one_hart_each
    c.history.ensures.harts_exist c.history.ensures.recordable

pub write_certificate-requires-clause-reached : goal.write_certificate-requires-clause-reached
write_certificate-requires-clause-reached g c = copy_reached c.args.copy.image c.args.machine.now c.requires.copied
