use Rattle.run_check.proofs.WrittenHolds.{written_holds}
use Rattle.run_check.proofs.theorems.written_certificates_hold.Goals as goal

pub returns : goal.returns
returns c = written_holds
