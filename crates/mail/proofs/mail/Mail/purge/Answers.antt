use Rattle.std.proofs.Common.{rules}
use Rattle.mail.proofs.Boxes.{withdrawn_box}
use Rattle.mail.proofs.mail.Mail.purge.Goals as goal

pub invariant_of-self : goal.invariant_of-self
invariant_of-self c = search (rules, withdrawn_box)
