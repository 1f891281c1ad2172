use Rattle.std.proofs.Common.{rules}
use Rattle.mail.proofs.Boxes.{popped_box}
use Rattle.mail.proofs.mail.Mail.next.Goals as goal

pub invariant_of-self : goal.invariant_of-self
invariant_of-self c = search (rules, popped_box)
