use Rattle.std.proofs.Common.{rules}
use Rattle.mail.proofs.Boxes.{pushed_unless}
use Rattle.mail.proofs.mail.Mail.post.Goals as goal

pub invariant_of-self : goal.invariant_of-self
invariant_of-self c = search (rules, pushed_unless)
