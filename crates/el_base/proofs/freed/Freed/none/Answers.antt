use Rattle.std.proofs.Common.{sym, ◌∙◌}
use Rattle.el_base.specs.Freed.{no_one_freed}
use Rattle.el_base.proofs.Laws.MadeLosers.{none_in_no_one}
use Rattle.el_base.proofs.Laws.SameLosers.{same_freed}
use Rattle.el_base.proofs.freed.Freed.none.Goals as goal

pub returns-clause-exact : goal.returns-clause-exact
returns-clause-exact c = same_freed _ no_one_freed (λ h. c.zero.ensures h ∙ sym (none_in_no_one h))
