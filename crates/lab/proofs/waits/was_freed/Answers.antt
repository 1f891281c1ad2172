-- a hart is among the freed ones where it was freed
use Rattle.std.proofs.Common.{◌∙◌, ap, nat_lt, sym}
use Rattle.lab.proofs.Waiting.{among_freed}
use Rattle.lab.proofs.waits.was_freed.Goals as goal

pub returns : goal.returns
returns c =
    ap (nat_lt 0) c.count_of.ensures.exact ∙ sym (among_freed c.args.freed c.args.hart.number c.args.hart.small)
