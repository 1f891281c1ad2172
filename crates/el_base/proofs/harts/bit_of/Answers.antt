use Rattle.el_base.proofs.Laws.BitSets.{bit_alone}
use Rattle.el_base.proofs.harts.bit_of.Goals as goal

pub returns : goal.returns
returns c = bit_alone c.args.hart.number c.args.hart.small
