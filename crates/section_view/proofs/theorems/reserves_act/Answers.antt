use Rattle.section_view.proofs.Reserving as reserving
use Rattle.section_view.proofs.theorems.reserves_act.Goals as goal

pub returns : goal.returns
returns c = reserving.reserves_act
