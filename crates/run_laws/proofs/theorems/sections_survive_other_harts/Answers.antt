use Rattle.run_laws.proofs.OtherHarts as other_harts
use Rattle.run_laws.proofs.theorems.sections_survive_other_harts.Goals as goal

pub returns : goal.returns
returns c = other_harts.sections_survive_other_harts
