use Rattle.run_laws.proofs.OtherHarts as other_harts
use Rattle.run_laws.proofs.theorems.other_harts_change_nothing_shown.Goals as goal

pub returns : goal.returns
returns c = other_harts.other_harts_change_nothing_shown
