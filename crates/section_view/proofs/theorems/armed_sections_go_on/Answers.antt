use Rattle.section_view.proofs.Laws.Arming as arming
use Rattle.section_view.proofs.theorems.armed_sections_go_on.Goals as goal

pub returns : goal.returns
returns c = arming.armed_goes
