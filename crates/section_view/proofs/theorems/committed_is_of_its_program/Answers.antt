use Rattle.section_view.proofs.Laws.OfProgram as of_program
use Rattle.section_view.proofs.theorems.committed_is_of_its_program.Goals as goal

-- src/theorems.rt:84:1
pub returns : goal.returns
returns c = of_program.committed_is
