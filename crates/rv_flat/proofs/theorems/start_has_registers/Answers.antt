use Rattle.rv_flat.proofs.Laws.StepLaws.{start_regs}
use Rattle.rv_flat.proofs.theorems.start_has_registers.Goals as goal

pub returns : goal.returns
returns c = λ program. start_regs program
