use Rattle.rv_flat.proofs.Laws.StepLaws.{keeps_regs}
use Rattle.rv_flat.proofs.theorems.step_keeps_register_zero.Goals as goal

pub returns : goal.returns
returns c = λ state hart h. keeps_regs state hart h
