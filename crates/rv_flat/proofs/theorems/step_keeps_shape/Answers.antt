use Rattle.rv_flat.proofs.Laws.StepLaws.{keeps_shape}
use Rattle.rv_flat.proofs.theorems.step_keeps_shape.Goals as goal

pub returns : goal.returns
returns c = λ state hart. keeps_shape state hart
