use Rattle.rv_flat.proofs.Laws.Shapes.{keeps_run}
use Rattle.rv_flat.proofs.theorems.run_keeps_shape.Goals as goal

pub returns : goal.returns
returns c = λ state harts. keeps_run state harts
