use Rattle.rv_flat.proofs.Frame.{same_step}
use Rattle.rv_flat.proofs.theorems.step_depends_on_what_its_hart_sees.Goals as goal

pub returns : goal.returns
returns c = λ hart left right in_left in_right same. same_step hart left right in_left in_right same
