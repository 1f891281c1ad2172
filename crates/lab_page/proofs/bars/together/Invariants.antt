use Rattle.std.proofs.Common.{take}
use Rattle.lab_page.proofs.bars.together.Given as goal
use Rattle.lab_page.specs.Bars.{AreBars}

abbrev pub invariant-loop-piece : goal.invariant-loop-piece
invariant-loop-piece l = AreBars l.hart.number l.width (take l.piece-index l.pieces) l.bars.items
