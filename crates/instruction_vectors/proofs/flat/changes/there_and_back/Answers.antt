-- the state that the step was made from
use Rattle.instruction_vectors.proofs.flat.changes.there_and_back.Goals as goal

pub undo-requires : goal.undo-requires
undo-requires c = (c.args.flat.now, c.step_noting-change.ensures.undoable)
