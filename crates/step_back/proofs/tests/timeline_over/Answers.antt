-- each hart is one of the eight
use Rattle.step_back.proofs.Freed.{serial-small}
use Rattle.step_back.proofs.tests.timeline_over.Goals as goal

pub of_history-requires : goal.of_history-requires
of_history-requires c = rw c.requires (serial-small c.args.history.entries)
