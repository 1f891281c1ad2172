-- the outcomes of a machine's history can be recorded
use Rattle.step_back.proofs.Laws.Recording.{recordable_history}
use Rattle.lab_tool.proofs.running.write_trace_to.Goals as goal

pub write_trace-requires-clause-outcomes : goal.write_trace-requires-clause-outcomes
write_trace-requires-clause-outcomes g c =
    recordable_history c.args.machine.now c.config.result c.history.result.now c.config.ensures.exact
    c.config.ensures.in_range
    c.history.ensures.exact c.history.ensures.recordable
