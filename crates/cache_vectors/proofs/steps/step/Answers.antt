-- the action of an instruction is aligned
use Rattle.std.proofs.Common.{Some}
use Rattle.core_step.proofs.Laws.Runs.{aligned_at}
use Rattle.cache_vectors.proofs.steps.step.Goals as goal

pub step_in_cache-requires-clause-aligned : goal.step_in_cache-requires-clause-aligned
step_in_cache-requires-clause-aligned c =
    aligned_at (Some c.args.word) c.args.view.now c.args.span c.args.room c.at-action.result c.at-action.ensures.value
