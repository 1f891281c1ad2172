use Rattle.run_check.proofs.Verdicts.{holds_or_differs, one_first}
use Rattle.run_check.proofs.theorems.one_verdict.Goals as goal

pub returns-clause-holds_or_differs : goal.returns-clause-holds_or_differs
returns-clause-holds_or_differs c = holds_or_differs

pub returns-clause-one_first : goal.returns-clause-one_first
returns-clause-one_first c = one_first
