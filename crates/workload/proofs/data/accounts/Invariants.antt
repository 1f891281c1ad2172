use Rattle.std.proofs.Common.{◌≡◌, ◌++◌}
use Rattle.workload.specs.Data.{accounts}
use Rattle.workload.proofs.data.accounts.Given as goal

abbrev pub invariant-loop-account : goal.invariant-loop-account
invariant-loop-account l = l.bytes.items ≡ l.initial.bytes.items ++ accounts l._account
