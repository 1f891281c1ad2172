-- the owners so far have their shares
use Rattle.std.proofs.Common.{◌≡◌, ◌≤◌, ◌*◌, sum, take}
use Rattle.line_pool.proofs.Made.{AreFull}
use Rattle.line_pool.proofs.pool.Pool.make.Given as goal

abbrev pub invariant-loop-quota : goal.invariant-loop-quota
invariant-loop-quota l = record {
  made : AreFull (take l.quota-index l.quotas) l.shares.items;
  total : l.total ≡ sum (take l.quota-index l.quotas);
  few : l.total ≤ 65535 * l.quota-index;
}
