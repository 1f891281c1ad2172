use Rattle.std.proofs.Common.{refl}
use Rattle.pair_table.proofs.table.PairTable.new.Goals as goal
use Rattle.pair_table.proofs.Laws.Counters.{fresh_counters_small}

pub invariant_of-result : goal.invariant_of-result
invariant_of-result c = (refl, λ number _. fresh_counters_small 64 number)
