-- counters that nothing has counted in
use Rattle.std.specs.Prelude.{ℕ, ◌≤◌, replicate, slice_index}
use Rattle.std.proofs.Common.{lit≤, zero, suc}

pub fresh_counters_small : (count number : ℕ) → slice_index (replicate count 2) number ≤ 3
fresh_counters_small zero number = lit≤ tt
fresh_counters_small (suc count) zero = lit≤ tt
fresh_counters_small (suc count) (suc number) = fresh_counters_small count number
