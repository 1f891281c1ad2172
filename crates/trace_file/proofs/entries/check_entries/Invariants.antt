use Rattle.std.proofs.Common.{◌≡◌, ◌≤◌, ◌+◌, ◌*◌, ◌-◌}
use Rattle.trace_file.specs.Faults.{entries_fault}
use Rattle.trace_file.proofs.entries.check_entries.Given as goal

abbrev pub invariant-loop : goal.invariant-loop
invariant-loop l = record {
  same : entries_fault l.harts (l.count - l.counter) l.place l.rest ≡ entries_fault l.harts l.count 22 l.bytes;
  near : l.place ≤ 22 + 10 * l.counter;
}
