use Rattle.std.proofs.Common.{◌≡◌, ◌≤◌, ◌++◌, vec_capacity}
use Rattle.trace_file.specs.Stretches.{between, bytes_of}
use Rattle.trace_file.proofs.writing.with_brief_entries.Given as goal

abbrev pub invariant-loop-place : goal.invariant-loop-place
invariant-loop-place l = record {
  items : l.bytes.items ≡ l.initial.bytes.items ++ bytes_of (between l.from l.place l.history.entries);
  capacity : vec_capacity l.initial.bytes ≤ vec_capacity l.bytes;
}
